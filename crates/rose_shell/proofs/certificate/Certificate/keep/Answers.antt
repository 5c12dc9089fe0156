use Rattle.std.proofs.Common.{[], ◌++◌, refl, ◌∙◌, ap, List, ℕ}
use Rattle.std.proofs.lemmas.List.{append-nil}
use Rattle.rose_shell.proofs.Certificates.{come_as, come_failed}
use Rattle.rose_shell.proofs.certificate.Certificate.keep.Goals as goal

-- once a line has failed nothing is kept
pub returns-then-not-self-clause-come : goal.returns-then-not-self-clause-come
returns-then-not-self-clause-come c = λ texts part come.
    come_as (append-nil texts) refl (come_failed [] (part ++ c.args.bytes.now) c.if-not-self.true come)

-- and else the bytes are
pub returns-clause-come : goal.returns-clause-come
returns-clause-come c = λ texts part come. record {
  heard = come.heard;
  kept = λ is. c.in_ok-extend_from_slice.ensures.items ∙ ap (λ (l : List ℕ). l ++ c.args.bytes.now) (come.kept is);
  failed = come.failed;
}
