use Rattle.std.proofs.Common.{[], ◌∷◌, ◌∙◌, subst, List, ℕ}
use Rattle.realm_audit.specs.Verdicts.{Hears}
use Rattle.rose_shell.proofs.Certificates.{failing_by, come_failed}
use Rattle.rose_shell.proofs.certificate.Certificate.end_line.Goals as goal

-- behind a line that has failed another changes nothing
pub returns-then-not-self-clause-come : goal.returns-then-not-self-clause-come
returns-then-not-self-clause-come c = λ texts part come. come_failed (part ∷ []) [] c.if-not-self.true come

-- and else it is heard
pub returns-clause-come : goal.returns-clause-come
returns-clause-come c = λ texts part come.
    let line = c.in_ok-holds.ensures in
    let going = line.going c.requires.heard in
    let hears = subst (λ (l : List ℕ). Hears c.args.self.now.auditor l c.in_ok-holds.holds c.line.new.self)
    (c.as_slice.ensures.value ∙ come.kept c.if-not-self.false) line.hears in
    record {
      heard = c.hearing_is_judged.ensures.one_more _ _ texts part _ come.heard hears going;
      kept = λ _. c.clear.ensures.items;
      failed = λ is. failing_by _ _ part _ hears going is;
    }
