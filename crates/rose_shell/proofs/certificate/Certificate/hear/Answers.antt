use Rattle.std.proofs.Common.{[], ◌∷◌, ◌++◌, ◌+◌, take, refl, sym, ◌∙◌, ap, append_assoc, List, ℕ}
use Rattle.std.proofs.lemmas.List.{append-nil, take_rest}
use Rattle.rose_shell.specs.Lines.{lines_from, part_from}
use Rattle.rose_shell.proofs.Cuts.{lines_from-line, part_from-line}
use Rattle.rose_shell.proofs.Chunks.{cut_at_feed, lines_at_end, part_at_end}
use Rattle.rose_shell.proofs.Certificates.{come_as}
use Rattle.rose_shell.proofs.certificate.Certificate.hear.Goals as goal

-- nothing of the bytes is done
pub loop-end-init : goal.loop-end-init
loop-end-init c = record {
  heard = c.requires.heard;
  done = [];
  split = refl;
  come = λ texts part come. come_as (sym (append-nil texts)) refl come;
}

-- one line more is done, its line feed with it
pub loop-end-preserved : goal.loop-end-preserved
loop-end-preserved c =
    let inv = c.loop-end.invariant in
    let at = c.in-Some.ensures in
    let rest = c.loop-end.rest.now in
    let n = c.in-Some.end in
    let line = take n rest in
    record {
      heard = c.in_ok-end_line.ensures.heard;
      done = inv.done ++ (line ++ 10 ∷ []);
      split = cut_at_feed inv.done rest n inv.split at.0 at.1 (take_rest rest (n + 1));
      come = λ texts part come.
          let before = texts ++ lines_from part inv.done in
          let kept = c.in_ok-keep.ensures.come before (part_from part inv.done) (inv.come texts part come) in
          come_as
          (append_assoc texts (lines_from part inv.done) ((part_from part inv.done ++ line) ∷ [])
          ∙ ap (λ (ls : List (List ℕ)). texts ++ ls) (sym (lines_from-line part inv.done line at.2)))
          (sym (part_from-line part inv.done line))
          (c.in_ok-end_line.ensures.come before (part_from part inv.done ++ line) kept);
    }

-- what is left of the bytes ends no line
pub returns-clause-come : goal.returns-clause-come
returns-clause-come c = λ texts part come.
    let inv = c.loop-end.invariant in
    let rest = c.loop-end.rest.now in
    let none = c.in_default.ensures in
    come_as
    (ap (λ (ls : List (List ℕ)). texts ++ ls) (sym (lines_at_end part inv.done rest inv.split none)))
    (sym (part_at_end part inv.done rest inv.split none))
    (c.in_ok-keep-2.ensures.come (texts ++ lines_from part inv.done) (part_from part inv.done) (inv.come texts part come))
