use Rattle.std.proofs.Common.{subst}
use Rattle.hook_chain.specs.Mending.{IsPermitted}
use Rattle.realm_insert.specs.Clashes.{IsInsideNone}
use Rattle.realm_insert.specs.Work.{IsClean}
use Rattle.realm_insert.proofs.CleanPieces.{clean_by_ends}
use Rattle.realm_insert.proofs.FoundSteps.{none_found_means}
use Rattle.realm_insert.proofs.searching.split_at_ends.Goals as goal

-- the lesser end is inside no piece, and what is found of the greater is all
pub returns : goal.returns
returns c =
    let d = c.args.drawing.now.drawing in
    let s = c.args.s.now in
    let b = c.b.result in
    let no_a = rw c.in_default.is at c.in_ok-step.ensures in
    none_found_means c.split_round-2.result (IsInsideNone d b) (IsClean d s) (IsPermitted d)
    (λ no_b. clean_by_ends d s c.requires.no_piece (subst (IsInsideNone d) c.a.ensures.end no_a)
    (subst (IsInsideNone d) c.b.ensures.end no_b))
    c.split_round-2.ensures
