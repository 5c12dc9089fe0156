use Rattle.std.proofs.Common.{inl, inr, subst}
use Rattle.hook_chain.specs.Mending.{IsPermitted}
use Rattle.realm_insert.specs.Clashes.{IsInsideNone}
use Rattle.realm_insert.specs.Work.{IsClean}
use Rattle.realm_insert.proofs.CleanPieces.{clean_by_ends, round_end}
use Rattle.realm_insert.proofs.FoundSteps.{none_means}
use Rattle.realm_insert.proofs.searching.split_by_ends.Goals as goal

-- the pieces round s are those at its ends
pub split_by-requires-clause-round : goal.split_by-requires-clause-round
split_by-requires-clause-round c =
    round_end c.args.drawing.now.drawing c.args.s.now c.a.result c.args.pieces.now (inl c.a.ensures.end) c.requires.search

pub split_by-requires-2-clause-round : goal.split_by-requires-2-clause-round
split_by-requires-2-clause-round c =
    round_end c.args.drawing.now.drawing c.args.s.now c.b.result c.args.pieces.now (inr c.b.ensures.end) c.requires.search

-- the lesser end is inside no piece, and what is found of the greater is all
pub returns : goal.returns
returns c =
    let d = c.args.drawing.now.drawing in
    let s = c.args.s.now in
    let b = c.b.result in
    let no_a = rw c.in_default.is at c.split_by.ensures in
    none_means c.split_by-2.result (IsInsideNone d b) (IsClean d s) (IsPermitted d)
    (λ no_b. clean_by_ends d s c.requires.no_piece (subst (IsInsideNone d) c.a.ensures.end no_a)
    (subst (IsInsideNone d) c.b.ensures.end no_b))
    c.split_by-2.ensures
