use Rattle.std.proofs.Common.{refl, inl}
use Rattle.hook_chain.specs.Mending.{IsPermitted}
use Rattle.realm_insert.specs.Clashes.{AreClear}
use Rattle.realm_insert.specs.Work.{IsClean}
use Rattle.realm_insert.proofs.CleanPieces.{clean_by}
use Rattle.realm_insert.proofs.FoundSteps.{none_means, split_is_permitted}
use Rattle.realm_insert.proofs.searching.violation_of.Goals as goal

-- an explicit point inside the piece splits it
pub returns-in-Some : goal.returns-in-Some
returns-in-Some c =
    let found = c.in-Some.ensures.inside in
    split_is_permitted c.args.drawing.now.drawing c.in-Some.p c.args.s.now (inl found.0) c.requires.piece found.1

-- no explicit point is inside s, and no piece whose box meets its box clashes with it
pub returns-then-are_clear : goal.returns-then-are_clear
returns-then-are_clear c =
    let none = rw c.in_default.is at c.explicit_inside.ensures.none in
    clean_by c.args.drawing.now.drawing c.args.pieces.now c.args.s.now c.requires.search (none.0 refl)
    (rw c.if-are_clear.true at c.are_clear.ensures)

-- so it would be if no clash were found
pub returns : goal.returns
returns c =
    let d = c.args.drawing.now.drawing in
    let s = c.args.s.now in
    let pieces = c.args.pieces.now in
    let none = rw c.in_default.is at c.explicit_inside.ensures.none in
    none_means c.first_clash.result (AreClear d s pieces) (IsClean d s) (IsPermitted d)
    (clean_by d pieces s c.requires.search (none.0 refl)) c.first_clash.ensures
