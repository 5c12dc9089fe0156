use Rattle.std.proofs.Common.{◌↔◌, Contains, sym, subst}
use Rattle.std.proofs.lemmas.Result.{IfOk-weaker}
use Rattle.grid_base.specs.Segment.{GridSegment}
use Rattle.grid_base.specs.Drawing.{IsPiece}
use Rattle.realm_index.specs.Index.{HasEachKeyWhere}
use Rattle.realm_index.specs.Aside.{IsAlong}
use Rattle.realm_insert.specs.Clashes.{HasKeyAmong}
use Rattle.realm_insert.proofs.CleanPieces.{has_found_key}
use Rattle.realm_insert.proofs.searching.pieces_met_along.Goals as goal

-- the pieces with the keys that the index lists are those along s
pub returns : goal.returns
returns c =
    let d = c.args.drawing.now in
    let index = c.args.index.now in
    let s = c.args.s.now in
    let keys = c.as_slice.result.now in
    let listed = subst (HasEachKeyWhere (IsAlong s) index) (sym c.as_slice.ensures.value) c.in_ok-keys.ensures.keys in
    let found = has_found_key (IsAlong s) d index keys c.requires.keyed c.requires.indexed listed.exact in
    IfOk-weaker c.pieces_of.result (λ v. (t : GridSegment) → Contains v.items t ↔ HasKeyAmong d keys t)
    (λ v. (t : GridSegment) → Contains v.items t ↔ (IsPiece d.drawing t × IsAlong s t))
    (λ v among t. (λ there. (found t).0 ((among t).0 there), λ is. (among t).1 ((found t).1 is))) c.pieces_of.ensures
