-- This file shows what one more explicit point makes of a drawing without a violation.
use Rattle.std.proofs.Common.{◌≡◌, ◌⊎◌, ℕ, List, Contains, Any, inl, inr, sym, subst}
use Rattle.grid_base.specs.Point.{GridPoint}
use Rattle.grid_base.specs.Segment.{GridSegment}
use Rattle.grid_base.specs.Drawing.{HasLink, IsPoint, IsPiece}
use Rattle.grid_base.specs.declared.original.Original.{Original}
use Rattle.realm_drawing.specs.Keyed.{KeyedDrawing, HasKey, keyed, AddsPoint, AreKeyed}
use Rattle.realm_drawing.specs.declared.keyed.KeyedPiece.{KeyedPiece}
use Rattle.realm_index.specs.Index.{Entries}
use Rattle.realm_insert.specs.Kept.{IsIndexed}

-- the pieces and their keys are as they were
pub marked_piece : (old new : KeyedDrawing) (p : GridPoint) → AddsPoint old new p → (s : GridSegment)
    → IsPiece new.drawing s → IsPiece old.drawing s
marked_piece old new p adds s piece =
    (piece.0, subst (λ (l : List Original). Any (λ o. HasLink o.chain s) l) adds.originals piece.1)

marked_key : (old new : KeyedDrawing) (p : GridPoint) → AddsPoint old new p → (s : GridSegment) (k : ℕ)
    → HasKey new s k → HasKey old s k
marked_key old new p adds s k has = subst (λ (l : List KeyedPiece). Contains l (keyed s k)) adds.keys has

had_key : (old new : KeyedDrawing) (p : GridPoint) → AddsPoint old new p → (s : GridSegment) (k : ℕ)
    → HasKey old s k → HasKey new s k
had_key old new p adds s k has = subst (λ (l : List KeyedPiece). Contains l (keyed s k)) (sym adds.keys) has

pub keyed_marked : (old new : KeyedDrawing) (p : GridPoint) → AddsPoint old new p → AreKeyed old → AreKeyed new
keyed_marked old new p adds was =
    let had = marked_key old new p adds in
    record {
      some_key = λ s piece.
          let key = was.some_key s (marked_piece old new p adds s piece) in (key.0, had_key old new p adds s key.0 key.1);
      of_pieces = λ s k has.
          let piece = was.of_pieces s k (had s k has) in
          (piece.0, subst (λ (l : List Original). Any (λ o. HasLink o.chain s) l) (sym adds.originals) piece.1);
      one_key = λ s k j first second. was.one_key s k j (had s k first) (had s j second);
      one_piece = λ s t k first second. was.one_piece s t k (had s k first) (had t k second);
    }

pub indexed_marked : (old new : KeyedDrawing) (p : GridPoint) (index : Entries) → AddsPoint old new p
    → IsIndexed old index → IsIndexed new index
indexed_marked old new p index adds indexed s k = (
  λ found. had_key old new p adds s k ((indexed s k).0 found),
  λ has. (indexed s k).1 (marked_key old new p adds s k has),
)

-- a point afterwards is p or was one before
pub marked_point : (old new : KeyedDrawing) (p : GridPoint) → AddsPoint old new p → (q : GridPoint) → IsPoint new.drawing q
    → IsPoint old.drawing q ⊎ (q ≡ p)
marked_point old new p adds q (inl explicit) = elim ((adds.points q).0 explicit) [
  | inl same ↦ inr same
  | inr old_point ↦ inl (inl old_point)
]
marked_point old new p adds q (inr vertex) =
    inl (inr (subst (λ (l : List Original). Any (λ o. Contains o.chain q) l) adds.originals vertex))
