-- This file shows that one more straight original adds its two ends to the points, and its segment to the pieces.
use Rattle.std.proofs.Common.{◌≡◌, ◌⊎◌, ℕ, [], ◌∷◌, Contains, refl, inl, inr}
use Rattle.grid_base.specs.Point.{GridPoint, IsBefore}
use Rattle.grid_base.specs.Segment.{GridSegment, IsEnd}
use Rattle.grid_base.specs.Drawing.{Drawing, HasLink, IsPiece, IsPoint}
use Rattle.grid_base.specs.declared.original.Original.{Original}
use Rattle.hook_chain.specs.Straight.{IsStraight, straight, placed}
use Rattle.chain_laws.proofs.Elements.{Any-append_cases, Any-append_left, Any-single}
use Rattle.realm_drawing.proofs.StraightPieces.{link_is_along, vertex_is_end}

straight_is_straight : (id : ℕ) (s : GridSegment) → IsBefore s.a s.b → IsStraight (straight id s)
straight_is_straight id s ordered = record { ordered = ordered; two_ends = refl }

-- ---- pieces
pub piece_is_old_or_new : (d : Drawing) (id : ℕ) (s t : GridSegment) → IsBefore s.a s.b
    → IsPiece (placed d id s) t → IsPiece d t ⊎ (s ≡ t)
piece_is_old_or_new d id s t ordered piece =
    let o = straight id s in
    let Has = λ (q : Original). HasLink q.chain t in
    elim (Any-append_cases Has d.originals (o ∷ []) piece.1) [
      | inl old ↦ inl (piece.0, old)
      | inr new ↦ inr (link_is_along o t piece.0 (straight_is_straight id s ordered) (Any-single Has o new))
    ]

pub piece_stays : (d : Drawing) (id : ℕ) (s t : GridSegment) → IsPiece d t → IsPiece (placed d id s) t
piece_stays d id s t piece =
    (piece.0, Any-append_left (λ q. HasLink q.chain t) d.originals (straight id s ∷ []) piece.1)

-- ---- points
pub point_is_old_or_end : (d : Drawing) (id : ℕ) (s : GridSegment) (p : GridPoint) → IsBefore s.a s.b
    → IsPoint (placed d id s) p → IsPoint d p ⊎ IsEnd p s
point_is_old_or_end d id s p ordered (inl explicit) = inl (inl explicit)
point_is_old_or_end d id s p ordered (inr vertex) =
    let o = straight id s in
    let Has = λ (q : Original). Contains q.chain p in
    elim (Any-append_cases Has d.originals (o ∷ []) vertex) [
      | inl old ↦ inl (inr old)
      | inr new ↦ inr (vertex_is_end o p (straight_is_straight id s ordered) (Any-single Has o new))
    ]
