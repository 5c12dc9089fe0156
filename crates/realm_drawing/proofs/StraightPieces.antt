-- This file shows what the vertices and the links of straight originals are.
use Rattle.std.proofs.Common.{◌≡◌, [], ◌∷◌, Contains, sym, ap₂, subst, inl, inr}
use Rattle.grid_base.specs.Point.{GridPoint, IsBefore}
use Rattle.grid_base.specs.Segment.{GridSegment, IsEnd}
use Rattle.grid_base.specs.Drawing.{HasLink}
use Rattle.grid_base.specs.declared.original.Original.{Original}
use Rattle.grid_base.proofs.Orders.{IsBefore-asym, segment_between}
use Rattle.grid_base.proofs.Elements.{Contains-cases, Contains-nil}
use Rattle.hook_chain.specs.Straight.{IsStraight, along}

-- ---- one original
-- the link of an original, turned round, is no segment whose lesser end comes first
not_turned : (o : Original) (t : GridSegment) → IsBefore t.a t.b → IsStraight o → o.a ≡ t.b → o.b ≡ t.a → ⊥
not_turned o t ordered line a_is b_is =
    let back = subst (λ p. IsBefore p o.b) a_is line.ordered in
    IsBefore-asym t.a t.b ordered (subst (IsBefore t.b) b_is back)

pub link_is_along : (o : Original) (t : GridSegment) → IsBefore t.a t.b → IsStraight o → HasLink o.chain t → along o ≡ t
link_is_along o t ordered line link =
    let only : HasLink (o.a ∷ o.b ∷ []) t = subst (λ chain. HasLink chain t) line.two_ends link in
    elim only [
      | inl one ↦ elim one [
        | inl same ↦ ap₂ segment_between same.0 same.1
        | inr turned ↦ absurd (not_turned o t ordered line turned.0 turned.1)
      ]
      | inr none ↦ absurd none
    ]

pub vertex_is_end : (o : Original) (p : GridPoint) → IsStraight o → Contains o.chain p → IsEnd p (along o)
vertex_is_end o p line vertex =
    let one : Contains (o.a ∷ o.b ∷ []) p = subst (λ chain. Contains chain p) line.two_ends vertex in
    elim (Contains-cases o.a (o.b ∷ []) p one) [
      | inl a_is ↦ inl (sym a_is)
      | inr rest ↦ elim (Contains-cases o.b [] p rest) [
        | inl b_is ↦ inr (sym b_is)
        | inr none ↦ absurd (Contains-nil p none)
      ]
    ]
