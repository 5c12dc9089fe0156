-- This file shows that a way that holds all points between it and a piece has no point between them.
use Rattle.std.proofs.Common.{◌≡◌, ◌≢◌, ◌⊎◌, ◌↔◌, pos, ◌<ℤ◌, ◌≤ℤ◌, List, refl, sym, ap, ◌∙◌, arith, inl, inr}
use Rattle.std.proofs.lemmas.Int.{ints}
use Rattle.std.specs.List.{AllByRecursion}
use Rattle.grid_base.specs.Point.{GridPoint, IsBefore}
use Rattle.grid_base.specs.Segment.{GridSegment}
use Rattle.grid_base.specs.Sides.{turn, Side, Left, On, Right, opposite, side}
use Rattle.grid_base.proofs.Signs.{sign, left_by_sign, right_by_sign, on_by_zero, left_off, right_off}
use Rattle.hook_chain.specs.Chains.{AllLinks, RunsFrom}
use Rattle.hook_chain.specs.Hook.{InTriangle, IsOnward, IsBetweenPieceAndHook, HoldsBetween}
use Rattle.hook_chain.proofs.Axes.{Axis, bend_not_below}
use Rattle.hook_chain.proofs.Paths.{links_map, links_both, links_of_vertices, links_within, IsForthAlong, IsWithin}
use Rattle.hook_chain.proofs.BentPaths.{IsCloseLink}
use Rattle.hook_chain.proofs.Directions.{Follows, IsApart, AllApart, followed}
use Rattle.hook_chain.proofs.CloseHooks.{holds_bent}

-- ---- sides by turns
-- a turn that isn't below 0 is to the line or to the left, and one that isn't above 0 to the line or to the right
left_or_on : (v w p : GridPoint) → pos 0 ≤ℤ turn v w p → (side v w p ≡ On) ⊎ (side v w p ≡ Left)
left_or_on v w p not_below = elim (sign (turn v w p)) [
  | inl below ↦ absurd (omega (arith, ints, below, not_below))
  | inr rest ↦ elim rest [
    | inl none ↦ inl (on_by_zero (turn v w p) none)
    | inr above ↦ inr (left_by_sign (turn v w p) above)
  ]
]

right_or_on : (v w p : GridPoint) → turn v w p ≤ℤ pos 0 → (side v w p ≡ On) ⊎ (side v w p ≡ Right)
right_or_on v w p not_above = elim (sign (turn v w p)) [
  | inl below ↦ inr (right_by_sign (turn v w p) below)
  | inr rest ↦ elim rest [
    | inl none ↦ inl (on_by_zero (turn v w p) none)
    | inr above ↦ absurd (omega (arith, ints, above, not_above))
  ]
]

-- a point on the line or on the side of x is so on the side s, where x is
on_side : {s : Side} (t : GridSegment) (x p : GridPoint) → side t.a t.b x ≡ s → (side t.a t.b p ≡ On) ⊎ (side t.a t.b p ≡ side t.a t.b x)
    → (side t.a t.b p ≡ On) ⊎ (side t.a t.b p ≡ s)
on_side t x p is (inl on) = inl on
on_side t x p is (inr same) = inr (same ∙ is)

by_side : {s : Side} (t : GridSegment) (x p : GridPoint) → side t.a t.b x ≡ s → (side t.a t.b p ≡ On) ⊎ (side t.a t.b p ≡ s)
    → (side t.a t.b p ≡ On) ⊎ (side t.a t.b p ≡ side t.a t.b x)
by_side t x p is (inl on) = inl on
by_side t x p is (inr same) = inr (same ∙ sym is)

-- ---- one link
-- a link that runs along t, with both ends on the line of t or on the side of x, and holds the points between
record IsHeldLink (t : GridSegment) (axis : Axis) (x v w : GridPoint) : Type 0 where
  forth : IsForthAlong axis v w
  ends : InTriangle t.a t.b x v × InTriangle t.a t.b x w
  holds : HoldsBetween t x v w

-- where x is on the left, a point from t to the link would be held, and one past the link is past t
apart_on_left : (t : GridSegment) (axis : Axis) (x v w : GridPoint) → Follows t axis → side t.a t.b x ≡ Left → IsHeldLink t axis x v w
    → AllApart t axis v w
apart_on_left t axis x v w follows is link p from to = record {
  over = λ above under.
      let beyond = right_by_sign (turn v w p) under in
      let on = link.holds p (record {
        beside = follows.besides v w p from to;
        not_behind = by_side t x p is (left_or_on t.a t.b p above);
        not_beyond = inr (beyond ∙ sym (ap opposite is));
      }) in
      right_off (sym beyond ∙ on.line);
  under = λ below over.
      let at_v = bend_not_below Left t.a t.b v left_off (on_side t x v is link.ends.0.first) in
      let at_w = bend_not_below Left t.a t.b w left_off (on_side t x w is link.ends.1.first) in
      let past = (follows.between v w p link.forth from to).above at_v at_w over in
      omega (arith, ints, past, below);
}

-- the same on the right
apart_on_right : (t : GridSegment) (axis : Axis) (x v w : GridPoint) → Follows t axis → side t.a t.b x ≡ Right → IsHeldLink t axis x v w
    → AllApart t axis v w
apart_on_right t axis x v w follows is link p from to = record {
  over = λ above under.
      let at_v = bend_not_below Right t.a t.b v right_off (on_side t x v is link.ends.0.first) in
      let at_w = bend_not_below Right t.a t.b w right_off (on_side t x w is link.ends.1.first) in
      let past = (follows.between v w p link.forth from to).under (omega (arith, ints, at_v)) (omega (arith, ints, at_w)) under in
      omega (arith, ints, past, above);
  under = λ below over.
      let beyond = left_by_sign (turn v w p) over in
      let on = link.holds p (record {
        beside = follows.besides v w p from to;
        not_behind = by_side t x p is (right_or_on t.a t.b p below);
        not_beyond = inr (beyond ∙ sym (ap opposite is));
      }) in
      left_off (sym beyond ∙ on.line);
}

held_apart : (s : Side) (t : GridSegment) (axis : Axis) (x v w : GridPoint) → Follows t axis → side t.a t.b x ≡ s → s ≢ On
    → IsHeldLink t axis x v w → AllApart t axis v w
held_apart Left t axis x v w follows is off link = apart_on_left t axis x v w follows is link
held_apart On t axis x v w follows is off link = absurd (off refl)
held_apart Right t axis x v w follows is off link = apart_on_right t axis x v w follows is link

held_close : (t : GridSegment) (axis : Axis) (x v w : GridPoint) → Follows t axis → side t.a t.b x ≢ On → IsHeldLink t axis x v w
    → IsCloseLink t v w
held_close t axis x v w follows off link =
    follows.close v w link.forth (held_apart (side t.a t.b x) t axis x v w follows refl off link)

-- ---- a way
-- a way forward within the triangle holds the points between exactly where there is none between
pub way_holds : (t : GridSegment) (x : GridPoint) (way : List GridPoint) → IsBefore t.a t.b → side t.a t.b x ≢ On → RunsFrom t.a t.b way
    → AllByRecursion (InTriangle t.a t.b x) way → AllLinks (IsOnward t) way
    → AllLinks (HoldsBetween t x) way ↔ AllLinks (IsCloseLink t) way
way_holds t x way ordered off leads in_triangle onward =
    let of_t = followed t ordered in
    let axis = of_t.axis in
    let IsForth = IsForthAlong axis in
    let InEnds = IsWithin axis t.a t.b in
    let AreInside = λ (v w : GridPoint). InTriangle t.a t.b x v × InTriangle t.a t.b x w in
    let forth = links_map (IsOnward t) IsForth of_t.follows.forth way onward in
    let ends = links_of_vertices (InTriangle t.a t.b x) way in_triangle in
    let within = links_within axis t.a t.b way leads forth in (
      λ holds. links_map (λ v w. (IsForth v w × AreInside v w) × HoldsBetween t x v w) (IsCloseLink t)
          (λ v w fact. held_close t axis x v w of_t.follows off
          (record { forth = fact.0.0; ends = fact.0.1; holds = fact.1 })) way
          (links_both (λ v w. IsForth v w × AreInside v w) (HoldsBetween t x) way (links_both IsForth AreInside way forth ends) holds),
      λ close. links_map (λ v w. (IsForth v w × InEnds v w) × IsCloseLink t v w) (HoldsBetween t x)
          (λ v w fact. holds_bent t axis x v w of_t.follows off fact.0.0 fact.0.1 fact.1) way
          (links_both (λ v w. IsForth v w × InEnds v w) (IsCloseLink t) way (links_both IsForth InEnds way forth within) close),
    )
