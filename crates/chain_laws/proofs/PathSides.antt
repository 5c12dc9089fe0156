-- This file shows that no path of a step has the piece of the other path for a link, as it stays on one side of its own.
use Rattle.std.proofs.Common.{◌≡◌, ◌≢◌, ◌⊎◌, ◌+◌, Bool, true, false, if◌then◌else◌, List, [], ◌∷◌, ◌++◌}
use Rattle.std.proofs.Common.{refl, sym, subst, inl, inr}
use Rattle.std.specs.List.{AllByRecursion}
use Rattle.grid_base.specs.Point.{GridPoint, point_at, is_point}
use Rattle.grid_base.specs.Segment.{GridSegment}
use Rattle.grid_base.specs.Sides.{Side, Left, On, Right, opposite, side}
use Rattle.grid_base.specs.Crossing.{IsOn, IsParted}
use Rattle.grid_base.specs.Drawing.{IsLink, HasLink}
use Rattle.grid_base.proofs.Orders.{is_point-same}
use Rattle.hook_chain.specs.Chains.{RunsFrom}
use Rattle.hook_chain.specs.Hook.{Hook, InTriangle}
use Rattle.hook_chain.specs.Redrawing.{round_corner}
use Rattle.hook_chain.proofs.HookLaw.{a_is_on, b_is_on}
use Rattle.hook_chain.proofs.Paths.{vertices_map}

-- ---- paths on one side
-- v is on the line of t, or on the side `on_side` of it
abbrev pub IsOnSide : GridSegment → Side → GridPoint → Type 0
IsOnSide t on_side v = (side t.a t.b v ≡ On) ⊎ (side t.a t.b v ≡ on_side)

-- each point of the path is
abbrev pub StaysBeside : GridSegment → Side → List GridPoint → Type 0
StaysBeside t on_side path = AllByRecursion (IsOnSide t on_side) path

-- of two points that t parts, not both are on one side
not_parted : (first second on_side : Side) → first ≢ On → second ≡ opposite first → (first ≡ On) ⊎ (first ≡ on_side)
    → (second ≡ On) ⊎ (second ≡ on_side) → ⊥
not_parted first second on_side off across (inl on) either = off on
not_parted Left second on_side off across (inr same) (inl on) = cc
not_parted Left second on_side off across (inr same) (inr beside) = cc
not_parted On second on_side off across (inr same) either = off refl
not_parted Right second on_side off across (inr same) (inl on) = cc
not_parted Right second on_side off across (inr same) (inr beside) = cc

-- a piece whose ends t parts is no link from v to w
not_link : (t u : GridSegment) (on_side : Side) (v w : GridPoint) → IsParted t u.a u.b → IsOnSide t on_side v
    → IsOnSide t on_side w → IsLink u v w → ⊥
not_link t u on_side v w parted at_v at_w (inl forth) =
    not_parted (side t.a t.b u.a) (side t.a t.b u.b) on_side parted.off parted.across
    (subst (IsOnSide t on_side) forth.0 at_v) (subst (IsOnSide t on_side) forth.1 at_w)
not_link t u on_side v w parted at_v at_w (inr back) =
    not_parted (side t.a t.b u.a) (side t.a t.b u.b) on_side parted.off parted.across
    (subst (IsOnSide t on_side) back.1 at_w) (subst (IsOnSide t on_side) back.0 at_v)

-- nor any other link of a path on one side
pub beside_lacks : (t u : GridSegment) (on_side : Side) (path : List GridPoint) → IsParted t u.a u.b
    → StaysBeside t on_side path → HasLink path u → ⊥
beside_lacks t u on_side [] parted beside link = link
beside_lacks t u on_side (v ∷ []) parted beside link = link
beside_lacks t u on_side (v ∷ w ∷ path) parted beside (inl here) = not_link t u on_side v w parted beside.0 beside.1.0 here
beside_lacks t u on_side (v ∷ w ∷ path) parted beside (inr later) =
    beside_lacks t u on_side (w ∷ path) parted beside.1 later

-- ---- hooks
a_beside : (t : GridSegment) (on_side : Side) → IsOnSide t on_side t.a
a_beside t on_side = inl (a_is_on t.a t.b t.a refl)

b_beside : (t : GridSegment) (on_side : Side) → IsOnSide t on_side t.b
b_beside t on_side = inl (b_is_on t.a t.b t.b refl)

-- a hook lies in the triangle of the piece and its point
pub hook_beside : (t : GridSegment) (x : GridPoint) (path : List GridPoint) → Hook t x path
    → StaysBeside t (side t.a t.b x) path
hook_beside t x path hook =
    let on_side = side t.a t.b x in
    let Beside = λ (l : List GridPoint). StaysBeside t on_side l in
    let ends : StaysBeside t on_side (t.a ∷ t.b ∷ []) = (a_beside t on_side, (b_beside t on_side, tt)) in
    elim hook [
      | inl at_a ↦ subst Beside (sym at_a.1) ends
      | inr rest ↦ elim rest [
        | inl at_b ↦ subst Beside (sym at_b.1) ends
        | inr more ↦ elim more [
          | inl on ↦ subst Beside (sym on.3) (a_beside t on_side, (inl on.2.line, (b_beside t on_side, tt)))
          | inr bent ↦
              let triangle = vertices_map (InTriangle t.a t.b x) (IsOnSide t on_side) (λ p inside. inside.first)
              (bent.1 ++ x ∷ bent.2) bent.4.all_in_triangle in
              subst Beside (sym bent.3) triangle
        ]
      ]
    ]

-- ---- corners
-- the way round the corner z of a cell lies on the diagonal but for z
pub round_beside : (u : GridSegment) (z : GridPoint) → IsOn u (point_at z.x (z.y + 1)) → IsOn u (point_at (z.x + 1) z.y)
    → StaysBeside u (side u.a u.b z) (round_corner u z)
round_beside u z first last = by_tests (is_point u.a (point_at z.x (z.y + 1))) (is_point u.b (point_at (z.x + 1) z.y))
  where
    from_last : (at_b : Bool)
        → StaysBeside u (side u.a u.b z) (point_at (z.x + 1) z.y ∷ [] ++ (if at_b then [] else u.b ∷ []))
    from_last true = (inl last.line, tt)
    from_last false = (inl last.line, (b_beside u (side u.a u.b z), tt))

    by_tests : (at_a at_b : Bool)
        → StaysBeside u (side u.a u.b z)
        ((if at_a then [] else u.a ∷ []) ++ point_at z.x (z.y + 1) ∷ z ∷ point_at (z.x + 1) z.y ∷ []
        ++ (if at_b then [] else u.b ∷ []))
    by_tests true at_b = (inl first.line, (inr refl, from_last at_b))
    by_tests false at_b = (a_beside u (side u.a u.b z), (inl first.line, (inr refl, from_last at_b)))

-- and leads from end to end
pub round_leads : (u : GridSegment) (z : GridPoint) → RunsFrom u.a u.b (round_corner u z)
round_leads u z = by_tests (is_point u.a (point_at z.x (z.y + 1))) (is_point u.b (point_at (z.x + 1) z.y)) refl refl
  where
    from_last : (at_b : Bool) → is_point u.b (point_at (z.x + 1) z.y) ≡ at_b
        → RunsFrom (point_at (z.x + 1) z.y) u.b (point_at (z.x + 1) z.y ∷ [] ++ (if at_b then [] else u.b ∷ []))
    from_last true is = (refl, sym (is_point-same u.b (point_at (z.x + 1) z.y) is))
    from_last false is = (refl, (refl, refl))

    by_tests : (at_a at_b : Bool) → is_point u.a (point_at z.x (z.y + 1)) ≡ at_a
        → is_point u.b (point_at (z.x + 1) z.y) ≡ at_b → RunsFrom u.a u.b
        ((if at_a then [] else u.a ∷ []) ++ point_at z.x (z.y + 1) ∷ z ∷ point_at (z.x + 1) z.y ∷ []
        ++ (if at_b then [] else u.b ∷ []))
    by_tests true at_b is_a is_b = (sym (is_point-same u.a (point_at z.x (z.y + 1)) is_a), (refl, from_last at_b is_b))
    by_tests false at_b is_a is_b = (refl, (refl, (refl, from_last at_b is_b)))
