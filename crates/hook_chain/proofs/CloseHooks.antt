-- Each link of a hook is close to the piece, and no grid point between the two is off the hook.
use Rattle.std.proofs.Common.{◌≡◌, ◌≢◌, ◌⊎◌, ◌+◌, ◌≤◌, ◌*◌, ◌<◌, ℕ, ℤ, pos, ◌-ℤ◌, ◌*ℤ◌, ◌<ℤ◌, ◌≤ℤ◌, List, ◌∷◌, ◌++◌, refl, sym, ap, subst}
use Rattle.std.proofs.Common.{◌∙◌, arith}
use Rattle.std.proofs.Common.{inl, inr}
use Rattle.std.proofs.lemmas.Int.{ints}
use borrow.Author.Differences.{up, down}
use Rattle.grid_base.specs.Point.{GridPoint, IsBefore}
use Rattle.grid_base.specs.Segment.{GridSegment}
use Rattle.grid_base.specs.Sides.{turn, Side, Left, On, Right, opposite, side}
use Rattle.grid_base.proofs.Turns.{times, times_le, turn_is, left_is, right_is, on_is}
use Rattle.hook_chain.specs.Chains.{AllLinks}
use Rattle.hook_chain.specs.Hook.{Hook, IsOnward, IsBetweenPieceAndHook, HoldsBetween}
use Rattle.hook_chain.proofs.Axes.{Axis, bend, bend_not_below, turn_back}
use Rattle.hook_chain.proofs.Paths.{links_map, links_both, leads_on, IsForthAlong, IsWithin, links_within}
use Rattle.hook_chain.proofs.HookLaw.{a_is_on, b_is_on}
use Rattle.hook_chain.proofs.BentPaths.{IsCloseLink}
use Rattle.hook_chain.proofs.Directions.{Follows, IsApart, AllApart, followed}

-- ---- signs
-- c j = a k, each as a difference, where j is above 0 and k below: c isn't above 0 where a isn't below, and not below where a isn't above
opposite_parts : (c_up c_down j_up j_down a_up a_down k_up k_down : ℕ) → j_down < j_up → k_up < k_down
    → c_up * j_up + c_down * j_down + a_up * k_down + a_down * k_up ≡ c_up * j_down + c_down * j_up + a_up * k_up + a_down * k_down
    → (a_down ≤ a_up → c_up ≤ c_down) × (a_up ≤ a_down → c_down ≤ c_up)
opposite_parts c_up c_down j_up j_down a_up a_down k_up k_down j_above k_below same =
    let not_above : a_down ≤ a_up → c_down < c_up → ⊥ = λ a_not_below c_above.
    let first = times_le a_down a_up k_up k_down a_not_below (omega arith) in
    let second = times c_down c_up j_down j_up c_above j_above in
    omega arith in
    let not_below : a_up ≤ a_down → c_up < c_down → ⊥ = λ a_not_above c_below.
    let first = times_le a_up a_down k_up k_down a_not_above (omega arith) in
    let second = times c_up c_down j_down j_up c_below j_above in
    omega arith in
    (λ up. let no = not_above up in omega (arith, no), λ down. let no = not_below down in omega (arith, no))

-- the same of integers, where j and k are on opposite sides of 0
opposite_signs : (c j a k b m : ℤ) → c *ℤ j ≡ (a *ℤ k) -ℤ (b *ℤ m) → b ≡ pos 0
    → (pos 0 <ℤ j × k <ℤ pos 0) ⊎ (j <ℤ pos 0 × pos 0 <ℤ k) → (pos 0 ≤ℤ a → c ≤ℤ pos 0) × (a ≤ℤ pos 0 → pos 0 ≤ℤ c)
opposite_signs c j a k b m same none apart =
    let level : up b ≡ down b = omega (arith, ints) in
    let by_up = ap (λ (n : ℕ). n * up m) level in
    let by_down = ap (λ (n : ℕ). n * down m) level in
    let parts : (down a ≤ up a → up c ≤ down c) × (up a ≤ down a → down c ≤ up c) = elim apart [
      | inl j_above ↦ opposite_parts (up c) (down c) (up j) (down j) (up a) (down a) (up k) (down k)
          (omega (arith, ints, j_above.0)) (omega (arith, ints, j_above.1)) (omega (arith, ints))
      | inr j_below ↦ opposite_parts (up c) (down c) (down j) (up j) (up a) (down a) (down k) (up k)
          (omega (arith, ints, j_below.0)) (omega (arith, ints, j_below.1)) (omega (arith, ints))
    ] in (
      λ above. let sign = parts.0 (omega (arith, ints)) in omega (arith, ints),
      λ below. let sign = parts.1 (omega (arith, ints)) in omega (arith, ints),
    )

-- ---- links along the piece
-- the piece is apart from itself
apart_itself : (t : GridSegment) (axis : Axis) → AllApart t axis t.a t.b
apart_itself t axis p from to = record { over = λ above under. omega (arith, ints); under = λ below over. omega (arith, ints) }

-- a point on the line turns nothing
none_on : (a b p : GridPoint) → side a b p ≡ On → turn a b p ≡ pos 0
none_on a b p on = let sums = on_is a b p on in let turns = turn_is a b p in omega (arith, ints)

-- the rest of the piece from a point inside it is apart from the piece
apart_rest : (t : GridSegment) (axis : Axis) (x : GridPoint) → Follows t axis → side t.a t.b x ≡ On → IsForthAlong axis x t.b
    → AllApart t axis x t.b
apart_rest t axis x follows on before p from to =
    let ordered = follows.ordered in
    let signs = opposite_signs (turn t.b x p) (axis.along t.b -ℤ axis.along t.a) (turn t.a t.b p) (axis.along x -ℤ axis.along t.b)
    (turn t.a t.b x)
    (axis.along p -ℤ axis.along t.b) (axis.next t.a t.b x p) (none_on t.a t.b x on) (inl (omega (arith, ints), omega (arith, ints))) in
    let back = turn_back t.b x p in
    record {
      over = λ above under. let sign = signs.0 above in omega (arith, ints);
      under = λ below over. let sign = signs.1 below in omega (arith, ints);
    }

-- and so is its beginning
apart_beginning : (t : GridSegment) (axis : Axis) (x : GridPoint) → Follows t axis → side t.a t.b x ≡ On → IsForthAlong axis t.a x
    → AllApart t axis t.a x
apart_beginning t axis x follows on after p from to =
    let ordered = follows.ordered in
    let none = none_on t.a t.b x on in
    let back_x = turn_back t.a t.b x in
    let back_p = turn_back t.a t.b p in
    let signs = opposite_signs (turn t.a x p) (axis.along t.a -ℤ axis.along t.b) (turn t.b t.a p) (axis.along x -ℤ axis.along t.a)
    (turn t.b t.a x)
    (axis.along p -ℤ axis.along t.a) (axis.next t.b t.a x p) (omega (arith, ints)) (inr (omega (arith, ints), omega (arith, ints))) in
    record {
      over = λ above under. let sign = signs.1 (omega (arith, ints)) in omega (arith, ints);
      under = λ below over. let sign = signs.0 (omega (arith, ints)) in omega (arith, ints);
    }

-- ---- the hook
-- each link of a hook is close to the piece
pub hook_close : (t : GridSegment) (x : GridPoint) (chain : List GridPoint) → IsBefore t.a t.b → Hook t x chain
    → AllLinks (IsCloseLink t) chain
hook_close t x chain ordered (inl at_a) =
    let of_t = followed t ordered in
    subst (λ (l : List GridPoint). AllLinks (IsCloseLink t) l) (sym at_a.1)
    (of_t.follows.close t.a t.b of_t.follows.ordered (apart_itself t of_t.axis), tt)
hook_close t x chain ordered (inr (inl at_b)) =
    let of_t = followed t ordered in
    subst (λ (l : List GridPoint). AllLinks (IsCloseLink t) l) (sym at_b.1)
    (of_t.follows.close t.a t.b of_t.follows.ordered (apart_itself t of_t.axis), tt)
hook_close t x chain ordered (inr (inr (inl on))) =
    let of_t = followed t ordered in
    let inside = of_t.follows.inside x on.2 on.0 on.1 in
    subst (λ (l : List GridPoint). AllLinks (IsCloseLink t) l) (sym on.3) (
      of_t.follows.close t.a x inside.0 (apart_beginning t of_t.axis x of_t.follows on.2.line inside.0),
      (of_t.follows.close x t.b inside.1 (apart_rest t of_t.axis x of_t.follows on.2.line inside.1), tt),
    )
hook_close t x chain ordered (inr (inr (inr beside))) = subst (λ (l : List GridPoint). AllLinks (IsCloseLink t) l)
    (sym beside.3) beside.4.no_point_between

-- ---- the points between
-- a point not beyond a link of a straight hook is on its line
on_straight : (t : GridSegment) (x v w p : GridPoint) → side t.a t.b x ≡ On → IsBetweenPieceAndHook t x v w p → side v w p ≡ On
on_straight t x v w p on between = elim between.not_beyond [
  | inl line ↦ line
  | inr other ↦ other ∙ ap opposite on
]

-- a point that is apart from a link, between it and t, is on its line
on_bent : (s : Side) (t : GridSegment) (x v w p : GridPoint) → side t.a t.b x ≡ s → s ≢ On → IsApart t v w p
    → IsBetweenPieceAndHook t x v w p → side v w p ≡ On
on_bent s t x v w p is off apart between = elim between.not_beyond [
  | inl line ↦ line
  | inr other ↦ absurd (strictly_between s (other ∙ ap opposite is) (bend_not_below s t.a t.b p off (same_side between.not_behind)) off)
]
  where
    same_side : (side t.a t.b p ≡ On) ⊎ (side t.a t.b p ≡ side t.a t.b x) → (side t.a t.b p ≡ On) ⊎ (side t.a t.b p ≡ s)
    same_side (inl line) = inl line
    same_side (inr same) = inr (same ∙ is)

    strictly_between : (r : Side) → side v w p ≡ opposite r → pos 0 ≤ℤ bend r t.a t.b p → r ≢ On → ⊥
    strictly_between Left other beyond r_off = apart.over beyond
        (let sums = right_is v w p other in let turns = turn_is v w p in omega (arith, ints))
    strictly_between On other beyond r_off = r_off refl
    strictly_between Right other beyond r_off =
        apart.under (omega (arith, ints)) (let sums = left_is v w p other in let turns = turn_is v w p in omega (arith, ints))

-- so it is on the link
holds_straight : (t : GridSegment) (axis : Axis) (x v w : GridPoint) → Follows t axis → side t.a t.b x ≡ On → IsForthAlong axis v w
    → HoldsBetween t x v w
holds_straight t axis x v w follows on forth p between = (follows.beside v w p forth between.beside).2 (on_straight t x v w p on between)

pub holds_bent : (t : GridSegment) (axis : Axis) (x v w : GridPoint) → Follows t axis → side t.a t.b x ≢ On → IsForthAlong axis v w
    → IsWithin axis t.a t.b v w → IsCloseLink t v w → HoldsBetween t x v w
holds_bent t axis x v w follows off forth within close p between =
    let range = follows.beside v w p forth between.beside in
    range.2 (on_bent (side t.a t.b x) t x v w p refl off (follows.apart v w forth within close p range.0 range.1) between)

-- each grid point between a piece and its hook is on the hook
pub hook_holds : (t : GridSegment) (x : GridPoint) (chain : List GridPoint) → IsBefore t.a t.b → Hook t x chain
    → AllLinks (HoldsBetween t x) chain
hook_holds t x chain ordered (inl at_a) =
    let of_t = followed t ordered in
    subst (λ (l : List GridPoint). AllLinks (HoldsBetween t x) l) (sym at_a.1)
    (holds_straight t of_t.axis x t.a t.b of_t.follows (a_is_on t.a t.b x at_a.0) of_t.follows.ordered, tt)
hook_holds t x chain ordered (inr (inl at_b)) =
    let of_t = followed t ordered in
    subst (λ (l : List GridPoint). AllLinks (HoldsBetween t x) l) (sym at_b.1)
    (holds_straight t of_t.axis x t.a t.b of_t.follows (b_is_on t.a t.b x at_b.0) of_t.follows.ordered, tt)
hook_holds t x chain ordered (inr (inr (inl on))) =
    let of_t = followed t ordered in
    let inside = of_t.follows.inside x on.2 on.0 on.1 in
    subst (λ (l : List GridPoint). AllLinks (HoldsBetween t x) l) (sym on.3) (
      holds_straight t of_t.axis x t.a x of_t.follows on.2.line inside.0,
      (holds_straight t of_t.axis x x t.b of_t.follows on.2.line inside.1, tt),
    )
hook_holds t x chain ordered (inr (inr (inr beside))) =
    let of_t = followed t ordered in
    let axis = of_t.axis in
    let path = beside.1 ++ x ∷ beside.2 in
    let bent = beside.4 in
    let forth = links_map (IsOnward t) (IsForthAlong axis) of_t.follows.forth path bent.runs_forward in
    let within = links_within axis t.a t.b path (leads_on t.a x t.b beside.1 beside.2 bent.leads_to_x bent.leads_from_x) forth in
    subst (λ (l : List GridPoint). AllLinks (HoldsBetween t x) l) (sym beside.3)
    (links_map (λ v w. (IsForthAlong axis v w × IsWithin axis t.a t.b v w) × IsCloseLink t v w) (HoldsBetween t x)
    (λ v w fact. holds_bent t axis x v w of_t.follows beside.0 fact.0.0 fact.0.1 fact.1) path
    (links_both (λ v w. IsForthAlong axis v w × IsWithin axis t.a t.b v w) (IsCloseLink t) path
    (links_both (IsForthAlong axis) (IsWithin axis t.a t.b) path forth within) bent.no_point_between))
