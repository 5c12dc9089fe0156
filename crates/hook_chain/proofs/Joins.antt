-- Two taut paths under their chords, from a to x and from x to b, are the two parts of a bent hook.
use Rattle.std.proofs.Common.{◌≡◌, ◌≢◌, ◌⊎◌, ◌<◌, ℤ, pos, ◌-ℤ◌, ◌*ℤ◌, ◌<ℤ◌, ◌≤ℤ◌, List, [], ◌∷◌, ◌++◌, refl, sym, subst, arith, inl, inr}
use Rattle.std.proofs.lemmas.Int.{ints}
use Rattle.std.specs.List.{AllByRecursion}
use borrow.Author.Differences.{up, down}
use Rattle.grid_base.specs.Point.{GridPoint}
use Rattle.grid_base.specs.Segment.{GridSegment}
use Rattle.grid_base.specs.Sides.{Side, Left, On, Right, side}
use Rattle.grid_base.proofs.Turns.{times, times_le, turn_is, left_by, right_by, on_by}
use Rattle.grid_base.proofs.Signs.{sign}
use Rattle.hook_chain.specs.Chains.{AllLinks}
use Rattle.hook_chain.specs.Hook.{InTriangle, IsOnward, IsBent}
use Rattle.hook_chain.proofs.Axes.{Axis, bend, bend_swap, bend_back, bend_above}
use Rattle.hook_chain.proofs.TautPaths.{Frame, IsSound, frame_sound, IsBeyond, IsForth, BendsUp, IsBare, IsTaut}
use Rattle.hook_chain.proofs.Paths.{vertices_map, vertices_both, links_map, links_both, bends_map, links_of_vertices, vertices_join}
use Rattle.hook_chain.proofs.Paths.{links_join, IsPointWithin, vertices_within, IsForthAlong}
use Rattle.hook_chain.proofs.Directions.{Follows, AllApart}
use Rattle.hook_chain.proofs.PlacedParts.{IsUnderChord}
use Rattle.hook_chain.proofs.BentPaths.{frame_of, IsCloseLink}

-- ---- from bends to sides
-- a bend above 0 is a turn to the side
side_by_bend : (s : Side) (v w p : GridPoint) → s ≢ On → pos 0 <ℤ bend s v w p → side v w p ≡ s
side_by_bend Left v w p off above = let turns = turn_is v w p in left_by v w p (omega (arith, ints))
side_by_bend On v w p off above = absurd (off refl)
side_by_bend Right v w p off above = let turns = turn_is v w p in right_by v w p (omega (arith, ints))

-- and one of 0 is none
on_by_bend : (s : Side) (v w p : GridPoint) → s ≢ On → bend s v w p ≡ pos 0 → side v w p ≡ On
on_by_bend Left v w p off none = let turns = turn_is v w p in on_by v w p (omega (arith, ints))
on_by_bend On v w p off none = absurd (off refl)
on_by_bend Right v w p off none = let turns = turn_is v w p in on_by v w p (omega (arith, ints))

-- a bend not below 0 is to the side or none
on_or_side : (s : Side) (v w p : GridPoint) → s ≢ On → pos 0 ≤ℤ bend s v w p → (side v w p ≡ On) ⊎ (side v w p ≡ s)
on_or_side s v w p off not_below = elim (sign (bend s v w p)) [
  | inl below ↦ absurd (omega (arith, ints))
  | inr rest ↦ elim rest [ inl none ↦ inl (on_by_bend s v w p off none) | inr above ↦ inr (side_by_bend s v w p off above) ]
]

-- ---- the triangle
-- c j = a k - b m: c isn't above 0 where a and b aren't and m isn't, and k isn't below 0
not_above_by : (c j a k b m : ℤ) → c *ℤ j ≡ (a *ℤ k) -ℤ (b *ℤ m) → pos 0 <ℤ j → pos 0 ≤ℤ k → m ≤ℤ pos 0 → a ≤ℤ pos 0 → b ≤ℤ pos 0
    → c ≤ℤ pos 0
not_above_by c j a k b m same j_above k_not_below m_not_above a_not_above b_not_above =
    let first = times_le (up a) (down a) (down k) (up k) (omega (arith, ints)) (omega (arith, ints)) in
    let second = times_le (up b) (down b) (up m) (down m) (omega (arith, ints)) (omega (arith, ints)) in
    let not_above : down c < up c → ⊥ =
    λ above. let product = times (down c) (up c) (down j) (up j) above (omega (arith, ints)) in omega (arith, ints) in
    omega (arith, ints, not_above)

-- and a isn't where c and b aren't, and j and m aren't below 0
not_above_by_rest : (c j a k b m : ℤ) → c *ℤ j ≡ (a *ℤ k) -ℤ (b *ℤ m) → pos 0 <ℤ k → pos 0 ≤ℤ j → pos 0 ≤ℤ m → c ≤ℤ pos 0 → b ≤ℤ pos 0
    → a ≤ℤ pos 0
not_above_by_rest c j a k b m same k_above j_not_below m_not_below c_not_above b_not_above =
    let first = times_le (up c) (down c) (down j) (up j) (omega (arith, ints)) (omega (arith, ints)) in
    let second = times_le (up b) (down b) (down m) (up m) (omega (arith, ints)) (omega (arith, ints)) in
    let not_above : down a < up a → ⊥ =
    λ above. let product = times (down a) (up a) (down k) (up k) above (omega (arith, ints)) in omega (arith, ints) in
    omega (arith, ints, not_above)

-- x is beyond the line of the frame, between its ends
record IsApex (f : Frame) (x : GridPoint) : Type 0 where
  off : f.side ≢ On
  above : pos 0 <ℤ bend f.side f.a f.b x
  after_a : f.along f.a <ℤ f.along x
  before_b : f.along x <ℤ f.along f.b

-- a point under the chord from a to x isn't over the line from x to b
under_second_line : (f : Frame) (x p : GridPoint) → IsSound f → IsApex f x → IsUnderChord f f.a x p → f.along p ≤ℤ f.along x
    → IsUnderChord f x f.b p
under_second_line f x p sound apex under before =
    let swapped = bend_swap f.side f.a f.b x in
    let above = apex.above in
    not_above_by (bend f.side x f.b p) (f.along x -ℤ f.along f.a) (bend f.side f.a x p) (f.along f.b -ℤ f.along x) (bend f.side f.a x f.b)
    (f.along p -ℤ f.along x)
    (sound.next f.a x f.b p) (omega (arith, ints, apex.after_a)) (omega (arith, ints, apex.before_b)) (omega (arith, ints)) under
    (omega (arith, ints))

-- and one under the chord from x to b isn't over the line from a to x
under_first_line : (f : Frame) (x p : GridPoint) → IsSound f → IsApex f x → IsUnderChord f x f.b p → f.along x ≤ℤ f.along p
    → IsUnderChord f f.a x p
under_first_line f x p sound apex under after =
    let swapped = bend_swap f.side f.a f.b x in
    let above = apex.above in
    not_above_by_rest (bend f.side x f.b p) (f.along x -ℤ f.along f.a) (bend f.side f.a x p) (f.along f.b -ℤ f.along x)
    (bend f.side f.a x f.b) (f.along p -ℤ f.along x)
    (sound.next f.a x f.b p) (omega (arith, ints, apex.before_b)) (omega (arith, ints, apex.after_a)) (omega (arith, ints)) under
    (omega (arith, ints))

-- a point beyond the line and under both chords is in the triangle
in_triangle : (s : Side) (a b x p : GridPoint) → s ≢ On → side a b x ≡ s → pos 0 ≤ℤ bend s a b p → bend s a x p ≤ℤ pos 0
    → bend s x b p ≤ℤ pos 0
    → InTriangle a b x p
in_triangle s a b x p off is beyond under_first under_second =
    let first = bend_back s a x p in
    let second = bend_back s x b p in
    let with_side : (v w : GridPoint) → (side v w p ≡ On) ⊎ (side v w p ≡ s) → (side v w p ≡ On) ⊎ (side v w p ≡ side a b x) =
    λ v w fact. subst (λ (t : Side). (side v w p ≡ On) ⊎ (side v w p ≡ t)) (sym is) fact in
    record {
      first = with_side a b (on_or_side s a b p off beyond);
      second = with_side b x (on_or_side s b x p off (omega (arith, ints)));
      third = with_side x a (on_or_side s x a p off (omega (arith, ints)));
    }

-- ---- the two parts
-- a link with nothing under it and both ends beyond t is apart from all points
apart_of_bare : (s : Side) (axis : Axis) (t : GridSegment) (x v w : GridPoint) → Follows t axis → side t.a t.b x ≡ s → s ≢ On
    → IsForthAlong axis v w
    → IsBare (record { along = axis.along; side = s; a = t.a; b = t.b }) v w → pos 0 ≤ℤ bend s t.a t.b v → pos 0 ≤ℤ bend s t.a t.b w
    → AllApart t axis v w
apart_of_bare Left axis t x v w follows is off forth bare v_beyond w_beyond p from to = record {
  over = λ above under. bare p from to above under;
  under = λ below over. let more = (follows.between v w p forth from to).above v_beyond w_beyond over in omega (arith, ints);
}
apart_of_bare On axis t x v w follows is off forth bare v_beyond w_beyond p from to = absurd (off refl)
apart_of_bare Right axis t x v w follows is off forth bare v_beyond w_beyond p from to = record {
  over = λ above under. let less = (follows.between v w p forth from to).under (omega (arith, ints)) (omega (arith, ints)) under in omega
      (arith, ints);
  under = λ below over. bare p from to (omega (arith, ints)) (omega (arith, ints));
}

-- the links of a taut path are close to t
taut_close : (t : GridSegment) (axis : Axis) (x v e : GridPoint) (path : List GridPoint) → Follows t axis → side t.a t.b x ≢ On
    → IsTaut (frame_of t axis x) v e path → AllLinks (IsCloseLink t) path
taut_close t axis x v e path follows off taut =
    let f = frame_of t axis x in
    let facts = links_both (λ p q. IsForth f p q × IsBare f p q) (λ p q. IsBeyond f p × IsBeyond f q) path
    (links_both (IsForth f) (IsBare f) path taut.onward taut.bare) (links_of_vertices (IsBeyond f) path taut.beyond) in
    links_map (λ p q. (IsForth f p q × IsBare f p q) × (IsBeyond f p × IsBeyond f q)) (IsCloseLink t)
    (λ p q fact. follows.close p q fact.0.0 (apart_of_bare (side t.a t.b x) axis t x p q follows refl off fact.0.0 fact.0.1 fact.1.0
    fact.1.1)) path facts

-- two taut paths under their chords are a bent hook
pub bent_by_parts : (t : GridSegment) (axis : Axis) (x : GridPoint) (to from : List GridPoint) → Follows t axis → side t.a t.b x ≢ On
    → axis.along t.a <ℤ axis.along x → axis.along x <ℤ axis.along t.b
    → IsTaut (frame_of t axis x) t.a x (to ++ x ∷ []) → AllByRecursion (IsUnderChord (frame_of t axis x) t.a x) (to ++ x ∷ [])
    → IsTaut (frame_of t axis x) x t.b (x ∷ from) → AllByRecursion (IsUnderChord (frame_of t axis x) x t.b) (x ∷ from) → IsBent t x to from
bent_by_parts t axis x to from follows off after before first first_chord second second_chord =
    let f = frame_of t axis x in
    let s = side t.a t.b x in
    let sound = frame_sound axis s t.a t.b in
    let apex : IsApex f x = record { off = off; above = bend_above s t.a t.b x off refl; after_a = after; before_b = before } in
    let facts_first = vertices_both (IsBeyond f) (λ p. IsUnderChord f t.a x p × IsPointWithin axis.along t.a x p) (to ++ x ∷ [])
    first.beyond
    (vertices_both (IsUnderChord f t.a x) (IsPointWithin axis.along t.a x) (to ++ x ∷ []) first_chord
    (vertices_within axis.along t.a x (to ++ x ∷ []) first.leads first.onward)) in
    let facts_second = vertices_both (IsBeyond f) (λ p. IsUnderChord f x t.b p × IsPointWithin axis.along x t.b p) (x ∷ from) second.beyond
    (vertices_both (IsUnderChord f x t.b) (IsPointWithin axis.along x t.b) (x ∷ from) second_chord
    (vertices_within axis.along x t.b (x ∷ from) second.leads second.onward)) in
    record {
      leads_to_x = first.leads;
      leads_from_x = second.leads;
      all_in_triangle = vertices_join (InTriangle t.a t.b x) x to from
          (vertices_map (λ p. IsBeyond f p × (IsUnderChord f t.a x p × IsPointWithin axis.along t.a x p)) (InTriangle t.a t.b x)
          (λ p fact. in_triangle s t.a t.b x p off refl fact.0 fact.1.0 (under_second_line f x p sound apex fact.1.0 fact.1.1.1))
          (to ++ x ∷ []) facts_first)
          (vertices_map (λ p. IsBeyond f p × (IsUnderChord f x t.b p × IsPointWithin axis.along x t.b p)) (InTriangle t.a t.b x)
          (λ p fact. in_triangle s t.a t.b x p off refl fact.0 (under_first_line f x p sound apex fact.1.0 fact.1.1.0) fact.1.0)
          (x ∷ from) facts_second);
      no_point_between = links_join (IsCloseLink t) x to from
          (taut_close t axis x t.a x (to ++ x ∷ []) follows off first) (taut_close t axis x x t.b (x ∷ from) follows off second);
      bulges_before_x = bends_map (BendsUp f) (λ u v w. side u v w ≡ s) (λ u v w bends. side_by_bend s u v w off bends)
          (to ++ x ∷ []) first.bent;
      bulges_after_x = bends_map (BendsUp f) (λ u v w. side u v w ≡ s) (λ u v w bends. side_by_bend s u v w off bends)
          (x ∷ from) second.bent;
      runs_forward = links_join (IsOnward t) x to from
          (links_map (IsForth f) (IsOnward t) follows.onward (to ++ x ∷ []) first.onward)
          (links_map (IsForth f) (IsOnward t) follows.onward (x ∷ from) second.onward);
    }
