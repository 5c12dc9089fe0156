-- This file shows that an area none of whose sides is in the outer class of another border has no place there.
use Rattle.std.proofs.Common.{◌≡◌, ◌⊎◌, ◌↔◌, ℕ, zero, suc, ◌+◌, ◌*◌, ◌<◌, true, List, [], ◌∷◌, ◌++◌, map, Contains, pos}
use Rattle.std.proofs.Common.{refl, sym, subst, ◌∙◌, arith, inl, inr}
use Rattle.std.proofs.lemmas.List.Elements.{Contains-append_left, Contains-append_right}
use Rattle.grid_base.specs.Point.{IsBefore}
use Rattle.grid_base.specs.Segment.{GridSegment}
use Rattle.grid_base.specs.Sides.{Side, Left, Right}
use Rattle.grid_base.specs.Places.{RationalPoint}
use Rattle.grid_base.specs.Plane.{Place, Holds, HoldsInside, IsFree, IsFreeWay, IsBeside, blend}
use Rattle.grid_base.specs.Odd.{Odd}
use Rattle.grid_base.proofs.Turns.{times}
use Rattle.grid_base.proofs.Signs.{not_both}
use Rattle.rose_values.specs.Areas.{IsInteriorPoint}
use Rattle.rose_values.specs.Border.{AreSegmentsAscending}
use Rattle.side_parity.proofs.BothSides.{left_answer, right_answer, moved_contains, odd_on_left, odd_on_right}
use Rattle.side_parity.proofs.Each.{ordered_in}
use Rattle.side_parity.proofs.Images.{IsImage, has_image, image, moved, reach}
use Rattle.side_parity.proofs.Inner.{IsStrict, strict_alone, strict_of}
use Rattle.side_parity.proofs.MovedPlaces.{blend_image, held_moved, point_back}
use Rattle.side_parity.proofs.Pictures.{meet_moved, meet_noded, moved_first}
use Rattle.side_parity.proofs.Regions.{mean}
use Rattle.side_parity.proofs.SidesBy.{IsSound}
use Rattle.plane_classes.specs.Classes.{WaysLead, IsOuter}
use Rattle.plane_classes.proofs.Blends.{blend_one}
use Rattle.plane_classes.proofs.ClassLemmas.{one_class_back, one_class_joined}
use Rattle.plane_classes.proofs.Counts.{odd_in_class}
use Rattle.plane_classes.proofs.Cuts.{class_leads, one_class_by_way}
use Rattle.plane_classes.proofs.Multiples.{held_scaled, way_to_itself}
use Rattle.plane_classes.proofs.Outer.{outer_goes_on, outer_is_even, outer_is_one, outside, outside_is_left}
use Rattle.plane_classes.proofs.Ways.{way_first}
use Rattle.rose_overlay.proofs.LiesWithin.{moved_once, strict_from}
use Rattle.rose_overlay.proofs.OneRegion.{beside_is_free, fewer_beside, own_by_sides}
use Rattle.rose_overlay.proofs.Parted.{AreBorders, is_odd_by, sound_second}
use Rattle.rose_overlay.proofs.Sorts.{once}
use Rattle.rose_predicates.proofs.RegionSides.{IsWhole, left_place, one_is, right_place, whole}

-- no odd side of B is in the outer class of A
abbrev pub AreClosedOff : List GridSegment → List GridSegment → Type 0
AreClosedOff A B = (t : GridSegment) (d : Side) (z : Place) → Contains B t → (d ≡ Left) ⊎ (d ≡ Right) → IsBeside (A ++ B) t d z
    → Odd B z → IsOuter A z → ⊥

-- ---- along a segment of B that isn't one of A
module _ (A B : List GridSegment) (h : AreBorders A B) (t : GridSegment) (there : Contains B t) (absent : Contains A t → ⊥) where
  -- from a place inside t towards any of its places
  free_toward : (g m : Place) (i j : ℕ) → HoldsInside t g → Holds t m → 0 < i → IsFree A (blend i j g m)
  free_toward g m i j inside held some = record {
    real = subst (λ (w : ℕ). 0 < w) im.weight strict.real;
    apart = λ u c on.
        strict_alone (map (moved n) (A ++ B)) (moved n t) (moved n u) r (meet_moved n (A ++ B) (meet_noded (A ++ B) h.noded))
        (moved_contains n (A ++ B) t (Contains-append_right A B t there))
        (moved_contains n (A ++ B) u (Contains-append_left A B u c))
        (λ e. absent (subst (Contains A) (sym (moved_once n t u e)) c)) strict (held_moved n u (blend i j g m) r im on);
  }
    where
      n : ℕ
      n = reach g + reach m

      at_g : IsImage n g (image n g)
      at_g = has_image n g inside.held.real (omega arith)

      at_m : IsImage n m (image n m)
      at_m = has_image n m held.real (omega arith)

      r : RationalPoint
      r = mean j (image n m) i (image n g)

      im : IsImage n (blend i j g m) r
      im = blend_image n i j g m (image n g) (image n m) at_g at_m

      first : IsBefore (moved n t).a (moved n t).b
      first = moved_first n t (ordered_in B t h.ordered_second there)

      strict : IsStrict (moved n t) r
      strict =
          strict_from (moved n t) (image n m) (image n g) j i first (held_moved n t m (image n m) at_m held)
          (strict_of (moved n t) (image n g) first
          (record {
            place = held_moved n t g (image n g) at_g inside.held;
            not_a = λ a. inside.not_a (point_back n t.a g (image n g) at_g a);
            not_b = λ b. inside.not_b (point_back n t.b g (image n g) at_g b);
          }))
          some

  -- many times over a free place
  free_fold : (g m : Place) (j : ℕ) → 0 < j → IsFree A m → IsFree A (blend 0 j g m)
  free_fold g m j some free = record {
    real = (let p = times 0 j 0 m.w some free.real in omega arith);
    apart = λ u c on. free.apart u c (held_scaled u j g m some on);
  }

  way_along : (g m : Place) → HoldsInside t g → Holds t m → IsFree A m → IsFreeWay A g m
  way_along g m inside held free zero j some = free_fold g m j (omega (arith, some)) free
  way_along g m inside held free (suc i) j some = free_toward g m (suc i) j inside held (omega arith)

  -- what lies beside t is in one class of A with the places of t
  pub outer_beside : (d : Side) (z m : Place) → IsBeside (A ++ B) t d z → Holds t m → IsFree A m → IsOuter A m → IsOuter A z
  outer_beside d z m beside held free outer =
      outer_goes_on A m z outer
      (one_class_back A z m
      (one_class_joined A z beside.goal m (one_class_by_way A z beside.goal (λ i j k. to_goal i j k))
      (one_class_by_way A beside.goal m (way_along beside.goal m beside.inside held free))))
    where
      goal_free : IsFree A beside.goal
      goal_free = record {
        real = beside.inside.held.real;
        apart = λ u c on. (free_toward beside.goal beside.goal 1 0 beside.inside beside.inside.held (omega arith)).apart u c
            (one_fold u on);
      }
        where
          one_fold : (u : GridSegment) → Holds u beside.goal → Holds u (blend 1 0 beside.goal beside.goal)
          one_fold u on = subst (Holds u) (sym (blend_one beside.goal beside.goal)) on

      to_goal : (i j : ℕ) → 0 < i + j → IsFree A (blend i j z beside.goal)
      to_goal zero j some = free_fold z beside.goal j (omega (arith, some)) goal_free
      to_goal (suc i) j some =
          let clear = beside.clear (suc i) j (omega arith) in
          record { real = clear.real; apart = λ u c. clear.apart u (Contains-append_left A B u c) }

-- ---- ways in the outer class
module _ (A B : List GridSegment) (h : AreBorders A B) (up : AreSegmentsAscending B) (closed : AreClosedOff A B) where
  -- they meet no segment of B: it would have an odd side there
  pub never_met : (m : Place) (t : GridSegment) → IsFree A m → IsOuter A m → Contains B t → Holds t m → ⊥
  never_met m t free outer there held =
      elim (one_is (left_answer B t) (right_answer B t) true (own_by_sides B t ∙ once t B up there)) [
        | inl e ↦
            (let z = left_place (A ++ B) t w in
            closed t Left z.0 there (inl refl) z.1
            (is_odd_by B z.0 (odd_on_left B t z.0 sound (fewer_beside (A ++ B) B t Left z.0 (Contains-append_right A B) z.1) ∙ e))
            (outer_beside A B h t there absent Left z.0 m z.1 held free outer))
        | inr e ↦
            (let z = right_place (A ++ B) t w in
            closed t Right z.0 there (inr refl) z.1
            (is_odd_by B z.0 (odd_on_right B t z.0 sound (fewer_beside (A ++ B) B t Right z.0 (Contains-append_right A B) z.1) ∙ e))
            (outer_beside A B h t there absent Right z.0 m z.1 held free outer))
      ]
    where
      absent : Contains A t → ⊥
      absent k = free.apart t k held

      w : IsWhole (A ++ B) t
      w = whole A B t h (Contains-append_right A B t there)

      sound : IsSound B t
      sound = sound_second A B t h (Contains-append_right A B t there)

  even_along : (p r : Place) → IsFreeWay A p r → IsOuter A p → (Odd B p → ⊥) → Odd B r → ⊥
  even_along p r way outer even odd =
      even
      (odd_in_class B (λ s there. ordered_in B s h.ordered_second there) h.even_second r p
      (one_class_back B p r (one_class_by_way B p r (λ i j k. free_way i j k))) odd)
    where
      free_way : (i j : ℕ) → 0 < i + j → IsFree B (blend i j p r)
      free_way i j some = record {
        real = (way i j some).real;
        apart = λ t c held. never_met (blend i j p r) t (way i j some)
            (outer_goes_on A p (blend i j p r) outer (one_class_by_way A p (blend i j p r) (way_first A p r i j some way))) c held;
      }

  even_over : (p : Place) (over : List Place) (q : Place) → WaysLead A p over q → IsOuter A p → (Odd B p → ⊥) → Odd B q → ⊥
  even_over p [] q way outer even = even_along p q way outer even
  even_over p (r ∷ over) q (first, rest) outer even =
      even_over r over q rest (outer_goes_on A p r outer (one_class_by_way A p r first)) (even_along p r first outer even)

-- ---- a place left of all is outer

outside_is_outer : (L : List GridSegment) → IsOuter L outside
outside_is_outer L = (
  outside,
  outside_is_left L,
  one_class_by_way L outside outside (way_to_itself L outside
      (record {
        real = (outside_is_left L).real;
        apart = λ s c held. not_both outside.x (pos (s.a.x * outside.w)) ((outside_is_left L).left s c) held.across.from;
      })),
)

pub closed_told : (A B : List GridSegment) → AreBorders A B → AreSegmentsAscending B
    → AreClosedOff A B ↔ ((q : Place) → IsInteriorPoint B q → IsOuter A q → ⊥)
closed_told A B h up = (
  λ closed q inner outer.
      (let one = outer_is_one A outside q (outside_is_outer A) outer in
      even_over A B h up closed outside one.0 q (class_leads A outside one.0 q one.1) (outside_is_outer A)
      (outer_is_even B (λ s there. ordered_in B s h.ordered_second there) h.even_second outside (outside_is_outer B)) inner.1),
  λ none t d z there side beside odd outer.
      (let free = beside_is_free (A ++ B) t d z beside in
      none z (record { real = free.real; apart = λ u c. free.apart u (Contains-append_right A B u c) }, odd) outer),
)
