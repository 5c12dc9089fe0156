-- This file shows that a grid point is odd for a border as its place is, however the place is written, and how points lie to a region.
use Rattle.std.proofs.Common.{◌≡◌, ◌⊎◌, ◌↔◌, ℕ, ◌*◌, ◌<◌, Bool, ◌&&◌, ltb, IsTrue, List, [], ◌∷◌, All, Contains, pos, refl, sym, ap}
use Rattle.std.proofs.Common.{◌∙◌, arith, inl, inr}
use Rattle.std.specs.Prelude.{int_le, int_lt}
use Rattle.std.specs.List.{Any, zip}
use Rattle.std.proofs.lemmas.Bool.{cases_lt}
use Rattle.std.proofs.lemmas.Int.{ints}
use Rattle.grid_base.specs.Point.{GridPoint}
use Rattle.grid_base.specs.Segment.{GridSegment}
use Rattle.grid_base.specs.Places.{RationalPoint}
use Rattle.grid_base.specs.SideOf.{as_rational}
use Rattle.grid_base.specs.Plane.{Place, as_place, IsAtPoint}
use Rattle.grid_base.specs.Odd.{is_strictly_above, Odd}
use Rattle.grid_base.proofs.Turns.{times, times_le}
use Rattle.rose_values.specs.Areas.{IsRegionPoint}
use Rattle.rose_values.specs.Operators.{HasEnds}
use Rattle.rose_values.specs.declared.geometry.Geometry.TheVariants.{P, R}
use Rattle.side_parity.specs.Middle.{differ}
use Rattle.side_parity.proofs.Each.{ordered_in}
use Rattle.side_parity.proofs.Numbers.{leftward, rightward, right_is}
use Rattle.side_parity.proofs.Regions.{is_odd}
use Rattle.side_parity.proofs.Ways.{ltb_same}
use Rattle.plane_classes.proofs.Heights.{le_yes, le_no, lt_yes, lt_no}
use Rattle.plane_classes.proofs.OverTests.{scaled, scaled_less}
use Rattle.plane_sweep.specs.Told.{AreOddPoints}
use Rattle.rose_overlay.specs.Parting.{AreOrdered}
use Rattle.rose_overlay.proofs.Parted.{is_odd_by, odd_is}
use Rattle.rose_predicates.specs.Predicates.{AreOutside, IsInside, ShareAPoint}
use Rattle.rose_predicates.proofs.GridPoints.{grid_place, at_itself, is_one_of, end_held, held_at_end}
use Rattle.rose_predicates.proofs.Truths.{each, of_each, pairs_each, pairs_some, some, of_some}

-- ---- one place, w times over
abbrev over : ℕ → GridPoint → RationalPoint
over w p = record { x = p.x * w; y = p.y * w; w = w }

le_fold : (a x w : ℕ) → 0 < w → int_le (pos (a * w)) (pos (x * w)) ≡ int_le (pos (a * 1)) (pos x)
le_fold a x w real = elim (cases_lt x a) [
  | inl h ↦
      (let l = scaled_less x a w h real in
      le_no (pos (a * w)) (pos (x * w)) (omega (arith, ints)) ∙ sym (le_no (pos (a * 1)) (pos x) (omega (arith, ints))))
  | inr h ↦
      (let l = scaled a x w h in
      le_yes (pos (a * w)) (pos (x * w)) (omega (arith, ints)) ∙ sym (le_yes (pos (a * 1)) (pos x) (omega (arith, ints))))
]

lt_fold : (b x w : ℕ) → 0 < w → int_lt (pos (x * w)) (pos (b * w)) ≡ int_lt (pos x) (pos (b * 1))
lt_fold b x w real = elim (cases_lt x b) [
  | inl h ↦
      (let l = scaled_less x b w h real in
      lt_yes (pos (x * w)) (pos (b * w)) (omega (arith, ints)) ∙ sym (lt_yes (pos x) (pos (b * 1)) (omega (arith, ints))))
  | inr h ↦
      (let l = scaled b x w h in
      lt_no (pos (x * w)) (pos (b * w)) (omega (arith, ints)) ∙ sym (lt_no (pos x) (pos (b * 1)) (omega (arith, ints))))
]

sum_fold : (s : GridSegment) (p : GridPoint) (w : ℕ) → 0 < w
    → ltb (leftward s (over w p)) (rightward s (over w p)) ≡ ltb (leftward s (as_rational p)) (rightward s (as_rational p))
sum_fold s p w real =
    ltb_same _ _ _ _
    (λ h k. (let l = times_le 0 w (rightward s (as_rational p)) (leftward s (as_rational p)) (omega arith) k in omega arith))
    (λ h k. (let l = times 0 w (leftward s (as_rational p)) (rightward s (as_rational p)) real h in omega arith))

above_fold : (s : GridSegment) (p : GridPoint) (w : ℕ) → 0 < w
    → is_strictly_above s (as_place (over w p)) ≡ is_strictly_above s (grid_place p)
above_fold s p w real =
    let right = right_is s (over w p) ∙ sum_fold s p w real ∙ sym (right_is s (as_rational p)) in
    λ i. le_fold s.a.x p.x w real i && lt_fold s.b.x p.x w real i && right i

odd_fold : (B : List GridSegment) (p : GridPoint) (w : ℕ) → 0 < w → is_odd B (as_place (over w p)) ≡ is_odd B (grid_place p)
odd_fold [] p w real = refl
odd_fold (s ∷ B) p w real = λ i. differ (above_fold s p w real i) (odd_fold B p w real i)

odd_at : (B : List GridSegment) (p : GridPoint) (q : Place) → 0 < q.w → IsAtPoint q p → is_odd B q ≡ is_odd B (grid_place p)
odd_at B p q real at = ap (is_odd B) (λ i. record { x = at.0 i; y = at.1 i; w = q.w }) ∙ odd_fold B p q.w real

-- ---- points that are inside no segment of a border
-- p is an end of the border, or odd
abbrev pub IsEndOrOdd : List GridSegment → List GridPoint → GridPoint → Type 0
IsEndOrOdd B vertices p = Contains vertices p ⊎ Odd B (grid_place p)

in_region : (B : List GridSegment) (vertices : List GridPoint) (p : GridPoint) (q : Place) → AreOrdered B → HasEnds B vertices
    → 0 < q.w → IsAtPoint q p → IsEndOrOdd B vertices p → IsRegionPoint B q
in_region B vertices p q ordered ends real at (inl end) =
    let e = (ends p).0 end in
    inl (e.0, e.1, end_held e.0 p q (ordered_in B e.0 ordered e.1) e.2 real at)
in_region B vertices p q ordered ends real at (inr odd) =
    inr (real, is_odd_by B q (odd_at B p q real at ∙ odd_is B (grid_place p) odd))

end_or_odd : (A : List GridPoint) (B : List GridSegment) (vertices : List GridPoint) (p : GridPoint) (q : Place) → AreOutside A B
    → HasEnds B vertices → Contains A p → IsAtPoint q p → IsRegionPoint B q → IsEndOrOdd B vertices p
end_or_odd A B vertices p q outside ends there at (inl on) =
    inl ((ends p).1 (on.0, on.1, held_at_end on.0 p q on.2 at (outside p on.0 there on.1)))
end_or_odd A B vertices p q outside ends there at (inr odd) =
    inr (is_odd_by B (grid_place p) (sym (odd_at B p q odd.0 at) ∙ odd_is B q odd.1))

pub points_in_region : (A : List GridPoint) (B : List GridSegment) (vertices : List GridPoint) → AreOutside A B → AreOrdered B
    → HasEnds B vertices → All (IsEndOrOdd B vertices) A ↔ IsInside (P A) (R B)
points_in_region A B vertices outside ordered ends = (
  λ all q h. in_region B vertices h.there.0 q ordered ends h.real h.there.2 (of_each (IsEndOrOdd B vertices) A h.there.0 all h.there.1),
  λ inside. each (IsEndOrOdd B vertices) A
      (λ p there. end_or_odd A B vertices p (grid_place p) outside ends there (at_itself p) (inside (grid_place p) (is_one_of A p there))),
)

pub points_touch_region : (A : List GridPoint) (B : List GridSegment) (vertices : List GridPoint) → AreOutside A B → AreOrdered B
    → HasEnds B vertices → Any (IsEndOrOdd B vertices) A ↔ ShareAPoint (P A) (R B)
points_touch_region A B vertices outside ordered ends = (
  λ any.
      (let p = of_some (IsEndOrOdd B vertices) A any in (
        grid_place p.0,
        is_one_of A p.0 p.1,
        in_region B vertices p.0 (grid_place p.0) ordered ends (omega arith) (at_itself p.0) p.2,
      )),
  λ shared.
      (let at = shared.1.there in
      some (IsEndOrOdd B vertices) A at.0 at.1 (end_or_odd A B vertices at.0 shared.0 outside ends at.1 at.2 shared.2)),
)

-- ---- points of which it is told whether they are odd
-- the point is an end of the border, or told to be odd
abbrev pub IsEndOrTold : List GridPoint → GridPoint × Bool → Type 0
IsEndOrTold vertices (p, told) = Contains vertices p ⊎ IsTrue told

either_way : (B : List GridSegment) (vertices : List GridPoint) (p : GridPoint) (told : Bool) → IsTrue told ↔ Odd B (grid_place p)
    → IsEndOrTold vertices (p, told) ↔ IsEndOrOdd B vertices p
either_way B vertices p told odd = (
  λ h. elim h [ inl end ↦ inl end | inr told_odd ↦ inr (odd.0 told_odd) ],
  λ h. elim h [ inl end ↦ inl end | inr is_odd ↦ inr (odd.1 is_odd) ],
)

pub each_told : (B : List GridSegment) (vertices A : List GridPoint) (odd : List Bool) → AreOddPoints B A odd
    → All (IsEndOrTold vertices) (zip A odd) ↔ All (IsEndOrOdd B vertices) A
each_told B vertices A odd told =
    pairs_each (λ p a. IsTrue a ↔ Odd B (grid_place p)) (IsEndOrTold vertices) (IsEndOrOdd B vertices) A odd told (either_way B vertices)

pub some_told_odd : (B : List GridSegment) (vertices A : List GridPoint) (odd : List Bool) → AreOddPoints B A odd
    → Any (IsEndOrTold vertices) (zip A odd) ↔ Any (IsEndOrOdd B vertices) A
some_told_odd B vertices A odd told =
    pairs_some (λ p a. IsTrue a ↔ Odd B (grid_place p)) (IsEndOrTold vertices) (IsEndOrOdd B vertices) A odd told (either_way B vertices)
