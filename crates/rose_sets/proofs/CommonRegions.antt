-- This file shows that two regions have no region in common where their boxes lie beside each other, and else one.
use Rattle.std.proofs.Common.{◌≡◌, ◌==◌, Bool, true, List, [], ◌∷◌, ◌++◌, All, length, refl, sym, arith, ◌∙◌}
use Rattle.std.proofs.lemmas.Bool.Decides.{nat_tests}
use Rattle.std.proofs.lemmas.List.Elements.{All-append, All-weaker, Contains-append_left, Contains-append_right}
use Rattle.grid_base.specs.Point.{IsBefore}
use Rattle.grid_base.specs.Segment.{GridSegment}
use Rattle.grid_base.specs.Plane.{Place, IsFree}
use Rattle.grid_base.specs.Odd.{Odd}
use Rattle.grid_base.specs.Border.{AreNoded, IsEvenBorder}
use Rattle.rose_values.specs.Border.{AreSegmentsAscending}
use Rattle.rose_values.specs.Operators.{IsCombination}
use Rattle.rose_values.specs.declared.operators.Op.TheVariants.{Intersection}
use Rattle.border_boxes.specs.Boxes.{AreBeside, HoldsAll, IsWithin}
use Rattle.border_boxes.specs.declared.boxes.BorderBox.{BorderBox}
use Rattle.border_boxes.proofs.BoxesApart.{none_inside}
use Rattle.border_boxes.proofs.OutsideBoxes.{interior_in_box}
use Rattle.border_boxes.proofs.PlacesInBoxes.{has_by_inside}
use Rattle.rose_overlay.proofs.OneRegion.{one_combination}

-- what is given of a border and its box
pub record IsBoxed (box : BorderBox) (B : List GridSegment) : Type 0 where
  pub even : IsEvenBorder B
  pub within : HoldsAll box B

-- ---- boxes beside each other
pub never_both : (first second : BorderBox) (A B : List GridSegment) (q : Place) → IsBoxed first A → IsBoxed second B
    → AreBeside first second → IsFree (A ++ B) q → Odd A q → Odd B q → ⊥
never_both first second A B q a b beside free odd_a odd_b =
    none_inside first second q beside
    (has_by_inside first q (interior_in_box first A a.within q a.even
    (record { real = free.real; apart = λ s there. free.apart s (Contains-append_left A B s there) }, odd_a)))
    (interior_in_box second B b.within q b.even
    (record { real = free.real; apart = λ s there. free.apart s (Contains-append_right A B s there) }, odd_b))

-- so the intersection has no border
pub nothing_common : (first second : BorderBox) (A B : List GridSegment) → IsBoxed first A → IsBoxed second B → AreBeside first second
    → IsCombination Intersection A B []
nothing_common first second A B a b beside = record {
  of_these = λ s (k, within, is). absurd (omega (arith, within));
  even = λ p. refl;
  places = λ q free. (
    λ odd. absurd (omega (arith, odd)),
    λ both. absurd (never_both first second A B q a b beside free both.0 both.1),
  );
}

-- ---- there is one intersection
pub in_both : (first second : BorderBox) (A B : List GridSegment) → HoldsAll first A → HoldsAll second B → All (λ s. IsBefore s.a s.b) (A ++ B)
in_both first second A B in_first in_second =
    All-append (λ (s : GridSegment). IsBefore s.a s.b) A B
    (All-weaker (IsWithin first) (λ (s : GridSegment). IsBefore s.a s.b) (λ s h. h.order) A in_first)
    (All-weaker (IsWithin second) (λ (s : GridSegment). IsBefore s.a s.b) (λ s h. h.order) B in_second)

-- where one has no border, all have none
pub one_common : (first second : BorderBox) (A B D : List GridSegment) → AreNoded (A ++ B) → HoldsAll first A → HoldsAll second B
    → AreSegmentsAscending D → IsCombination Intersection A B D → D ≡ [] → (C : List GridSegment) → AreSegmentsAscending C
    → IsCombination Intersection A B C → C ≡ []
one_common first second A B D noded in_first in_second up made empty C up_too made_too =
    one_combination Intersection A B C D noded (in_both first second A B in_first in_second) up_too up made_too made ∙ empty

-- an empty list, by the test
pub no_border : (list border : List GridSegment) → list ≡ border → (empty : Bool) → empty ≡ (length list == 0) → empty ≡ true → border ≡ []
no_border [] border same empty tested is = sym same
no_border (s ∷ list) border same empty tested is =
    let none : length (s ∷ list) ≡ 0 = grind (arith, nat_tests) in absurd (omega arith)

none_ascend : AreSegmentsAscending []
none_ascend i j d before within = absurd (omega (arith, within))

pub empty_common : (first second : BorderBox) (A B : List GridSegment) → AreNoded (A ++ B) → IsBoxed first A → IsBoxed second B
    → AreBeside first second → (C : List GridSegment) → AreSegmentsAscending C → IsCombination Intersection A B C → C ≡ []
empty_common first second A B noded a b beside C up made =
    one_common first second A B [] noded a.within b.within none_ascend (nothing_common first second A B a b beside) refl C up made
