-- This file shows that the border between two classes isn't cut in two even parts.
use Rattle.std.proofs.Common.{◌≡◌, Bool, true, false, List, ◌∙◌}
use Rattle.grid_base.specs.Point.{IsBefore}
use Rattle.grid_base.specs.Segment.{GridSegment}
use Rattle.grid_base.specs.Sides.{Side, Left, Right}
use Rattle.grid_base.specs.Plane.{Place, blend, IsBeside}
use Rattle.plane_classes.specs.Classes.{AreInOneClass, AreAcross, FromLeft, FromRight}
use Rattle.plane_classes.proofs.OverTests.{is_over}
use Rattle.plane_classes.proofs.Parities.{xor, par, HasPairedEnds, xor_none, xor_comm}
use Rattle.plane_classes.proofs.Ways.{AreInOrder}
use Rattle.plane_classes.proofs.FewerSegments.{IsPart, free_of_part, one_cycle}
use Rattle.plane_classes.proofs.AlongSegment.{IsAlone}
use Rattle.plane_classes.proofs.TwoSides.{is_odd_in, two_sides}

-- what lies beside a segment does so for fewer segments too
pub beside_part : (C B : List GridSegment) (s : GridSegment) (d : Side) (q : Place) → IsPart C B → IsBeside B s d q → IsBeside C s d q
beside_part C B s d q h b = record {
  side = b.side;
  goal = b.goal;
  inside = b.inside;
  clear = λ i j k. free_of_part C B
      (blend i j q b.goal) h (b.clear i j k);
}

across_part : (C B : List GridSegment) (s : GridSegment) (p q : Place) → IsPart C B → AreAcross B s p q → AreAcross C s p q
across_part C B s p q h (FromLeft a b) = FromLeft (beside_part C B s Left p h a) (beside_part C B s Right q h b)
across_part C B s p q h (FromRight a b) = FromRight (beside_part C B s Right p h a) (beside_part C B s Left q h b)

pub parity_across : (B : List GridSegment) (s : GridSegment) (p q : Place) → AreInOrder B → HasPairedEnds B → IsBefore s.a s.b
    → IsAlone B s
    → AreAcross B s p q → xor (par (is_over p) B) (par (is_over q) B) ≡ is_odd_in B s
parity_across B s p q o v so alone (FromLeft a b) = two_sides B s p q o v so alone a b
parity_across B s p q o v so alone (FromRight a b) = xor_comm (par (is_over p) B) (par (is_over q) B) ∙ two_sides B s q p o v so alone b a

alone_part : (C B : List GridSegment) (s : GridSegment) → IsPart C B → IsAlone B s → IsAlone C s
alone_part C B s h a t m c u i k = a t m (h t c) u i k

-- where s and t each lie between one class and another, an even part of the border has both or none of them
pub one_cycle_only : (C B : List GridSegment) (s t : GridSegment) (p q p' q' : Place) → IsPart C B → AreInOrder C → HasPairedEnds C
    → IsBefore s.a s.b → IsBefore t.a t.b → IsAlone B s → IsAlone B t
    → AreAcross B s p q → AreAcross B t p' q' → AreInOneClass B p p' → AreInOneClass B q q'
    → is_odd_in C s ≡ false → is_odd_in C t ≡ true → ⊥
one_cycle_only C B s t p q p' q' h o v so to alone alone' a b f g none some =
    one_cycle C B p q p' q' h o v f g
    (xor_none _ _ (parity_across C s p q o v so (alone_part C B s h alone) (across_part C B s p q h a) ∙ none))
    (λ e. odd_apart _ _ e (parity_across C t p' q' o v to (alone_part C B t h alone') (across_part C B t p' q' h b) ∙ some))
  where
    odd_apart : (x y : Bool) → x ≡ y → xor x y ≡ true → ⊥
    odd_apart true true e k = cc
    odd_apart true false e k = cc
    odd_apart false true e k = cc
    odd_apart false false e k = cc
