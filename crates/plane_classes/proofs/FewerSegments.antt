-- This file shows that fewer segments leave larger classes.
use Rattle.std.proofs.Common.{◌≡◌, List, [], ◌∷◌, sym, ◌∙◌}
use Rattle.std.specs.Prelude.{Contains}
use Rattle.grid_base.specs.Segment.{GridSegment}
use Rattle.grid_base.specs.Plane.{Place, IsFree, blend, IsFreeWay}
use Rattle.plane_classes.specs.Classes.{Joins, AreInOneClass}
use Rattle.plane_classes.proofs.ClassLemmas.{one_class_joined}
use Rattle.plane_classes.proofs.Cuts.{one_class_by_way}
use Rattle.plane_classes.proofs.Parities.{par, HasPairedEnds}
use Rattle.plane_classes.proofs.Ways.{AreInOrder}
use Rattle.plane_classes.proofs.OverTests.{is_over}
use Rattle.plane_classes.proofs.OneParity.{kept_in_one_class}

-- each segment of C is one of B
abbrev pub IsPart : List GridSegment → List GridSegment → Type 0
IsPart C B = (s : GridSegment) → Contains C s → Contains B s

pub free_of_part : (C B : List GridSegment) (q : Place) → IsPart C B → IsFree B q → IsFree C q
free_of_part C B q h f = record { real = f.real; apart = λ s m k. f.apart s (h s m) k }

pub way_of_part : (C B : List GridSegment) (p q : Place) → IsPart C B → IsFreeWay B p q → IsFreeWay C p q
way_of_part C B p q h w i j k = free_of_part C B (blend i j p q) h (w i j k)

class_along : (C B : List GridSegment) (p q : Place) (c : List Place) → IsPart C B → Joins B p c q → AreInOneClass C p q
class_along C B p q [] h j = one_class_by_way C p q (way_of_part C B p q h j.no_segment_between)
class_along C B p q (r ∷ c) h j =
    one_class_joined C p r q (one_class_by_way C p r (way_of_part C B p r h j.0.no_segment_between)) (class_along C B r q c h j.1)

-- places of one class of B are in one class of fewer segments
pub class_of_part : (C B : List GridSegment) (p q : Place) → IsPart C B → AreInOneClass B p q → AreInOneClass C p q
class_of_part C B p q h k = class_along C B p q k.0 h k.1

-- so they are all odd, or all even, for an even part of B
pub parity_of_part : (C B : List GridSegment) (p q : Place) → IsPart C B → AreInOrder C → HasPairedEnds C → AreInOneClass B p q
    → par (is_over p) C ≡ par (is_over q) C
parity_of_part C B p q h o e k = kept_in_one_class C o e p q (class_of_part C B p q h k)

-- Two cycles between one face and one class can't be: across a segment of the second its parity changes, and across one of the
-- first it doesn't.
pub one_cycle : (C B : List GridSegment) (p q p' q' : Place) → IsPart C B → AreInOrder C → HasPairedEnds C
    → AreInOneClass B p p' → AreInOneClass B q q'
    → par (is_over p) C ≡ par (is_over q) C → (par (is_over p') C ≡ par (is_over q') C → ⊥) → ⊥
one_cycle C B p q p' q' h o e f g same apart =
    apart (sym (parity_of_part C B p p' h o e f) ∙ same ∙ parity_of_part C B q q' h o e g)
