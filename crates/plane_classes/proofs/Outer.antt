-- This file shows that what lies left of all segments is one class, the outer one, and has no segment above it.
use Rattle.std.proofs.Common.{◌≡◌, ℕ, ◌+◌, ◌*◌, ◌<◌, false, List, [], ◌∷◌, Contains, pos, negsuc, ◌<ℤ◌}
use Rattle.std.proofs.Common.{refl, sym, ap₂, ◌∙◌, arith}
use Rattle.std.proofs.lemmas.Int.{ints}
use Rattle.grid_base.specs.Segment.{GridSegment}
use Rattle.grid_base.specs.Plane.{Place, IsFree, blend, IsFreeWay}
use Rattle.grid_base.specs.Odd.{Odd}
use Rattle.grid_base.specs.Border.{IsEvenBorder}
use Rattle.grid_base.proofs.Elements.{Contains-here, Contains-later}
use Rattle.grid_base.proofs.Signs.{not_both}
use Rattle.grid_base.proofs.Booleans.{true_not_false}
use Rattle.plane_classes.specs.Classes.{AreInOneClass, IsLeftOfAll, IsOuter}
use Rattle.plane_classes.proofs.Parities.{xor, par}
use Rattle.plane_classes.proofs.Ways.{AreInOrder}
use Rattle.plane_classes.proofs.ClassLemmas.{one_class_joined, one_class_back}
use Rattle.plane_classes.proofs.Cuts.{one_class_by_way}
use Rattle.plane_classes.proofs.OverTests.{is_over, over_no_left}
use Rattle.plane_classes.proofs.OneParity.{kept_in_one_class}
use Rattle.plane_classes.proofs.Counts.{odd_is, even_is}
use Rattle.plane_classes.proofs.AlongSegment.{some_weight, blend_less}

-- ---- places left of all
pub left_is_free : (B : List GridSegment) (p : Place) → IsLeftOfAll B p → IsFree B p
left_is_free B p left = record {
  real = left.real;
  apart = λ s there held. not_both p.x (pos (s.a.x * p.w)) (left.left s there) held.across.from;
}

left_blend : (B : List GridSegment) (p q : Place) (i j : ℕ) → 0 < i + j → IsLeftOfAll B p → IsLeftOfAll B q → IsLeftOfAll B (blend i j p q)
left_blend B p q i j some first second = record {
  real = some_weight i j p.w q.w some first.real second.real;
  left = λ s there. blend_less s.a.x i j p.w q.w p.x q.x some (first.left s there) (second.left s there);
}

-- the straight way between two of them
way_left : (B : List GridSegment) (p q : Place) → IsLeftOfAll B p → IsLeftOfAll B q → IsFreeWay B p q
way_left B p q first second i j some = left_is_free B (blend i j p q) (left_blend B p q i j some first second)

-- the place (-1, 0) is left of the grid
abbrev pub outside : Place
outside = record { x = negsuc 0; y = pos 0; w = 1 }

below_all : (n : ℕ) → negsuc 0 <ℤ pos n
below_all n = omega (arith, ints)

pub outside_is_left : (B : List GridSegment) → IsLeftOfAll B outside
outside_is_left B = record { real = omega arith; left = λ s there. below_all (s.a.x * 1) }

-- ---- the outer class
pub outer_is_one : (B : List GridSegment) (p q : Place) → IsOuter B p → IsOuter B q → AreInOneClass B p q
outer_is_one B p q (v, v_left, to_p) (w, w_left, to_q) =
    one_class_joined B p v q (one_class_back B v p to_p)
    (one_class_joined B v w q (one_class_by_way B v w (way_left B v w v_left w_left)) to_q)

-- what is in one class with an outer place is outer
pub outer_goes_on : (B : List GridSegment) (p q : Place) → IsOuter B p → AreInOneClass B p q → IsOuter B q
outer_goes_on B p q (v, v_left, to_p) one = (v, v_left, one_class_joined B v p q to_p one)

-- ---- no segment is above it
none_above : (B : List GridSegment) (p : Place) → ((s : GridSegment) → Contains B s → is_over p s ≡ false) → par (is_over p) B ≡ false
none_above [] p none = refl
none_above (s ∷ B) p none =
    ap₂ xor (none s (Contains-here s B)) (none_above B p (λ t there. none t (Contains-later s B t there)))

pub outer_is_even : (B : List GridSegment) → AreInOrder B → IsEvenBorder B → (p : Place) → IsOuter B p → Odd B p → ⊥
outer_is_even B o e p (v, v_left, to_p) odd = true_not_false (odd_is B p odd)
    (sym (kept_in_one_class B o (even_is B o e) v p to_p) ∙ none_above B v (λ s there. over_no_left v s (v_left.left s there)))
