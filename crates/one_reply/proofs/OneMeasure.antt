-- This file shows that there is one number of the values that a query names.
use Rattle.std.proofs.Common.{◌≡◌, ℕ, List, Option, Some, None, refl, ap}
use Rattle.grid_base.specs.Point.{GridPoint}
use Rattle.rose_values.specs.declared.geometry.Geometry.{Geometry}
use Rattle.rose_values.specs.declared.geometry.Geometry.TheVariants.{P, R}
use Rattle.rose_values.specs.declared.operators.Num.{Num}
use Rattle.rose_values.specs.declared.operators.Num.TheVariants.{Area2, Dist2, Diameter2, NoOfComponents}
use Rattle.rose_query.specs.Asking.{IsNumberOf}
use Rattle.one_reply.proofs.OneNumber.{one_area, one_distance, one_width, none_reached, none_wide, one_count}

-- there is a distance where there are points
one_dist : (first second : List GridPoint) (x y : Option ℕ) → IsNumberOf Dist2 (P first) (Some (P second)) x
    → IsNumberOf Dist2 (P first) (Some (P second)) y → x ≡ y
one_dist first second None None one other = refl
one_dist first second None (Some n) one other = absurd (none_reached first second n one other)
one_dist first second (Some m) None one other = absurd (none_reached first second m other one)
one_dist first second (Some m) (Some n) one other = ap Some (one_distance first second m n one other)

-- the same of a width
one_diameter : (value : Geometry) (x y : Option ℕ) → IsNumberOf Diameter2 value None x → IsNumberOf Diameter2 value None y → x ≡ y
one_diameter value None None one other = refl
one_diameter value None (Some n) one other = absurd (none_wide value n one other)
one_diameter value (Some m) None one other = absurd (none_wide value m other one)
one_diameter value (Some m) (Some n) one other = ap Some (one_width value m n one other)

-- by the table of numbers
pub one_number : (num : Num) (a : Geometry) (b : Option Geometry) (x y : Option ℕ) → IsNumberOf num a b x → IsNumberOf num a b y
    → x ≡ y
one_number Area2 (R border) None (Some m) (Some n) one other = ap Some (one_area border m n one other)
one_number Dist2 (P first) (Some (P second)) x y one other = one_dist first second x y one other
one_number Diameter2 value None x y one other = one_diameter value x y one other
one_number NoOfComponents value None (Some m) (Some n) one other = ap Some (one_count value m n one other)
one_number _ _ _ _ _ one other = absurd assumption
