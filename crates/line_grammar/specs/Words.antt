-- The words of operators, predicates and numbers. Each has the space behind it.
use Rattle.std.specs.Prelude.{ℕ, List, codes, Bool, true, false}
use Rattle.rose_values.specs.declared.operators.Op.{Op}
use Rattle.rose_values.specs.declared.operators.Op.TheVariants as ops
use Rattle.rose_values.specs.declared.operators.Pred.{Pred}
use Rattle.rose_values.specs.declared.operators.Pred.TheVariants as preds
use Rattle.rose_values.specs.declared.operators.Num.{Num}
use Rattle.rose_values.specs.declared.operators.Num.TheVariants as nums

-- the word of an operator
abbrev pub operator : Op → List ℕ
operator ops.Intersection = codes "intersection "
operator ops.Plus = codes "plus "
operator ops.Minus = codes "minus "
operator ops.CommonBorder = codes "common_border "
operator ops.Vertices = codes "vertices "
operator ops.Contour = codes "contour "
operator ops.Interior = codes "interior "

-- the word of a predicate
abbrev pub predicate : Pred → List ℕ
predicate preds.Equal = codes "equal "
predicate preds.Inside = codes "inside "
predicate preds.EdgeInside = codes "edge_inside "
predicate preds.VertexInside = codes "vertex_inside "
predicate preds.AreaDisjoint = codes "area_disjoint "
predicate preds.EdgeDisjoint = codes "edge_disjoint "
predicate preds.Disjoint = codes "disjoint "
predicate preds.Intersects = codes "intersects "
predicate preds.Meets = codes "meets "
predicate preds.Adjacent = codes "adjacent "
predicate preds.Encloses = codes "encloses "
predicate preds.OnBorderOf = codes "on_border_of "
predicate preds.BorderInCommon = codes "border_in_common "

-- the word of a number of one value or two
abbrev pub measure : Num → List ℕ
measure nums.Area2 = codes "area2 "
measure nums.Dist2 = codes "dist2 "
measure nums.Diameter2 = codes "diameter2 "
measure nums.NoOfComponents = codes "no_of_components "

-- whether the operator takes two values
abbrev pub takes_two : Op → Bool
takes_two ops.Intersection = true
takes_two ops.Plus = true
takes_two ops.Minus = true
takes_two ops.CommonBorder = true
takes_two ops.Vertices = false
takes_two ops.Contour = false
takes_two ops.Interior = false

-- whether the number is one of two values
abbrev pub measures_two : Num → Bool
measures_two nums.Area2 = false
measures_two nums.Dist2 = true
measures_two nums.Diameter2 = false
measures_two nums.NoOfComponents = false
