-- This file shows that a step with a text may be added to a trace, and how long the texts of its steps are.
use Rattle.std.proofs.Common.{◌*◌, ◌≤◌, List, [], ◌∷◌, ◌++◌, length, arith}
use Rattle.std.specs.List.{AllByRecursion, flat_map}
use Rattle.std.proofs.lemmas.List.{length-append}
use Rattle.grid_base.specs.declared.kinds.Step.{Step}
use Rattle.grid_base.specs.declared.kinds.Step.TheVariants.{Split, Meet, Corner}
use Rattle.record_codec.specs.Spelling.{point, segment, step}
use Rattle.record_codec.specs.Traces.{IsStep}

-- each step of the longer trace has a text
pub each-push : (trace : List Step) (s : Step) → AllByRecursion IsStep trace → IsStep s → AllByRecursion IsStep (trace ++ s ∷ [])
each-push [] s each has = (has, tt)
each-push (first ∷ trace) s each has = (each.0, each-push trace s each.1 has)

-- a step has at most 41 bytes
step_is_short : (s : Step) → length (step s) ≤ 41
unfolding step segment point
step_is_short (Split p t) = omega arith
step_is_short (Meet t u x) = omega arith
step_is_short (Corner t u) = omega arith

pub steps_are_short : (trace : List Step) → length (flat_map step trace) ≤ 41 * length trace
steps_are_short [] = omega arith
steps_are_short (s ∷ trace) =
    omega (arith, length-append (step s) (flat_map step trace), step_is_short s, steps_are_short trace)
