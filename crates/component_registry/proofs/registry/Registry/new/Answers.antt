use Rattle.std.proofs.Common.{◌∙◌, sym, ap, arith}
use Rattle.std.specs.Map.{lookup}
use Rattle.std.proofs.lemmas.Option.{none-some}
use Rattle.grid_base.specs.Point.{is_point}
use Rattle.component_registry.proofs.Uses.{sound_empty, uses_of-empty}
use Rattle.component_registry.proofs.registry.Registry.new.Goals as goal

-- there are no pieces, and no point is used
pub invariant_of-result : goal.invariant_of-result
invariant_of-result c = rw c.new.ensures.empty (record {
  sound = sound_empty;
  counted = λ p. rw c.empty.ensures (sym (uses_of-empty p));
  no_zero = λ p n at. absurd (none-some n (sym (ap (lookup (is_point p)) c.empty.ensures) ∙ at));
  bounded = λ p. rw (uses_of-empty p) (omega arith);
})

pub returns-clause-sound : goal.returns-clause-sound
returns-clause-sound c = rw c.new.ensures.empty sound_empty
