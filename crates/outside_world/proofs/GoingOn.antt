-- This file shows how what holds over any calls goes on.
use Rattle.std.proofs.Common.{arith}
use Rattle.outside_world.specs.declared.world.Outside.{Ghosts}
use Rattle.outside_world.specs.GoesOn.{GoesOn}

module _ {World : Type 0} {outside : Ghosts World} where
  pub goes_on_none : {w : World} → GoesOn outside w w
  goes_on_none = record {
    source_faults = omega arith;
    sink_faults = omega arith;
    disk_faults = omega arith;
    tells = λ t. t;
  }

  pub goes_on_then : {old mid new : World} → GoesOn outside old mid → GoesOn outside mid new → GoesOn outside old new
  goes_on_then first second = record {
    source_faults = omega (arith, first.source_faults, second.source_faults);
    sink_faults = omega (arith, first.sink_faults, second.sink_faults);
    disk_faults = omega (arith, first.disk_faults, second.disk_faults);
    tells = λ t. first.tells (second.tells t);
  }
