use Rattle.std.proofs.Common.{◌≡◌, take}
use Rattle.std.specs.List.{flat_map}
use Rattle.realm_insert.specs.Lines.{neighbours_round}
use Rattle.realm_insert.proofs.asked.ends_round.Given as goal

-- the neighbours round the cycles so far are listed
abbrev pub invariant-loop-cycle : goal.invariant-loop-cycle
invariant-loop-cycle l = l.list.items ≡ flat_map neighbours_round (take l.cycle-index l.cycles)
