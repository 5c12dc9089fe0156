use Rattle.std.proofs.Common.{◌≡◌, ◌≤◌, ◌++◌, take, drop}
use Rattle.plane_cells.proofs.splice.take_run.Given as goal

-- the run is out up to the counter
abbrev pub invariant-loop : goal.invariant-loop
invariant-loop l = (l.lo ≤ l.counter) × (l.list ≡ take l.lo l.initial.list ++ drop l.counter l.initial.list)
