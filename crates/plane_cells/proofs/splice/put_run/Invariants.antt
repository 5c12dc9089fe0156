use Rattle.std.proofs.Common.{◌≡◌, ◌++◌, take, drop}
use Rattle.plane_cells.proofs.splice.put_run.Given as goal

-- those from number k on are in
abbrev pub invariant-loop-k : goal.invariant-loop-k
invariant-loop-k l = l.list ≡ take l.lo l.initial.list ++ (drop l.k l.new ++ drop l.lo l.initial.list)
