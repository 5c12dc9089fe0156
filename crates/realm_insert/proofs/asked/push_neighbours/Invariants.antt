use Rattle.std.proofs.Common.{◌≡◌, ◌++◌, take}
use Rattle.realm_insert.specs.Lines.{neighbours}
use Rattle.realm_insert.proofs.asked.push_neighbours.Given as goal

-- the neighbours among the places so far are listed
abbrev pub invariant-loop-i : goal.invariant-loop-i
invariant-loop-i l = l.list.items ≡ l.fn.list.items ++ neighbours (take l.i l.path)
