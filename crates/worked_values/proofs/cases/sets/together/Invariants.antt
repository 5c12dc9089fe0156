use Rattle.std.proofs.Common.{◌≡◌, take}
use Rattle.rose_sets.specs.Sums.{all_segments}
use Rattle.worked_values.proofs.cases.sets.together.Given as goal

-- the segments of the values so far
abbrev pub invariant-loop-g : goal.invariant-loop-g
invariant-loop-g l = l.all.items ≡ all_segments (take l.g-index l.list)
