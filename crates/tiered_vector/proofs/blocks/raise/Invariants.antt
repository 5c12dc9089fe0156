-- Those passed are one higher, and the others are as they were.
use Rattle.std.proofs.Common.{◌≡◌, ◌+◌, ◌++◌, map, take, drop}
use Rattle.tiered_vector.proofs.blocks.raise.Given as goal

abbrev pub invariant-loop-start : goal.invariant-loop-start
invariant-loop-start l =
    l.start-items ≡ map (λ n. n + 1) (take l.start-index l.initial.start-items) ++ drop l.start-index l.initial.start-items
