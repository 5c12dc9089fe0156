use Rattle.std.proofs.Common.{◌≡◌, ◌++◌, reverse, length}
use Rattle.hook_chain.proofs.hulls.join.Given as goal

-- the points pushed and those left make up the list
abbrev pub invariant-loop-p : goal.invariant-loop-p
invariant-loop-p l = l.to.items ++ reverse l.from.items ≡ l.initial.to.items ++ reverse l.initial.from.items

abbrev pub decreases-loop-p : goal.decreases-loop-p
decreases-loop-p l = length l.from.items
