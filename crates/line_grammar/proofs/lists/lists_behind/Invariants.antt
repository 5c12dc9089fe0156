use Rattle.std.proofs.Common.{◌≡◌, length}
use Rattle.line_grammar.specs.NameLists.{two_lists_behind}
use Rattle.line_grammar.proofs.lists.lists_behind.Given as goal

-- the names so far and what is to come are all
abbrev pub invariant-loop-rest : goal.invariant-loop-rest
invariant-loop-rest l = two_lists_behind l.names.items l.rest ≡ two_lists_behind l.fn.before.items l.line

-- each takes a byte at least
abbrev pub decreases-loop-rest : goal.decreases-loop-rest
decreases-loop-rest l = length l.rest
