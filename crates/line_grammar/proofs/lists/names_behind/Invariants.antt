use Rattle.std.proofs.Common.{◌≡◌, length}
use Rattle.line_grammar.specs.NameLists.{names_at}
use Rattle.line_grammar.proofs.lists.names_behind.Given as goal

-- the names so far and those to come are all
abbrev pub invariant-loop-rest : goal.invariant-loop-rest
invariant-loop-rest l = names_at l.names.items l.rest ≡ names_at l.fn.before.items l.line

-- each takes a byte at least
abbrev pub decreases-loop-rest : goal.decreases-loop-rest
decreases-loop-rest l = length l.rest
