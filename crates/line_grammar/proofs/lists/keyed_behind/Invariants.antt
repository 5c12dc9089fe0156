use Rattle.std.proofs.Common.{◌≡◌, length}
use Rattle.line_grammar.specs.NameLists.{keyed_at}
use Rattle.line_grammar.proofs.lists.keyed_behind.Given as goal

-- the names with keys so far and those to come are all
abbrev pub invariant-loop-rest : goal.invariant-loop-rest
invariant-loop-rest l = keyed_at l.names.items l.rest ≡ keyed_at l.fn.before.items l.line

-- each takes a byte at least
abbrev pub decreases-loop-rest : goal.decreases-loop-rest
decreases-loop-rest l = length l.rest
