use Rattle.std.proofs.Common.{◌≡◌, ◌∷◌, [], length}
use Rattle.line_grammar.specs.Listing.{items_at}
use Rattle.line_grammar.proofs.rests.lists_from.Given as goal

-- the lists so far and the items to come are all
abbrev pub invariant-loop-rest : goal.invariant-loop-rest
invariant-loop-rest l = items_at (l.before.items, l.last.items) l.rest ≡ items_at ([], l.fn.first ∷ []) l.line

-- each takes a byte at least
abbrev pub decreases-loop-rest : goal.decreases-loop-rest
decreases-loop-rest l = length l.rest
