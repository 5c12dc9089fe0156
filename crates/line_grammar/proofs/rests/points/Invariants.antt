use Rattle.std.proofs.Common.{◌≡◌, [], length}
use Rattle.line_grammar.specs.Reading.{points_at}
use Rattle.line_grammar.proofs.rests.points.Given as goal

-- the places so far and those to come are all
abbrev pub invariant-loop-rest : goal.invariant-loop-rest
invariant-loop-rest l = points_at l.places.items l.rest ≡ points_at [] l.line

-- each takes a byte at least
abbrev pub decreases-loop-rest : goal.decreases-loop-rest
decreases-loop-rest l = length l.rest
