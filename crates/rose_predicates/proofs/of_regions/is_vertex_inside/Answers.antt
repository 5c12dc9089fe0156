use Rattle.rose_predicates.proofs.Truths.{first_held, never, not_held}
use Rattle.rose_predicates.proofs.of_regions.is_vertex_inside.Goals as goal

-- an end is common
pub returns-then-touching : goal.returns-then-touching
returns-then-touching c = never (λ both. both.1 (c.in_ok-touching.ensures.0 c.if-touching.true))

-- none is
pub returns : goal.returns
returns c = first_held (not_held c.in_ok-touching.ensures c.if-touching.false) c.in_ok-is_inside.ensures
