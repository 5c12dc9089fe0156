use Rattle.std.specs.List.{insert}
use Rattle.std.specs.List.Sorted.{IsStrictlyIncreasing}
use Rattle.component_registry.proofs.OwnerLists.{free_place, Contains-insert, ascending_in_place}
use Rattle.component_registry.proofs.holding.Holding.add_owner.Goals as goal

-- the search gave the owner's place
in_place : (c : goal.In_ok-insert-in-Err) → IsStrictlyIncreasing (insert c.self.inside.owners.items c.in-Err.place c.args.id)
in_place c =
    let answer = rw c.as_slice.ensures at c.in-Err.ensures.position in
    ascending_in_place _ _ _ c.self.invariant (free_place c.self.inside.owners.items c.args.id c.in-Err.place c.self.invariant answer)

pub invariant_of-self : goal.invariant_of-self
invariant_of-self c = rw c.in_ok-insert-in-Err.ensures.ok (in_place c)

pub returns-clause-ascending : goal.returns-clause-ascending
returns-clause-ascending c = rw c.in_ok-insert-in-Err.ensures.ok (in_place c)

-- the list has the owner and what it had
pub returns-clause-owners : goal.returns-clause-owners
returns-clause-owners c = λ x.
    rw (c.in_ok-insert-in-Err.ensures.ok, ← c.self.view_is) (Contains-insert c.self.inside.owners.items c.args.id c.in-Err.place x)
