use Rattle.std.proofs.Common.{◌≡◌, ◌<◌, length, get_or}
use Rattle.component_registry.proofs.OwnerLists.{found_place, free_place, absent, Contains-remove, ascending_without}
use Rattle.component_registry.proofs.holding.Holding.drop_owner.Goals as goal

-- the search found the owner's place
found : (c : goal.After-remove)
    → (c.in-Ok.place < length c.self.inside.owners.items) × (get_or c.self.inside.owners.items c.in-Ok.place 0 ≡ c.args.id)
found c =
    let answer = rw c.as_slice.ensures at c.in-Ok.ensures.position in
    found_place c.self.inside.owners.items c.args.id c.in-Ok.place c.self.invariant answer

pub invariant_of-self : goal.invariant_of-self
invariant_of-self c = rw c.remove.ensures.items (ascending_without _ _ c.self.invariant (found c).0)

pub returns-in-Ok-clause-ascending : goal.returns-in-Ok-clause-ascending
returns-in-Ok-clause-ascending c = rw c.remove.ensures.items (ascending_without _ _ c.self.invariant (found c).0)

-- all others stay
pub returns-in-Ok-clause-owners : goal.returns-in-Ok-clause-owners
returns-in-Ok-clause-owners c = λ x.
    let others = Contains-remove c.self.inside.owners.items c.in-Ok.place x c.self.invariant (found c).0 in
    rw (c.remove.ensures.items, ← c.self.view_is, ← (found c).1) others

-- an owner that is there has no free place
pub returns-in-Err-clause-found : goal.returns-in-Err-clause-found
returns-in-Err-clause-found c = (
  λ h. cc,
  λ there.
      let answer = rw c.as_slice.ensures at c.in-Err.ensures.position in
      let place = free_place c.self.inside.owners.items c.args.id c.in-Err.field-0 c.self.invariant answer in
      absurd (absent _ _ _ place (rw (← c.self.view_is) at there)),
)
