use Rattle.std.proofs.Common.{refl, true≢false, sym}
use Rattle.hook_chain.specs.Ids.{IsChainAmong}
use Rattle.realm_drawing.proofs.ById.{none_found, some_found, found_not_lacking}
use Rattle.realm_drawing.proofs.originals.Originals.chain.Goals as goal

-- what the map has under the id is the one original with it
found : (c : goal.After-points) → IsChainAmong c.args.self.now c.args.id c.in-Some.placed.now.chain
found c = rw (← c.self.view_is)
    (some_found c.args.id c.self.inside.by_id.entries c.in-Some.placed.now c.self.invariant (sym c.in-Some.ensures.value))

pub returns-in-Some-clause-none : goal.returns-in-Some-clause-none
returns-in-Some-clause-none c = (
  λ no. absurd (true≢false no),
  λ lacks. absurd (found_not_lacking c.args.self.now c.args.id _ (found c) lacks),
)

pub returns-in-Some-clause-chain : goal.returns-in-Some-clause-chain
returns-in-Some-clause-chain c = rw c.points.ensures (found c)

-- where it has nothing none has the id
pub returns-in-None-clause-none : goal.returns-in-None-clause-none
returns-in-None-clause-none c = rw (← c.self.view_is)
    (λ none. none_found c.args.id c.self.inside.by_id.entries (sym c.in-None.ensures.value), λ lacks. refl)
