use Rattle.std.proofs.Common.{rules, ◌≡◌, sym, subst}
use Rattle.grid_base.specs.Crossing.{Cross}
use Rattle.hook_chain.specs.Mending.{MendsCrossing}
use Rattle.realm_drawing.specs.Found.{NoLink, SomeLink}
use Rattle.chain_laws.proofs.Elements.{Any-weaker}
use Rattle.realm_drawing.proofs.ChainSearches.{IsSearching, search_begins, search_goes_on, search_found}
use Rattle.realm_drawing.proofs.violations.crossing_of.Goals as goal

pub loop-placed-init : goal.loop-placed-init
loop-placed-init c =
    let whole : c.into_iter-placed-iterator.result ≡ c.placed-placed-items.result = search rules in
    rw whole
    (search_begins (NoLink (Cross c.args.t.now)) c.args.originals.now c.placed-placed-items.result
    c.placed-placed-items.ensures.chains)

-- a link of the chain of an original
pub returns-in-Some-crossing_along : goal.returns-in-Some-crossing_along
returns-in-Some-crossing_along c =
    let P = NoLink (Cross c.args.t.now) in
    let q = c.in-Some.placed.now in
    let Mends = SomeLink (λ u. MendsCrossing c.args.t.now u c.in-Some-crossing_along.step) in
    let before = subst (IsSearching P c.args.originals.now) c.in-Some.ensures.steps c.loop-placed.invariant in
    let some = search_found P c.args.originals.now q c.next.new.self before in
    let found = rw c.points.ensures at c.in-Some-crossing_along.ensures in
    Any-weaker (λ o. o.chain ≡ q.chain) (λ o. Mends o.chain) (λ o is. subst Mends (sym is) found) c.args.originals.now some

-- a chain without one
pub loop-placed-preserved : goal.loop-placed-preserved
loop-placed-preserved c =
    let P = NoLink (Cross c.args.t.now) in
    let before = subst (IsSearching P c.args.originals.now) c.in-Some.ensures.steps c.loop-placed.invariant in
    let here = rw c.points.ensures at c.in_default.ensures in
    search_goes_on P c.args.originals.now c.in-Some.placed.now c.next.new.self before here
