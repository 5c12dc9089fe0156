use Rattle.std.proofs.Common.{rules, ◌≡◌, All, Contains, sym, subst}
use Rattle.grid_base.specs.Crossing.{Inside}
use Rattle.chain_laws.proofs.Elements.{Any-weaker}
use Rattle.realm_drawing.proofs.ChainSearches.{IsSearching, search_begins, search_goes_on, search_found}
use Rattle.realm_drawing.proofs.violations.vertex_inside.Goals as goal

pub loop-placed-init : goal.loop-placed-init
loop-placed-init c =
    let whole : c.into_iter-placed-iterator.result ≡ c.placed-placed-items.result = search rules in
    rw whole
    (search_begins (All (λ p. Inside p c.args.t.now → ⊥)) c.args.originals.now c.placed-placed-items.result
    c.placed-placed-items.ensures.chains)

-- a vertex of the chain of an original
pub returns-in-Some-vertex_along : goal.returns-in-Some-vertex_along
returns-in-Some-vertex_along c =
    let P = All (λ p. Inside p c.args.t.now → ⊥) in
    let q = c.in-Some.placed.now in
    let p = c.in-Some-vertex_along.p in
    let before = subst (IsSearching P c.args.originals.now) c.in-Some.ensures.steps c.loop-placed.invariant in
    let some = search_found P c.args.originals.now q c.next.new.self before in
    let found = rw c.points.ensures at c.in-Some-vertex_along.ensures in (
      found.1,
      Any-weaker (λ o. o.chain ≡ q.chain) (λ o. Contains o.chain p)
          (λ o is. subst (λ chain. Contains chain p) (sym is) found.0) c.args.originals.now some,
    )

-- a chain without one
pub loop-placed-preserved : goal.loop-placed-preserved
loop-placed-preserved c =
    let P = All (λ p. Inside p c.args.t.now → ⊥) in
    let before = subst (IsSearching P c.args.originals.now) c.in-Some.ensures.steps c.loop-placed.invariant in
    let here = rw c.points.ensures at c.in_default.ensures in
    search_goes_on P c.args.originals.now c.in-Some.placed.now c.next.new.self before here
