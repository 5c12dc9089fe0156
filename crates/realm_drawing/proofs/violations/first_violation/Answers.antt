use Rattle.std.proofs.Common.{rules, ◌≡◌, true≢false, sym, subst}
use Rattle.grid_base.specs.Drawing.{HasViolation}
use Rattle.hook_chain.specs.Mending.{IsPermitted}
use Rattle.realm_drawing.specs.Found.{drawing_of, NoLink, IsViolated}
use Rattle.realm_drawing.proofs.FoundSteps.{found_step}
use Rattle.realm_drawing.proofs.ChainSearches.{IsSearching, search_begins, search_goes_on, search_found}
use Rattle.realm_drawing.proofs.violations.first_violation.Goals as goal

pub loop-placed-init : goal.loop-placed-init
loop-placed-init c =
    let d = drawing_of c.args.explicit.now c.args.originals.now in
    let whole : c.into_iter-placed-iterator.result ≡ c.placed-placed-items.result = search rules in
    rw whole
    (search_begins (NoLink (IsViolated d)) c.args.originals.now c.placed-placed-items.result c.placed-placed-items.ensures.chains)

-- the step was found at a link of the chain of an original
found : (c : goal.In-Some-violation_along)
    → HasViolation (drawing_of c.args.explicit.now c.args.originals.now)
    × IsPermitted (drawing_of c.args.explicit.now c.args.originals.now) c.in-Some-violation_along.step
found c =
    let d = drawing_of c.args.explicit.now c.args.originals.now in
    let P = NoLink (IsViolated d) in
    let before = subst (IsSearching P c.args.originals.now) c.in-Some.ensures.steps c.loop-placed.invariant in
    let (k, o, within, is, same) = search_found P c.args.originals.now c.in-Some.placed.now c.next.new.self before in
    let link = rw c.points.ensures at c.in-Some-violation_along.ensures in
    found_step d k o c.in-Some.placed.now.chain c.in-Some-violation_along.step within (sym is) (sym same) link

-- so there is a violation
pub returns-in-Some-violation_along-clause-none : goal.returns-in-Some-violation_along-clause-none
returns-in-Some-violation_along-clause-none c = (λ no. absurd (true≢false no), λ none. absurd (none (found c).0))

-- and the step may be taken
pub returns-in-Some-violation_along-clause-permitted : goal.returns-in-Some-violation_along-clause-permitted
returns-in-Some-violation_along-clause-permitted c = (found c).1

-- a chain without a violation
pub loop-placed-preserved : goal.loop-placed-preserved
loop-placed-preserved c =
    let P = NoLink (IsViolated (drawing_of c.args.explicit.now c.args.originals.now)) in
    let before = subst (IsSearching P c.args.originals.now) c.in-Some.ensures.steps c.loop-placed.invariant in
    let here = rw c.points.ensures at c.in_default.ensures in
    search_goes_on P c.args.originals.now c.in-Some.placed.now c.next.new.self before here
