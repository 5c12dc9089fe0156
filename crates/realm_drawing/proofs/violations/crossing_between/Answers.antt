use Rattle.std.proofs.Common.{◌↔◌, Option, Some, None, MatchOption, IsNone, IfSome, refl}
use Rattle.grid_base.specs.Segment.{GridSegment}
use Rattle.grid_base.specs.Crossing.{Cross}
use Rattle.grid_base.specs.declared.kinds.Step.{Step}
use Rattle.hook_chain.specs.Mending.{MendsCrossing}
use Rattle.realm_drawing.proofs.LinkSearches.{found_between}
use Rattle.realm_drawing.proofs.violations.crossing_between.Goals as goal

-- the two cases of the answer
either : (t u : GridSegment) (r : Option Step) → IsNone r ↔ (Cross t u → ⊥) → IfSome r (MendsCrossing t u)
    → MatchOption r (Cross t u → ⊥) (MendsCrossing t u)
either t u None apart mends = apart.0 refl
either t u (Some step) apart mends = mends

-- the segment that was made is the one between the points
pub returns : goal.returns
returns c =
    let t = c.args.t.now in
    let u = c.in_ok-u.u in
    let step = c.crossing_step.result in
    found_between (Cross t) (λ step u. MendsCrossing t u step) c.args.v.now c.args.w.now u step
    c.in_ok-u.ensures.none c.in_ok-u.ensures.ends
    (either t u step c.crossing_step.ensures.apart c.crossing_step.ensures.mends)
