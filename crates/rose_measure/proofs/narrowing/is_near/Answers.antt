use Rattle.std.proofs.Common.{◌+◌, ◌-◌, ◌*◌, ◌≤◌, arith}
use Rattle.rose_measure.proofs.Sights.{near_in_sight}
use Rattle.rose_measure.proofs.narrowing.is_near.Goals as goal

-- what is in sight reaches no farther than what was found
pub returns : goal.returns
returns c told =
    let shown : 2 * (c.squared.result + c.args.sight.now.far) - c.off_opposite.result ≤ c.args.found = grind (arith, told) in
    near_in_sight c.args.sight.now c.args.p.now c.squared.result c.off_opposite.result c.args.found c.squared.ensures.distance
    c.off_opposite.ensures shown
