use Rattle.std.proofs.Common.{rules, ◌≡◌, ◌+◌, ◌*◌}
use Rattle.side_parity.specs.Middle.{middle}
use Rattle.side_parity.proofs.Answered.{over_from}
use Rattle.side_parity.proofs.Numbers.{leftward, rightward}
use Rattle.side_parity.proofs.both.is_over_middle.Goals as goal

-- the sums are those of the side number of the middle, and the tests those of the half-open range
pub returns-clause-over : goal.returns-clause-over
returns-clause-over c =
    let t = c.args.t.now in
    let s = c.args.s.now in
    let l : c.product.result * 2 + c.product-2.result + c.product-3.result ≡ leftward t (middle s) = cc in
    let r : c.product-4.result * 2 + c.product-5.result + c.product-6.result ≡ rightward t (middle s) = cc in
    over_from t s c.all_three.result _ _ (search rules) l r
