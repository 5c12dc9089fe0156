use Rattle.std.proofs.Common.{arith, ◌≡◌, refl, subst, ℕ, ◌+◌, length, slice_index}
use Rattle.plane_cells.specs.OtherNumbers.{HasNumber}
use Rattle.plane_cells.proofs.Pushed.{EachAt, one_more_at}
use Rattle.plane_cells.proofs.numbers.side_numbers.Goals as goal

-- the numbers of one more segment
pub loop-i-preserved : goal.loop-i-preserved
loop-i-preserved c =
    let i = c.loop-i.i in
    let right = c.args.right.now in
    let labels = c.args.labels.now in
    one_more_at (HasNumber labels right) (record { left = 0; right = 0 }) i c.loop-i.sides.items c.push.new.self.items
    (record { left = slice_index labels (i + 1); right = slice_index labels (slice_index right i) }) c.loop-i.invariant
    c.in_ok-push.ensures.items
    (record { over = refl; under = refl })

pub returns : goal.returns
returns c =
    let all : c.loop-i.i ≡ length c.args.right.now = omega (arith, c.loop-i-test.false, c.loop-i.auto.i-end) in
    let h = subst (λ (m : ℕ). EachAt (HasNumber c.args.labels.now c.args.right.now) (record { left = 0; right = 0 }) m c.loop-i.sides.items)
    all c.loop-i.invariant in
    record { one_each = h.count; each = h.each }
