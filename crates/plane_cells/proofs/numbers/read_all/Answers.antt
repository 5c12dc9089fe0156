use Rattle.std.proofs.Common.{arith, ◌≡◌, refl, subst, ℕ, length, slice_index}
use Rattle.plane_cells.proofs.Pushed.{EachAt, one_more_at}
use Rattle.plane_cells.proofs.numbers.read_all.Goals as goal

-- the number of one more label
pub loop-k-preserved : goal.loop-k-preserved
loop-k-preserved c =
    let k = c.loop-k.k in
    let list = c.args.list.now in
    let labels = c.args.labels.now in
    one_more_at (λ k n. n ≡ slice_index labels (slice_index list k)) 0 k c.loop-k.numbers.items c.push.new.self.items
    (slice_index labels (slice_index list k))
    c.loop-k.invariant c.in_ok-push.ensures.items refl

pub returns : goal.returns
returns c =
    let all : c.loop-k.k ≡ length c.args.list.now = omega (arith, c.loop-k-test.false, c.loop-k.auto.k-end) in
    let h = subst (λ (m : ℕ). EachAt (λ k n. n ≡ slice_index c.args.labels.now (slice_index c.args.list.now k)) 0 m c.loop-k.numbers.items)
    all c.loop-k.invariant in
    record { one_each = h.count; each = h.each }
