use Rattle.std.proofs.Common.{arith}
use Rattle.value_geometry.specs.Links.{IsLast}
use Rattle.value_geometry.proofs.Cancelling.{cancelled, one_left, last_popped}
use Rattle.value_geometry.proofs.borders.odd_ones.Goals as goal
use Rattle.value_geometry.proofs.borders.odd_ones.Goals.{then-is_last, else-is_last+in_ok-push}

-- one more segment cancels the last one left, or is left itself
pub loop-s-preserved : goal.loop-s-preserved
loop-s-preserved c =
    let sorted = c.args.sorted.now in
    let left = c.loop-s.odd.items in
    let s = c.s-item.result in
    let i = c.loop-s.s-index in
    let within = c.loop-s-test.true in
    let is_last = rw c.deref.ensures.value at c.is_last.ensures in
    elim c.if-is_last.branch [
      | then-is_last w ↦
          let last : IsLast left s = is_last.0 w.if-is_last.true in
          let popped = last_popped left w.pop.new.self.items s w.pop.result c.loop-s.odd.len (omega arith)
          w.pop.ensures.items w.pop.ensures.value last in
          rw w.odd-is
          (cancelled sorted c.requires i s within c.s-item.is left w.pop.new.self.items popped c.loop-s.invariant)
      | else-is_last+in_ok-push w ↦
          let other : IsLast left s → ⊥ = λ last. cc (is_last.1 last, w.if-is_last.false) in
          rw (w.odd-is, w.in_ok-push.ensures.items)
          (one_left sorted c.requires i s within c.s-item.is left other c.loop-s.invariant)
    ]
