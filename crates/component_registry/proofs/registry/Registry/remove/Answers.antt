use Rattle.std.proofs.Common.{arith}
use Rattle.component_registry.proofs.Uses.{times_end-1}
use Rattle.component_registry.proofs.registry.Registry.remove.Goals as goal

-- before, both ends of the piece were used
pub count_down-requires : goal.count_down-requires
count_down-requires c = record {
  used = λ p end.
      let once = times_end-1 p c.args.piece.now end in
      omega (arith, c.if-not-remove.ensures.removed.uses p, c.self.invariant.counted p);
}

-- and now once less
pub invariant_of-self-2 : goal.invariant_of-self-2
invariant_of-self-2 c = record {
  sound = c.remove.ensures.sound;
  counted = λ p. omega (arith, c.if-not-remove.ensures.removed.uses p, c.count_down.ensures.fewer p, c.self.invariant.counted p);
  no_zero = c.count_down.ensures.no_zero c.self.invariant.no_zero;
  bounded = λ p. omega (arith, c.if-not-remove.ensures.removed.uses p, c.self.invariant.bounded p);
}
