use Rattle.std.proofs.Common.{◌+◌, ◌<◌, ◌^◌, arith}
use Rattle.std.proofs.lemmas.Bool.Decides.{nat_tests}
use Rattle.component_registry.proofs.EndCounts.{same_uses, no_zero_kept}
use Rattle.component_registry.proofs.Uses.{times_end-le_1}
use Rattle.component_registry.proofs.registry.Registry.add.Goals as goal

-- no point is used more often than an owner was added
pub count_up-requires : goal.count_up-requires
count_up-requires c = record {
  room = c.in_ok-make_room.ensures.room;
  fits = λ p.
      let same = same_uses c.self.inside.ends c.make_room.new.ends c.make_room.ensures.same p in
      let fits : c.self.inside.added + 1 < 2 ^ 64 = grind (arith, nat_tests, c.if-self.false, c.self.ranges) in
      omega (arith, same, c.self.invariant.counted p, c.self.invariant.bounded p, fits);
}

-- both ends of the piece are used once more, and so they are counted
pub invariant_of-self-2 : goal.invariant_of-self-2
invariant_of-self-2 c =
    let same = same_uses c.self.inside.ends c.make_room.new.ends c.make_room.ensures.same in
    let more = c.in_ok-key.ensures.ok.uses in record {
      sound = c.add.ensures.sound;
      counted = λ p. omega (arith, c.count_up.ensures.more p, same p, c.self.invariant.counted p, more p);
      no_zero = c.count_up.ensures.no_zero
          (no_zero_kept c.self.inside.ends c.make_room.new.ends c.make_room.ensures.same c.self.invariant.no_zero);
      bounded = λ p. omega (arith, c.self.invariant.bounded p, more p, times_end-le_1 p c.args.piece);
    }
