use Rattle.std.proofs.Common.{slice_index}
use Rattle.r_faces.specs.Rounds.{IsRound}
use Rattle.r_faces.proofs.FaceBounds.{one_more_round}
use Rattle.r_faces.proofs.bounds.cycles_of.Goals as goal

-- the cycle of one key more
pub loop-k-preserved : goal.loop-k-preserved
loop-k-preserved c =
    let more = one_more_round (λ k t. IsRound c.args.rim.now c.args.classes.now (slice_index c.args.keys.now k) t) c.loop-k.cycles.items
    c.push.new.self.items c.in_ok-cycle_of.field-0 c.loop-k.k c.in_ok-push.ensures.items c.loop-k.invariant.length_is
    c.in_ok-cycle_of.ensures c.loop-k.invariant.rounds in
    record { length_is = more.0; rounds = more.1 }
