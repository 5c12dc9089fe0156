use Rattle.std.proofs.Common.{arith}
use Rattle.std.proofs.lemmas.Bool.{false≢true}
use Rattle.rose_measure.proofs.Sights.{last_trimmed, trimmed_further}
use Rattle.rose_measure.proofs.narrowing.to_last.Goals as goal

-- the last element may go
pub loop-item-preserved : goal.loop-item-preserved
loop-item-preserved g c =
    let bounds = c.args.bounds.now in
    record {
      shorter = omega (arith, c.loop-item.invariant.shorter, c.in-Some.ensures.cases.1);
      trimmed = trimmed_further bounds.low bounds.high _ _ _ c.loop-item.invariant.trimmed
          (last_trimmed g.T.Placed.place_at bounds.low bounds.high _ _ _ c.in-Some.ensures.cases.0
          (λ has. false≢true (c.if-has_end.ensures.1 has)));
    }
