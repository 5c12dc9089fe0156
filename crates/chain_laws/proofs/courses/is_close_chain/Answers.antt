use Rattle.std.proofs.Common.{refl, arith}
use Rattle.chain_laws.proofs.CloseChains.{nothing_left}
use Rattle.chain_laws.proofs.courses.is_close_chain.Goals as goal

-- no link begins at the last point
pub loop-place-init : goal.loop-place-init
loop-place-init c =
    let o = c.args.o.now in
    let points = c.args.points.now in
    record {
      within = omega arith;
      from_here = (λ h. nothing_left o points _ (omega arith), λ chain. refl);
      from_next = (λ h. nothing_left o points _ (omega arith), λ chain. refl);
    }
