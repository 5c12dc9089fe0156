use Rattle.std.proofs.Common.{◌+◌, ◌++◌, List, ℕ, arith, ap, take, drop, remove, ◌∙◌}
use Rattle.plane_cells.proofs.Runs.{one_out}
use Rattle.plane_cells.proofs.splice.take_run.Goals as goal

-- the first that is left of the run goes next
pub loop-preserved : goal.loop-preserved
loop-preserved c =
    let l = c.args.list.now in
    let at = c.loop.counter in (
      omega (arith, c.loop.invariant.0),
      c.remove.ensures.rest ∙ ap (λ (m : List ℕ). remove m c.args.lo) c.loop.invariant.1
          ∙ one_out l c.args.lo at c.loop.invariant.0 (omega (arith, c.loop-test.true, c.requires.within)),
    )
