use Rattle.std.proofs.Common.{◌-◌}
use Rattle.plane_cells.specs.Scan.{IsUnderBegin}
use Rattle.plane_cells.specs.Numbered.{numbered}
use Rattle.plane_cells.proofs.Parts.{IsSplit}
use Rattle.plane_cells.proofs.status.count_under.Given as goal

abbrev pub invariant-loop-from : goal.invariant-loop-from
invariant-loop-from l = IsSplit (λ i. IsUnderBegin (numbered l.border i) l.t) l.status l.from l.to

abbrev pub decreases-loop-from : goal.decreases-loop-from
decreases-loop-from l = l.to - l.from
