use Rattle.std.proofs.Common.{arith, ap, ◌∙◌, ◌+◌, ◌-◌, ◌<◌, ℕ}
use Rattle.plane_cells.proofs.Parts.{label_taken, read_zero}
use Rattle.plane_cells.proofs.status.label.Goals as goal

-- the label over the last of the list is one more than its number
pub returns-else-count-eq0 : goal.returns-else-count-eq0
returns-else-count-eq0 c =
    let some : 0 < c.args.count = omega (arith, c.if-count-eq0.false) in
    ap (λ (n : ℕ). n + 1) (read_zero c.args.status.now (c.args.count - 1) c.index.result.now (omega (arith, some, c.requires.within))
    c.index.ensures) ∙ label_taken c.args.status.now c.args.count some c.requires.within
