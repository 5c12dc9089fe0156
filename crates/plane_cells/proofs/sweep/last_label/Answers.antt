use Rattle.std.proofs.Common.{arith, ap, ◌∙◌, ◌≡◌, ◌+◌, ◌-◌, ◌<◌, ℕ, length, get_or}
use Rattle.plane_cells.proofs.Parts.{read_zero}
use Rattle.plane_cells.proofs.Rights.{label_last}
use Rattle.plane_cells.proofs.sweep.last_label.Goals as goal

-- the label over the last of the list is one more than its number
pub returns-else-count-eq0 : goal.returns-else-count-eq0
returns-else-count-eq0 c =
    let fan = c.args.fan.now in
    let x = c.index.result.now in
    let some : 0 < length fan = omega (arith, c.if-count-eq0.false, c.len-count.ensures) in
    let last : c.len-count.result - 1 ≡ length fan - 1 = omega (arith, c.len-count.ensures) in
    let read : x ≡ get_or fan (length fan - 1) x = c.index.ensures ∙ ap (λ (j : ℕ). get_or fan j x) last in
    ap (λ (n : ℕ). n + 1) (read_zero fan (length fan - 1) x (omega (arith, some)) read) ∙ label_last fan c.args.under some
