use Rattle.std.proofs.Common.{[], ◌∷◌, ◌∙◌}
use Rattle.rose_shell.proofs.GivenItems.{gave_none, gave_line, gave_err}
use Rattle.rose_shell.proofs.items.give_item.Goals as goal

-- memory runs out before its line is made
pub returns-in_err-line : goal.returns-in_err-line
returns-in_err-line g c =
    gave_err c.from_residual.result c.from_residual.ensures.1 (gave_none (c.args.item.now ∷ []) c.requires.intact)

-- or the line is given, or begun
pub returns : goal.returns
returns g c =
    let gave = c.give_all.ensures in
    gave_line c.args.item.now c.give_all.result c.requires.line (c.bytes.ensures ∙ c.in_ok-line.ensures.line) gave.sink gave.caused
    gave.intact gave.told gave.goes_on
