use Rattle.std.proofs.Common.{[], ◌∷◌}
use Rattle.realm_audit.specs.declared.item.Item.TheVariants as items
use Rattle.rose_shell.proofs.GivenItems.{gave_then, gave_no_more, gave_err}
use Rattle.rose_shell.proofs.certifying.give_behind.Goals as goal

-- a fault comes within the changes, and the end isn't begun
pub returns-in_err-give_changes : goal.returns-in_err-give_changes
returns-in_err-give_changes g c = λ end lead.
    let changes = c.in_err-give_changes.ensures end lead in (
      changes.items,
      changes.are_items,
      gave_err c.from_residual.result c.from_residual.ensures.1 (gave_no_more (items.End ∷ []) changes.gave),
    )

pub give_item-requires-clause-intact : goal.give_item-requires-clause-intact
give_item-requires-clause-intact g c =
    (c.in_ok-give_changes.ensures c.requires.leads.0 c.requires.leads.1).gave.intact

-- or the end is given behind them, or begun
pub returns : goal.returns
returns g c = λ end lead.
    let changes = c.in_ok-give_changes.ensures end lead in
    (changes.items, changes.are_items, gave_then changes.gave c.give_item.ensures)
