use Rattle.std.proofs.Common.{[], ◌∷◌, ◌++◌, refl}
use Rattle.realm_audit.specs.declared.item.Item.TheVariants as items
use Rattle.realm_insert.specs.Snapshots.{state_of}
use Rattle.certificate_law.specs.Certificates.{entries_of, opening_items}
use Rattle.rose_shell.proofs.GivenItems.{gave_none, gave_then, gave_no_more, gave_err}
use Rattle.rose_shell.proofs.GivenChanges.{records_lead, some_changes, lead_from, changes_from}
use Rattle.rose_shell.proofs.certifying.give_certificate.Goals as goal

-- a fault comes within the opening, and no change is told
pub returns-in_err-give_opening : goal.returns-in_err-give_opening
returns-in_err-give_opening g c =
    let base = c.args.started.journal.base in
    let records = c.args.started.journal.records in
    let end = c.args.started.store.kept.state in
    let (changes, are) = some_changes (state_of base) end (entries_of records) (records_lead (state_of base) end records c.requires.leads) in (
      opening_items base ++ (changes ++ items.End ∷ []),
      (changes, are, refl),
      gave_err c.from_residual.result c.from_residual.ensures.1 (gave_no_more (changes ++ items.End ∷ []) c.in_err-give_opening.ensures),
    )

-- memory runs out before the first change
pub returns-in_err-engine : goal.returns-in_err-engine
returns-in_err-engine g c =
    let base = c.args.started.journal.base in
    let records = c.args.started.journal.records in
    let end = c.args.started.store.kept.state in
    let (changes, are) = some_changes (state_of base) end (entries_of records) (records_lead (state_of base) end records c.requires.leads) in
    let opening = c.in_ok-give_opening.ensures in (
      opening_items base ++ (changes ++ items.End ∷ []),
      (changes, are, refl),
      gave_err c.from_residual-in_err-engine.result c.from_residual-in_err-engine.ensures.1
          (gave_then opening (gave_none (changes ++ items.End ∷ []) opening.intact)),
    )

-- the engine leads on from the opening
pub give_behind-requires-clause-leads : goal.give_behind-requires-clause-leads
give_behind-requires-clause-leads g c κs within =
    let base = c.args.started.journal.base in
    let records = c.args.started.journal.records in
    let end = c.args.started.store.kept.state in (
      end,
      lead_from records end c.in_ok-engine.ensures.made.1 (records_lead (state_of base) end records c.requires.leads),
    )

-- and the changes are told behind it
pub returns : goal.returns
returns g c =
    let base = c.args.started.journal.base in
    let records = c.args.started.journal.records in
    let end = c.args.started.store.kept.state in
    let at = c.in_ok-engine.ensures.made.1 in
    let lead = lead_from records end at (records_lead (state_of base) end records c.requires.leads) in
    let (changes, are, gave) = c.give_behind.ensures end lead in (
      opening_items base ++ (changes ++ items.End ∷ []),
      (changes, changes_from records end changes at are, refl),
      gave_then c.in_ok-give_opening.ensures gave,
    )
