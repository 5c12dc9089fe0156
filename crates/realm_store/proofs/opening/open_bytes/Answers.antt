use Rattle.std.proofs.Common.{ap, refl, arith}
use Rattle.realm_store.specs.Keeping.{Kept}
use Rattle.realm_store.proofs.Openings.{row_remade, row_cut_off, held_texts, held_lead, row_leads, row_is_bad}
use Rattle.realm_store.proofs.opening.open_bytes.Goals as goal

-- there are no more records than bytes
pub overflow_add-result : goal.overflow_add-result
overflow_add-result g c =
    let row = row_cut_off c.args.engine.state c.args.bytes.items c.deref.result.now c.in-Bad.count c.remake_row.new.engine
    c.in_ok-end.field-0 c.in_ok-end.ensures c.in-Bad.is c.deref.ensures.value in
    omega (arith, row.within, c.args.bytes.ok, c.args.bytes.small)

-- a record leads nowhere, or none stands at an open gate
pub returns-in-Bad-clause-row : goal.returns-in-Bad-clause-row
returns-in-Bad-clause-row g c = λ file short are within.
    let row = row_cut_off c.args.engine.state c.args.bytes.items c.deref.result.now c.in-Bad.count c.remake_row.new.engine
    c.in_ok-end.field-0 c.in_ok-end.ensures c.in-Bad.is c.deref.ensures.value in
    row_is_bad row are refl

-- or all records lead on: each has a text,
pub returns-in-Closed-clause-with_text : goal.returns-in-Closed-clause-with_text
returns-in-Closed-clause-with_text g c =
    let row = row_remade c.args.engine.state c.args.bytes.items c.deref.result.now c.in-Closed.end c.remake_row.new.engine
    c.in_ok-end.field-0 c.in_ok-end.ensures c.in-Closed.is c.deref.ensures.value in
    held_texts row c.new.ensures

-- they lead on wherever they stand,
pub returns-in-Closed-clause-leads : goal.returns-in-Closed-clause-leads
returns-in-Closed-clause-leads g c =
    let row = row_remade c.args.engine.state c.args.bytes.items c.deref.result.now c.in-Closed.end c.remake_row.new.engine
    c.in_ok-end.field-0 c.in_ok-end.ensures c.in-Closed.is c.deref.ensures.value in
    held_lead row c.new.ensures (ap (λ (k : Kept). k.state) c.of.ensures.kept)

-- and so they do in the file
pub returns-in-Closed-clause-row : goal.returns-in-Closed-clause-row
returns-in-Closed-clause-row g c = λ file short are within.
    let row = row_remade c.args.engine.state c.args.bytes.items c.deref.result.now c.in-Closed.end c.remake_row.new.engine
    c.in_ok-end.field-0 c.in_ok-end.ensures c.in-Closed.is c.deref.ensures.value in
    row_leads row c.new.ensures short are within c.saturating_add.ensures
    (omega (arith, c.len.ensures, c.args.bytes.ok)) refl c.of.ensures.kept refl
