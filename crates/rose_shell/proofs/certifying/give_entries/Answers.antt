use Rattle.std.proofs.Common.{[], ◌∷◌, ◌+◌, drop, ◌∙◌}
use Rattle.std.proofs.lemmas.List.{drop_all}
use Rattle.rose_shell.proofs.GivenChanges.{led_alone, leads_alone, underway_none, one_change, no_change, leads_these, underway_then}
use Rattle.rose_shell.proofs.GivenChanges.{underway_cut, reached_end, underway_over, changes_err, underway_at, underway_by}
use Rattle.rose_shell.proofs.GivenChanges.{next_left, next_taken}
use Rattle.rose_shell.proofs.certifying.give_entries.Goals as goal

pub loop-entry-init : goal.loop-entry-init
loop-entry-init g c = record { so_far = underway_none c.args.engine.now c.args.entries.now c.requires.ready c.requires.intact }

-- the next entry leads on
pub certify_entry-requires-clause-leads : goal.certify_entry-requires-clause-leads
certify_entry-requires-clause-leads g c κs within =
    let entries = c.args.entries.now in
    let i = c.loop-entry.entry-index in
    let e = c.entry-item.result in
    leads_alone (leads_these (e ∷ []) (drop (i + 1) entries) (underway_at (e ∷ []) (drop (i + 1) entries) (next_left entries i e c.loop-entry-test.true c.entry-item.is)
    c.loop-entry.invariant.so_far) c.requires.leads)

-- its change is made again, and its items are given
pub loop-entry-preserved : goal.loop-entry-preserved
loop-entry-preserved g c =
    let entries = c.args.entries.now in
    let i = c.loop-entry.entry-index in
    let e = c.entry-item.result in
    let lt = c.loop-entry-test.true in
    let made = c.in_ok-items.ensures in
    let so_far = underway_at (e ∷ []) (drop (i + 1) entries) (next_left entries i e lt c.entry-item.is) c.loop-entry.invariant.so_far in
    record {
      so_far = underway_by (next_taken entries i e lt c.entry-item.is)
          (underway_then (e ∷ []) (drop (i + 1) entries) so_far c.requires.leads made.ready (led_alone made.led)
          (λ end lead. one_change end lead made.led (c.deref.ensures.value ∙ made.items) c.in_ok-give_items.ensures));
    }

-- memory runs out before that
pub returns-in_err-items-clause-gave : goal.returns-in_err-items-clause-gave
returns-in_err-items-clause-gave g c = λ end lead.
    let entries = c.args.entries.now in
    let i = c.loop-entry.entry-index in
    let e = c.entry-item.result in
    let inv = c.loop-entry.invariant in
    changes_err c.from_residual.result c.from_residual.ensures.1
    (underway_cut (e ∷ []) (drop (i + 1) entries) (underway_at (e ∷ []) (drop (i + 1) entries) (next_left entries i e c.loop-entry-test.true c.entry-item.is) inv.so_far)
    end lead (λ end lead. no_change end inv.so_far.gave.intact lead))

-- or a fault comes within its items
pub returns-in_err-give_items-clause-gave : goal.returns-in_err-give_items-clause-gave
returns-in_err-give_items-clause-gave g c = λ end lead.
    let entries = c.args.entries.now in
    let i = c.loop-entry.entry-index in
    let e = c.entry-item.result in
    let made = c.in_ok-items.ensures in
    changes_err c.from_residual-in_err-give_items.result c.from_residual-in_err-give_items.ensures.1
    (underway_cut (e ∷ []) (drop (i + 1) entries) (underway_at (e ∷ []) (drop (i + 1) entries) (next_left entries i e c.loop-entry-test.true c.entry-item.is)
    c.loop-entry.invariant.so_far) end lead
    (λ end lead. one_change end lead made.led (c.deref.ensures.value ∙ made.items) c.in_err-give_items.ensures))

-- none is left
pub returns-clause-led : goal.returns-clause-led
returns-clause-led g c = λ end lead.
    reached_end c.loop-entry.invariant.so_far (drop_all c.loop-entry.entry-index c.args.entries.now c.loop-entry-test.false) end lead

pub returns-clause-gave : goal.returns-clause-gave
returns-clause-gave g c = λ end lead.
    underway_over c.loop-entry.invariant.so_far (drop_all c.loop-entry.entry-index c.args.entries.now c.loop-entry-test.false) end lead
