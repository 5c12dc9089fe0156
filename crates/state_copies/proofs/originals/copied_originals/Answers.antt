use Rattle.std.proofs.Common.{◌∙◌, refl, get_or, arith}
use Rattle.record_codec.specs.Payload.{IsOriginal}
use Rattle.state_check.proofs.Copying.{fits_as_list}
use Rattle.state_copies.proofs.Listing.{none_listed, next_listed, all_originals}
use Rattle.state_copies.proofs.originals.copied_originals.Goals as goal

pub loop-id-init : goal.loop-id-init
loop-id-init c = none_listed c.args.drawing.now.drawing.originals c.in_ok-list.list.items c.in_ok-list.ensures.items

-- the next original is listed
pub loop-id-preserved : goal.loop-id-preserved
loop-id-preserved c =
    let drawing = c.args.drawing.now.drawing in
    let ids = c.deref-id-items.result.now in
    next_listed drawing c.loop-id.id-index (get_or ids c.loop-id.id-index 0) ids c.loop-id.list.items
    c.list_original.new.list.items c.ids.ensures.rising (c.deref-id-items.ensures.value ∙ c.in_ok-ids.ensures.ids)
    c.loop-id-test.true refl c.in_ok-list_original.ensures c.loop-id.invariant

-- at the end all are
pub returns-clause-same : goal.returns-clause-same
returns-clause-same c =
    let ids = c.deref-id-items.result.now in
    all_originals c.loop-id.id-index ids c.args.drawing.now.drawing.originals c.loop-id.list.items
    (c.deref-id-items.ensures.value ∙ c.in_ok-ids.ensures.ids) c.loop-id-test.false c.loop-id.invariant

pub returns-clause-fits : goal.returns-clause-fits
returns-clause-fits c =
    fits_as_list IsOriginal c.loop-id.list.items (omega (arith, c.loop-id.list.small, c.loop-id.list.ok)) c.loop-id.invariant.fit
