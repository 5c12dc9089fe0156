use Rattle.std.proofs.Common.{◌≡◌, ◌∙◌, map, sym, subst, arith}
use Rattle.std.proofs.Math.ListN.{length-map}
use Rattle.std.proofs.lemmas.Result.{IfOk-weaker}
use Rattle.grid_base.specs.Border.{AreNoded}
use Rattle.rose_values.specs.Border.{AreSegmentsAscending}
use Rattle.r_blocks.specs.Blocks.{AreBlocks, AreInOrder}
use Rattle.r_blocks.specs.Places.{ArePlaces, those}
use Rattle.grid_base.proofs.Elements.{same_place}
use Rattle.r_blocks.proofs.AtPlaces.{those_ascend, those_noded}
use Rattle.r_blocks.proofs.Together.{AreGathered, labels_least, blocks_are, blocks_in_order, AllIndexed-map}
use Rattle.r_blocks.proofs.connected.blocks.Goals as goal

-- labels are the least of their parts
pub places_of-requires : goal.places_of-requires
places_of-requires c = rw c.deref-2.ensures.value (labels_least _ _ _ c.in_ok-labels.ensures)

-- each place is below their number
pub gather-requires-clause-below : goal.gather-requires-clause-below
gather-requires-clause-below c = rw c.deref-3.ensures.value (λ k d within.
    let places = c.in_ok-places.ensures in
    let list = c.in_ok-places.places.list.items in
    omega (arith, same_place list k d 0 within, places.below k (omega (arith, within, places.one_each))))

-- the parts are gathered by the labels of their links
gathered : (c : goal.After-drop-links-2)
    → AreGathered c.segments-list.result.now c.in_ok-links.links.items c.in_ok-labels.labels.items
    c.in_ok-places.places.list.items c.in_ok-places.places.count (map (λ part. part.items) c.in_ok-parts.parts.items)
gathered c =
    let labels = rw c.deref.ensures.value at c.in_ok-labels.ensures in
    let places = rw c.deref-2.ensures.value at c.in_ok-places.ensures in
    let parts = rw c.deref-3.ensures.value at c.in_ok-parts.ensures.parts in record {
      of = record {
        below = c.in_ok-links.ensures.below;
        share = c.in_ok-links.ensures.shared;
        linked = c.in_ok-links.ensures.linked;
      };
      labels_are = labels;
      places_are = subst (λ n. ArePlaces n c.in_ok-labels.labels.items c.in_ok-places.places.list.items c.in_ok-places.places.count)
          labels.one_each places;
      as_many = length-map c.in_ok-parts.parts.items _ ∙ c.in_ok-parts.ensures.length;
      those_are = AllIndexed-map (λ part. part.items)
          (λ p block. block ≡ those p c.in_ok-places.places.list.items c.segments-list.result.now) c.in_ok-parts.parts.items parts;
    }

-- each part ascends as the list does, and is noded as it is
pub values_of-requires-clause-ascending : goal.values_of-requires-clause-ascending
values_of-requires-clause-ascending c = λ k d within.
    subst AreSegmentsAscending (sym (c.in_ok-parts.ensures.parts k d within))
    (those_ascend k c.deref-3.result.now c.segments-list.result.now (rw c.segments-list.ensures.segments c.segments-list.ensures.ascending))

pub values_of-requires-clause-noded : goal.values_of-requires-clause-noded
values_of-requires-clause-noded c = λ k d within.
    subst AreNoded (sym (c.in_ok-parts.ensures.parts k d within))
    (those_noded k c.deref-3.result.now c.segments-list.result.now (rw c.segments-list.ensures.segments c.segments-list.ensures.noded))

-- what is gathered by the labels are the blocks
pub returns-clause-blocks : goal.returns-clause-blocks
returns-clause-blocks c =
    let ascending = subst AreSegmentsAscending (sym c.segments-list.ensures.segments) c.segments-list.ensures.ascending in
    let blocks = subst (λ list. AreBlocks list (map (λ part. part.items) c.in_ok-parts.parts.items)) c.segments-list.ensures.segments
    (blocks_are c.segments-list.result.now _ _ _ _ _ (gathered c) ascending) in
    IfOk-weaker c.values_of.result (λ v. v.items ≡ map (λ part. part.items) c.in_ok-parts.parts.items)
    (λ v. AreBlocks c.args.lines.now v.items) (λ v is. subst (AreBlocks c.args.lines.now) (sym is) blocks) c.values_of.ensures

-- and their roots stand in order
pub returns-clause-in_order : goal.returns-clause-in_order
returns-clause-in_order c =
    let ascending = subst AreSegmentsAscending (sym c.segments-list.ensures.segments) c.segments-list.ensures.ascending in
    IfOk-weaker c.values_of.result (λ v. v.items ≡ map (λ part. part.items) c.in_ok-parts.parts.items)
    (λ v. AreInOrder v.items)
    (λ v is. subst AreInOrder (sym is) (blocks_in_order c.segments-list.result.now _ _ _ _ _ ascending (gathered c))) c.values_of.ensures
