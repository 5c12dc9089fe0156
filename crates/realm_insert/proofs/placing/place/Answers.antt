use Rattle.std.proofs.Common.{◌+◌, [], ◌∷◌, ◌++◌, sym, subst}
use Rattle.grid_base.specs.Drawing.{Drawing}
use Rattle.hook_chain.specs.StandingChains.{AllStand}
use Rattle.realm_insert.specs.State.{HasIdsBelow}
use Rattle.realm_insert.specs.Work.{IsCoveredBy}
use Rattle.realm_insert.proofs.PlacedOriginals.{placed_in_order, placed_below, id_is_above}
use Rattle.realm_insert.proofs.IndexAfter.{entries_stay, indexed_placed}
use Rattle.realm_insert.proofs.PlacedLists.{covered_with}
use Rattle.realm_insert.proofs.placing.place.Goals as goal

-- the id is greater than all
pub place-requires : goal.place-requires
place-requires c = record { id_above = id_is_above c.args.drawing.now.drawing c.args.id c.requires.ids }

-- what is in the index is a piece still
pub put_if_missing-requires : goal.put_if_missing-requires
put_if_missing-requires c =
    let place = c.in_ok-place.ensures in
    let ordered = placed_in_order c.args.drawing.now.drawing c.args.id c.args.s (subst AllStand place.ok place.stand) in
    let stays = entries_stay c.args.drawing.now c.place.new.self place.keys c.requires.keyed place.keyed c.args.id c.args.s
    c.args.index.now ordered place.ok c.requires.indexed in
    record { pieces = stays }

-- and the new one is put in
pub returns-clause-indexed : goal.returns-clause-indexed
returns-clause-indexed c =
    let place = c.in_ok-place.ensures in
    let ordered = placed_in_order c.args.drawing.now.drawing c.args.id c.args.s (subst AllStand place.ok place.stand) in
    indexed_placed c.args.drawing.now c.place.new.self place.keys c.requires.keyed place.keyed c.args.id c.args.s
    c.args.index.now ordered place.ok c.requires.indexed c.put_if_missing.new.index c.in_ok-put_if_missing.ensures

-- it covers the violations that it makes
pub returns-clause-covered : goal.returns-clause-covered
returns-clause-covered c = λ list covered.
    let place = c.in_ok-place.ensures in
    let d = c.args.drawing.now.drawing in
    let ordered = placed_in_order d c.args.id c.args.s (subst AllStand place.ok place.stand) in
    subst (λ (e : Drawing). IsCoveredBy e (list ++ c.args.s ∷ [])) (sym place.ok)
    (covered_with d c.args.id c.args.s list ordered covered)

-- the next id is above all again
pub returns-clause-ids : goal.returns-clause-ids
returns-clause-ids c =
    let d = c.args.drawing.now.drawing in
    subst (HasIdsBelow (c.args.id + 1)) (sym c.in_ok-place.ensures.ok)
    (placed_below d c.args.id c.args.s c.requires.least c.requires.ids)
