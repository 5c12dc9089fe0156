use Rattle.std.proofs.Common.{sym, subst, ℕ, take, drop}
use Rattle.grid_base.specs.Point.{GridPoint}
use Rattle.plane_cells.specs.Steps.{Each, Pairs}
use Rattle.plane_cells.specs.Scan.{IsLeftOf, IsLeftward, IsSortedAt}
use Rattle.plane_cells.proofs.Parts.{end_read}
use Rattle.plane_cells.proofs.Inserts.{sorted_fan, inserted_leftward}
use Rattle.plane_cells.proofs.fans.insert_by_angle.Goals as goal

-- those that have the end of segment i on their left come first
pub count_below-place-requires-clause-sorted : goal.count_below-place-requires-clause-sorted
count_below-place-requires-clause-sorted c =
    let B = c.args.border.now in
    let i = c.args.i in
    let to_b = end_read B i c.index-border-i.result c.b.result c.requires.number c.index-border-i.is c.b.ensures.end in
    subst (λ (p : GridPoint). IsSortedAt B p c.args.fan.now) to_b
    (sorted_fan B i c.args.fan.now c.requires.realm c.requires.number c.requires.numbers c.requires.begins c.requires.leftward)

pub returns-clause-leftward : goal.returns-clause-leftward
returns-clause-leftward c =
    let B = c.args.border.now in
    let i = c.args.i in
    let fan = c.args.fan.now in
    let place = c.count_below-place.result in
    let to_b = sym (end_read B i c.index-border-i.result c.b.result c.requires.number c.index-border-i.is c.b.ensures.end) in
    let below = subst (λ (p : GridPoint). Each (IsLeftOf B p) (take place fan)) to_b c.count_below-place.ensures.below in
    let others = subst (λ (p : GridPoint). Each (λ j. ¬ IsLeftOf B p j) (drop place fan)) to_b c.count_below-place.ensures.others in
    subst (Pairs (IsLeftward B)) (sym c.in_ok-insert.ensures.ok)
    (inserted_leftward B i fan place c.requires.realm c.requires.number c.requires.numbers c.requires.fresh c.requires.begins
    c.requires.leftward below others)
