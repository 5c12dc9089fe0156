use Rattle.std.proofs.Common.{ap, length}
use Rattle.std.proofs.lemmas.List.Elements.{All-contains, Contains-get_or}
use Rattle.plane_classes.proofs.RealmPlaces.{alone_in_realm}
use Rattle.plane_cells.specs.Numbered.{nowhere}
use Rattle.segment_lists.specs.OnGrid.{IsOnGrid}
use Rattle.class_borders.proofs.OneCycles.{IsBetween, one_cycle}
use Rattle.class_borders.proofs.laws.one_cycle_between_classes.Goals as goal

-- the parity of one cycle is the same at all segments that lie between the two classes
pub returns : goal.returns
returns c =
    let list = c.args.list.now in
    let part = c.args.part.now in
    let between = c.requires.between in
    let h : IsBetween list part between.0 between.1 = record {
      order = λ s there. (All-contains IsOnGrid part s c.each_is_on_grid.ensures there).order;
      part = c.requires.part;
      alone = λ s there. alone_in_realm list list s c.requires.noded (λ u in_list. in_list) (c.requires.part s there);
      across = between.2;
    } in
    let one = one_cycle list part between.0 between.1 c.args.cycles.now _ h c.requires.cut
    (Contains-get_or part 0 nowhere c.requires.some) in
    ap (λ cycles. length cycles) one.1
