use Rattle.std.proofs.Common.{◌++◌}
use Rattle.rose_overlay.proofs.OneRegion.{double}
use Rattle.rose_overlay.proofs.Parted.{noded_part}
use Rattle.rose_predicates.proofs.enclosing.own_sides.Goals as goal

-- the border twice has the segments of the border
pub sides_of_list-requires-clause-noded : goal.sides_of_list-requires-clause-noded
sides_of_list-requires-clause-noded c =
    let B = c.args.border.now in
    noded_part B (B ++ B) (double B) c.requires.border.noded
