use Rattle.std.proofs.Common.{◌+◌, arith}
use Rattle.chain_laws.proofs.Boxes.{read_in_box}
use Rattle.chain_laws.proofs.courses.has_corner.Goals as goal

-- a course stays in the box
pub is_corner-requires : goal.is_corner-requires
is_corner-requires c =
    let o = c.args.o.now in
    let points = c.args.points.now in
    let within = c.if-place-points.true in
    let at_u = c.index-points-place.is in
    let at_w = c.index-points-place-then-place-points-2.is in
    record {
      in_box = (
        read_in_box o points c.requires.course c.args.place _ (omega arith) at_u,
        read_in_box o points c.requires.course (c.args.place + 2) _ within at_w,
      );
    }
