use Rattle.std.proofs.Common.{◌≡◌}
use Rattle.plane_cells.specs.Scan.{column_of}
use Rattle.plane_cells.proofs.Parts.{ends_pushed}
use Rattle.plane_cells.proofs.columns.ends.Goals as goal

pub loop-s-preserved : goal.loop-s-preserved
loop-s-preserved c =
    let x : c.column.result ≡ column_of c.s-item.result.a = cc in
    let y : c.column-in-loop-s.result ≡ column_of c.s-item.result.b = cc in
    ends_pushed c.args.border.now c.loop-s.s-index c.s-item.result c.loop-s.columns.items c.push.new.self.items
    c.push-in-loop-s.new.self.items c.column.result c.column-in-loop-s.result
    c.loop-s-test.true c.s-item.is c.loop-s.invariant c.in_ok-push.ensures.items c.in_ok-push-2.ensures.items x y
