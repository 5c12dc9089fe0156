use Rattle.std.proofs.Common.{Ok, map, take}
use Rattle.realm_audit.specs.declared.item.Item.TheVariants as items
use Rattle.rose_shell.specs.Items.{GaveItems}
use Rattle.rose_shell.proofs.items.give_points.Given as goal

-- the points so far were given
abbrev pub invariant-loop-point : goal.invariant-loop-point
invariant-loop-point g l = record {
  gave : GaveItems g.W.Outside l.fn.world l.world (map (λ p. items.Point p) (take l.point-index l.points)) (Ok tt);
}
