use Rattle.std.proofs.Common.{Ok, map, take}
use Rattle.rose_shell.specs.Items.{GaveItems}
use Rattle.rose_shell.proofs.items.give_items.Given as goal

-- the items so far were given
abbrev pub invariant-loop-item : goal.invariant-loop-item
invariant-loop-item g l = record {
  gave : GaveItems g.W.Outside l.fn.world l.world (map (λ i. i) (take l.item-index l.items)) (Ok tt);
}
