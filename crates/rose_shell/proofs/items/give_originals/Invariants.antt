use Rattle.std.proofs.Common.{Ok, map, take}
use Rattle.certificate_law.specs.Certificates.{chain_item}
use Rattle.rose_shell.specs.Items.{GaveItems}
use Rattle.rose_shell.proofs.items.give_originals.Given as goal

-- the originals so far were given
abbrev pub invariant-loop-original : goal.invariant-loop-original
invariant-loop-original g l = record {
  gave : GaveItems g.W.Outside l.fn.world l.world (map chain_item (take l.original-index l.originals)) (Ok tt);
}
