use Rattle.std.proofs.Common.{◌≡◌, ◌≤◌, ◌*◌, ◌-◌, false, length, min}
use Rattle.outside_world.specs.GoesOn.{GoesOn}
use Rattle.realm_journal.specs.Reading.{OnlyAsks}
use Rattle.realm_pages.specs.Files.{HoldsFirst}
use Rattle.realm_pages.proofs.pages.read_pages.Given as goal

abbrev pub invariant-loop-pages : goal.invariant-loop-pages
invariant-loop-pages g l = record {
  goes_on : GoesOn g.W.Outside l.fn.world l.world;
  intact : g.W.Outside.failed l.world ≡ false;
  upto : l.pages ≤ l.head.pages;
  so_far : length l.payload.items ≡ min (4054 * l.pages) l.head.length;
  asks : g.W.Outside.tells l.world → OnlyAsks (g.W.Outside.view l.fn.world) (g.W.Outside.view l.world);
  hold : g.W.Outside.tells l.world
      → HoldsFirst ((g.W.Outside.view l.fn.world).reads l.file) l.head.length l.pages l.payload.items;
}

abbrev pub decreases-loop-pages : goal.decreases-loop-pages
decreases-loop-pages g l = l.head.pages - l.pages
