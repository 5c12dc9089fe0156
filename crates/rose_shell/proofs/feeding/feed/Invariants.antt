use Rattle.std.proofs.Common.{◌≡◌, ℕ, false, List, ◌++◌, length}
use Rattle.outside_world.specs.GoesOn.{GoesOn}
use Rattle.rose_shell.specs.Lines.{lines_from, part_from, IsFrontOf}
use Rattle.rose_shell.specs.Desk.{AllRestBy}
use Rattle.rose_shell.specs.Loop.{IsWaiting, Went}
use Rattle.rose_shell.proofs.feeding.feed.Given as goal

abbrev pub invariant-loop-end : goal.invariant-loop-end
invariant-loop-end g l = record {
  done : List ℕ;
  split : l.chunk ≡ done ++ l.rest;
  goes_on : GoesOn g.W.Outside l.fn.world l.world;
  intact : g.W.Outside.failed l.world ≡ false;
  ready : g.D.Desk.ready l.desk;
  rest : g.W.Outside.tells l.world → AllRestBy g.D.Desk.terms (g.W.Outside.view l.world) l.desk;
  kept : (part : List ℕ) → IsFrontOf l.fn.input.kept.items part → IsFrontOf l.input.kept.items (part_from part done);
  went : (part : List ℕ) (held : List (List ℕ)) → IsFrontOf l.fn.input.kept.items part → IsWaiting l.fn.input.waiting held
      → g.W.Outside.tells l.world
      → Went g.D.Desk.terms ⊥ (g.W.Outside.view l.fn.world) (g.W.Outside.view l.world)
      l.fn.desk l.desk (held ++ lines_from part done) l.input.waiting;
}

abbrev pub decreases-loop-end : goal.decreases-loop-end
decreases-loop-end g l = length l.rest
