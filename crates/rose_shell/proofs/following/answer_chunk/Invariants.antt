use Rattle.std.proofs.Common.{◌≡◌, false, List, ℕ, ◌++◌, length}
use Rattle.std.specs.Prelude.{None}
use Rattle.outside_world.specs.GoesOn.{GoesOn}
use Rattle.realm_store.specs.Keeping.{AllRest}
use Rattle.rose_shell.specs.Lines.{lines_from, part_from}
use Rattle.rose_shell.specs.Progress.{Did}
use Rattle.rose_shell.specs.Following.{FollowTerms}
use Rattle.rose_shell.proofs.following.answer_chunk.Given as goal

abbrev pub invariant-loop-end : goal.invariant-loop-end
invariant-loop-end g l = record {
  done : List ℕ;
  split : l.chunk ≡ done ++ l.rest;
  goes_on : GoesOn g.W.Outside l.fn.world l.world;
  intact : g.W.Outside.failed l.world ≡ false;
  ready : l.store.spent ≡ false;
  alone : l.store.group ≡ None;
  rest : g.W.Outside.tells l.world → AllRest l.store.kept (g.W.Outside.view l.world);
  kept : l.line.items ≡ part_from l.fn.line.items done;
  did : g.W.Outside.tells l.world → Did FollowTerms (g.W.Outside.view l.fn.world) (g.W.Outside.view l.world) l.fn.store l.store
      (lines_from l.fn.line.items done);
}

abbrev pub decreases-loop-end : goal.decreases-loop-end
decreases-loop-end g l = length l.rest
