use Rattle.std.proofs.Common.{◌≡◌, false}
use Rattle.std.specs.Prelude.{None}
use Rattle.outside_world.specs.GoesOn.{GoesOn}
use Rattle.rose_shell.specs.Following.{FollowTerms}
use Rattle.rose_shell.proofs.TakesAlone.{Going}
use Rattle.rose_shell.proofs.following.answer_lines.Given as goal

abbrev pub invariant-loop-n : goal.invariant-loop-n
invariant-loop-n g l = record {
  goes_on : GoesOn g.W.Outside l.fn.world l.world;
  intact : g.W.Outside.failed l.world ≡ false;
  ready : l.store.spent ≡ false;
  alone : l.store.group ≡ None;
  going : g.W.Outside.tells l.world → Going FollowTerms (g.W.Outside.view l.fn.world) (g.W.Outside.view l.world)
      l.fn.store l.store l.line.items l.room l.budget;
}

abbrev pub decreases-loop-n : goal.decreases-loop-n
decreases-loop-n g l = l.room
