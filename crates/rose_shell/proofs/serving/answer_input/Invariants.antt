use Rattle.std.proofs.Common.{◌≡◌, false}
use Rattle.outside_world.specs.GoesOn.{GoesOn}
use Rattle.rose_shell.proofs.Takes.{Keeping}
use Rattle.rose_shell.proofs.serving.answer_input.Given as goal

abbrev pub invariant-loop-n : goal.invariant-loop-n
invariant-loop-n g l = record {
  goes_on : GoesOn g.W.Outside l.fn.world l.world;
  intact : g.W.Outside.failed l.world ≡ false;
  ready : g.D.Desk.ready l.desk;
  keeping : g.W.Outside.tells l.world → Keeping g.D.Desk.terms (g.W.Outside.view l.fn.world) (g.W.Outside.view l.world)
      l.fn.desk l.desk l.input.waiting l.input.kept.items l.room l.budget;
}

abbrev pub decreases-loop-n : goal.decreases-loop-n
decreases-loop-n g l = l.room
