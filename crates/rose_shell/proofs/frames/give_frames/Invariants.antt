use Rattle.std.proofs.Common.{◌≡◌, [], false, All, take}
use Rattle.outside_world.specs.GoesOn.{GoesOn}
use Rattle.standby_core.specs.Frames.{IsFrame}
use Rattle.rose_shell.specs.Giving.{GaveSome}
use Rattle.rose_shell.specs.Shipping.{lines_of_frames}
use Rattle.rose_shell.proofs.frames.give_frames.Given as goal

-- the lines of the frames so far were given
abbrev pub invariant-loop-frame : goal.invariant-loop-frame
invariant-loop-frame g l = record {
  goes_on : GoesOn g.W.Outside l.fn.world l.world;
  intact : g.W.Outside.failed l.world ≡ false;
  are_frames : All IsFrame (take l.frame-index l.frames);
  told : g.W.Outside.tells l.world
      → GaveSome (g.W.Outside.view l.fn.world) (g.W.Outside.view l.world) (lines_of_frames (take l.frame-index l.frames)) [];
}
