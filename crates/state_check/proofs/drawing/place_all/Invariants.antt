use Rattle.std.proofs.Common.{◌≡◌, [], take, All}
use Rattle.hook_chain.specs.StandingChains.{HasValidChain}
use Rattle.state_check.specs.Drawable.{drawing_with}
use Rattle.state_check.proofs.drawing.place_all.Given as goal

-- the originals so far are there, and their chains may stand for them
abbrev pub invariant-loop-o : goal.invariant-loop-o
invariant-loop-o l = record {
  there : l.drawing.drawing ≡ drawing_with [] (take l.o-index l.originals);
  valid : All HasValidChain (take l.o-index l.originals);
}
