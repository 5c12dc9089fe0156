use Rattle.generated_map.proofs.MadeRuns.{IsMade}
use Rattle.generated_map.proofs.running.make_all.Given as goal

-- the changes so far are made
abbrev pub invariant-loop-made : goal.invariant-loop-made
invariant-loop-made g l = IsMade l.fn.start l.made l.last l.steps l.engine
