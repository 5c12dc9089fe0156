use Rattle.realm_insert.proofs.engine.Engine.refusal.Goals as goal
use Rattle.realm_insert.proofs.engine.Engine.refusal.Goals.{in-Ok, in-Err-Refused, in-Err-NoMemory}

-- the refusal that was found is answered
pub returns : goal.returns
returns g c = elim c.match-figure_drawn.branch [
  | in-Ok w ↦ rw w.result-is w.in-Ok.ensures.0
  | in-Err-Refused w ↦
      let found = rw w.in-Err-Refused.field-0-is at w.in-Err-Refused.ensures in
      rw w.result-is found
  | in-Err-NoMemory w ↦ rw w.result-is tt
]
