use Rattle.std.proofs.Common.{◌≡◌, take}
use Rattle.hook_chain.specs.StandingChains.{AllValid}
use Rattle.realm_drawing.specs.Keyed.{AreKeyed}
use Rattle.realm_insert.specs.Kept.{IsIndexed}
use Rattle.realm_insert.specs.Misfits.{LeadsBy}
use Rattle.realm_insert.specs.Work.{IsCoveredBy}
use Rattle.realm_insert.proofs.settling.retrace.Given as goal

-- the steps so far are the trace, and lead to the drawing, whose violations the list covers
abbrev pub invariant-loop-i : goal.invariant-loop-i
invariant-loop-i l = record {
  leads : LeadsBy l.fn.drawing.drawing (take l.i l.steps) l.drawing.drawing;
  built : l.trace ≡ take l.i l.steps;
  indexed : IsIndexed l.drawing l.index;
  keyed : AreKeyed l.drawing;
  valid : AllValid l.drawing.drawing;
  covered : IsCoveredBy l.drawing.drawing l.fresh.items;
}
