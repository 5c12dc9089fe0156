use Rattle.std.proofs.Common.{◌-◌}
use Rattle.hook_chain.specs.StandingChains.{AllValid}
use Rattle.realm_drawing.specs.Keyed.{AreKeyed}
use Rattle.hook_chain.specs.Measure.{links_of, most_links_of}
use Rattle.realm_insert.specs.Kept.{IsIndexed}
use Rattle.realm_insert.specs.Misfits.{LeadsBy}
use Rattle.realm_insert.specs.Work.{IsCoveredBy}
use Rattle.realm_insert.proofs.settling.settle.Given as goal

-- the steps so far lead to the drawing, whose violations the list covers
abbrev pub invariant-loop-trace : goal.invariant-loop-trace
invariant-loop-trace l = record {
  leads : LeadsBy l.fn.drawing.drawing l.trace l.drawing.drawing;
  indexed : IsIndexed l.drawing l.index;
  keyed : AreKeyed l.drawing;
  valid : AllValid l.drawing.drawing;
  covered : IsCoveredBy l.drawing.drawing l.fresh.items;
}

-- each step adds a link, and the originals have room for few
abbrev pub decreases-loop-trace : goal.decreases-loop-trace
decreases-loop-trace l = most_links_of l.drawing.drawing - links_of l.drawing.drawing
