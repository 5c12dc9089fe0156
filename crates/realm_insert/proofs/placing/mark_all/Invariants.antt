use Rattle.std.proofs.Common.{take}
use Rattle.hook_chain.specs.StandingChains.{AllValid}
use Rattle.realm_drawing.specs.Keyed.{AreKeyed}
use Rattle.realm_insert.specs.Kept.{IsIndexed}
use Rattle.realm_insert.specs.Work.{IsCoveredBy, AddsPoints}
use Rattle.realm_insert.proofs.placing.mark_all.Given as goal

-- the points so far are explicit
abbrev pub invariant-loop-p : goal.invariant-loop-p
invariant-loop-p l = record {
  added : AddsPoints (take l.p-index l.path) l.fn.drawing l.drawing;
  indexed : IsIndexed l.drawing l.index;
  keyed : AreKeyed l.drawing;
  valid : AllValid l.drawing.drawing;
  covered : IsCoveredBy l.drawing.drawing l.list.items;
}
