use Rattle.std.proofs.Common.{◌≡◌, ◌+◌, List, ◌++◌, take, drop}
use Rattle.grid_base.specs.Segment.{GridSegment}
use Rattle.hook_chain.specs.StandingChains.{AllValid}
use Rattle.realm_drawing.specs.Keyed.{AreKeyed}
use Rattle.realm_insert.specs.Changes.{placed_all}
use Rattle.realm_insert.specs.Kept.{IsIndexed}
use Rattle.realm_insert.specs.State.{HasIdsBelow}
use Rattle.realm_insert.specs.Work.{IsCoveredBy}
use Rattle.realm_insert.proofs.placing.place_all.Given as goal

-- those so far are placed, and the others are still to be
abbrev pub invariant-loop-s : goal.invariant-loop-s
invariant-loop-s l = record {
  id : l.id ≡ l.fn.first + l.s-index;
  placed : placed_all l.drawing.drawing l.id (drop l.s-index l.list)
      ≡ placed_all l.fn.drawing.drawing l.fn.first l.list;
  indexed : IsIndexed l.drawing l.index;
  keyed : AreKeyed l.drawing;
  valid : AllValid l.drawing.drawing;
  covered : (before : List GridSegment) → IsCoveredBy l.fn.drawing.drawing before
      → IsCoveredBy l.drawing.drawing (before ++ take l.s-index l.list);
  ids : HasIdsBelow l.id l.drawing.drawing;
}
