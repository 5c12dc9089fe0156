use Rattle.std.proofs.Common.{◌≤◌, length}
use Rattle.realm_insert.specs.Work.{IsCoveredBy}
use Rattle.realm_insert.proofs.settling.step_within.Given as goal

-- the list covers each violation all the time, and gets no longer
abbrev pub invariant-loop-piece : goal.invariant-loop-piece
invariant-loop-piece l = record {
  covered : IsCoveredBy l.drawing.drawing l.fresh.items;
  longer : length l.fresh.items ≤ length l.initial.fresh.items;
}

abbrev pub decreases-loop-piece : goal.decreases-loop-piece
decreases-loop-piece l = length l.fresh.items
