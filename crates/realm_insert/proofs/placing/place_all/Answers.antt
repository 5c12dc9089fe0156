use Rattle.std.proofs.Common.{◌≡◌, ℕ, ◌+◌, List, ◌++◌, length, refl, sym, subst, take, take_all, append-nil, arith}
use Rattle.grid_base.specs.Segment.{GridSegment}
use Rattle.realm_insert.specs.State.{HasIdsBelow}
use Rattle.realm_insert.specs.Work.{IsCoveredBy}
use Rattle.realm_insert.proofs.PlacedLists.{placed_next, placed_to_the_end, covered_next}
use Rattle.realm_insert.proofs.placing.place_all.Goals as goal

pub loop-s-init : goal.loop-s-init
loop-s-init c = record {
  id = omega arith;
  placed = refl;
  indexed = c.requires.indexed;
  keyed = c.requires.keyed;
  valid = c.requires.valid;
  covered = λ before covered. subst (IsCoveredBy c.args.drawing.now.drawing) (sym (append-nil before)) covered;
  ids = c.requires.ids;
}

-- one more is placed
pub loop-s-preserved : goal.loop-s-preserved
loop-s-preserved c =
    let list = c.args.list.now in
    let i = c.loop-s.s-index in
    let s = c.s-item.result in
    let was = c.loop-s.invariant in
    let one = c.in_ok-place.ensures in
    record {
      id = omega (arith, was.id);
      placed = placed_next c.loop-s.drawing.drawing c.place.new.drawing.drawing _ c.loop-s.id list i s c.loop-s-test.true
          c.s-item.is was.placed one.placed;
      indexed = one.indexed;
      keyed = one.keyed;
      valid = one.valid;
      covered = λ before covered. covered_next c.place.new.drawing.drawing before list i s c.loop-s-test.true c.s-item.is
          (one.covered (before ++ take i list) (was.covered before covered));
      ids = one.ids;
    }

-- at the end all are
pub returns-clause-placed : goal.returns-clause-placed
returns-clause-placed c =
    placed_to_the_end c.loop-s.drawing.drawing _ c.loop-s.id c.args.list.now c.loop-s.s-index c.loop-s-test.false
    c.loop-s.invariant.placed

pub returns-clause-covered : goal.returns-clause-covered
returns-clause-covered c = λ before covered.
    subst (λ (l : List GridSegment). IsCoveredBy c.loop-s.drawing.drawing (before ++ l))
    (take_all c.loop-s.s-index c.args.list.now c.loop-s-test.false) (c.loop-s.invariant.covered before covered)

pub returns-clause-ids : goal.returns-clause-ids
returns-clause-ids c =
    let last : c.loop-s.id ≡ c.args.first + length c.args.list.now =
    omega (arith, c.loop-s.invariant.id, c.loop-s-test.false, c.loop-s.auto.s-index-end) in
    subst (λ (n : ℕ). HasIdsBelow n c.loop-s.drawing.drawing) last c.loop-s.invariant.ids
