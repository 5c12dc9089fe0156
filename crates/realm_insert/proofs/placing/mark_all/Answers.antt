use Rattle.std.proofs.Common.{subst, sym, take_all}
use Rattle.realm_insert.specs.Work.{IsCoveredBy}
use Rattle.realm_insert.proofs.PlacedLists.{adds_none, adds_next}
use Rattle.realm_insert.proofs.placing.mark_all.Goals as goal

pub loop-p-init : goal.loop-p-init
loop-p-init c = record {
  added = adds_none c.args.drawing.now;
  indexed = c.requires.indexed;
  keyed = c.requires.keyed;
  valid = c.requires.valid;
  covered = subst (IsCoveredBy c.args.drawing.now.drawing) (sym c.new-list.ensures.items) c.requires.covered;
}

-- one more is explicit
pub loop-p-preserved : goal.loop-p-preserved
loop-p-preserved c =
    let was = c.loop-p.invariant in
    let one = c.in_ok-mark.ensures in
    record {
      added = adds_next c.args.drawing.now c.loop-p.drawing c.mark.new.drawing c.args.path.now c.loop-p.p-index
          c.p-item.result c.loop-p-test.true c.p-item.is was.added one.added;
      indexed = one.indexed;
      keyed = one.keyed;
      valid = one.valid;
      covered = one.covered;
    }

-- at the end all are
pub returns-clause-added : goal.returns-clause-added
returns-clause-added c = let past = c.loop-p-test.false in rw take_all at c.loop-p.invariant.added
