use Rattle.std.proofs.Common.{sym, refl, subst}
use Rattle.std.proofs.lemmas.List.{map-id}
use Rattle.realm_audit.specs.Items.{IsLine}
use Rattle.rose_shell.proofs.GivenItems.{gave_nothing, gave_one, gave_to, gave_over, gave_same, gave_err}
use Rattle.rose_shell.proofs.items.give_items.Goals as goal

pub loop-item-init : goal.loop-item-init
loop-item-init g c = record { gave = gave_nothing c.requires.intact }

-- each item has a line
pub give_item-requires-clause-line : goal.give_item-requires-clause-line
give_item-requires-clause-line g c =
    subst IsLine (sym c.item-item.is) (c.requires.lines c.loop-item.item-index c.item-item.result c.loop-item-test.true)

-- one item more
pub loop-item-preserved : goal.loop-item-preserved
loop-item-preserved g c = record {
  gave = gave_one (λ i. i) c.args.items.now c.loop-item.item-index c.item-item.result c.loop-item-test.true
      c.item-item.is c.loop-item.invariant.gave refl c.in_ok-give_item.ensures;
}

-- a fault comes within its line, or before
pub returns-in_err-give_item : goal.returns-in_err-give_item
returns-in_err-give_item g c =
    gave_err c.from_residual.result c.from_residual.ensures.1
    (gave_same (map-id c.args.items.now)
    (gave_to (λ i. i) c.args.items.now c.loop-item.item-index c.item-item.result c.loop-item-test.true
    c.item-item.is c.loop-item.invariant.gave refl c.in_err-give_item.ensures))

-- they were all
pub returns : goal.returns
returns g c =
    gave_same (map-id c.args.items.now)
    (gave_over (λ i. i) c.args.items.now c.loop-item.item-index c.loop-item.invariant.gave c.loop-item-test.false)
