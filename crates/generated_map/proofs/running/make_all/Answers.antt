-- Each turn makes the next change of the list.
use Rattle.std.proofs.Common.{◌+◌, refl, sym, subst}
use Rattle.realm_insert.specs.State.{SpendableState}
use Rattle.generated_map.specs.Generated.{change_between, corners_behind}
use Rattle.generated_map.proofs.MadeRuns.{IsMade, is_made-none, is_made-more}
use Rattle.generated_map.proofs.running.make_all.Goals as goal

pub loop-made-init : goal.loop-made-init
loop-made-init g c =
    subst (λ (e : SpendableState). IsMade c.args.start 0 c.args.start 0 e) (sym c.requires.fresh) (is_made-none c.args.start)

pub loop-made-preserved : goal.loop-made-preserved
loop-made-preserved g c =
    let taken = c.in_ok-taken.ensures.takes in
    let next = is_made-more c.args.start c.loop-made.made c.loop-made.last c.loop-made.steps c.in_ok-taken.taken c.loop-made.engine
    c.make_next.new.engine (change_between (c.loop-made.made + 1) (corners_behind c.loop-made.last)) taken.0
    c.loop-made.invariant refl taken.1 taken.2 c.in_ok-taken.ensures.ready in
    rw (c.make_next.ensures.last, c.in_ok-steps.ensures) next
