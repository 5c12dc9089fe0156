use Rattle.std.proofs.Common.{◌∙◌, ◌++◌, ◌∷◌, [], List, refl, ap, arith}
use Rattle.grid_base.specs.Point.{GridPoint, point_at}
use Rattle.hook_chain.proofs.Traces.{traced_start, traced_next, next_in_reach, traced_end, on_grid_placed}
use Rattle.hook_chain.proofs.walking.part.Goals as goal

-- the walk begins at the start
pub loop-at-init : goal.loop-at-init
loop-at-init c = traced_start c.args.chart.now c.args.start c.args.end c.args.x
    (point_at c.seen_at-line.result.across c.seen_at-line.result.up)
    (point_at c.seen_at-goal.result.across c.seen_at-goal.result.up) c.push.new.self.items c.seen_at-line.ensures.seen
    c.seen_at-goal.ensures.seen
    c.requires.charted (c.in_ok-push.ensures.items ∙ ap (λ (l : List GridPoint). l ++ c.args.start ∷ []) c.new-list.ensures.items)

-- the next place isn't above the goal
pub forward-at-requires-clause-room : goal.forward-at-requires-clause-room
forward-at-requires-clause-room c =
    (next_in_reach _ _ _ _ _ _ _ _ _ _ _ _ _ c.loop-at.invariant
    (record { before = c.loop-at-test.true; least = c.least_above-slope.ensures; next = (refl, refl) })).not_above

-- and so its row is small
pub point_of-requires-clause-up_below : goal.point_of-requires-clause-up_below
point_of-requires-clause-up_below c =
    let reach = next_in_reach _ _ _ _ _ _ _ _ _ _ c.forward-at.result.across c.forward-at.result.up _ c.loop-at.invariant
    (record {
      before = c.loop-at-test.true;
      least = c.least_above-slope.ensures;
      next =
          (c.forward-at.ensures.across, c.forward-at.ensures.up);
    }) in
    omega (arith, reach.not_above, c.seen_at-goal.ensures.up_below)

-- it is before x, so that its point is between the start and x
pub point_of-requires-clause-on_grid : goal.point_of-requires-clause-on_grid
point_of-requires-clause-on_grid c =
    on_grid_placed _ _ _ _ _ c.seen_at-goal.ensures.start_on_grid c.seen_at-goal.ensures.point_on_grid c.loop-at.invariant.charted.x_at
    (next_in_reach _ _ _ _ _ _ _ _ _ _ c.forward-at.result.across c.forward-at.result.up _ c.loop-at.invariant
    (record {
      before = c.loop-at-test.true;
      least = c.least_above-slope.ensures;
      next =
          (c.forward-at.ensures.across, c.forward-at.ensures.up);
    }))

-- the next point is that of the next place
pub loop-at-preserved : goal.loop-at-preserved
loop-at-preserved c =
    traced_next _ _ _ _ _ _ _ _ _ _ c.forward-at.result.across c.forward-at.result.up _ _ c.loop-at.invariant
    (record {
      before = c.loop-at-test.true;
      least = c.least_above-slope.ensures;
      next =
          (c.forward-at.ensures.across, c.forward-at.ensures.up);
    })
    (c.in_ok-push-2.ensures.items ∙ ap (λ (p : GridPoint). c.loop-at.list.items ++ p ∷ []) c.point_of.ensures)

-- the walk has come to x
pub returns : goal.returns
returns c = traced_end c.args.chart.now c.args.start c.args.end c.args.x (point_at c.seen_at-line.result.across c.seen_at-line.result.up)
    (point_at c.seen_at-goal.result.across c.seen_at-goal.result.up) _ c.loop-at.list.items c.seen_at-line.ensures.seen
    c.seen_at-goal.ensures.seen
    c.loop-at.invariant c.loop-at-test.false
