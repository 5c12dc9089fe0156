use Rattle.std.proofs.Common.{◌<◌, get_or, arith}
use Rattle.grid_base.proofs.Elements.{same_place}
use Rattle.r_blocks.proofs.Placed.{placed_new, placed_again}
use Rattle.r_blocks.proofs.parts.places_of.Goals as goal
use Rattle.r_blocks.proofs.parts.places_of.Goals.{then-labels-k+in_ok-push, else-labels-k+in_ok-push-2}

-- a label that comes first gets a new place, and another the place that it had
pub loop-k-preserved : goal.loop-k-preserved
loop-k-preserved c =
    let was = c.loop-k.invariant in
    elim c.if-labels-k.branch [
      | then-labels-k+in_ok-push w ↦ rw (w.list-is, w.count-is) (record {
        places = rw w.in_ok-push.ensures.items (placed_new c.loop-k.k c.args.labels.now c.loop-k.list.items c.loop-k.count c.requires
            (omega arith) w.if-labels-k.true was.places);
        few = omega (arith, was.few);
      })
      | else-labels-k+in_ok-push-2 w ↦ rw (w.list-is, w.count-is) (record {
        places =
            let lower : get_or c.args.labels.now c.loop-k.k 0 < c.loop-k.k =
            omega (arith, c.requires c.loop-k.k (omega arith), w.if-labels-k.false) in
            let place = same_place c.loop-k.list.items (get_or c.args.labels.now c.loop-k.k 0) w.index-place.result.now 0
            (omega (arith, lower, was.places.one_each)) in
            rw (w.in_ok-push-2.ensures.items, w.index-place.ensures, place)
            (placed_again c.loop-k.k c.args.labels.now c.loop-k.list.items c.loop-k.count c.requires (omega arith) lower was.places);
        few = omega (arith, was.few);
      })
    ]
