use Rattle.std.proofs.Common.{◌-◌, length, arith}
use Rattle.std.proofs.lemmas.Bool.{not-true}
use Rattle.plane_sweep.proofs.Neighbours.{first_by_neighbours, looked_not, looked_there}
use Rattle.plane_sweep.proofs.copies.is_first_place.Goals as goal
use Rattle.plane_sweep.proofs.copies.is_first_place.Goals.{else-place-gt0-via-then-place-gt0+else-not-is_before, else-place-gt0-via-else-place-gt0}

-- the one before the place is less, where there is one, and the one at it isn't
pub returns : goal.returns
returns c here =
    let list = c.args.sorted.now in
    let s = c.args.s.now in
    let k = c.args.place in
    first_by_neighbours list s k c.requires
    (elim c.else-place-gt0.branch [
      | else-place-gt0-via-then-place-gt0+else-not-is_before w ↦ (λ some. looked_there _ _ (k - 1) (length list) w.is_before.ensures
          w.if-not-is_before.false)
      | else-place-gt0-via-else-place-gt0 w ↦ (λ some. absurd (let none = w.if-place-gt0.false in omega (arith, some, none)))
    ])
    (looked_not _ _ k (length list) c.is_before-2.ensures (not-true c.is_before-2.result here))
