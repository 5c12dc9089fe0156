use Rattle.std.proofs.Common.{◌<◌, All, arith, length, sym, subst, take, ℕ}
use Rattle.realm_audit.specs.Groups.{Surrounds}
use Rattle.realm_audit.proofs.GroupedPieces.{one_more_within}
use Rattle.realm_audit.proofs.groups.first_group.Goals as goal

-- the next piece is within the wider box, and so are those before it
pub loop-group-preserved : goal.loop-group-preserved
loop-group-preserved c =
    let pieces = c.args.pieces.now in
    let next = c.in-Some.ensures.count in
    let inside = within c in
    record {
      within = omega (arith, next, inside);
      around = subst (λ (n : ℕ). All (Surrounds c.in-Some.more.bounds) (take n pieces)) (sym next)
          (one_more_within c.loop-group.group.bounds c.in-Some.more.bounds pieces c.loop-group.group.count
          c.index-pieces-group.result inside c.index-pieces-group.is c.in-Some.ensures.stay c.in-Some.ensures.around
          c.loop-group.invariant.around);
    }
  where
    within : (c : goal.In-Some) → c.loop-group.group.count < length c.args.pieces.now
    within c = omega (arith, c.loop-group-test.true, c.min.ensures)
