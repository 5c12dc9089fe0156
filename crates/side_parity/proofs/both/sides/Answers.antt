use Rattle.std.proofs.Common.{◌≡◌, ◌<◌, ◌≤◌, arith}
use Rattle.grid_base.specs.Point.{IsBefore}
use Rattle.grid_base.specs.Plane.{as_place}
use Rattle.grid_base.specs.Odd.{is_strictly_above}
use Rattle.grid_base.proofs.Orders.{is_segment}
use Rattle.side_parity.specs.Middle.{middle}
use Rattle.side_parity.proofs.Answered.{all_counted, one_more, one_more_holds, same_told, slanted_answer, upright_answer}
use Rattle.side_parity.proofs.both.sides.Goals as goal

-- the segment at hand is counted too
pub loop-t-preserved : goal.loop-t-preserved
loop-t-preserved c =
    let border = c.args.border.now in
    let s = c.args.s.now in
    let i = c.loop-t.t-index in
    let t = c.t-item.result in
    let more = c.loop-t-test.true in
    let is = c.t-item.is in
    let so_far = c.loop-t.invariant in
    record {
      odd_number = one_more (λ u. is_strictly_above u (as_place (middle s))) border i t _ _ _ more is
          c.changed-odd.ensures c.is_over_middle.ensures.over so_far.odd_number;
      own_number = one_more (is_segment s) border i t _ _ _ more is
          c.changed-own.ensures (same_told s t _ c.is_same.ensures) so_far.own_number;
      ordered = one_more_holds (λ u. IsBefore u.a u.b) border i t more is
          c.is_over_middle.ensures.ordered so_far.ordered;
    }

-- all is counted, and s isn't vertical
pub returns-then-x : goal.returns-then-x
returns-then-x c =
    let B = c.args.border.now in
    let s = c.args.s.now in
    let l = c.loop-t in
    let m : c.x.result ≡ s.a.x = cc in
    let n : c.x-2.result ≡ s.b.x = cc in
    let wide : s.a.x < s.b.x = let o = c.if-x.true in omega arith in
    let all = all_counted l.odd l.own B s l.t-index c.loop-t-test.false l.invariant in
    slanted_answer B s l.odd l.own c.changed-other.result c.requires.noded c.requires.even c.a.ensures.ordered
    all c.changed-other.ensures wide

-- all is counted, and s is vertical
pub returns-else-x : goal.returns-else-x
returns-else-x c =
    let B = c.args.border.now in
    let s = c.args.s.now in
    let l = c.loop-t in
    let m : c.x.result ≡ s.a.x = cc in
    let n : c.x-2.result ≡ s.b.x = cc in
    let upright : s.b.x ≤ s.a.x = let o = c.if-x.false in omega arith in
    let all = all_counted l.odd l.own B s l.t-index c.loop-t-test.false l.invariant in
    upright_answer B s l.odd l.own c.changed-other.result c.requires.noded c.requires.even c.a.ensures.ordered
    all c.changed-other.ensures upright
