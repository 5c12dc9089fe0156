use Rattle.std.proofs.Common.{rules, ◌↔◌, IsTrue, All}
use Rattle.segment_lists.proofs.Noding.{IsLeft, noded_by, left_in_realm}
use Rattle.segment_lists.proofs.noded.are_noded.Goals as goal

-- each segment is left by all exactly where the segments are those of a realm
pub returns : goal.returns
returns c =
    let left : IsTrue c.all.result ↔ All (IsLeft c.args.list.now) c.args.list.now = search rules in
    (λ true. noded_by c.args.list.now c.each_is_on_grid.ensures (left.0 true), λ noded. left.1 (left_in_realm c.args.list.now noded))
