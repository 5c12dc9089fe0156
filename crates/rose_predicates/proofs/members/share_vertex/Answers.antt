use Rattle.rose_predicates.proofs.PointSets.{share_ends}
use Rattle.rose_predicates.proofs.Truths.{never, told_by}
use Rattle.rose_predicates.proofs.members.share_vertex.Goals as goal

-- boxes apart have no common place
pub returns-then-lie_apart : goal.returns-then-lie_apart
returns-then-lie_apart c = never (λ both. c.lie_apart.ensures.places c.if-lie_apart.true both.0 both.1 both.2)

-- a common place is an end of both
pub returns : goal.returns
returns c =
    told_by (rw (c.deref.ensures.value, c.deref-2.ensures.value) at c.share_point.ensures)
    (share_ends c.args.a.now c.args.b.now c.in_ok-first.first.items c.in_ok-second.second.items c.requires.noded
    c.lesser_ends_first.ensures c.lesser_ends_first-2.ensures c.in_ok-first.ensures.ends c.in_ok-second.ensures.ends)
