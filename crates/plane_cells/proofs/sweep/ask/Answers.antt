use Rattle.std.proofs.Common.{arith, ◌≡◌, ◌∙◌, sym, ap, subst, ℕ, List, get_or, ◌^◌, ◌<◌, length, take, drop}
use Rattle.grid_base.specs.Segment.{GridSegment}
use Rattle.plane_cells.specs.Steps.{Each, Pairs, label_over}
use Rattle.plane_cells.specs.Scan.{IsUnderBegin}
use Rattle.plane_cells.specs.Numbered.{numbered}
use Rattle.plane_cells.specs.Swept.{wall_before, bound_at}
use Rattle.plane_cells.proofs.Passing.{small_here}
use Rattle.plane_cells.proofs.Asking.{sorted_there, asking_more, rest_later, read_segment, due_next, late_column}
use Rattle.plane_cells.proofs.sweep.ask.Goals as goal

-- the segment that is asked for lies so in the status
pub count_under-count-requires-clause-sorted : goal.count_under-count-requires-clause-sorted
count_under-count-requires-clause-sorted c =
    let s = c.loop-sweep.sweep in
    let T = c.args.sweep.now.list.now in
    let t0 = c.index-sweep-len-in-loop-sweep.result in
    let t = get_or s.list.now c.len-in-loop-sweep-2.result t0 in
    let short : length s.asked.items < length s.list.now = omega (arith, c.loop-sweep-test.true, c.len.ensures, s.asked.ok) in
    let same = c.loop-sweep.invariant.same in
    let next = due_next c.args.vertices.now c.args.index s.list.now (length s.asked.items) c.index-sweep-len.result t0
    c.len-in-loop-sweep.result c.len-in-loop-sweep-2.result c.a.result c.column.result c.bound-bound.result short
    (omega (arith, c.len-in-loop-sweep.ensures, s.asked.ok)) c.index-sweep-len.is c.a.ensures.end c.column.ensures.column
    c.if-column-bound.true c.bound-bound.ensures (omega (arith, c.len-in-loop-sweep-2.ensures, s.asked.ok))
    c.index-sweep-len-in-loop-sweep.is in
    sorted_there c.args.border.now c.args.vertices.now c.args.index s.status s.next s.links.items s.right.items T s.asked.items t
    c.requires.realm c.requires.vertices c.requires.index c.requires.others c.loop-sweep.invariant.swept
    (subst (λ (l : List GridSegment). length s.asked.items < length l) same short)
    (next.0 ∙ ap (λ (l : List GridSegment). numbered l (length s.asked.items)) same) next.1

pub label-found-requires-clause-fits : goal.label-found-requires-clause-fits
label-found-requires-clause-fits c =
    let s = c.loop-sweep.sweep in
    small_here c.args.border.now (wall_before c.args.vertices.now c.args.index) s.status s.next s.links.items s.right.items
    c.args.sweep.now.list.now s.asked.items (2 ^ 63) c.loop-sweep.invariant.swept (omega (arith, s.right.small, s.right.ok))

-- its label is known now
pub loop-sweep-preserved : goal.loop-sweep-preserved
loop-sweep-preserved c =
    let s = c.loop-sweep.sweep in
    let B = c.args.border.now in
    let t0 = c.index-sweep-len-in-loop-sweep.result in
    let t = get_or s.list.now c.len-in-loop-sweep-2.result t0 in
    let k = c.count_under-count.result in
    let short : length s.asked.items < length s.list.now = omega (arith, c.loop-sweep-test.true, c.len.ensures, s.asked.ok) in
    let next = due_next c.args.vertices.now c.args.index s.list.now (length s.asked.items) c.index-sweep-len.result t0
    c.len-in-loop-sweep.result c.len-in-loop-sweep-2.result c.a.result c.column.result c.bound-bound.result short
    (omega (arith, c.len-in-loop-sweep.ensures, s.asked.ok)) c.index-sweep-len.is c.a.ensures.end c.column.ensures.column
    c.if-column-bound.true c.bound-bound.ensures (omega (arith, c.len-in-loop-sweep-2.ensures, s.asked.ok))
    c.index-sweep-len-in-loop-sweep.is in
    asking_more B c.args.vertices.now c.args.index s.status s.next s.links.items s.right.items c.args.sweep.now.list.now s.list.now
    s.asked.items c.push.new.self.items t k c.label-found.result
    c.requires.realm c.requires.vertices c.requires.index c.requires.others c.loop-sweep.invariant short next.0 next.1 c.count_under-count.ensures.below
    c.count_under-count.ensures.others c.label-found.ensures
    c.in_ok-push.ensures.items

-- no more segments are due
pub returns-else-column-bound-clause-later : goal.returns-else-column-bound-clause-later
returns-else-column-bound-clause-later c =
    let s = c.loop-sweep.sweep in
    let T = c.args.sweep.now.list.now in
    let same = c.loop-sweep.invariant.same in
    rest_later T (length s.asked.items) (bound_at c.args.vertices.now c.args.index) c.requires.others.ascending (λ h.
    let short : length s.asked.items < length s.list.now = subst (λ (l : List GridSegment). length s.asked.items < length l) (sym same) h in
    let e0 = read_segment s.list.now (length s.asked.items) c.len-in-loop-sweep.result c.index-sweep-len.result short
    (omega (arith, c.len-in-loop-sweep.ensures, s.asked.ok)) c.index-sweep-len.is in
    late_column c.index-sweep-len.result (numbered T (length s.asked.items)) c.a.result c.column.result c.bound-bound.result
    (bound_at c.args.vertices.now c.args.index) (e0 ∙ ap (λ (l : List GridSegment). numbered l (length s.asked.items)) same)
    (c.a.ensures.end ∙ ap (λ (u : GridSegment). u.a) (sym c.index-sweep-len.is)) c.column.ensures.column c.if-column-bound.false
    c.bound-bound.ensures)
