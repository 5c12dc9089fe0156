use Rattle.std.proofs.Common.{List, length, arith, inl, inr, refl, ap}
use Rattle.grid_base.specs.Segment.{GridSegment}
use Rattle.realm_insert.proofs.OneFigure.{ids_suffice}
use Rattle.realm_insert.proofs.causes.past_limits.Goals as goal

-- the ids are left
pub returns-then-changes-ge-MOST_CHANGES : goal.returns-then-changes-ge-MOST_CHANGES
returns-then-changes-ge-MOST_CHANGES c =
    let long = ap (λ (l : List GridSegment). length l) c.segments.ensures in
    let left = c.next_id-left.ensures in
    let none = ids_suffice c.args.c.now c.args.engine.now.state c.args.figure.now c.requires.draws
    (omega (arith, long, left.next_id, left.most, c.if-drawn-left.false)) in
    inr (none, inl (omega (arith, c.changes.ensures.changes, c.if-changes-ge-MOST_CHANGES.true), refl))

pub returns-else-changes-ge-MOST_CHANGES : goal.returns-else-changes-ge-MOST_CHANGES
returns-else-changes-ge-MOST_CHANGES c =
    let long = ap (λ (l : List GridSegment). length l) c.segments.ensures in
    let left = c.next_id-left.ensures in
    let none = ids_suffice c.args.c.now c.args.engine.now.state c.args.figure.now c.requires.draws
    (omega (arith, long, left.next_id, left.most, c.if-drawn-left.false)) in
    (none, (λ many. omega (arith, many, c.changes.ensures.changes, c.if-changes-ge-MOST_CHANGES.false), tt))
