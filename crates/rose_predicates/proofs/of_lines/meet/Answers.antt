use Rattle.std.proofs.Common.{inl, inr}
use Rattle.rose_predicates.proofs.LinesAndRegions.{laid, shared_told}
use Rattle.rose_predicates.proofs.Truths.{never, not_held, not_told, with_held}
use Rattle.rose_predicates.proofs.of_lines.meet.Goals as goal

-- where the lines don't reach into the region, a common point is on the border
pub returns-then-not-touching : goal.returns-then-not-touching
returns-then-not-touching c =
    let h =
    laid c.args.lines.now c.args.border.now c.requires.noded c.requires.border c.lesser_ends_first.ensures
    c.lesser_ends_first-2.ensures in
    never (λ both. elim ((shared_told c.args.lines.now c.args.border.now h).0 both.0) [
      | inl reaching ↦ both.1 reaching
      | inr touching ↦ not_held c.in_ok-touching.ensures c.if-not-touching.true touching
    ])

-- a common end is a common point
pub returns : goal.returns
returns c =
    let t = c.in_ok-touching.ensures.0 c.if-not-touching.false in with_held (t.0, t.1, inl t.2) (not_told c.in_ok-reaching.ensures)
