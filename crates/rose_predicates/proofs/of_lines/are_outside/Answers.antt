use Rattle.std.proofs.Common.{inl}
use Rattle.rose_predicates.proofs.LinesAndRegions.{laid, shared_told}
use Rattle.rose_predicates.proofs.Truths.{neither_told, never, not_held}
use Rattle.rose_predicates.proofs.of_lines.are_outside.Goals as goal

-- a common end is a common point
pub returns-then-touching : goal.returns-then-touching
returns-then-touching c =
    let t = c.in_ok-touching.ensures.0 c.if-touching.true in never (λ none. none (t.0, t.1, inl t.2))

-- a common point is on the border, or the lines reach into the region
pub returns : goal.returns
returns c =
    let h =
    laid c.args.lines.now c.args.border.now c.requires.noded c.requires.border c.lesser_ends_first.ensures
    c.lesser_ends_first-2.ensures in
    neither_told (not_held c.in_ok-touching.ensures c.if-touching.false) c.in_ok-reaching.ensures
    (shared_told c.args.lines.now c.args.border.now h)
