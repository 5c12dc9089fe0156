use Rattle.std.proofs.Common.{inl}
use Rattle.rose_predicates.proofs.RegionSets.{shared_told}
use Rattle.rose_predicates.proofs.RegionSides.{borders_of}
use Rattle.rose_predicates.proofs.Truths.{neither_told, never, not_held}
use Rattle.rose_predicates.proofs.of_regions.are_disjoint.Goals as goal

-- a common end is a common point
pub returns-then-touching : goal.returns-then-touching
returns-then-touching c =
    let t = c.in_ok-touching.ensures.0 c.if-touching.true in never (λ none. none (t.0, inl t.1, inl t.2))

-- a common point is on both borders, or the areas meet
pub returns : goal.returns
returns c =
    let a = c.args.a.now in
    let b = c.args.b.now in
    let h =
    borders_of a b c.requires.noded c.requires.first c.requires.second c.lesser_ends_first.ensures c.lesser_ends_first-2.ensures in
    neither_told (not_held c.in_ok-touching.ensures c.if-touching.false) c.in_ok-meeting.ensures
    (shared_told a b h c.requires.first.ascending c.requires.second.ascending)
