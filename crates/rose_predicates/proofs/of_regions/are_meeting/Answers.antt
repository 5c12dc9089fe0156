use Rattle.std.proofs.Common.{inl, inr}
use Rattle.rose_predicates.proofs.RegionSets.{shared_told}
use Rattle.rose_predicates.proofs.RegionSides.{borders_of}
use Rattle.rose_predicates.proofs.Truths.{first_held, never, not_held}
use Rattle.rose_predicates.proofs.of_regions.are_meeting.Goals as goal

-- where the areas don't meet, a common point is on both borders
pub returns-then-not-touching : goal.returns-then-not-touching
returns-then-not-touching c =
    let a = c.args.a.now in
    let b = c.args.b.now in
    let h =
    borders_of a b c.requires.noded c.requires.first c.requires.second c.lesser_ends_first.ensures c.lesser_ends_first-2.ensures in
    never (λ both. elim ((shared_told a b h c.requires.first.ascending c.requires.second.ascending).0 both.1) [
      | inl meeting ↦ both.0.0 meeting
      | inr touching ↦ not_held c.in_ok-touching.ensures c.if-not-touching.true touching
    ])

-- a common end is a common point
pub returns : goal.returns
returns c =
    let t = c.in_ok-touching.ensures.0 c.if-not-touching.false in
    first_held (t.0, inl t.1, inl t.2) c.in_ok-are_edge_disjoint.ensures
