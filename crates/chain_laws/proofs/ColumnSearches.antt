-- This file shows that a search of the points between the corners of a segment's box finds what is inside the segment.
use Rattle.std.proofs.Common.{◌≡◌, ◌≤◌, ◌<◌, ℕ, Option, Some, None, MatchOption, List, filter, length, get_or, All, Contains, HoldsAt}
use Rattle.std.proofs.Common.{Bor}
use Rattle.std.specs.List.{AllWithin}
use Rattle.std.specs.Option.{option_map}
use Rattle.std.proofs.lemmas.List.Elements.{All-contains, All-from_all_within, Contains-from_at, Contains-get_or}
use Rattle.grid_base.specs.Point.{GridPoint}
use Rattle.grid_base.specs.Segment.{GridSegment}
use Rattle.grid_base.specs.Crossing.{Inside}
use Rattle.chain_laws.proofs.PointSets.{is_between_corners, box_between_corners, Contains-filter}

-- the points between the corners of the box of s
abbrev between : GridSegment → List GridPoint → List GridPoint
between s points = filter (is_between_corners s.a s.b) points

-- the first of them that is inside s, or else there is none among all points
pub first_between : (s : GridSegment) (points : List GridPoint) → s.a.x ≤ s.b.x → (found : Option (Bor GridPoint))
    → MatchOption found (AllWithin (λ p. Inside p s → ⊥) (between s points) 0 (length (between s points)))
    (λ p. Inside p.now s × (i : ℕ) × (i < length (between s points)) × HoldsAt (λ q. q ≡ p.now) (between s points) i
    × AllWithin (λ p. Inside p s → ⊥) (between s points) 0 i)
    → MatchOption (option_map (λ p. p.now) found) (All (λ p. Inside p s → ⊥) points)
    (λ p. Contains points p × Inside p s)
first_between s points across (Some p) (inside, i, within, at, none_before) =
    let there = Contains-from_at (between s points) p.now (i, within, at) in
    (((Contains-filter (is_between_corners s.a s.b) points p.now).0 there).0, inside)
first_between s points across None none = λ k d within inside.
    let p = get_or points k d in
    let there = (Contains-filter (is_between_corners s.a s.b) points p).1
    (Contains-get_or points k d within, box_between_corners s.a s.b p across inside.on.box) in
    All-contains (λ p. Inside p s → ⊥) (between s points) p
    (All-from_all_within (λ p. Inside p s → ⊥) (between s points) none) there inside
