-- This file shows which points a part can be narrowed to, as another is seen from a point between them.
use Rattle.std.proofs.Common.{◌≡◌, ◌⊎◌, ℕ, ◌-◌, ◌+◌, ◌*◌, ◌≤◌, List, [], ◌∷◌, ◌++◌, All, Contains}
use Rattle.std.proofs.Common.{sym, subst, ap, ◌∙◌, inl, inr, ⊎_elim}
use Rattle.std.proofs.lemmas.Grind.{flat_map-append}
use Rattle.std.proofs.lemmas.List.Elements.{All-contains, Contains-append_left, Contains-append_right, Contains-append_cases}
use Rattle.grid_base.specs.Point.{GridPoint}
use Rattle.rose_measure.specs.Numbers.{squared_distance}
use Rattle.rose_measure.specs.Extremes.{Boxed, boxed, both_ends, at_ends, IsInBounds, IsSeen, IsNarrowed, IsTrimmed}
use Rattle.rose_measure.specs.Sights.{IsInSight, IsNear, sum_of, twice}
use Rattle.rose_measure.specs.declared.narrowing.Sight.{Sight}
use Rattle.rose_measure.specs.declared.parts.End.{End}
use Rattle.rose_measure.specs.declared.parts.End.TheVariants.{Lesser, Greater}
use Rattle.rose_measure.proofs.Ends.{one_of_both}
use Rattle.rose_measure.proofs.Opposites.{near_by_middle}

-- a point that counts is in sight, if it is no farther from the middle
pub seen_in_sight : (sight : Sight) (points : List GridPoint) (low high middle : GridPoint) (far : ℕ)
    → sight.bounds.low ≡ low → sight.bounds.high ≡ high → sight.middle ≡ middle → sight.far ≡ far
    → All (λ q. IsInBounds low high q → squared_distance q middle ≤ far) points
    → (q : GridPoint) → IsSeen (boxed points low high) q → IsInSight sight q
seen_in_sight sight points low high middle far low_is high_is middle_is far_is most q seen = record {
  inside = rw (low_is, high_is) seen.inside;
  within = rw (middle_is, far_is)
      (All-contains (λ p. IsInBounds low high p → squared_distance p middle ≤ far) points q most seen.there seen.inside);
}

-- nothing in sight is farther than what was found, if how far it is from the middle and how far off opposite shows it
pub near_in_sight : (sight : Sight) (p : GridPoint) (near off found : ℕ) → near ≡ squared_distance p sight.middle
    → ((q : GridPoint) → IsInBounds sight.bounds.low sight.bounds.high q → off ≤ squared_distance (sum_of p q) (twice sight.middle))
    → 2 * (near + sight.far) - off ≤ found → IsNear sight found p
near_in_sight sight p near off found here least shown q seen =
    near_by_middle p q sight.middle near sight.far off found here seen.within (least q seen.inside) shown

-- ---- elements before the first that has an end in the box, and behind the last
-- trimmed once more
pub trimmed_further : (low high : GridPoint) (points rest last : List GridPoint) → IsTrimmed low high points rest
    → IsTrimmed low high rest last → IsTrimmed low high points last
trimmed_further low high points rest last one two = record {
  kept = λ p there inside. two.kept p (one.kept p there inside) inside;
  of_points = λ p there. one.of_points p (two.of_points p there);
}

-- neither end of the element is in the box
none_of_both : {X : Type 0} (place : End → X → GridPoint) (low high : GridPoint) (item : X) (p : GridPoint)
    → (IsInBounds low high (place Lesser item) ⊎ IsInBounds low high (place Greater item) → ⊥)
    → Contains (both_ends place item) p → IsInBounds low high p → ⊥
none_of_both place low high item p none there inside = elim (one_of_both place item p there) [
  | inl lesser ↦ none (inl (subst (IsInBounds low high) (sym lesser) inside))
  | inr greater ↦ none (inr (subst (IsInBounds low high) (sym greater) inside))
]

-- the first element may go
pub first_trimmed : {X : Type 0} (place : End → X → GridPoint) (low high : GridPoint) (list rest : List X) (item : X)
    → list ≡ item ∷ rest → (IsInBounds low high (place Lesser item) ⊎ IsInBounds low high (place Greater item) → ⊥)
    → IsTrimmed low high (at_ends place list) (at_ends place rest)
first_trimmed place low high list rest item is none = rw is (record {
  kept = λ p there inside. elim (Contains-append_cases (both_ends place item) (at_ends place rest) p there) [
    | inl first ↦ absurd (none_of_both place low high item p none first inside)
    | inr later ↦ later
  ];
  of_points = λ p there. Contains-append_right (both_ends place item) (at_ends place rest) p there;
})

-- the last element may go
pub last_trimmed : {X : Type 0} (place : End → X → GridPoint) (low high : GridPoint) (list rest : List X) (item : X)
    → list ≡ rest ++ item ∷ [] → (IsInBounds low high (place Lesser item) ⊎ IsInBounds low high (place Greater item) → ⊥)
    → IsTrimmed low high (at_ends place list) (at_ends place rest)
last_trimmed place low high list rest item is none =
    let points : at_ends place list ≡ at_ends place rest ++ both_ends place item =
    ap (at_ends place) is ∙ flat_map-append (both_ends place) rest (item ∷ []) in
    rw points (record {
      kept = λ p there inside. elim (Contains-append_cases (at_ends place rest) (both_ends place item) p there) [
        | inl before ↦ before
        | inr last ↦ absurd (none_of_both place low high item p none last inside)
      ];
      of_points = λ p there. Contains-append_left (at_ends place rest) (both_ends place item) p there;
    })

-- a part whose box has each point that counts, unless nothing in sight is farther from it than what was found, and whose list has
-- each of those points
pub narrowed_by_sight : (points rest : List GridPoint) (low high narrow_low narrow_high : GridPoint) (second : Boxed) (sight : Sight)
    (found : ℕ) → ((q : GridPoint) → IsSeen second q → IsInSight sight q)
    → All (λ p. IsInBounds low high p → IsInBounds narrow_low narrow_high p ⊎ IsNear sight found p) points
    → IsTrimmed narrow_low narrow_high points rest
    → IsNarrowed (boxed points low high) second (boxed rest narrow_low narrow_high) found
narrowed_by_sight points rest low high narrow_low narrow_high second sight found has far trimmed = record {
  left_out = λ p seen. ⊎_elim
      (λ inside. inl (record { there = trimmed.kept p seen.there inside; inside = inside }))
      (λ near. inr (λ q q_seen. near q (has q q_seen)))
      (All-contains (λ p. IsInBounds low high p → IsInBounds narrow_low narrow_high p ⊎ IsNear sight found p) points p far
      seen.there seen.inside);
  of_whole = trimmed.of_points;
}
