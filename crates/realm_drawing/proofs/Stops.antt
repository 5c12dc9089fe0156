-- This file shows where a scan over the box of a segment jumps, and where it ends.
use Rattle.std.proofs.Common.{◌≡◌, ◌⊎◌, ◌+◌, ◌<◌, ◌≤◌, ℕ, true, false, min, max}
use Rattle.std.proofs.Common.{List, [], ◌∷◌, ◌++◌, filter, AllPairs, Contains}
use Rattle.std.proofs.Common.{refl, sym, subst, inl, inr, arith}
use Rattle.std.specs.Ordering.{is_gt}
use Rattle.std.specs.declared.ops.Bound.TheVariants.{Included}
use Rattle.std.proofs.lemmas.Bool.Decides.{nat_tests}
use Rattle.std.proofs.lemmas.List.Elements.{Contains-append_right}
use Rattle.std.proofs.lemmas.List.Kept.{AllPairs-filter}
use Rattle.std.proofs.lemmas.Map.Views.{range_contains-from_IsInRange, IsInRange-from_range_contains}
use Rattle.grid_base.specs.Point.{GridPoint, point_at, point_cmp, InBox, IsBefore}
use Rattle.grid_base.specs.Segment.{GridSegment}
use Rattle.grid_base.proofs.Orders.{point_cmp-total}
use Rattle.grid_base.proofs.Elements.{Contains-cases, Contains-nil}
use Rattle.chain_laws.proofs.Elements.{Contains-head}
use Rattle.chain_laws.proofs.PointSets.{Contains-filter}
use Rattle.realm_drawing.specs.Scans.{Reaches, IsAhead, LeadsTo, is_scanned}
use Rattle.realm_drawing.proofs.Pairs.{pairs_first, pairs_tail, pairs_across}

-- ---- what is scanned
-- q comes between the least row of the box in this column and the greatest point of the box
pub record StandsIn (s : GridSegment) (column : ℕ) (q : GridPoint) : Type 0 where
  pub from_column : column ≤ q.x
  pub from_row : q.x ≡ column → min s.a.y s.b.y ≤ q.y
  pub to_column : q.x ≤ s.b.x
  pub to_row : q.x ≡ s.b.x → q.y ≤ max s.a.y s.b.y

pub scanned_stands : (s : GridSegment) (column : ℕ) (q : GridPoint) → is_scanned s column q ≡ true → StandsIn s column q
scanned_stands s column q scanned =
    let least = point_at column (min s.a.y s.b.y) in
    let greatest = point_at s.b.x (max s.a.y s.b.y) in
    let both = IsInRange-from_range_contains point_cmp-total (Included least) (Included greatest) q scanned in
    let from_least : is_gt (point_cmp least q) ≡ false = both.0 in
    let to_greatest : is_gt (point_cmp q greatest) ≡ false = both.1 in
    record {
      from_column = grind (arith, nat_tests);
      from_row = λ same. grind (arith, nat_tests);
      to_column = grind (arith, nat_tests);
      to_row = λ same. grind (arith, nat_tests);
    }

-- from this column on the box is scanned
pub box_scanned : (s : GridSegment) (column : ℕ) (q : GridPoint) → Reaches s column → InBox s.a s.b q → column ≤ q.x
    → is_scanned s column q ≡ true
box_scanned s column q reaches inside from =
    let least = point_at column (min s.a.y s.b.y) in
    let greatest = point_at s.b.x (max s.a.y s.b.y) in
    let from_a = reaches.from_a in
    let to_b = reaches.to_b in
    let from_least : is_gt (point_cmp least q) ≡ false = grind (arith, nat_tests) in
    let to_greatest : is_gt (point_cmp q greatest) ≡ false = grind (arith, nat_tests) in
    range_contains-from_IsInRange point_cmp-total (Included least) (Included greatest) q (from_least, to_greatest)

-- ---- where a scan stops
-- of what is scanned the points met are in columns before the next one where they are in the box, and those left aren't
pub record StopsAt (s : GridSegment) (next : ℕ) (met left : List GridPoint) : Type 0 where
  pub early : (q : GridPoint) → Contains met q → InBox s.a s.b q → q.x < next
  pub late : (q : GridPoint) → Contains left q → InBox s.a s.b q → next ≤ q.x

pub row_cases : (m n : ℕ) → (m < n) ⊎ (n ≤ m)
row_cases m n = grind (arith)

-- that is behind the column from which it was scanned
leads_ahead : (s : GridSegment) (column : ℕ) (p : GridPoint) (next : ℕ) → Reaches s column → StandsIn s column p
    → (InBox s.a s.b p → ⊥) → LeadsTo s p next → IsAhead s column next
leads_ahead s column p next reaches stands out leads = elim (row_cases p.y (min s.a.y s.b.y)) [
  | inl under ↦
      let is = leads.from_below under in
      record {
        behind = behind_of (row_cases column p.x) is under;
        to_b = omega (arith, is, stands.to_column);
      }
  | inr over ↦
      let is = leads.from_above over in
      record {
        behind = omega (arith, is, stands.from_column);
        to_b = to_b_of (row_cases p.x s.b.x) is over;
      }
]
  where
    behind_of : (column < p.x) ⊎ (p.x ≤ column) → next ≡ p.x → p.y < min s.a.y s.b.y → column < next
    behind_of (inl less) is under = omega (arith, is, less)
    behind_of (inr same) is under =
        absurd (omega (arith, under, stands.from_row (omega (arith, same, stands.from_column))))

    to_b_of : (p.x < s.b.x) ⊎ (s.b.x ≤ p.x) → next ≡ p.x + 1 → min s.a.y s.b.y ≤ p.y → next ≤ s.b.x
    to_b_of (inl less) is over = omega (arith, is, less)
    to_b_of (inr same) is over =
        let at_b : p.x ≡ s.b.x = omega (arith, same, stands.to_column) in
        let to_row = stands.to_row at_b in
        let from_a = reaches.from_a in
        let to_b = reaches.to_b in
        absurd (out ((omega (arith, at_b, from_a, to_b), omega (arith, at_b, from_a, to_b)), (over, to_row)))

-- a point of the box before p is in a column before the next one, and one behind p isn't
before_next : (s : GridSegment) (p q : GridPoint) (next : ℕ) → LeadsTo s p next → InBox s.a s.b q → IsBefore q p → q.x < next
before_next s p q next leads inside before = by_row (row_cases p.y (min s.a.y s.b.y)) before
  where
    by_row : (p.y < min s.a.y s.b.y) ⊎ (min s.a.y s.b.y ≤ p.y) → IsBefore q p → q.x < next
    by_row (inl under) (inl less) = omega (arith, leads.from_below under, less)
    by_row (inl under) (inr same) = absurd (omega (arith, under, same.1, inside.1.0))
    by_row (inr over) (inl less) = omega (arith, leads.from_above over, less)
    by_row (inr over) (inr same) = omega (arith, leads.from_above over, same.0)

next_behind : (s : GridSegment) (p q : GridPoint) (next : ℕ) → LeadsTo s p next → (InBox s.a s.b p → ⊥) → InBox s.a s.b q
    → IsBefore p q → next ≤ q.x
next_behind s p q next leads out inside before = by_row (row_cases p.y (min s.a.y s.b.y)) before
  where
    by_row : (p.y < min s.a.y s.b.y) ⊎ (min s.a.y s.b.y ≤ p.y) → IsBefore p q → next ≤ q.x
    by_row (inl under) (inl less) = omega (arith, leads.from_below under, less)
    by_row (inl under) (inr same) = omega (arith, leads.from_below under, same.0)
    by_row (inr over) (inl less) = omega (arith, leads.from_above over, less)
    by_row (inr over) (inr same) = absurd (out (
      (omega (arith, same.0, inside.0.0), omega (arith, same.0, inside.0.1)),
      (over, omega (arith, same.1, inside.1.1)),
    ))

-- where a scan jumps at p, which is out of the box
pub jumps_there : (points : List GridPoint) (s : GridSegment) (column : ℕ) (p : GridPoint) (next : ℕ) (met rest : List GridPoint)
    → AllPairs IsBefore points → Reaches s column → filter (is_scanned s column) points ≡ met ++ p ∷ rest
    → (InBox s.a s.b p → ⊥) → LeadsTo s p next → IsAhead s column next × StopsAt s next met (p ∷ rest)
jumps_there points s column p next met rest ascend reaches whole out leads =
    let own = Contains-head p rest p refl in
    let ordered = subst (AllPairs IsBefore) whole (AllPairs-filter IsBefore (is_scanned s column) points ascend) in
    let there = subst (λ (l : List GridPoint). Contains l p) (sym whole) (Contains-append_right met (p ∷ rest) p own) in
    let stands = scanned_stands s column p ((Contains-filter (is_scanned s column) points p).0 there).1 in
    let tail = pairs_tail IsBefore met (p ∷ rest) ordered in (
      leads_ahead s column p next reaches stands out leads,
      record {
        early = λ q has inside.
            before_next s p q next leads inside (pairs_across IsBefore met (p ∷ rest) ordered q p has own);
        late = λ q has inside. elim (Contains-cases p rest q has) [
          | inl same ↦ absurd (out (subst (λ (r : GridPoint). InBox s.a s.b r) (sym same) inside))
          | inr later ↦ next_behind s p q next leads out inside (pairs_first IsBefore p rest tail q later)
        ];
      },
    )

-- what comes next is of the points
pub next_there : (points : List GridPoint) (s : GridSegment) (column : ℕ) (met rest : List GridPoint) (p : GridPoint)
    → filter (is_scanned s column) points ≡ met ++ p ∷ rest → Contains points p
next_there points s column met rest p whole =
    let there = Contains-append_right met (p ∷ rest) p (Contains-head p rest p refl) in
    ((Contains-filter (is_scanned s column) points p).0 (subst (λ (l : List GridPoint). Contains l p) (sym whole) there)).0

-- and where it ends
pub ends_there : (s : GridSegment) (column : ℕ) (met : List GridPoint) → Reaches s column → StopsAt s (s.b.x + 1) met []
ends_there s column met reaches = record {
  early = λ q has inside. omega (arith, reaches.from_a, reaches.to_b, inside.0.1);
  late = λ q none inside. absurd (Contains-nil q none);
}
