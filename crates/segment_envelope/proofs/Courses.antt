-- That along its own axis a segment has a place in each column, at the weighted mean of the course's ends.
use Rattle.std.proofs.Common.{◌≡◌, ◌⊎◌, ℕ, ◌+◌, ◌-◌, ◌*◌, ◌<◌, ◌≤◌, Bool, true, false, refl, ap, subst, arith, inl, inr, if◌then◌else◌}
use Rattle.grid_base.specs.Point.{GridPoint, IsBefore, IsFromTo, point_at}
use Rattle.grid_base.specs.Segment.{GridSegment, is_flat}
use Rattle.grid_base.specs.Places.{RationalPoint, IsPlace}
use Rattle.grid_base.proofs.Balances.{factor_keeps}
use Rattle.grid_base.proofs.Lines.{line_by}
use Rattle.grid_base.proofs.Columns.{up_mean}
use Rattle.segment_envelope.specs.ColumnPair.{IsColumn, at_column}
use Rattle.segment_envelope.specs.Course.{IsCourseOf, IsOnGrid, run, weighted}
use Rattle.segment_envelope.specs.declared.columns.Course.{Course}
use Rattle.segment_envelope.proofs.Shapes.{flat_is, steep_is}
use Rattle.segment_envelope.proofs.Ways.{way, place_back, exchanged_place}
use Rattle.segment_envelope.proofs.Distances.{IsSeen, flat_seen, steep_seen}

-- ---- the place of a course
-- the course c is at n / d in its column k
record IsAt (c : Course) (k d n : ℕ) : Type 0 where
  real : 0 < d
  run : c.from + d ≡ c.to
  sums : n + (c.first * k + c.last * c.from) ≡ c.first * c.to + c.last * k
  along : IsFromTo (c.from * d) (c.to * d) (k * d)
  across : IsFromTo (c.first * d) (c.last * d) n

-- the weighted mean of the ends is the place, times the run
at_mean : (c : Course) (k : ℕ) → IsOnGrid c → c.from ≤ k → k ≤ c.to → IsAt c k (run c) (weighted c k)
at_mean c k on_grid from to = record {
  real = omega (arith, on_grid.forward);
  run = omega (arith, on_grid.forward);
  sums =
      let before = ap (λ (m : ℕ). c.first * m) {x = c.to - k + k} {y = c.to} (omega arith) in
      let after = ap (λ (m : ℕ). c.last * m) {x = k - c.from + c.from} {y = k} (omega arith) in
      omega arith;
  along = omega (arith, factor_keeps c.from k (run c) from, factor_keeps k c.to (run c) to);
  across =
      let whole : k - c.from + (c.to - k) ≡ run c = omega arith in
      subst (λ (d : ℕ). IsFromTo (c.first * d) (c.last * d) (weighted c k)) whole (up_mean (k - c.from) (c.to - k) c.first c.last);
}

-- the place at n / d in column k, and in row k
abbrev column_place : (k d n : ℕ) → RationalPoint
column_place k d n = record { x = k * d; y = n; w = d }

abbrev row_place : (k d n : ℕ) → RationalPoint
row_place k d n = record { x = n; y = k * d; w = d }

-- it is a place of the segment whose columns are those of the course
place_of_columns : (c : Course) (k d n : ℕ) → IsAt c k d n
    → IsPlace (way (point_at c.from c.first) (point_at c.to c.last)) (column_place k d n)
place_of_columns c k d n at = record {
  real = at.real;
  line =
      let across = ap (λ (m : ℕ). n * m) at.run in
      let sums = ap (λ (m : ℕ). m * d) at.sums in
      line_by (way (point_at c.from c.first) (point_at c.to c.last)) (column_place k d n) (omega arith);
  across = at.along;
  up = at.across;
}

-- and, with rows for columns, of the segment whose rows are those of the course
place_of_rows : (c : Course) (k d n : ℕ) → IsAt c k d n
    → IsPlace (way (point_at c.first c.from) (point_at c.last c.to)) (row_place k d n)
place_of_rows c k d n at = exchanged_place (way (point_at c.from c.first) (point_at c.to c.last)) (column_place k d n)
    (place_of_columns c k d n at)

-- ---- a segment and its course
-- what holds of the segment between p and q holds of s where these are its ends
by_ends : (P : GridSegment → Type 0) (s : GridSegment) (p q : GridPoint) → p ≡ s.a → q ≡ s.b → P (way p q) → P s
by_ends P s p q at_a at_b holds =
    subst (λ (b : GridPoint). P (way s.a b)) at_b (subst (λ (a : GridPoint). P (way a q)) at_a holds)

-- the point y in column k, or in row k where the segment isn't flat
abbrev at_axis : Bool → ℕ → ℕ → GridPoint
at_axis flat k y = if flat then point_at k y else point_at y k

-- c leads from one end of s to the other, by columns where flat is true and else by rows
abbrev Leads : Bool → GridSegment → Course → Type 0
Leads flat s c =
    ((at_axis flat c.from c.first ≡ s.a) × (at_axis flat c.to c.last ≡ s.b))
    ⊎ ((at_axis flat c.from c.first ≡ s.b) × (at_axis flat c.to c.last ≡ s.a))

-- the columns of a course are those of its segment
pub column_of_course : (s : GridSegment) (c : Course) (k : ℕ) → IsCourseOf s c → c.from ≤ k → k ≤ c.to → IsColumn s k
column_of_course s c k course from to = by_axis (is_flat s) course
  where
    by_axis : (flat : Bool) → Leads flat s c → IsFromTo (if flat then s.a.x else s.a.y) (if flat then s.b.x else s.b.y) k
    by_axis true (inl ends) = omega (arith, ap (λ p. p.x) ends.0, ap (λ p. p.x) ends.1)
    by_axis true (inr ends) = omega (arith, ap (λ p. p.x) ends.0, ap (λ p. p.x) ends.1)
    by_axis false (inl ends) = omega (arith, ap (λ p. p.y) ends.0, ap (λ p. p.y) ends.1)
    by_axis false (inr ends) = omega (arith, ap (λ p. p.y) ends.0, ap (λ p. p.y) ends.1)

-- a place of the segment between p and q is one of s, whichever of these is its lesser end
place_by_ends : (s : GridSegment) (p q : GridPoint) (r : RationalPoint) → ((p ≡ s.a) × (q ≡ s.b)) ⊎ ((p ≡ s.b) × (q ≡ s.a))
    → IsPlace (way p q) r → IsPlace s r
place_by_ends s p q r (inl ends) place = by_ends (λ t. IsPlace t r) s p q ends.0 ends.1 place
place_by_ends s p q r (inr ends) place = by_ends (λ t. IsPlace t r) s q p ends.1 ends.0 (place_back p q r place)

-- the points of a column are seen from the place of the course there
pub course_seen : (s : GridSegment) (c : Course) (k : ℕ) → IsBefore s.a s.b → IsCourseOf s c → IsOnGrid c → c.from ≤ k → k ≤ c.to
    → (y : ℕ) → IsSeen s (at_column s k y) (y * run c) (weighted c k) (run c)
course_seen s c k ordered course on_grid from to y = by_axis (is_flat s) refl course
  where
    at : IsAt c k (run c) (weighted c k)
    at = at_mean c k on_grid from to

    by_axis : (flat : Bool) → flat ≡ is_flat s → Leads flat s c → IsSeen s (at_axis flat k y) (y * run c) (weighted c k) (run c)
    by_axis true flat ends =
        let place = place_by_ends s _ _ (column_place k (run c) (weighted c k)) ends (place_of_columns c k (run c) (weighted c k) at) in
        flat_seen s (point_at k y) _ ordered (flat_is s flat) place refl
    by_axis false steep ends =
        let place = place_by_ends s _ _ (row_place k (run c) (weighted c k)) ends (place_of_rows c k (run c) (weighted c k) at) in
        steep_seen s (point_at y k) _ (steep_is s steep) place refl
