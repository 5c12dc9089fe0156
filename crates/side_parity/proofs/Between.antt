-- This file shows what a straight way without a place of t tells where both ends of t are between its columns, as those
-- of a vertical one are.
use Rattle.std.proofs.Common.{◌≡◌, ℕ, zero, suc, ◌+◌, ◌*◌, ◌<◌, ◌≤◌, ltb, ap, arith, inl, inr}
use Rattle.grid_base.specs.Segment.{GridSegment}
use Rattle.grid_base.specs.Point.{IsFromTo}
use Rattle.grid_base.specs.Places.{RationalPoint}
use Rattle.grid_base.proofs.Turns.{times, times_le, in_order}
use Rattle.side_parity.proofs.Numbers.{leftward, leftward_of_way, line_by, rightward, rightward_of_way}
use Rattle.side_parity.proofs.Regions.{mean}
use Rattle.side_parity.proofs.Ways.{IsApart, down_from, down_to, gap_of, ltb_same, mean_down, mean_up, up_from, up_to}

-- the mean of q and p at which the way meets the line of t lies in the rows of t, from under t to over it
rows_down : (t : GridSegment) (q p : RationalPoint) (m n : ℕ) → rightward t p + m ≡ leftward t p
    → leftward t q + n ≡ rightward t q
    → rightward_of_way q p t.a ≤ leftward_of_way q p t.a → leftward_of_way q p t.b ≤ rightward_of_way q p t.b
    → IsFromTo (t.a.y * (m * q.w + n * p.w)) (t.b.y * (m * q.w + n * p.w)) (m * q.y + n * p.y)
rows_down t q p m n e f a b =
    let e1 = ap (λ (k : ℕ). k * q.y) e in
    let e2 = ap (λ (k : ℕ). k * (t.a.y * q.w)) e in
    let e3 = ap (λ (k : ℕ). k * (t.b.y * q.w)) e in
    let f1 = ap (λ (k : ℕ). k * p.y) f in
    let f2 = ap (λ (k : ℕ). k * (t.a.y * p.w)) f in
    let f3 = ap (λ (k : ℕ). k * (t.b.y * p.w)) f in
    elim (in_order t.a.y t.b.y) [
      | inl h ↦
          (let p1 = times_le (rightward_of_way q p t.a) (leftward_of_way q p t.a) t.a.y t.b.y a h in
          let p2 = times_le (leftward_of_way q p t.b) (rightward_of_way q p t.b) t.a.y t.b.y b h in
          let low : t.a.y * (m * q.w + n * p.w) ≤ m * q.y + n * p.y = omega arith in
          let high : m * q.y + n * p.y ≤ t.b.y * (m * q.w + n * p.w) = omega arith in
          (omega (arith, low), omega (arith, high)))
      | inr h ↦
          (let p1 = times_le (rightward_of_way q p t.a) (leftward_of_way q p t.a) t.b.y t.a.y a h in
          let p2 = times_le (leftward_of_way q p t.b) (rightward_of_way q p t.b) t.b.y t.a.y b h in
          let high : m * q.y + n * p.y ≤ t.a.y * (m * q.w + n * p.w) = omega arith in
          let low : t.b.y * (m * q.w + n * p.w) ≤ m * q.y + n * p.y = omega arith in
          (omega (arith, low), omega (arith, high)))
    ]

-- from over t to under it: the way goes down past t as it is seen from its greater end
rows_up : (t : GridSegment) (q p : RationalPoint) (m n : ℕ) → leftward t p + m ≡ rightward t p
    → rightward t q + n ≡ leftward t q
    → leftward_of_way q p t.a ≤ rightward_of_way q p t.a → rightward_of_way q p t.b ≤ leftward_of_way q p t.b
    → IsFromTo (t.a.y * (m * q.w + n * p.w)) (t.b.y * (m * q.w + n * p.w)) (m * q.y + n * p.y)
rows_up t q p m n e f a b =
    let back = rows_down (record { a = t.b; b = t.a }) q p m n (omega arith) (omega arith) b a in
    (omega (arith, back.0), omega (arith, back.1))

-- the four numbers weighed: P q.w - Q p.w is A - B
weighed : (t : GridSegment) (q p : RationalPoint)
    → leftward t p * q.w + rightward t q * p.w + (rightward_of_way q p t.a + leftward_of_way q p t.b)
    ≡ rightward t p * q.w + leftward t q * p.w + (leftward_of_way q p t.a + rightward_of_way q p t.b)
weighed t q p = omega arith

some : (m n v w : ℕ) → 0 < m * v + n * w → 0 < m + n
some zero zero v w l = omega arith
some zero (suc n) v w l = omega arith
some (suc m) n v w l = omega arith

between : (l r x : ℕ) → l ≤ x → x ≤ r → IsFromTo l r x
between l r x u v = (omega arith, omega arith)

pub both_between : (t : GridSegment) (q p : RationalPoint) → IsApart t q p → 0 < q.w → 0 < p.w → t.a.x ≤ t.b.x
    → q.x < t.a.x * q.w → q.x < t.b.x * q.w → t.a.x * p.w ≤ p.x → t.b.x * p.w ≤ p.x
    → ltb (rightward_of_way q p t.a) (leftward_of_way q p t.a) ≡ ltb (rightward_of_way q p t.b) (leftward_of_way q p t.b)
both_between t q p far wq wp h h1 h2 h3 h4 = ltb_same _ _ _ _ from_a from_b
  where
    from_a : rightward_of_way q p t.a < leftward_of_way q p t.a
        → leftward_of_way q p t.b ≤ rightward_of_way q p t.b → ⊥
    from_a a b =
        let w = weighed t q p in
        let p1 = times_le (leftward_of_way q p t.b) (rightward_of_way q p t.b) t.a.x t.b.x b h in
        let p2 = times_le (rightward_of_way q p t.a) (leftward_of_way q p t.a) t.a.x t.b.x (omega arith) h in
        let p_over : leftward t p < rightward t p → ⊥ = λ k.
        (let r1 = times (leftward t p) (rightward t p) 0 q.w k wq in
        let q_under : rightward t q ≤ leftward t q → ⊥ =
        λ j. (let r2 = times_le (rightward t q) (leftward t q) 0 p.w j (omega arith) in omega arith) in
        let r3 = times (leftward t p) (rightward t p) q.x (t.b.x * q.w) k h2 in
        let r4 = times_le (leftward t q) (rightward t q) (t.b.x * p.w) p.x (omega (arith, q_under)) h4 in
        omega arith) in
        let q_under : rightward t q < leftward t q → ⊥ = λ k.
        (let r1 = times (rightward t q) (leftward t q) 0 p.w k wp in
        let p_strictly : leftward t p ≤ rightward t p → ⊥ =
        λ j. (let r2 = times_le (leftward t p) (rightward t p) 0 q.w j (omega arith) in omega arith) in
        let r3 = times (rightward t p) (leftward t p) q.x (t.a.x * q.w) (omega (arith, p_strictly)) h1 in
        let r4 = times_le (rightward t q) (leftward t q) (t.a.x * p.w) p.x (omega arith) h3 in
        omega arith) in
        let g = gap_of (rightward t p) (leftward t p) (omega (arith, p_over)) in
        let k = gap_of (leftward t q) (rightward t q) (omega (arith, q_under)) in
        let e1 = ap (λ (j : ℕ). j * q.w) g.1 in
        let f1 = ap (λ (j : ℕ). j * p.w) k.1 in
        let real : 0 < g.0 * q.w + k.0 * p.w = omega arith in
        far g.0 k.0 (some g.0 k.0 q.w p.w real) (record {
          real = real;
          line = line_by t (mean g.0 q k.0 p) (mean_down t q p g.0 k.0 g.1 k.1);
          across = between _ _ _ (down_from t q p g.0 k.0 g.1 k.1 h (omega arith)) (down_to t q p g.0 k.0 g.1 k.1 h b);
          up = rows_down t q p g.0 k.0 g.1 k.1 (omega arith) b;
        })

    from_b : rightward_of_way q p t.b < leftward_of_way q p t.b
        → leftward_of_way q p t.a ≤ rightward_of_way q p t.a → ⊥
    from_b b a =
        let w = weighed t q p in
        let p1 = times_le (rightward_of_way q p t.b) (leftward_of_way q p t.b) t.a.x t.b.x (omega arith) h in
        let p2 = times_le (leftward_of_way q p t.a) (rightward_of_way q p t.a) t.a.x t.b.x a h in
        let p_under : rightward t p < leftward t p → ⊥ = λ k.
        (let r1 = times (rightward t p) (leftward t p) 0 q.w k wq in
        let q_strictly : leftward t q ≤ rightward t q → ⊥ =
        λ j. (let r2 = times_le (leftward t q) (rightward t q) 0 p.w j (omega arith) in omega arith) in
        let r3 = times (rightward t p) (leftward t p) q.x (t.b.x * q.w) k h2 in
        let r4 = times_le (rightward t q) (leftward t q) (t.b.x * p.w) p.x (omega (arith, q_strictly)) h4 in
        omega arith) in
        let q_over : leftward t q < rightward t q → ⊥ = λ k.
        (let r1 = times (leftward t q) (rightward t q) 0 p.w k wp in
        let p_strictly : rightward t p ≤ leftward t p → ⊥ =
        λ j. (let r2 = times_le (rightward t p) (leftward t p) 0 q.w j (omega arith) in omega arith) in
        let r3 = times (leftward t p) (rightward t p) q.x (t.a.x * q.w) (omega (arith, p_strictly)) h1 in
        let r4 = times_le (leftward t q) (rightward t q) (t.a.x * p.w) p.x (omega arith) h3 in
        omega arith) in
        let g = gap_of (leftward t p) (rightward t p) (omega (arith, p_under)) in
        let k = gap_of (rightward t q) (leftward t q) (omega (arith, q_over)) in
        let e1 = ap (λ (j : ℕ). j * q.w) g.1 in
        let f1 = ap (λ (j : ℕ). j * p.w) k.1 in
        let real : 0 < g.0 * q.w + k.0 * p.w = omega arith in
        far g.0 k.0 (some g.0 k.0 q.w p.w real) (record {
          real = real;
          line = line_by t (mean g.0 q k.0 p) (mean_up t q p g.0 k.0 g.1 k.1);
          across = between _ _ _ (up_from t q p g.0 k.0 g.1 k.1 h a) (up_to t q p g.0 k.0 g.1 k.1 h (omega arith));
          up = rows_up t q p g.0 k.0 g.1 k.1 a (omega arith);
        })
