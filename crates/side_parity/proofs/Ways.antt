-- A straight way from q to p that has no place of t: what it tells of the four side numbers.
-- Below, P and Q are the side numbers of p and q beside t, and A and B those of the ends of t beside the way. Two identities carry all:
-- P (q.w c - q.x) - Q (p.w c - p.x) is -B (t.b.x - t.a.x) at c = t.b.x, and -A (t.b.x - t.a.x) at c = t.a.x.
use Rattle.std.proofs.Common.{◌≡◌, ℕ, ◌+◌, ◌-◌, ◌*◌, ◌<◌, ◌≤◌, ltb, sym, ap, subst, ◌∙◌, arith, inl, inr}
use Rattle.std.proofs.lemmas.Bool.{cases_lt, lt-ltb, le-ltb}
use Rattle.grid_base.specs.Segment.{GridSegment}
use Rattle.grid_base.specs.Places.{RationalPoint, IsPlace}
use Rattle.grid_base.proofs.Turns.{times, times_le}
use Rattle.side_parity.proofs.Numbers.{leftward, leftward_of_way, place_by, rightward, rightward_of_way, wider}
use Rattle.side_parity.proofs.Regions.{mean}

-- the way from q to p, its ends included, has no place of t
abbrev pub IsApart : GridSegment → RationalPoint → RationalPoint → Type 0
IsApart t q p = (m n : ℕ) → 0 < m + n → IsPlace t (mean m q n p) → ⊥

-- b is a and something
pub gap_of : (a b : ℕ) → a ≤ b → (k : ℕ) × (a + k ≡ b)
gap_of a b h = (b - a, omega arith)

balanced : (u v m n k j : ℕ) → v + k ≡ u → m + j ≡ n → k * m + j * u ≡ k * n + j * v
balanced u v m n k j e f =
    subst (λ (x : ℕ). k * m + j * x ≡ k * n + j * v) e (subst (λ (y : ℕ). k * m + j * (v + k) ≡ k * y + j * v) f (omega arith))

-- ---- the mean of q and p at which the way meets the line of t
-- from under t to over it
pub mean_down : (t : GridSegment) (q p : RationalPoint) (m n : ℕ) → rightward t p + m ≡ leftward t p
    → leftward t q + n ≡ rightward t q
    → leftward t (mean m q n p) ≡ rightward t (mean m q n p)
mean_down t q p m n e f = let b = balanced (leftward t p) (rightward t p) (leftward t q) (rightward t q) m n e f in omega arith

-- from over t to under it
pub mean_up : (t : GridSegment) (q p : RationalPoint) (m n : ℕ) → leftward t p + m ≡ rightward t p
    → rightward t q + n ≡ leftward t q
    → leftward t (mean m q n p) ≡ rightward t (mean m q n p)
mean_up t q p m n e f = let b = balanced (rightward t p) (leftward t p) (rightward t q) (leftward t q) m n e f in omega arith

mean_from : (c m n : ℕ) (q p : RationalPoint) → c * q.w ≤ q.x → c * p.w ≤ p.x
    → c * (m * q.w + n * p.w) ≤ m * q.x + n * p.x
mean_from c m n q p h k =
    let p1 = times_le 0 m (c * q.w) q.x (omega arith) h in
    let p2 = times_le 0 n (c * p.w) p.x (omega arith) k in
    omega arith

mean_to : (c m n : ℕ) (q p : RationalPoint) → q.x ≤ c * q.w → p.x ≤ c * p.w
    → m * q.x + n * p.x ≤ c * (m * q.w + n * p.w)
mean_to c m n q p h k =
    let p1 = times_le 0 m q.x (c * q.w) (omega arith) h in
    let p2 = times_le 0 n p.x (c * p.w) (omega arith) k in
    omega arith

pub mean_real : (m n : ℕ) (q p : RationalPoint) → 0 < q.w → 0 < p.w → 0 < m + n → 0 < m * q.w + n * p.w
mean_real m n q p h k l =
    let p1 = times_le 0 m 1 q.w (omega arith) (omega arith) in
    let p2 = times_le 0 n 1 p.w (omega arith) (omega arith) in
    omega arith

-- going down, it isn't past the greater end where that end isn't above the way, nor before the lesser where that isn't under it
pub down_to : (t : GridSegment) (q p : RationalPoint) (m n : ℕ) → rightward t p + m ≡ leftward t p
    → leftward t q + n ≡ rightward t q → t.a.x ≤ t.b.x
    → leftward_of_way q p t.b ≤ rightward_of_way q p t.b → m * q.x + n * p.x ≤ t.b.x * (m * q.w + n * p.w)
down_to t q p m n e f h b =
    let p1 = times_le (leftward_of_way q p t.b) (rightward_of_way q p t.b) t.a.x t.b.x b h in
    let e1 = ap (λ (k : ℕ). k * q.x) e in
    let e2 = ap (λ (k : ℕ). k * (t.b.x * q.w)) e in
    let f1 = ap (λ (k : ℕ). k * p.x) f in
    let f2 = ap (λ (k : ℕ). k * (t.b.x * p.w)) f in
    omega arith

pub down_from : (t : GridSegment) (q p : RationalPoint) (m n : ℕ) → rightward t p + m ≡ leftward t p
    → leftward t q + n ≡ rightward t q → t.a.x ≤ t.b.x
    → rightward_of_way q p t.a ≤ leftward_of_way q p t.a → t.a.x * (m * q.w + n * p.w) ≤ m * q.x + n * p.x
down_from t q p m n e f h a =
    let p1 = times_le (rightward_of_way q p t.a) (leftward_of_way q p t.a) t.a.x t.b.x a h in
    let e1 = ap (λ (k : ℕ). k * q.x) e in
    let e2 = ap (λ (k : ℕ). k * (t.a.x * q.w)) e in
    let f1 = ap (λ (k : ℕ). k * p.x) f in
    let f2 = ap (λ (k : ℕ). k * (t.a.x * p.w)) f in
    omega arith

-- going up, the other way round
pub up_to : (t : GridSegment) (q p : RationalPoint) (m n : ℕ) → leftward t p + m ≡ rightward t p
    → rightward t q + n ≡ leftward t q → t.a.x ≤ t.b.x
    → rightward_of_way q p t.b ≤ leftward_of_way q p t.b → m * q.x + n * p.x ≤ t.b.x * (m * q.w + n * p.w)
up_to t q p m n e f h b =
    let p1 = times_le (rightward_of_way q p t.b) (leftward_of_way q p t.b) t.a.x t.b.x b h in
    let e1 = ap (λ (k : ℕ). k * q.x) e in
    let e2 = ap (λ (k : ℕ). k * (t.b.x * q.w)) e in
    let f1 = ap (λ (k : ℕ). k * p.x) f in
    let f2 = ap (λ (k : ℕ). k * (t.b.x * p.w)) f in
    omega arith

pub up_from : (t : GridSegment) (q p : RationalPoint) (m n : ℕ) → leftward t p + m ≡ rightward t p
    → rightward t q + n ≡ leftward t q → t.a.x ≤ t.b.x
    → leftward_of_way q p t.a ≤ rightward_of_way q p t.a → t.a.x * (m * q.w + n * p.w) ≤ m * q.x + n * p.x
up_from t q p m n e f h a =
    let p1 = times_le (leftward_of_way q p t.a) (rightward_of_way q p t.a) t.a.x t.b.x a h in
    let e1 = ap (λ (k : ℕ). k * q.x) e in
    let e2 = ap (λ (k : ℕ). k * (t.a.x * q.w)) e in
    let f1 = ap (λ (k : ℕ). k * p.x) f in
    let f2 = ap (λ (k : ℕ). k * (t.a.x * p.w)) f in
    omega arith

-- ---- no common place: the four cases by which columns the ends of t and of the way are in
no_down : (t : GridSegment) (q p : RationalPoint) → IsApart t q p → 0 < q.w → 0 < p.w → t.a.x < t.b.x
    → leftward t q < rightward t q → rightward t p ≤ leftward t p
    → ((m n : ℕ) → rightward t p + m ≡ leftward t p → leftward t q + n ≡ rightward t q → t.a.x * (m * q.w + n * p.w) ≤ m * q.x + n * p.x)
    → ((m n : ℕ) → rightward t p + m ≡ leftward t p → leftward t q + n ≡ rightward t q → m * q.x + n * p.x ≤ t.b.x * (m * q.w + n * p.w))
    → ⊥
no_down t q p far wq wp h u o from to =
    let g = gap_of (rightward t p) (leftward t p) o in
    let k = gap_of (leftward t q) (rightward t q) (omega arith) in
    let some : 0 < g.0 + k.0 = omega (arith, k.1) in
    far g.0 k.0 some
    (place_by t (mean g.0 q k.0 p) (mean_real g.0 k.0 q p wq wp some) h (mean_down t q p g.0 k.0 g.1 k.1) (from g.0 k.0 g.1 k.1)
    (to g.0 k.0 g.1 k.1))

no_up : (t : GridSegment) (q p : RationalPoint) → IsApart t q p → 0 < q.w → 0 < p.w → t.a.x < t.b.x
    → rightward t q ≤ leftward t q → leftward t p < rightward t p
    → ((m n : ℕ) → leftward t p + m ≡ rightward t p → rightward t q + n ≡ leftward t q → t.a.x * (m * q.w + n * p.w) ≤ m * q.x + n * p.x)
    → ((m n : ℕ) → leftward t p + m ≡ rightward t p → rightward t q + n ≡ leftward t q → m * q.x + n * p.x ≤ t.b.x * (m * q.w + n * p.w))
    → ⊥
no_up t q p far wq wp h o u from to =
    let g = gap_of (leftward t p) (rightward t p) (omega arith) in
    let k = gap_of (rightward t q) (leftward t q) o in
    let some : 0 < g.0 + k.0 = omega (arith, g.1) in
    far g.0 k.0 some
    (place_by t (mean g.0 q k.0 p) (mean_real g.0 k.0 q p wq wp some) h (mean_up t q p g.0 k.0 g.1 k.1) (from g.0 k.0 g.1 k.1)
    (to g.0 k.0 g.1 k.1))

pub ltb_same : (l r m n : ℕ) → (l < r → n ≤ m → ⊥) → (m < n → r ≤ l → ⊥) → ltb l r ≡ ltb m n
ltb_same l r m n h k = elim (cases_lt l r) [
  | inl o ↦ elim (cases_lt m n) [ inl u ↦ lt-ltb l r o ∙ sym (lt-ltb m n u) | inr u ↦ absurd (h o u) ]
  | inr o ↦ elim (cases_lt m n) [ inl u ↦ absurd (k u o) | inr u ↦ le-ltb l r o ∙ sym (le-ltb m n u) ]
]

-- t holds both columns
pub both_within : (t : GridSegment) (q p : RationalPoint) → IsApart t q p → 0 < q.w → 0 < p.w
    → t.a.x * q.w ≤ q.x → q.x < t.b.x * q.w → t.a.x * p.w ≤ p.x → p.x < t.b.x * p.w
    → ltb (leftward t q) (rightward t q) ≡ ltb (leftward t p) (rightward t p)
both_within t q p far wq wp h1 h2 h3 h4 =
    let h : t.a.x < t.b.x = wider t.a.x t.b.x q.w q.x h1 h2 in
    ltb_same _ _ _ _
    (λ u o. no_down t q p far wq wp h u o (λ m n e f. mean_from t.a.x m n q p h1 h3)
    (λ m n e f. mean_to t.b.x m n q p (omega arith) (omega arith)))
    (λ u o. no_up t q p far wq wp h o u (λ m n e f. mean_from t.a.x m n q p h1 h3)
    (λ m n e f. mean_to t.b.x m n q p (omega arith) (omega arith)))

-- t holds the column of q, and ends before that of p
pub ends_between : (t : GridSegment) (q p : RationalPoint) → IsApart t q p → 0 < q.w → 0 < p.w → t.a.x < t.b.x
    → t.a.x * q.w ≤ q.x → q.x < t.b.x * q.w → t.a.x * p.w ≤ p.x → t.b.x * p.w ≤ p.x
    → ltb (leftward t q) (rightward t q) ≡ ltb (rightward_of_way q p t.b) (leftward_of_way q p t.b)
ends_between t q p far wq wp h h1 h2 h3 h4 = ltb_same _ _ _ _ from_q from_b
  where
    from_q : leftward t q < rightward t q → leftward_of_way q p t.b ≤ rightward_of_way q p t.b → ⊥
    from_q u b =
        let no : leftward t p < rightward t p → ⊥ = λ k.
        (let p1 = times (leftward t p) (rightward t p) q.x (t.b.x * q.w) k h2 in
        let p2 = times_le (leftward t q) (rightward t q) (t.b.x * p.w) p.x (omega arith) h4 in
        let p3 = times_le (leftward_of_way q p t.b) (rightward_of_way q p t.b) t.a.x t.b.x b (omega arith) in
        omega arith) in
        no_down t q p far wq wp h u (omega (arith, no)) (λ m n e f. mean_from t.a.x m n q p h1 h3)
        (λ m n e f. down_to t q p m n e f (omega arith) b)

    from_b : rightward_of_way q p t.b < leftward_of_way q p t.b → rightward t q ≤ leftward t q → ⊥
    from_b b o =
        let no : rightward t p ≤ leftward t p → ⊥ = λ k.
        (let p1 = times_le (rightward t p) (leftward t p) q.x (t.b.x * q.w) k (omega arith) in
        let p2 = times_le (rightward t q) (leftward t q) (t.b.x * p.w) p.x o h4 in
        let p3 = times (rightward_of_way q p t.b) (leftward_of_way q p t.b) t.a.x t.b.x b h in
        omega arith) in
        no_up t q p far wq wp h o (omega (arith, no)) (λ m n e f. mean_from t.a.x m n q p h1 h3)
        (λ m n e f. up_to t q p m n e f (omega arith) (omega arith))

-- t begins after the column of q, and holds that of p
pub begins_between : (t : GridSegment) (q p : RationalPoint) → IsApart t q p → 0 < q.w → 0 < p.w → t.a.x < t.b.x
    → q.x < t.a.x * q.w → q.x < t.b.x * q.w → t.a.x * p.w ≤ p.x → p.x < t.b.x * p.w
    → ltb (rightward_of_way q p t.a) (leftward_of_way q p t.a) ≡ ltb (leftward t p) (rightward t p)
begins_between t q p far wq wp h h1 h2 h3 h4 = ltb_same _ _ _ _ from_a from_p
  where
    from_a : rightward_of_way q p t.a < leftward_of_way q p t.a → rightward t p ≤ leftward t p → ⊥
    from_a a o =
        let no : rightward t q ≤ leftward t q → ⊥ = λ k.
        (let p1 = times_le (rightward t p) (leftward t p) q.x (t.a.x * q.w) o (omega arith) in
        let p2 = times_le (rightward t q) (leftward t q) (t.a.x * p.w) p.x k h3 in
        let p3 = times (rightward_of_way q p t.a) (leftward_of_way q p t.a) t.a.x t.b.x a h in
        omega arith) in
        no_down t q p far wq wp h (omega (arith, no)) o (λ m n e f. down_from t q p m n e f (omega arith) (omega arith))
        (λ m n e f. mean_to t.b.x m n q p (omega arith) (omega arith))

    from_p : leftward t p < rightward t p → leftward_of_way q p t.a ≤ rightward_of_way q p t.a → ⊥
    from_p u a =
        let no : leftward t q < rightward t q → ⊥ = λ k.
        (let p1 = times (leftward t p) (rightward t p) q.x (t.a.x * q.w) u h1 in
        let p2 = times_le (leftward t q) (rightward t q) (t.a.x * p.w) p.x (omega arith) h3 in
        let p3 = times_le (leftward_of_way q p t.a) (rightward_of_way q p t.a) t.a.x t.b.x a (omega arith) in
        omega arith) in
        no_up t q p far wq wp h (omega (arith, no)) u (λ m n e f. up_from t q p m n e f (omega arith) a)
        (λ m n e f. mean_to t.b.x m n q p (omega arith) (omega arith))
