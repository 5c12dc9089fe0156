-- This file shows how far apart two points are, by how far both are from a third, and their sum from twice that.
use Rattle.std.proofs.Common.{◌≡◌, ℕ, ◌+◌, ◌-◌, ◌*◌, ◌<◌, ◌≤◌, refl, subst, ⊎_elim, arith}
use Rattle.std.proofs.lemmas.Bool.{cases_lt}
use Rattle.grid_base.specs.Point.{GridPoint, gap}
use Rattle.rose_measure.specs.Numbers.{squared_distance}
use Rattle.rose_measure.specs.Sights.{sum_of, twice}
use Rattle.rose_measure.proofs.Ways.{square_more}

-- ---- along one axis
-- the square of a gap and twice the product make the two squares
gap_square_by : (s t d g : ℕ) → s ≡ t + d → g ≡ d → g * g + 2 * (s * t) ≡ s * s + t * t
gap_square_by s t d g is same = rw (same, is) (omega arith)

gap_square : (s t g : ℕ) → g ≡ gap s t → g * g + 2 * (s * t) ≡ s * s + t * t
gap_square s t g is = ⊎_elim
    (λ (less : s < t). let h = gap_square_by t s (t - s) g (omega (arith, less)) (omega (arith, is, less)) in omega (arith, h))
    (λ (more : t ≤ s). gap_square_by s t (s - t) g (omega (arith, more)) (omega (arith, is, more)))
    (cases_lt s t)

-- two numbers apart, and their sum from twice a third, as their squares and products show it
opposite_squares : (m n c a b k l : ℕ) → a * a + 2 * (m * n) ≡ m * m + n * n
    → b * b + 2 * ((m + n) * (2 * c)) ≡ (m + n) * (m + n) + (2 * c) * (2 * c)
    → k * k + 2 * (m * c) ≡ m * m + c * c → l * l + 2 * (n * c) ≡ n * n + c * c → a * a + b * b ≡ 2 * (k * k + l * l)
opposite_squares m n c a b k l one two three four = omega (arith, one, two, three, four)

opposite_numbers : (m n c : ℕ)
    → gap m n * gap m n + gap (m + n) (2 * c) * gap (m + n) (2 * c) ≡ 2 * (gap m c * gap m c + gap n c * gap n c)
opposite_numbers m n c =
    opposite_squares m n c (gap m n) (gap (m + n) (2 * c)) (gap m c) (gap n c) (gap_square m n _ refl) (gap_square (m + n) (2 * c) _ refl)
    (gap_square m c _ refl) (gap_square n c _ refl)

-- ---- along both
both_axes : (a b k l c d m n : ℕ) → a + b ≡ 2 * (k + l) → c + d ≡ 2 * (m + n) → (a + c) + (b + d) ≡ 2 * ((k + m) + (l + n))
both_axes a b k l c d m n one two = omega (arith, one, two)

-- the squared distance of two points, and that of their sum and twice a third, are twice their squared distances from the third
squared_distance-opposite : (p q middle : GridPoint)
    → squared_distance p q + squared_distance (sum_of p q) (twice middle)
    ≡ 2 * (squared_distance p middle + squared_distance q middle)
squared_distance-opposite p q middle =
    both_axes _ _ _ _ _ _ _ _ (opposite_numbers p.x q.x middle.x) (opposite_numbers p.y q.y middle.y)

no_farther : (n o k l near far off found : ℕ) → n + o ≡ 2 * (k + l) → near ≡ k → l ≤ far → off ≤ o → 2 * (near + far) - off ≤ found
    → n ≤ found
no_farther n o k l near far off found is here there less shown = omega (arith, is, here, there, less, shown)

-- two points are no farther apart than what was found, if it shows from how far they are from the middle, and how far off opposite
pub near_by_middle : (p q middle : GridPoint) (near far off found : ℕ) → near ≡ squared_distance p middle
    → squared_distance q middle ≤ far → off ≤ squared_distance (sum_of p q) (twice middle)
    → 2 * (near + far) - off ≤ found → squared_distance p q ≤ found
near_by_middle p q middle near far off found here there less shown =
    no_farther _ _ _ _ near far off found (squared_distance-opposite p q middle) here there less shown

squares_more : (a b c d k l n : ℕ) → a * a ≤ c * c → b * b ≤ d * d → k ≡ a * a → l ≡ b * b → n ≡ k + l → n ≤ c * c + d * d
squares_more a b c d k l n one two is also all = omega (arith, one, two, is, also, all)

-- what is at most so far off along both axes is at most so far off
pub off_by_axes : (p q middle : GridPoint) (v w m u across up k l n : ℕ) → v ≡ p.x → w ≡ p.y → m ≡ middle.x → u ≡ middle.y
    → across ≤ gap (v + q.x) (2 * m) → up ≤ gap (w + q.y) (2 * u) → k ≡ across * across → l ≡ up * up → n ≡ k + l
    → n ≤ squared_distance (sum_of p q) (twice middle)
off_by_axes p q middle v w m u across up k l n v_is w_is m_is u_is less lower is also all =
    let columns : across ≤ gap (p.x + q.x) (2 * middle.x) =
    subst (λ z. across ≤ gap (z + q.x) (2 * middle.x)) v_is (subst (λ z. across ≤ gap (v + q.x) (2 * z)) m_is less) in
    let rows : up ≤ gap (p.y + q.y) (2 * middle.y) =
    subst (λ z. up ≤ gap (z + q.y) (2 * middle.y)) w_is (subst (λ z. up ≤ gap (w + q.y) (2 * z)) u_is lower) in
    squares_more across up _ _ k l n (square_more across _ columns) (square_more up _ rows) is also all
