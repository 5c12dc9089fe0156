-- This file shows how far apart points are at least that are so far apart along a direction.
use Rattle.std.proofs.Common.{◌≡◌, ℕ, ◌+◌, ◌-◌, ◌*◌, ◌<◌, ◌≤◌, Bool, true, false, List, All}
use Rattle.std.proofs.Common.{ap, ⊎_elim, arith}
use Rattle.std.proofs.lemmas.Bool.{cases_lt}
use Rattle.std.proofs.lemmas.List.Elements.{All-contains}
use Rattle.grid_base.specs.Point.{GridPoint, gap}
use Rattle.rose_measure.specs.Numbers.{squared_distance}
use Rattle.rose_measure.specs.Extremes.{itself, at_ends, boxed, IsInBounds, IsSeen}
use Rattle.rose_measure.specs.Directions.{counted, along}
use Rattle.rose_measure.proofs.Ends.{from_itself}

-- twice a product is at most the two squares
twice_ordered : (k l d : ℕ) → l ≡ k + d → 2 * (k * l) ≤ k * k + l * l
twice_ordered k l d is = rw is (omega arith)

twice_a_product : (k l : ℕ) → 2 * (k * l) ≤ k * k + l * l
twice_a_product k l = ⊎_elim
    (λ (less : k < l). twice_ordered k l (l - k) (omega (arith, less)))
    (λ (more : l ≤ k). let h = twice_ordered l k (k - l) (omega (arith, more)) in omega (arith, h))
    (cases_lt k l)

-- the inequality of Cauchy and Schwarz, for two numbers each
pub squares_of_sums : (a b m n : ℕ) → (m * a + n * b) * (m * a + n * b) ≤ (a * a + b * b) * (m * m + n * n)
squares_of_sums a b m n = omega (arith, twice_a_product (m * b) (n * a))

-- counted from either side, two columns or rows are as far apart
counted_apart : (back : Bool) (v w : ℕ) → counted back w ≤ counted back v + gap v w
counted_apart true v w = omega arith
counted_apart false v w = omega arith

-- so many times over keeps the order
times_more_by : (m a b c d : ℕ) → m * (b + c) ≡ m * (a + d) → m * a ≤ m * b + m * c
times_more_by m a b c d h = omega (arith, h)

times_more : (m a b c : ℕ) → a ≤ b + c → m * a ≤ m * b + m * c
times_more m a b c h =
    let is : b + c ≡ a + (b + c - a) = omega (arith, h) in
    let both : m * (b + c) ≡ m * (a + (b + c - a)) = ap (λ z. m * z) is in
    times_more_by m a b c (b + c - a) both

-- along a direction two points are no farther apart than all their columns and rows together
along_apart : (steps : GridPoint) (left down : Bool) (p q : GridPoint)
    → along steps left down q ≤ along steps left down p + (steps.x * gap p.x q.x + steps.y * gap p.y q.y)
along_apart steps left down p q =
    let across = times_more steps.x _ _ _ (counted_apart left p.x q.x) in
    let up = times_more steps.y _ _ _ (counted_apart down p.y q.y) in
    omega (arith, across, up)

-- the greater number has the greater square
square_more_by : (k l d : ℕ) → l ≡ k + d → k * k ≤ l * l
square_more_by k l d is = rw is (omega arith)

pub square_more : (k l : ℕ) → k ≤ l → k * k ≤ l * l
square_more k l h = square_more_by k l (l - k) (omega (arith, h))

-- what so many times over is at most so many times another is at most the other
divided : (found n k : ℕ) → 0 < k → found * k ≤ n * k → found ≤ n
divided found n k some h = grind (arith, some, h)

-- as far apart as the gap along the direction says
far_enough : (found g m n a b : ℕ) → 0 < m * m + n * n → g ≤ m * a + n * b → found * (m * m + n * n) ≤ g * g → found ≤ a * a + b * b
far_enough found g m n a b some less h =
    let square = square_more g (m * a + n * b) less in
    let all = squares_of_sums a b m n in
    divided found (a * a + b * b) (m * m + n * n) some (omega (arith, h, square, all))

-- what lies in the box is from the first place along the direction to the last
abbrev pub IsSpan : GridPoint → Bool → Bool → List GridPoint → GridPoint → GridPoint → ℕ → ℕ → Type 0
IsSpan steps left down points low high first last =
    All (λ p. IsInBounds low high p → (first ≤ along steps left down p) × (along steps left down p ≤ last)) points

in_span : (steps : GridPoint) (left down : Bool) (points : List GridPoint) (low high : GridPoint) (first last : ℕ)
    → IsSpan steps left down points low high first last → (p : GridPoint) → IsSeen (boxed (at_ends itself points) low high) p
    → (first ≤ along steps left down p) × (along steps left down p ≤ last)
in_span steps left down points low high first last span p seen =
    All-contains (λ v. IsInBounds low high v → (first ≤ along steps left down v) × (along steps left down v ≤ last)) points p span
    (from_itself points p seen.there) seen.inside

-- the points of two parts are no nearer than what was found, if the gap between them shows it
pub points_apart : (steps : GridPoint) (left down : Bool) (points others : List GridPoint) (low high other_low other_high : GridPoint)
    (begin behind ahead end g found : ℕ)
    → IsSpan steps left down points low high begin behind → IsSpan steps left down others other_low other_high ahead end
    → g ≡ ahead - behind → 0 < steps.x * steps.x + steps.y * steps.y → found * (steps.x * steps.x + steps.y * steps.y) ≤ g * g
    → (p q : GridPoint) → IsSeen (boxed (at_ends itself points) low high) p → IsSeen (boxed (at_ends itself others) other_low other_high) q
    → found ≤ squared_distance p q
points_apart steps left down points others low high other_low other_high begin behind ahead end g found one other is some shown p q
    p_seen q_seen =
    let before = (in_span steps left down points low high begin behind one p p_seen).1 in
    let after = (in_span steps left down others other_low other_high ahead end other q q_seen).0 in
    let between = along_apart steps left down p q in
    far_enough found g steps.x steps.y (gap p.x q.x) (gap p.y q.y) some (omega (arith, before, after, between, is)) shown
