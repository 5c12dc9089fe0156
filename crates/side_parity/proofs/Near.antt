-- There are places next to a segment, on both sides.
use Rattle.std.proofs.Common.{◌≡◌, ℕ, zero, suc, ◌+◌, ◌-◌, ◌*◌, ◌<◌, ◌≤◌, List, [], ◌∷◌, ℤ, pos, negsuc, ◌-ℤ◌, refl, sym, ap}
use Rattle.std.proofs.Common.{subst, ◌∙◌, arith, inl, inr}
use Rattle.std.specs.Prelude.{Contains}
use Rattle.std.specs.List.{AllByRecursion}
use Rattle.std.proofs.lemmas.Bool.{true≢false, cases_Bool}
use Rattle.std.proofs.lemmas.Int.{ints}
use Rattle.grid_base.specs.Point.{IsBefore}
use Rattle.grid_base.specs.Segment.{GridSegment}
use Rattle.grid_base.specs.Sides.{Side, Left, Right, side_of}
use Rattle.grid_base.specs.Places.{RationalPoint, IsPlace}
use Rattle.grid_base.proofs.Turns.{times, times_le}
use Rattle.grid_base.proofs.Orders.{is_segment}
use Rattle.grid_base.specs.Plane.{as_place, side_at, side_number_at}
use Rattle.grid_base.proofs.Balances.{factor_keeps}
use Rattle.grid_base.proofs.Elements.{Contains-here, Contains-later}
use Rattle.grid_base.proofs.Orders.{is_segment-itself, is_segment-same}
use Rattle.grid_base.proofs.Signs.{three_ways}
use Rattle.side_parity.specs.Middle.{middle}
use Rattle.side_parity.proofs.Each.{each_of, ordered_in}
use Rattle.side_parity.proofs.Inner.{IsStrict, from_to, inner_of, strict_alone}
use Rattle.side_parity.proofs.Numbers.{leftward, line_by, number_is, place_balanced, place_by, rightward}
use Rattle.side_parity.proofs.Regions.{IsClearOf, IsNextTo, mean}
use Rattle.side_parity.proofs.SidesBy.{IsSound}

pub middle_strict : (s : GridSegment) → IsBefore s.a s.b → IsStrict s (middle s)
middle_strict s (inl h) = record { real = omega arith; line = omega arith; between = inl (omega arith, omega arith) }
middle_strict s (inr h) =
    let e = h.0 in
    record {
      real = omega arith;
      line =
          let e1 = ap (λ (k : ℕ). k * s.a.y) e in
          let e2 = ap (λ (k : ℕ). k * s.b.y) e in
          omega arith;
      between = inr (e, omega arith, omega arith, omega arith);
    }

pub same_factor : (n a b : ℕ) → 0 < n → n * a ≡ n * b → a ≡ b
same_factor n a b h e =
    let low : a < b → ⊥ = λ o. (let p = times 0 n a b h o in omega arith) in
    let high : b < a → ⊥ = λ o. (let p = times 0 n b a h o in omega arith) in
    omega (arith, low, high)

-- ---- from a place off t a short enough step towards any point g stays off t
-- how short: n must be above each of these
pub record IsBeyond (t : GridSegment) (g : RationalPoint) (n : ℕ) : Type 0 where
  pub left : leftward t g < n
  pub right : rightward t g < n
  pub columns : (g.x < n) × (t.b.x * g.w < n)
  pub rows : (g.y < n) × (t.b.y * g.w < n)

more : (m k n : ℕ) → 0 < k → 0 < n → 0 < m + k * n
more m k n h i = let p = times 0 k 0 n h i in omega arith

-- c is greater than d by 1 at least, and the step adds less
short : (m k n c d e : ℕ) → 0 < k → c < d → e < n → (m + k * n) * c + k * e < (m + k * n) * d
short m k n c d e h o l =
    let p1 = times_le 0 (m + k * n) (suc c) d (omega arith) o in
    let p2 = times 0 k e n h l in
    omega arith

-- M is a place on the way from r to the point near it
off_line : (t : GridSegment) (r g : RationalPoint) (n m k : ℕ) → IsBeyond t g n → 0 < k
    → (leftward t r ≡ rightward t r → ⊥) → IsPlace t (mean m r k (mean n r 1 g)) → ⊥
off_line t r g n m k far h differs pl =
    let e = place_balanced t (mean m r k (mean n r 1 g)) pl in
    elim (three_ways (leftward t r) (rightward t r)) [
      | inl o ↦ (let p = short m k n (leftward t r) (rightward t r) (leftward t g) h o far.left in omega arith)
      | inr f ↦ elim f [
        | inl o ↦ differs o
        | inr o ↦ (let p = short m k n (rightward t r) (leftward t r) (rightward t g) h o far.right in omega arith)
      ]
    ]

on_line_flat : (t : GridSegment) (r g : RationalPoint) (n m k : ℕ) → t.a.x < t.b.x → 0 < r.w → IsBeyond t g n
    → 0 < k → leftward t r ≡ rightward t r → (IsPlace t r → ⊥) → IsPlace t (mean m r k (mean n r 1 g)) → ⊥
on_line_flat t r g n m k first w far h e off pl =
    let M : RationalPoint = mean m r k (mean n r 1 g) in
    let f = from_to (t.a.x * M.w) (t.b.x * M.w) M.x (factor_keeps t.a.x t.b.x M.w (omega arith)) pl.across in
    let low : r.x < t.a.x * r.w → ⊥ = λ o. (let p = short m k n r.x (t.a.x * r.w) g.x h o far.columns.0 in omega arith) in
    let high : t.b.x * r.w < r.x → ⊥ = λ o. (let p = short m k n (t.b.x * r.w) r.x (t.b.x * g.w) h o far.columns.1 in omega arith) in
    off (place_by t r w first e (omega (arith, low)) (omega (arith, high)))

on_line_upright : (t : GridSegment) (r g : RationalPoint) (n m k : ℕ) → t.a.x ≡ t.b.x → t.a.y < t.b.y → 0 < r.w
    → IsBeyond t g n → 0 < k → leftward t r ≡ rightward t r → (IsPlace t r → ⊥)
    → IsPlace t (mean m r k (mean n r 1 g)) → ⊥
on_line_upright t r g n m k c first w far h e off pl =
    let M : RationalPoint = mean m r k (mean n r 1 g) in
    let f = from_to (t.a.y * M.w) (t.b.y * M.w) M.y (factor_keeps t.a.y t.b.y M.w (omega arith)) pl.up in
    let low : r.y < t.a.y * r.w → ⊥ = λ o. (let p = short m k n r.y (t.a.y * r.w) g.y h o far.rows.0 in omega arith) in
    let high : t.b.y * r.w < r.y → ⊥ = λ o. (let p = short m k n (t.b.y * r.w) r.y (t.b.y * g.w) h o far.rows.1 in omega arith) in
    let c1 = ap (λ (j : ℕ). j * (t.a.y * r.w)) c in
    let c2 = ap (λ (j : ℕ). j * r.y) c in
    let c3 = ap (λ (j : ℕ). j * r.w) c in
    let left : r.x < t.a.x * r.w → ⊥ = λ o. (let p = times t.a.y t.b.y r.x (t.a.x * r.w) first o in omega arith) in
    let right : t.a.x * r.w < r.x → ⊥ = λ o. (let p = times t.a.y t.b.y (t.a.x * r.w) r.x first o in omega arith) in
    let x : r.x ≡ t.a.x * r.w = omega (arith, left, right) in
    let y0 : t.a.y * r.w ≤ r.y = omega (arith, low) in
    let y1 : r.y ≤ t.b.y * r.w = omega (arith, high) in
    off (record { real = w; line = line_by t r e; across = (omega arith, omega arith); up = (omega arith, omega arith) })

pub clear_near : (t : GridSegment) (r g : RationalPoint) (n : ℕ) → IsBefore t.a t.b → 0 < r.w → IsBeyond t g n
    → (IsPlace t r → ⊥) → IsClearOf t r (mean n r 1 g)
clear_near t r g n first w far off m k h pl = elim (three_ways (leftward t r) (rightward t r)) [
  | inl o ↦ off_line t r g n m k far h (λ e. (omega arith)) pl
  | inr f ↦ elim f [
    | inl o ↦ elim first [
      | inl b ↦ on_line_flat t r g n m k b w far h o off pl
      | inr b ↦ on_line_upright t r g n m k b.0 b.1 w far h o off pl
    ]
    | inr o ↦ off_line t r g n m k far h (λ e. (omega arith)) pl
  ]
]

-- ---- beyond all segments of a list
abbrev pub bound : RationalPoint → List GridSegment → ℕ
bound g [] = 1
bound g (t ∷ B) = (leftward t g + rightward t g) + (g.x + t.b.x * g.w) + (g.y + t.b.y * g.w) + bound g B

beyond_more : (t : GridSegment) (g : RationalPoint) (m n : ℕ) → m ≤ n → IsBeyond t g m → IsBeyond t g n
beyond_more t g m n h f =
    let c = f.columns in
    let r = f.rows in
    let x = f.left in
    let y = f.right in
    record { left = omega arith; right = omega arith; columns = (omega arith, omega arith); rows = (omega arith, omega arith) }

all_more : (B : List GridSegment) (g : RationalPoint) (m n : ℕ) → m ≤ n → AllByRecursion (λ t. IsBeyond t g m) B
    → AllByRecursion (λ t. IsBeyond t g n) B
all_more [] g m n h f = tt
all_more (t ∷ B) g m n h f = (beyond_more t g m n h f.0, all_more B g m n h f.1)

pub bound_some : (g : RationalPoint) (B : List GridSegment) → 0 < bound g B
bound_some g [] = omega arith
bound_some g (t ∷ B) = let h = bound_some g B in omega arith

all_beyond : (g : RationalPoint) (B : List GridSegment) → AllByRecursion (λ t. IsBeyond t g (bound g B)) B
all_beyond g [] = tt
all_beyond g (t ∷ B) =
    let h = bound_some g B in (
      record { left = omega arith; right = omega arith; columns = (omega arith, omega arith); rows = (omega arith, omega arith) },
      all_more B g (bound g B) (bound g (t ∷ B)) (omega arith) (all_beyond g B),
    )

pub beyond_in : (g : RationalPoint) (B : List GridSegment) (t : GridSegment) → Contains B t
    → IsBeyond t g (bound g B)
beyond_in g B t c = each_of (λ u. IsBeyond u g (bound g B)) B t (all_beyond g B) c

-- ---- next to s
is_left : (z : ℤ) (l r : ℕ) → z ≡ pos l -ℤ pos r → r < l → side_of z ≡ Left
is_left (pos zero) l r h e = absurd (omega (arith, ints))
is_left (pos (suc n)) l r h e = refl
is_left (negsuc n) l r h e = absurd (omega (arith, ints))

is_right : (z : ℤ) (l r : ℕ) → z ≡ pos l -ℤ pos r → l < r → side_of z ≡ Right
is_right (pos zero) l r h e = absurd (omega (arith, ints))
is_right (pos (suc n)) l r h e = absurd (omega (arith, ints))
is_right (negsuc n) l r h e = refl

-- the place near the middle of s towards g is next to s, on g's side
next_toward : (B : List GridSegment) (s : GridSegment) (g : RationalPoint) (k : Side) → IsSound B s
    → 0 < g.w
    → ((leftward s g ≡ rightward s g → ⊥) × ((n : ℕ) → side_at s (as_place (mean n (middle s) 1 g)) ≡ k))
    → IsNextTo B s k (mean (bound g B) (middle s) 1 g)
next_toward B s g k sound w h =
    let strict = middle_strict s sound.first in
    record {
      real = omega arith;
      side = h.1 (bound g B);
      from = middle s;
      inside = inner_of s (middle s) strict;
      clear_of_s = λ m n i pl. away m n i (place_balanced s _ pl);
      clear = λ t c. clear_of t c;
    }
  where
    away : (m n : ℕ) → 0 < n
        → leftward s (mean m (middle s) n (mean (bound g B) (middle s) 1 g))
        ≡ rightward s (mean m (middle s) n (mean (bound g B) (middle s) 1 g))
        → ⊥
    away m n i e =
        let strict = middle_strict s sound.first in
        let e1 = ap (λ (j : ℕ). (m + n * bound g B) * j) strict.line in
        let f : n * leftward s g ≡ n * rightward s g = omega arith in
        h.0 (same_factor n (leftward s g) (rightward s g) i f)

    clear_of : (t : GridSegment) → Contains B t → IsClearOf t (middle s) (mean (bound g B) (middle s) 1 g)
    clear_of t c = elim (cases_Bool (is_segment s t)) [
      | inl e ↦ subst (λ (u : GridSegment). IsClearOf u (middle s) (mean (bound g B) (middle s) 1 g)) (is_segment-same s t e)
          (λ m n i pl. away m n i (place_balanced s _ pl))
      | inr e ↦ clear_near t (middle s) g (bound g B) (ordered_in B t sound.ordered c) (omega arith)
          (beyond_in g B t c)
          (strict_alone (s ∷ B) s t (middle s) sound.realm (Contains-here s B) (Contains-later s B t c)
          (λ k. true≢false (sym (is_segment-itself s) ∙ ap (is_segment s) k ∙ e)) (middle_strict s sound.first))
    ]

-- towards g the place is on g's side
left_of : (s : GridSegment) (g : RationalPoint) → IsBefore s.a s.b → rightward s g < leftward s g
    → (leftward s g ≡ rightward s g → ⊥) × ((n : ℕ) → side_at s (as_place (mean n (middle s) 1 g)) ≡ Left)
left_of s g first o = (
  (λ e. omega arith),
  λ n. (let e1 = ap (λ (j : ℕ). n * j) (middle_strict s first).line in
      let f : rightward s (mean n (middle s) 1 g) < leftward s (mean n (middle s) 1 g) = omega arith in
      is_left (side_number_at s (as_place (mean n (middle s) 1 g))) _ _ (number_is s (mean n (middle s) 1 g)) f),
)

right_of : (s : GridSegment) (g : RationalPoint) → IsBefore s.a s.b → leftward s g < rightward s g
    → (leftward s g ≡ rightward s g → ⊥) × ((n : ℕ) → side_at s (as_place (mean n (middle s) 1 g)) ≡ Right)
right_of s g first o = (
  (λ e. omega arith),
  λ n. (let e1 = ap (λ (j : ℕ). n * j) (middle_strict s first).line in
      let f : leftward s (mean n (middle s) 1 g) < rightward s (mean n (middle s) 1 g) = omega arith in
      is_right (side_number_at s (as_place (mean n (middle s) 1 g))) _ _ (number_is s (mean n (middle s) 1 g)) f),
)

-- there is a place next to s on its left, and on its right
pub some_left : (B : List GridSegment) (s : GridSegment) → IsSound B s → 0 < s.a.x
    → (q : RationalPoint) × IsNextTo B s Left q
some_left B s sound h = elim sound.first [
  | inl l ↦
      (let g : RationalPoint = record { x = s.a.x; y = s.a.y + 1; w = 1 } in
      (mean (bound g B) (middle s) 1 g, next_toward B s g Left sound (omega arith) (left_of s g sound.first (omega arith))))
  | inr l ↦
      (let b = ap (λ (j : ℕ). j * s.a.y) l.0 in
      let c : ℕ = s.a.x - 1 in
      let d : c + 1 ≡ s.a.x = omega arith in
      let d1 = ap (λ (j : ℕ). j * s.a.y) d in
      let d2 = ap (λ (j : ℕ). j * s.b.y) d in
      let g : RationalPoint = record { x = c; y = s.a.y; w = 1 } in
      (mean (bound g B) (middle s) 1 g, next_toward B s g Left sound (omega arith) (left_of s g sound.first (omega arith))))
]

pub some_right : (B : List GridSegment) (s : GridSegment) → IsSound B s → 0 < s.a.y
    → (q : RationalPoint) × IsNextTo B s Right q
some_right B s sound h = elim sound.first [
  | inl l ↦
      (let c : ℕ = s.a.y - 1 in
      let d : c + 1 ≡ s.a.y = omega arith in
      let d1 = ap (λ (j : ℕ). j * s.a.x) d in
      let d2 = ap (λ (j : ℕ). j * s.b.x) d in
      let g : RationalPoint = record { x = s.a.x; y = c; w = 1 } in
      (mean (bound g B) (middle s) 1 g, next_toward B s g Right sound (omega arith) (right_of s g sound.first (omega arith))))
  | inr l ↦
      (let b = ap (λ (j : ℕ). j * s.a.y) l.0 in
      let g : RationalPoint = record { x = s.a.x + 1; y = s.a.y; w = 1 } in
      (mean (bound g B) (middle s) 1 g, next_toward B s g Right sound (omega arith) (right_of s g sound.first (omega arith))))
]
