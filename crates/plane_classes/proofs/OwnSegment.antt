-- This file shows how a segment itself counts from a place inside it to a place beside it.
use Rattle.std.proofs.Common.{◌≡◌, ℕ, zero, suc, ◌+◌, ◌*◌, ◌<◌, Bool, true, false, List}
use Rattle.std.proofs.Common.{ℤ, pos, negsuc, ◌*ℤ◌, ◌<ℤ◌, ◌≤ℤ◌, refl, sym, ap, ◌∙◌, arith, inl, inr}
use Rattle.std.specs.Prelude.{Contains}
use Rattle.std.proofs.lemmas.Int.{ints}
use borrow.Author.Differences.{up, down}
use Rattle.grid_base.specs.Point.{GridPoint}
use Rattle.grid_base.specs.Segment.{GridSegment}
use Rattle.grid_base.specs.Sides.{Side, Left, On, Right, side_of}
use Rattle.grid_base.proofs.Turns.{times_le}
use Rattle.grid_base.proofs.Signs.{order, not_both, above_not_zero, below_not_zero}
use Rattle.grid_base.specs.Plane.{Place, side_at, HoldsInside, IsFree}
use Rattle.grid_base.specs.Odd.{is_right}
use Rattle.plane_classes.specs.Classes.{IsWallBetween}
use Rattle.plane_classes.proofs.OverTests.{is_over}
use Rattle.plane_classes.proofs.Shears.{upright_left, upright_right}
use Rattle.plane_classes.proofs.Parities.{xor, ends_with}
use Rattle.plane_classes.proofs.Heights.{lt_yes, lt_no, IsLeftOf, before_cut, under_a, under_b, over_a, over_b}
use Rattle.plane_classes.proofs.Ways.{zero_by, vertical_column}
use Rattle.plane_classes.proofs.OverTests.{stands, Less, Same, More, three, over_no_left, over_no_right, over_within, stands_no_left}
use Rattle.plane_classes.proofs.OverTests.{stands_no_right, stands_within, test_b, le_from, le_of, scaled}
use Rattle.plane_classes.proofs.OneParity.{level, level_up}

-- whether a place on the side d of s has one segment more above it than s has at its places: below a slanted s, left of a vertical one
abbrev pub is_left : Side → Bool
is_left Left = true
is_left On = false
is_left Right = false

-- m is strictly within the columns of a slanted s
pub within_a : (s : GridSegment) (m : Place) → s.a.x < s.b.x → HoldsInside s m → pos (s.a.x * m.w) <ℤ m.x
within_a s m o h = elim (three m.x (pos (s.a.x * m.w))) [
  | Less k ↦ absurd (not_both m.x _ k h.held.across.from)
  | Same k ↦ elim (three m.y (pos (s.a.y * m.w))) [
    | Less n ↦ absurd (below_not_zero _ (under_a s m o k n) (zero_by _ h.held.line))
    | Same n ↦ absurd (h.not_a (k, n))
    | More n ↦ absurd (above_not_zero _ (over_a s m o k n) (zero_by _ h.held.line))
  ]
  | More k ↦ k
]

pub within_b : (s : GridSegment) (m : Place) → s.a.x < s.b.x → HoldsInside s m → m.x <ℤ pos (s.b.x * m.w)
within_b s m o h = elim (three m.x (pos (s.b.x * m.w))) [
  | Less k ↦ k
  | Same k ↦ elim (three m.y (pos (s.b.y * m.w))) [
    | Less n ↦ absurd (below_not_zero _ (under_b s m o k n) (zero_by _ h.held.line))
    | Same n ↦ absurd (h.not_b (k, n))
    | More n ↦ absurd (above_not_zero _ (over_b s m o k n) (zero_by _ h.held.line))
  ]
  | More k ↦ absurd (not_both _ m.x k h.held.across.to)
]

on_is_not_over : (s : GridSegment) (m : Place) → HoldsInside s m → is_right (side_at s m) ≡ false
on_is_not_over s m h = rw h.held.line refl

-- a place r with no wall strictly between it and m is in the columns of s too
reaches_a : (s : GridSegment) (r m : Place) → (IsWallBetween s.a.x r m → ⊥) → pos (s.a.x * m.w) <ℤ m.x → pos (s.a.x * r.w) ≤ℤ r.x
reaches_a s r m clear h = elim (order (pos (s.a.x * r.w)) r.x) [ inl k ↦ k | inr k ↦ absurd (clear (inl (k, h))) ]

reaches_b : (s : GridSegment) (r m : Place) → (IsWallBetween s.b.x r m → ⊥) → m.x <ℤ pos (s.b.x * m.w) → r.x ≤ℤ pos (s.b.x * r.w)
reaches_b s r m clear h = elim (order r.x (pos (s.b.x * r.w))) [ inl k ↦ k | inr k ↦ absurd (clear (inr (h, k))) ]

-- r left of m, or in its column, below or above a slanted s: it has one more above it exactly where it is below
over_r : (s : GridSegment) (r m : Place) (d : Side) → side_at s r ≡ d → pos (s.a.x * r.w) ≤ℤ r.x → r.x <ℤ pos (s.b.x * r.w)
    → is_over r s ≡ is_right d
over_r s r m d e h k = over_within r s h k ∙ ap is_right e

pub over_m : (s : GridSegment) (m : Place) → s.a.x < s.b.x → HoldsInside s m → is_over m s ≡ false
over_m s m o h = over_within m s (le_from _ _ (within_a s m o h)) (within_b s m o h) ∙ on_is_not_over s m h

-- what s adds: f at r, g at m, and the ends with P
abbrev pub Adds : (GridPoint → Bool) → Place → Place → GridSegment → Bool → Type 0
Adds P r m s e = xor (is_over r s) (is_over m s) ≡ xor (ends_with P s) e

sum_left : (a b c d e : Bool) → a ≡ e → b ≡ false → c ≡ false → d ≡ false → xor a b ≡ xor (xor c d) e
sum_left true b c d true h k l m = cc
sum_left true b c d false h k l m = cc
sum_left false b c d true h k l m = cc
sum_left false b c d false h k l m = cc

pub slanted_left : (s : GridSegment) (r m : Place) (d : Side) → s.a.x < s.b.x → HoldsInside s m → side_at s r ≡ d → 0 < r.w → 0 < m.w
    → (IsWallBetween s.a.x r m → ⊥) → IsLeftOf r m → Adds (stands m) r m s (is_right d)
slanted_left s r m d o h e real real' clear l =
    sum_left _ _ _ _ _
    (over_r s r m d e (reaches_a s r m clear (within_a s m o h)) (before_cut r m s.b.x real real' l (le_from _ _ (within_b s m o h))))
    (over_m s m o h) (stands_no_left m s.a (within_a s m o h)) (stands_no_right m s.b (within_b s m o h))

-- in the column of m no ends count
sum_level : (a b e : Bool) → a ≡ e → b ≡ false → xor a b ≡ xor (xor false false) e
sum_level true b true h k = cc
sum_level true b false h k = cc
sum_level false b true h k = cc
sum_level false b false h k = cc

pub slanted_level : (s : GridSegment) (r m : Place) (d : Side) → s.a.x < s.b.x → HoldsInside s m → side_at s r ≡ d → 0 < r.w → 0 < m.w
    → m.x *ℤ pos r.w ≡ r.x *ℤ pos m.w → Adds (λ v. false) r m s (is_right d)
slanted_level s r m d o h e real real' c =
    sum_level _ _ _
    (over_r s r m d e (level m r s.a.x real' real c (le_from _ _ (within_a s m o h))) (level_up m r s.b.x real' real c
    (within_b s m o h)))
    (over_m s m o h)

-- r right of m: where r is in the column of b, that end stands over r or not
after_cut : (m r : Place) (e : ℕ) → 0 < m.w → 0 < r.w → IsLeftOf m r → pos (e * m.w) ≤ℤ m.x → pos (e * r.w) <ℤ r.x
after_cut m r e hm hr h k =
    let fails : r.x ≤ℤ pos (e * r.w) → ⊥ = λ n.
    let t1 = times_le (e * m.w + down m.x) (up m.x) 0 r.w (omega (arith, ints)) (omega arith) in
    let t2 = times_le (up r.x) (e * r.w + down r.x) 0 m.w (omega (arith, ints)) (omega arith) in
    omega (arith, ints) in
    elim (order r.x (pos (e * r.w))) [ inl n ↦ absurd (fails n) | inr n ↦ n ]

sum_end : (a b c d e : Bool) → a ≡ false → b ≡ false → c ≡ false → d ≡ e → xor a b ≡ xor (xor c d) e
sum_end a b c d true h k l m = cc
sum_end a b c d false h k l m = cc

pub slanted_right : (B : List GridSegment) (s : GridSegment) (r m : Place) (d : Side) → Contains B s → s.a.x < s.b.x → HoldsInside s m
    → side_at s r ≡ d → IsFree B r → 0 < m.w
    → (IsWallBetween s.b.x r m → ⊥) → IsLeftOf m r → Adds (stands r) r m s (is_right d)
slanted_right B s r m d c o h e free real clear l =
    let right_of_a = after_cut m r s.a.x real free.real l (le_from _ _ (within_a s m o h)) in
    let to_b = reaches_b s r m clear (within_b s m o h) in
    elim (three r.x (pos (s.b.x * r.w))) [
      | Less k ↦ sum_left _ _ _ _ _ (over_r s r m d e (le_from _ _ right_of_a) k) (over_m s m o h) (stands_no_left r s.a right_of_a)
          (stands_no_right r s.b k)
      | Same k ↦ sum_end _ _ _ _ _ (over_no_right r s (le_of _ _ (sym k))) (over_m s m o h) (stands_no_left r s.a right_of_a)
          (stands_within r s.b k ∙ sym (test_b B r s free c o k) ∙ ap is_right e)
      | More k ↦ absurd (not_both _ r.x k to_b)
    ]

-- a vertical s has its greater end over m, and its lesser one not
pub upright_column : (s : GridSegment) (m : Place) → s.a.x ≡ s.b.x → HoldsInside s m → m.x ≡ pos (s.a.x * m.w)
upright_column s m e h = vertical_column s m e h.held.across

pub upright_up : (s : GridSegment) (m : Place) → s.a.x ≡ s.b.x → s.a.y < s.b.y → HoldsInside s m
    → (pos (s.a.y * m.w) ≤ℤ m.y) × (m.y <ℤ pos (s.b.y * m.w))
upright_up s m e o h = elim h.held.up [
  | inl k ↦ (k.0, not_at_end k.1)
  | inr k ↦ let t = scaled s.a.y s.b.y m.w (omega arith) in (omega (arith, ints, k.0), not_at_end (omega (arith, ints, k.1)))
]
  where
    not_at_end : m.y ≤ℤ pos (s.b.y * m.w) → m.y <ℤ pos (s.b.y * m.w)
    not_at_end k = elim (three m.y (pos (s.b.y * m.w))) [
      | Less n ↦ n
      | Same n ↦ absurd (h.not_b (upright_column s m e h ∙ ap (λ (x : ℕ). pos (x * m.w)) e, n))
      | More n ↦ absurd (not_both _ m.y n k)
    ]

left_yes : (z : ℤ) → pos 0 <ℤ z → is_left (side_of z) ≡ true
left_yes (pos zero) h = absurd (omega (arith, ints))
left_yes (pos (suc n)) h = refl
left_yes (negsuc n) h = absurd (omega (arith, ints))

left_no : (z : ℤ) → z <ℤ pos 0 → is_left (side_of z) ≡ false
left_no (pos zero) h = refl
left_no (pos (suc n)) h = absurd (omega (arith, ints))
left_no (negsuc n) h = refl

sum_upright : (a b c d e : Bool) → a ≡ false → b ≡ false → c ≡ false → d ≡ true → e ≡ true → xor a b ≡ xor (xor c d) e
sum_upright a b c d e h k l m n = cc

pub vertical_left : (s : GridSegment) (r m : Place) (d : Side) → s.a.x ≡ s.b.x → s.a.y < s.b.y → HoldsInside s m → side_at s r ≡ d
    → 0 < r.w → 0 < m.w
    → IsLeftOf r m → Adds (stands m) r m s (is_left d)
vertical_left s r m d v o h e real real' l =
    let c = upright_column s m v h in
    let c' : m.x ≡ pos (s.b.x * m.w) = c ∙ ap (λ (x : ℕ). pos (x * m.w)) v in
    let u = upright_up s m v o h in
    let left = before_cut r m s.a.x real real' l (le_of _ _ c) in
    sum_upright _ _ _ _ _ (over_no_left r s left) (over_no_right m s (le_of _ _ (sym c')))
    (stands_within m s.a c ∙ lt_no _ _ u.0) (stands_within m s.b c' ∙ lt_yes _ _ u.1)
    (ap is_left (sym e) ∙ left_yes _ (upright_left s r v o left))

pub vertical_right : (s : GridSegment) (r m : Place) (d : Side) → s.a.x ≡ s.b.x → s.a.y < s.b.y → HoldsInside s m → side_at s r ≡ d
    → 0 < r.w → 0 < m.w
    → IsLeftOf m r → Adds (stands r) r m s (is_left d)
vertical_right s r m d v o h e real real' l =
    let c = upright_column s m v h in
    let c' : m.x ≡ pos (s.b.x * m.w) = c ∙ ap (λ (x : ℕ). pos (x * m.w)) v in
    let right = after_cut m r s.a.x real' real l (le_of _ _ (sym c)) in
    let right' = after_cut m r s.b.x real' real l (le_of _ _ (sym c')) in
    sum_end _ _ _ _ _ (over_no_right r s (le_from _ _ right')) (over_no_right m s (le_of _ _ (sym c')))
    (stands_no_left r s.a right) (stands_no_left r s.b right' ∙ sym (ap is_left (sym e) ∙ left_no _ (upright_right s r v o right)))
