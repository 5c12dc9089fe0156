-- This file shows which segments are strictly above a free place, by the columns of their ends.
use Rattle.std.proofs.Common.{◌≡◌, ℕ, zero, suc, ◌*◌, ◌<◌, ◌≤◌, Bool, true, false, ◌&&◌, List}
use Rattle.std.proofs.Common.{ℤ, pos, negsuc, ◌<ℤ◌, ◌≤ℤ◌, refl, sym, ap, ◌∙◌, arith, inl, inr}
use Rattle.std.specs.Prelude.{int_le, int_lt, Contains}
use Rattle.std.proofs.lemmas.Int.{ints}
use Rattle.grid_base.specs.Point.{GridPoint}
use Rattle.grid_base.specs.Segment.{GridSegment}
use Rattle.grid_base.specs.Sides.{side_of}
use Rattle.grid_base.proofs.Signs.{order, on_by_zero}
use Rattle.grid_base.specs.Plane.{Place, IsAmong, side_at, IsFree}
use Rattle.grid_base.specs.Odd.{is_right, is_strictly_above}
use Rattle.plane_classes.proofs.Parities.{xor}
use Rattle.plane_classes.proofs.Heights.{le_yes, le_no, lt_yes, lt_no}
use Rattle.plane_classes.proofs.Heights.{under_a, under_b, over_a, over_b, at_a, at_b, at_vertical}

-- the segments strictly above q, as a test
abbrev pub is_over : Place → GridSegment → Bool
is_over q s = is_strictly_above s q

-- v stands over q in its column
abbrev pub stands : Place → GridPoint → Bool
stands q v = int_le (pos (v.x * q.w)) q.x && int_le q.x (pos (v.x * q.w)) && int_lt q.y (pos (v.y * q.w))

pub data Three (a b : ℤ) : Type 0 where
  Less : a <ℤ b → Three a b
  Same : a ≡ b → Three a b
  More : b <ℤ a → Three a b

pub same_of : (a b : ℤ) → a ≤ℤ b → b ≤ℤ a → a ≡ b
same_of a b h k = omega (arith, ints)

pub three : (a b : ℤ) → Three a b
three a b = elim (order a b) [
  | inl h ↦ elim (order b a) [ inl k ↦ Same (same_of a b h k) | inr k ↦ Less k ]
  | inr h ↦ More h
]

right_yes : (z : ℤ) → z <ℤ pos 0 → is_right (side_of z) ≡ true
right_yes (pos zero) h = absurd (omega (arith, ints))
right_yes (pos (suc n)) h = absurd (omega (arith, ints))
right_yes (negsuc n) h = refl

right_no : (z : ℤ) → pos 0 <ℤ z → is_right (side_of z) ≡ false
right_no (pos zero) h = refl
right_no (pos (suc n)) h = refl
right_no (negsuc n) h = absurd (omega (arith, ints))

middle_no : (a b c : Bool) → b ≡ false → (a && b && c) ≡ false
middle_no true b c h = rw h refl
middle_no false b c h = refl

first_no : (a b c : Bool) → a ≡ false → (a && b && c) ≡ false
first_no a b c h = rw h refl

both_yes : (a b c : Bool) → a ≡ true → b ≡ true → (a && b && c) ≡ c
both_yes a b c h k = rw (h, k) refl

-- the four tests on a segment that is left of q, or right of it
pub over_no_left : (q : Place) (s : GridSegment) → q.x <ℤ pos (s.a.x * q.w) → is_over q s ≡ false
over_no_left q s h = first_no _ _ _ (le_no _ _ h)

pub over_no_right : (q : Place) (s : GridSegment) → pos (s.b.x * q.w) ≤ℤ q.x → is_over q s ≡ false
over_no_right q s h = middle_no _ _ _ (lt_no _ _ h)

pub over_within : (q : Place) (s : GridSegment) → pos (s.a.x * q.w) ≤ℤ q.x → q.x <ℤ pos (s.b.x * q.w)
    → is_over q s ≡ is_right (side_at s q)
over_within q s h k = both_yes _ _ _ (le_yes _ _ h) (lt_yes _ _ k)

pub stands_no_right : (q : Place) (v : GridPoint) → q.x <ℤ pos (v.x * q.w) → stands q v ≡ false
stands_no_right q v h = first_no _ _ _ (le_no _ _ h)

pub stands_no_left : (q : Place) (v : GridPoint) → pos (v.x * q.w) <ℤ q.x → stands q v ≡ false
stands_no_left q v h = middle_no _ _ _ (le_no _ _ h)

pub le_of : (a b : ℤ) → a ≡ b → a ≤ℤ b
le_of a b h = omega (arith, ints)

pub stands_within : (q : Place) (v : GridPoint) → q.x ≡ pos (v.x * q.w) → stands q v ≡ int_lt q.y (pos (v.y * q.w))
stands_within q v h = both_yes _ _ _ (le_yes _ _ (le_of _ _ (sym h))) (le_yes _ _ (le_of _ _ h))

pub le_from : (a b : ℤ) → a <ℤ b → a ≤ℤ b
le_from a b h = omega (arith, ints)

pub lt_on : (y : ℤ) (m n : ℕ) → y <ℤ pos m → m ≤ n → y <ℤ pos n
lt_on y m n h k = omega (arith, ints)

pub scaled_less : (m n w : ℕ) → m < n → 0 < w → m * w < n * w
scaled_less m n w h k = grind arith

pub xor_none_right : (a : Bool) → xor false a ≡ xor a false
xor_none_right true = refl
xor_none_right false = refl

pub xor_none_twice : (a : Bool) → xor false false ≡ xor a a
xor_none_twice true = refl
xor_none_twice false = refl

pub four_none : (a b c d : Bool) → a ≡ false → b ≡ false → c ≡ false → d ≡ false → xor a b ≡ xor c d
four_none a b c d h k l m = cc

pub four : (a b c d e f g h : Bool) → a ≡ e → b ≡ f → c ≡ g → d ≡ h → xor e f ≡ xor g h → xor a b ≡ xor c d
four a b c d e f g h i j k l m = cc

among_from : (y : ℤ) (m n : ℕ) → y ≡ pos m → IsAmong (pos m) (pos n) y
among_from y m n d = elim (order (pos m) (pos n)) [
  | inl h ↦ inl (omega (arith, ints), omega (arith, ints))
  | inr h ↦ inr (
    omega (arith, ints),
    omega (arith, ints),
  )
]

among_to : (y : ℤ) (m n : ℕ) → y ≡ pos n → IsAmong (pos m) (pos n) y
among_to y m n d = elim (order (pos m) (pos n)) [
  | inl h ↦ inl (omega (arith, ints), omega (arith, ints))
  | inr h ↦ inr (
    omega (arith, ints),
    omega (arith, ints),
  )
]

pub scaled : (m n w : ℕ) → m ≤ n → m * w ≤ n * w
scaled m n w h = grind arith

-- a free place isn't an end of a segment of B, nor between the ends of a vertical one
pub not_at_a : (B : List GridSegment) (q : Place) (s : GridSegment) → IsFree B q → Contains B s → s.a.x ≤ s.b.x
    → q.x ≡ pos (s.a.x * q.w) → q.y ≡ pos (s.a.y * q.w) → ⊥
not_at_a B q s f m o c d =
    let t = scaled s.a.x s.b.x q.w o in
    f.apart s m (record {
      real = f.real;
      line = on_by_zero _ (at_a s q c d);
      across = record {
        from = omega (arith, ints);
        to =
            omega (arith, ints);
      };
      up = among_from q.y (s.a.y * q.w) (s.b.y * q.w) d;
    })

pub not_at_b : (B : List GridSegment) (q : Place) (s : GridSegment) → IsFree B q → Contains B s → s.a.x ≤ s.b.x
    → q.x ≡ pos (s.b.x * q.w) → q.y ≡ pos (s.b.y * q.w) → ⊥
not_at_b B q s f m o c d =
    let t = scaled s.a.x s.b.x q.w o in
    f.apart s m (record {
      real = f.real;
      line = on_by_zero _ (at_b s q c d);
      across = record {
        from = omega (arith, ints);
        to =
            omega (arith, ints);
      };
      up = among_to q.y (s.a.y * q.w) (s.b.y * q.w) d;
    })

pub not_between : (B : List GridSegment) (q : Place) (s : GridSegment) → IsFree B q → Contains B s → s.a.x ≡ s.b.x
    → q.x ≡ pos (s.a.x * q.w)
    → pos (s.a.y * q.w) ≤ℤ q.y → q.y ≤ℤ pos (s.b.y * q.w) → ⊥
not_between B q s f m e c h k =
    let t = ap (λ (x : ℕ). x * q.w) e in
    f.apart s m (record {
      real = f.real;
      line = on_by_zero _ (at_vertical s q e c);
      across = record {
        from =
            omega (arith, ints);
        to = omega (arith, ints);
      };
      up = inl (h, k);
    })

-- in the column of an end the test on the side is the test on the end
pub test_a : (B : List GridSegment) (q : Place) (s : GridSegment) → IsFree B q → Contains B s → s.a.x < s.b.x → q.x ≡ pos (s.a.x * q.w)
    → is_right (side_at s q) ≡ int_lt q.y (pos (s.a.y * q.w))
test_a B q s f m o c = elim (three q.y (pos (s.a.y * q.w))) [
  | Less h ↦ right_yes _ (under_a s q o c h) ∙ sym (lt_yes _ _ h)
  | Same h ↦ absurd (not_at_a B q s f m (omega arith) c h)
  | More h ↦ right_no _ (over_a s q o c h) ∙ sym (lt_no _ _ (le_from _ _ h))
]

pub test_b : (B : List GridSegment) (q : Place) (s : GridSegment) → IsFree B q → Contains B s → s.a.x < s.b.x → q.x ≡ pos (s.b.x * q.w)
    → is_right (side_at s q) ≡ int_lt q.y (pos (s.b.y * q.w))
test_b B q s f m o c = elim (three q.y (pos (s.b.y * q.w))) [
  | Less h ↦ right_yes _ (under_b s q o c h) ∙ sym (lt_yes _ _ h)
  | Same h ↦ absurd (not_at_b B q s f m (omega arith) c h)
  | More h ↦ right_no _ (over_b s q o c h) ∙ sym (lt_no _ _ (le_from _ _ h))
]

-- both ends of a vertical segment stand over q, or neither
pub test_both : (B : List GridSegment) (q : Place) (s : GridSegment) → IsFree B q → Contains B s → s.a.x ≡ s.b.x → s.a.y < s.b.y
    → q.x ≡ pos (s.a.x * q.w)
    → int_lt q.y (pos (s.a.y * q.w)) ≡ int_lt q.y (pos (s.b.y * q.w))
test_both B q s f m e o c = elim (order (pos (s.a.y * q.w)) q.y) [
  | inl h ↦ elim (order q.y (pos (s.b.y * q.w))) [
    | inl k ↦ absurd (not_between B q s f m e c h k)
    | inr k ↦ lt_no _ _ h ∙ sym (lt_no _ _ (le_from _ _ k))
  ]
  | inr h ↦ let t = scaled s.a.y s.b.y q.w (omega arith) in lt_yes _ _ h ∙ sym (lt_yes _ _ (lt_on q.y _ _ h t))
]
