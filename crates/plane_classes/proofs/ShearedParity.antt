-- This file shows that in an even border a place is odd in its own column exactly where it is in the sheared one.
use Rattle.std.proofs.Common.{◌≡◌, ℕ, zero, suc, ◌+◌, ◌*◌, ◌<◌, ◌≤◌, Bool, true, false, not, ◌&&◌, List, []}
use Rattle.std.proofs.Common.{◌∷◌, map, ℤ, pos, negsuc, ◌+ℤ◌, ◌*ℤ◌, ◌<ℤ◌, ◌≤ℤ◌, refl, sym, ap, ◌∙◌, arith, inl, inr}
use Rattle.std.specs.Prelude.{int_le, int_lt, Contains}
use Rattle.std.proofs.lemmas.Int.{ints}
use Rattle.grid_base.specs.Point.{GridPoint, IsBefore}
use Rattle.grid_base.specs.Segment.{GridSegment}
use Rattle.grid_base.specs.Sides.{side_of}
use Rattle.grid_base.proofs.Turns.{times, times_le}
use Rattle.grid_base.proofs.Signs.{order}
use Rattle.grid_base.specs.Plane.{Place, side_number_at, side_at, IsFree}
use Rattle.grid_base.specs.Odd.{is_right}
use Rattle.plane_classes.specs.Shear.{sheared, sheared_place}
use Rattle.plane_classes.proofs.OverTests.{is_over, le_from, Less, Same, More, three, not_between}
use Rattle.plane_classes.proofs.Shears.{upright_right, height_sheared, columns_in_order}
use Rattle.plane_classes.proofs.Parities.{xor, par, Differ, HasPairedEnds, same_parity}
use Rattle.plane_classes.proofs.Heights.{le_yes, le_no, lt_yes, lt_no}
use Rattle.plane_classes.proofs.Ways.{AreInOrder}
use Rattle.plane_classes.proofs.OneParity.{each_of}
use Rattle.plane_classes.proofs.Wedges.{IsLower, IsUpper, lower_a, lower_b, upper_a, upper_b}

-- ---- the tests
-- v isn't right of q's column, and v isn't right of its sheared column
abbrev plain : Place → GridPoint → Bool
plain q v = int_le (pos (v.x * q.w)) q.x

abbrev tilted : ℕ → Place → GridPoint → Bool
tilted n q v = int_le (pos ((n * v.x + v.y) * q.w)) (pos n *ℤ q.x +ℤ q.y)

-- v is in the upper wedge
abbrev pub is_upper : ℕ → Place → GridPoint → Bool
is_upper n q v = plain q v && not (tilted n q v)

-- the same by four tests: a and b are the two ends, d the plain test and e the tilted one
above_q : (da db ea eb : Bool) → (db ≡ true → da ≡ true) → (eb ≡ true → ea ≡ true) → (ea ≡ true → da ≡ true) → (eb ≡ true → db ≡ true)
    → xor (da && not db) (ea && not eb) ≡ xor (da && not ea) (db && not eb)
above_q true true true true h k l m = refl
above_q true true true false h k l m = refl
above_q true true false true h k l m = cc (k refl)
above_q true true false false h k l m = refl
above_q true false true true h k l m = cc (m refl)
above_q true false true false h k l m = refl
above_q true false false true h k l m = cc (k refl)
above_q true false false false h k l m = refl
above_q false true ea eb h k l m = cc (h refl)
above_q false false true eb h k l m = cc (l refl)
above_q false false false true h k l m = cc (k refl)
above_q false false false false h k l m = refl

yes_le : (a b : ℤ) → int_le a b ≡ true → a ≤ℤ b
yes_le a b h = grind (arith, ints)

lt_is_not : (a b : ℤ) → int_lt a b ≡ not (int_le b a)
lt_is_not a b = elim (order b a) [ inl h ↦ lt_no a b h ∙ sym (ap not (le_yes b a h)) | inr h ↦ lt_yes a b h ∙ sym (ap not (le_no b a h)) ]

tests_true : (d l r m : Bool) → l ≡ not m → r ≡ true → (d && l && r) ≡ (d && not m)
tests_true d l r true h k = rw (h, k) (last_false d)
  where
    last_false : (d : Bool) → (d && false && true) ≡ (d && false)
    last_false true = refl
    last_false false = refl
tests_true d l r false h k = rw (h, k) (last_true d)
  where
    last_true : (d : Bool) → (d && true && true) ≡ (d && true)
    last_true true = refl
    last_true false = refl

tests_false : (d l r : Bool) → r ≡ false → (d && l && r) ≡ false
tests_false true true r h = h
tests_false true false r h = refl
tests_false false l r h = refl

right_is : (z : ℤ) → is_right (side_of z) ≡ true → z <ℤ pos 0
right_is (pos zero) h = cc
right_is (pos (suc n)) h = cc
right_is (negsuc n) h = omega (arith, ints)

not_right_is : (z : ℤ) → is_right (side_of z) ≡ false → z <ℤ pos 0 → ⊥
not_right_is (pos zero) h k = omega (arith, ints)
not_right_is (pos (suc n)) h k = omega (arith, ints)
not_right_is (negsuc n) h k = cc

right_scaled : (n : ℕ) (z y : ℤ) → 0 < n → y ≡ pos n *ℤ z → is_right (side_of y) ≡ is_right (side_of z)
right_scaled n (pos zero) y h e = let f : y ≡ pos 0 = e ∙ (omega (arith, ints)) in rw f refl
right_scaled n (pos (suc m)) y h e = let t = times 0 n 0 (suc m) h (omega arith) in let f : pos 0 <ℤ y =
    omega (arith, ints) in positive y f
  where
    positive : (y : ℤ) → pos 0 <ℤ y → is_right (side_of y) ≡ false
    positive (pos k) g = zero_or k
      where
        zero_or : (k : ℕ) → is_right (side_of (pos k)) ≡ false
        zero_or zero = refl
        zero_or (suc k) = refl
    positive (negsuc k) g = absurd (omega (arith, ints))
right_scaled n (negsuc m) y h e = let t = times 0 n 0 (suc m) h (omega arith) in let f : y <ℤ pos 0 = omega (arith, ints) in negative y f
  where
    negative : (y : ℤ) → y <ℤ pos 0 → is_right (side_of y) ≡ true
    negative (pos k) g = absurd (omega (arith, ints))
    negative (negsuc k) g = refl

no_two : (a b : ℤ) → a <ℤ b → b <ℤ a → ⊥
no_two a b h k = omega (arith, ints)

-- s above q: its tests
implied : (n : ℕ) (q : Place) (v : GridPoint) → (IsLower n q v → ⊥) → tilted n q v ≡ true → plain q v ≡ true
implied n q v h e = elim (order (pos (v.x * q.w)) q.x) [ inl k ↦ le_yes _ _ k | inr k ↦ absurd (h (k, yes_le _ _ e)) ]

back_plain : (s : GridSegment) (q : Place) → s.a.x ≤ s.b.x → plain q s.b ≡ true → plain q s.a ≡ true
back_plain s q o e = let t : s.a.x * q.w ≤ s.b.x * q.w = omega (arith, times_le s.a.x s.b.x 0 q.w o (omega arith)) in le_yes _ _
    (less_first _ _ _ t (yes_le _ _ e))
  where
    less_first : (m n : ℕ) (x : ℤ) → m ≤ n → pos n ≤ℤ x → pos m ≤ℤ x
    less_first m n x h k = omega (arith, ints)

back_tilted : (n : ℕ) (s : GridSegment) (q : Place) → n * s.a.x + s.a.y < n * s.b.x + s.b.y → tilted n q s.b ≡ true
    → tilted n q s.a ≡ true
back_tilted n s q o e = let t : (n * s.a.x + s.a.y) * q.w ≤ (n * s.b.x + s.b.y) * q.w = omega (
  arith,
  times_le (n * s.a.x + s.a.y)
      (n * s.b.x + s.b.y) 0 q.w (omega arith) (omega arith),
) in le_yes _ _ (less_first _ _ _ t (yes_le _ _ e))
  where
    less_first : (m n : ℕ) (x : ℤ) → m ≤ n → pos n ≤ℤ x → pos m ≤ℤ x
    less_first m n x h k = omega (arith, ints)

not_upper : (n : ℕ) (q : Place) (v : GridPoint) → (IsUpper n q v → ⊥) → is_upper n q v ≡ false
not_upper n q v h = elim (order (pos (v.x * q.w)) q.x) [
  | inl k ↦ elim (order (pos ((n * v.x + v.y) * q.w)) (pos n *ℤ q.x +ℤ q.y)) [
    | inl l ↦ rw (le_yes _ _ l) (and_false (plain q v))
    | inr l ↦ absurd (h (k, l))
  ]
  | inr k ↦ rw (le_no _ _ k) refl
]
  where
    and_false : (b : Bool) → (b && false) ≡ false
    and_false true = refl
    and_false false = refl

abbrev Sheared : ℕ → Place → GridSegment → Bool
Sheared n q s = is_over (sheared_place n q) (sheared n s)

by_side : (n : ℕ) (s : GridSegment) (q : Place) → 0 < n → s.a.x ≤ s.b.x → n * s.a.x + s.a.y < n * s.b.x + s.b.y
    → is_right (side_at s q) ≡ true → Differ (is_upper n q) (is_over q) (Sheared n q) s
by_side n s q hn o c r =
    let z = right_is _ r in
    let r' = right_scaled n (side_number_at s q) (side_number_at (sheared n s) (sheared_place n q)) hn (height_sheared n s q) ∙ r in
    let e1 = tests_true (plain q s.a) (int_lt q.x (pos (s.b.x * q.w))) (is_right (side_at s q)) (plain q s.b) (lt_is_not q.x (pos
    (s.b.x * q.w))) r in
    let e2 = tests_true (tilted n q s.a) (int_lt (pos n *ℤ q.x +ℤ q.y) (pos ((n * s.b.x + s.b.y) * q.w))) (is_right (side_at
    (sheared n s) (sheared_place n q))) (tilted n q s.b) (lt_is_not (pos n *ℤ q.x +ℤ q.y) (pos ((n * s.b.x + s.b.y) * q.w))) r' in
    rw (e1, e2) (above_q (plain q s.a) (plain q s.b) (tilted n q s.a) (tilted n q s.b)
    (back_plain s q o) (back_tilted n s q c)
    (implied n q s.a (λ h. no_two _ _ z (lower_a n s q o c h))) (implied n q s.b (λ h. no_two _ _ z (lower_b n s q o c h))))

none_differ : (a b c d : Bool) → a ≡ false → b ≡ false → c ≡ false → d ≡ false → xor a b ≡ xor c d
none_differ a b c d h k l m = cc

by_side' : (n : ℕ) (s : GridSegment) (q : Place) → 0 < n → s.a.x < s.b.x → n * s.a.x + s.a.y < n * s.b.x + s.b.y
    → is_right (side_at s q) ≡ false → Differ (is_upper n q) (is_over q) (Sheared n q) s
by_side' n s q hn o c r =
    let r' = right_scaled n (side_number_at s q) (side_number_at (sheared n s) (sheared_place n q)) hn (height_sheared n s q) ∙ r in
    none_differ (is_over q s) (Sheared n q s) (is_upper n q s.a) (is_upper n q s.b)
    (tests_false (plain q s.a) (int_lt q.x (pos (s.b.x * q.w))) (is_right (side_at s q)) r)
    (tests_false (tilted n q s.a) (int_lt (pos n *ℤ q.x +ℤ q.y) (pos ((n * s.b.x + s.b.y) * q.w))) (is_right (side_at (sheared n s)
    (sheared_place n q))) r')
    (not_upper n q s.a (λ h. not_right_is _ r (upper_a n s q o c h))) (not_upper n q s.b (λ h. not_right_is _ r (upper_b n s q o c h)))

-- a vertical s that isn't above q
same_ends : (a b c d : Bool) → a ≡ false → b ≡ false → c ≡ d → xor a b ≡ xor c d
same_ends a b true true h k l = cc
same_ends a b true false h k l = cc
same_ends a b false true h k l = cc
same_ends a b false false h k l = cc

both_upper : (n : ℕ) (s : GridSegment) (q : Place) (B : List GridSegment) → IsFree B q → Contains B s → s.a.x ≡ s.b.x → s.a.y < s.b.y
    → is_right (side_at s q) ≡ false → is_upper n q s.a ≡ is_upper n q s.b
both_upper n s q B f m v o r =
    let t = ap (λ (x : ℕ). x * q.w) v in
    let g = ap (λ (x : ℕ). n * (x * q.w)) v in
    let u : s.a.y * q.w ≤ s.b.y * q.w = omega (arith, times_le s.a.y s.b.y 0 q.w (omega arith) (omega arith)) in
    elim (three q.x (pos (s.a.x * q.w))) [
      | Less h ↦ not_upper n q s.a (λ w. no_less _ _ h w.0) ∙ sym (not_upper n q s.b (λ w. no_less _ _ h (at_least q.x _ _ t w.0)))
      | Same h ↦ elim (order (pos (s.a.y * q.w)) q.y) [
        | inl k ↦ elim (order q.y (pos (s.b.y * q.w))) [
          | inl l ↦ absurd (not_between B q s f m v h k l)
          | inr l ↦ not_upper n q s.a (λ w. low n s.a.x s.a.y q.w q.x q.y h k w.1)
              ∙ sym (not_upper n q s.b (λ w. low n s.b.x s.b.y q.w q.x q.y (h ∙ ap (λ (x : ℕ). pos (x * q.w)) v) (le_from _ _ l) w.1))
        ]
        | inr k ↦ up_yes n q s.a h k ∙ sym (up_yes n q s.b (h ∙ ap (λ (x : ℕ). pos (x * q.w)) v) (less_on q.y _ _ k u))
      ]
      | More h ↦ absurd (not_right_is _ r (upright_right s q v o h))
    ]
  where
    no_less : (a b : ℤ) → a <ℤ b → b ≤ℤ a → ⊥
    no_less a b h k = omega (arith, ints)

    at_least : (x : ℤ) (m n : ℕ) → m ≡ n → pos n ≤ℤ x → pos m ≤ℤ x
    at_least x m n e h = omega (arith, ints)

    less_on : (y : ℤ) (m n : ℕ) → y <ℤ pos m → m ≤ n → y <ℤ pos n
    less_on y m n h k = omega (arith, ints)

    low : (n x0 y0 w : ℕ) (x y : ℤ) → x ≡ pos (x0 * w) → pos (y0 * w) ≤ℤ y → (pos n *ℤ x +ℤ y) <ℤ pos ((n * x0 + y0) * w) → ⊥
    low n x0 y0 w x y e h k = let k' = rw e at k in omega (arith, ints)

    high : (n x0 y0 w : ℕ) (x y : ℤ) → x ≡ pos (x0 * w) → y <ℤ pos (y0 * w) → (pos n *ℤ x +ℤ y) <ℤ pos ((n * x0 + y0) * w)
    high n x0 y0 w x y e h = rw e (omega (arith, ints))

    le_same : (a b : ℤ) → a ≡ b → b ≤ℤ a
    le_same a b e = omega (arith, ints)

    up_yes : (n : ℕ) (q : Place) (z : GridPoint) → q.x ≡ pos (z.x * q.w) → q.y <ℤ pos (z.y * q.w) → is_upper n q z ≡ true
    up_yes n q z e k = rw (le_yes _ _ (le_same q.x (pos (z.x * q.w)) e), le_no _ _ (high n z.x z.y q.w q.x q.y e k)) refl

sheared_differ : (n : ℕ) (s : GridSegment) (q : Place) (B : List GridSegment) → 0 < n → IsFree B q → Contains B s → IsBefore s.a s.b
    → s.a.y < n → Differ (is_upper n q) (is_over q) (Sheared n q) s
sheared_differ n s q B hn f m o l = by_bool (is_right (side_at s q)) refl
  where
    c : n * s.a.x + s.a.y < n * s.b.x + s.b.y
    c = columns_in_order n s.a s.b l o

    le : s.a.x ≤ s.b.x
    le = elim o [ inl h ↦ omega arith | inr h ↦ omega (arith, h.0) ]

    by_order : IsBefore s.a s.b → is_right (side_at s q) ≡ false → Differ (is_upper n q) (is_over q) (Sheared n q) s
    by_order (inl h) r = by_side' n s q hn h c r
    by_order (inr h) r =
        let r' = right_scaled n (side_number_at s q) (side_number_at (sheared n s) (sheared_place n q)) hn (height_sheared n s q) ∙ r in
        same_ends (is_over q s) (Sheared n q s) (is_upper n q s.a) (is_upper n q s.b)
        (tests_false (plain q s.a) (int_lt q.x (pos (s.b.x * q.w))) (is_right (side_at s q)) r)
        (tests_false (tilted n q s.a) (int_lt (pos n *ℤ q.x +ℤ q.y) (pos ((n * s.b.x + s.b.y) * q.w))) (is_right (side_at (sheared n s)
        (sheared_place n q))) r')
        (both_upper n s q B f m h.0 h.1 r)

    by_bool : (b : Bool) → is_right (side_at s q) ≡ b → Differ (is_upper n q) (is_over q) (Sheared n q) s
    by_bool true r = by_side n s q hn le c r
    by_bool false r = by_order o r

pub par_map : (n : ℕ) (f : GridSegment → Bool) (B : List GridSegment) → par f (map (sheared n) B) ≡ par (λ s. f (sheared n s)) B
par_map n f [] = refl
par_map n f (s ∷ B) = ap (λ (z : Bool). xor (f (sheared n s)) z) (par_map n f B)

-- a free place is odd for an even border exactly where its image is for the sheared one
pub parity_sheared : (n : ℕ) (B : List GridSegment) (q : Place) → 0 < n → AreInOrder B → ((s : GridSegment) → Contains B s → s.a.y < n)
    → HasPairedEnds B → IsFree B q
    → par (is_over q) B ≡ par (is_over (sheared_place n q)) (map (sheared n) B)
parity_sheared n B q hn o l v f =
    same_parity (is_upper n q) (is_over q) (Sheared n q) B v (each_of (Differ (is_upper n q) (is_over q) (Sheared n q)) B
    (λ s m. sheared_differ n s q B hn f m (o s m) (l s m)))
    ∙ sym (par_map n (is_over (sheared_place n q)) B)
