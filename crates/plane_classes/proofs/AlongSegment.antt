-- This file shows that all places inside a segment have as many segments above them, up to an even number.
use Rattle.std.proofs.Common.{◌≡◌, ℕ, zero, suc, ◌+◌, ◌*◌, ◌<◌, Bool, false, ◌&&◌, List, [], ◌∷◌}
use Rattle.std.proofs.Common.{ℤ, pos, ◌*ℤ◌, ◌<ℤ◌, refl, sym, ap, subst, ◌∙◌, arith, inl, inr}
use Rattle.std.specs.Prelude.{Contains}
use Rattle.std.proofs.lemmas.Int.{ints}
use borrow.Author.Differences.{up, down}
use Rattle.grid_base.specs.Point.{GridPoint, IsBefore}
use Rattle.grid_base.specs.Segment.{GridSegment}
use Rattle.grid_base.specs.Sides.{On}
use Rattle.grid_base.proofs.Turns.{times, times_le}
use Rattle.grid_base.specs.Plane.{Place, side_at, Holds, HoldsInside, blend}
use Rattle.plane_classes.specs.Classes.{IsWall, IsWallBetween, TouchOneCell}
use Rattle.grid_base.proofs.Orders.{is_segment}
use Rattle.grid_base.proofs.Signs.{on_by_zero, not_both}
use Rattle.plane_classes.proofs.OverTests.{is_over}
use Rattle.plane_classes.proofs.Parities.{xor, par, ends_with, HasPairedEnds, xor_none, par_xor, par_same, even_ends, and_none}
use Rattle.plane_classes.proofs.Heights.{IsLeftOf}
use Rattle.plane_classes.proofs.Ways.{AreInOrder, zero_by, held_by_line}
use Rattle.plane_classes.proofs.Blends.{height_blend, weighed, spans_blend}
use Rattle.plane_classes.proofs.OverTests.{stands, Less, Same, More, three, over_no_right, stands_no_left, stands_no_right, le_of}
use Rattle.plane_classes.proofs.OverTests.{le_from}
use Rattle.plane_classes.proofs.OneParity.{tested, same_level, each_of}
use Rattle.plane_classes.proofs.PastOthers.{NoWall, one_of, wall_of_one}
use Rattle.plane_classes.proofs.OwnSegment.{within_a, within_b, over_m, upright_column, upright_up, Adds}
use Rattle.plane_classes.proofs.AtSegment.{itself, by_same}
use Rattle.plane_classes.proofs.AtSegment.{none_differ, plus_none}
use Rattle.plane_classes.proofs.Cuts.{In, walls_of, wall_listed, Onward, Back, No, side_of_wall, at_cut, after, before, last_half}
use Rattle.plane_classes.proofs.Cuts.{first_half, other, some_before}
use Rattle.plane_classes.proofs.ClassLemmas.{turned}

-- ---- blends of two places inside s are inside s
less_blend : (n i j v w : ℕ) (y z : ℤ) → 0 < i + j → pos (n * v) <ℤ y → pos (n * w) <ℤ z → pos (n * (i * v + j * w)) <ℤ (weighed i j y z)
less_blend n zero j v w y z h k l = let t = times 0 j (n * w + down z) (up z) (omega arith) (omega (arith, ints)) in omega (arith, ints)
less_blend n (suc i) j v w y z h k l =
    let t = times 0 (suc i) (n * v + down y) (up y) (omega arith) (omega (arith, ints)) in
    let u = times_le 0 j (n * w + down z) (up z) (omega arith) (omega (arith, ints)) in
    omega (arith, ints)

pub blend_less : (n i j v w : ℕ) (y z : ℤ) → 0 < i + j → y <ℤ pos (n * v) → z <ℤ pos (n * w)
    → (weighed i j y z) <ℤ pos (n * (i * v + j * w))
blend_less n zero j v w y z h k l = let t = times 0 j (up z) (n * w + down z) (omega arith) (omega (arith, ints)) in omega (arith, ints)
blend_less n (suc i) j v w y z h k l =
    let t = times 0 (suc i) (up y) (n * v + down y) (omega arith) (omega (arith, ints)) in
    let u = times_le 0 j (up z) (n * w + down z) (omega arith) (omega (arith, ints)) in
    omega (arith, ints)

not_equal : (a b : ℤ) → a <ℤ b → b ≡ a → ⊥
not_equal a b h e = omega (arith, ints)

not_equal' : (a b : ℤ) → a <ℤ b → a ≡ b → ⊥
not_equal' a b h e = omega (arith, ints)

line_blend : (s : GridSegment) (i j : ℕ) (m n : Place) → Holds s m → Holds s n → side_at s (blend i j m n) ≡ On
line_blend s i j m n h k = on_by_zero _ (height_blend s i j m n ∙ sum_zero _ _ (zero_by _ h.line) (zero_by _ k.line))
  where
    sum_zero : (x y : ℤ) → x ≡ pos 0 → y ≡ pos 0 → weighed i j x y ≡ pos 0
    sum_zero x y e f = rw (e, f) (omega (arith, ints))

-- the lesser end of a vertical s is strictly below m
upright_low : (s : GridSegment) (m : Place) → s.a.x ≡ s.b.x → s.a.y < s.b.y → HoldsInside s m → pos (s.a.y * m.w) <ℤ m.y
upright_low s m e o h = elim (three m.y (pos (s.a.y * m.w))) [
  | Less n ↦ absurd (not_both m.y _ n (upright_up s m e o h).0)
  | Same n ↦ absurd (h.not_a (upright_column s m e h, n))
  | More n ↦ n
]

pub some_weight : (i j v w : ℕ) → 0 < i + j → 0 < v → 0 < w → 0 < i * v + j * w
some_weight zero j v w some first second = let t = times 0 j 0 w (omega arith) second in omega arith
some_weight (suc i) j v w some first second = let t = times 0 (suc i) 0 v (omega arith) first in omega arith

pub inside_blend : (s : GridSegment) (i j : ℕ) (m n : Place) → IsBefore s.a s.b → 0 < i + j → HoldsInside s m → HoldsInside s n
    → HoldsInside s (blend i j m n)
inside_blend s i j m n (inl o) k h g = record {
  held = held_by_line s (blend i j m n) (some_weight i j m.w n.w k h.held.real g.held.real) o
      (spans_blend s i j m n h.held.across g.held.across) (line_blend s i j m n h.held g.held);
  not_a = λ e. not_equal _ _ (less_blend s.a.x i j m.w n.w m.x n.x k (within_a s m o h) (within_a s n o g)) e.0;
  not_b = λ e. not_equal' _ _ (blend_less s.b.x i j m.w n.w m.x n.x k (within_b s m o h) (within_b s n o g)) e.0;
}
inside_blend s i j m n (inr o) k h g =
    let low = less_blend s.a.y i j m.w n.w m.y n.y k (upright_low s m o.0 o.1 h) (upright_low s n o.0 o.1 g) in
    let high = blend_less s.b.y i j m.w n.w m.y n.y k (upright_up s m o.0 o.1 h).1 (upright_up s n o.0 o.1 g).1 in
    record {
      held = record {
        real = some_weight i j m.w n.w k h.held.real g.held.real;
        line = line_blend s i j m n h.held g.held;
        across = spans_blend s i j m n h.held.across g.held.across;
        up = inl (le_from _ _ low, le_from _ _ high);
      };
      not_a = λ e. not_equal _ _ low e.1;
      not_b = λ e. not_equal' _ _ high e.1;
    }

-- ---- two places inside s with no wall strictly between
-- no other segment of B has a place inside s
abbrev pub IsAlone : List GridSegment → GridSegment → Type 0
IsAlone B s = (t : GridSegment) (m : Place) → Contains B t → (t ≡ s → ⊥) → HoldsInside s m → Holds t m → ⊥

touch_along : (B : List GridSegment) (s t : GridSegment) (m n : Place) → IsBefore s.a s.b → IsAlone B s → Contains B t → (t ≡ s → ⊥)
    → 0 < m.w → 0 < n.w
    → HoldsInside s m → HoldsInside s n → NoWall B m n → TouchOneCell (t ∷ []) m n
touch_along B s t m n o alone c u hm hn h g walls = record {
  no_wall_between = λ e w b. walls e (wall_of_one B t e c w) b;
  no_segment_between = λ i j k. record {
    real = some_weight i j m.w n.w k hm hn;
    apart = λ v d held. alone t (blend i j m n) c u (inside_blend s i j m n o k h g) (subst (λ (x : GridSegment). Holds x
        (blend i j m n)) (sym (one_of t v d)) held);
  };
}

none_add : (a b c d : Bool) → a ≡ false → b ≡ false → c ≡ false → d ≡ false → xor a b ≡ xor (xor c d) false
none_add a b c d h k l m = cc

not_left : (a v w : ℕ) (x y : ℤ) → x ≡ pos (a * v) → y ≡ pos (a * w) → (x *ℤ pos w) <ℤ (y *ℤ pos v) → ⊥
not_left a v w x y e f h = let k = rw (e, f) at h in omega (arith, ints)

own_adds : (s : GridSegment) (m n : Place) → IsBefore s.a s.b → HoldsInside s m → HoldsInside s n → IsLeftOf m n
    → Adds (stands n) m n s false
own_adds s m n (inl o) h g l = none_add _ _ _ _ (over_m s m o h) (over_m s n o g) (stands_no_left n s.a (within_a s n o g))
    (stands_no_right n s.b (within_b s n o g))
own_adds s m n (inr o) h g l = absurd (not_left s.a.x m.w n.w m.x n.x (upright_column s m o.0 h) (upright_column s n o.0 g) l)

not_over : (s : GridSegment) (m : Place) → IsBefore s.a s.b → HoldsInside s m → is_over m s ≡ false
not_over s m (inl o) h = over_m s m o h
not_over s m (inr o) h = over_no_right m s (le_of _ _ (sym (upright_column s m o.0 h ∙ ap (λ (x : ℕ). pos (x * m.w)) o.0)))

adds_along : (B : List GridSegment) (s : GridSegment) (m n : Place) → AreInOrder B → IsBefore s.a s.b → IsAlone B s → 0 < m.w → 0 < n.w
    → HoldsInside s m → HoldsInside s n → NoWall B m n → IsLeftOf m n → (t : GridSegment) → Contains B t
    → Adds (stands n) m n t (is_segment s t && false)
adds_along B s m n o so alone hm hn h g walls l t c = by_same (stands n) m n s t false
    (λ q. subst (λ (u : GridSegment). Adds (stands n) m n u false) q (own_adds s m n so h g l))
    (λ u. plus_none (is_over m t) (is_over n t) (ends_with (stands n) t) (tested (t ∷ []) m n t
    (touch_along B s t m n so alone c u hm hn h g walls) (o t c) l (itself t)))
    (is_segment s t) refl

adds_level : (B : List GridSegment) (s : GridSegment) (m n : Place) → AreInOrder B → IsBefore s.a s.b → IsAlone B s → 0 < m.w → 0 < n.w
    → HoldsInside s m → HoldsInside s n → NoWall B m n → m.x *ℤ pos n.w ≡ n.x *ℤ pos m.w → (t : GridSegment) → Contains B t
    → Adds (λ v. false) m n t (is_segment s t && false)
adds_level B s m n o so alone hm hn h g walls l t c = by_same (λ v. false) m n s t false
    (λ q. subst (λ (u : GridSegment). Adds (λ v. false) m n u false) q (none_differ (is_over m s) (is_over n s) (not_over s m so h
    ∙ sym (not_over s n so g))))
    (λ u. none_differ (is_over m t) (is_over n t) (same_level (t ∷ []) m n t (touch_along B s t m n so alone c u hm hn h g walls)
    (o t c) l (itself t)))
    (is_segment s t) refl

all_even : (s : GridSegment) (B : List GridSegment) → par (λ t. is_segment s t && false) B ≡ false
all_even s [] = refl
all_even s (t ∷ B) = rw (and_none (is_segment s t)) (all_even s B)

total : (B : List GridSegment) (s : GridSegment) (P : GridPoint → Bool) (m n : Place) → HasPairedEnds B → ((t : GridSegment)
    → Contains B t → Adds P m n t (is_segment s t && false)) → par (is_over m) B ≡ par (is_over n) B
total B s P m n v h = xor_none _ _ (
    sym (par_xor (is_over m) (is_over n) B)
    ∙ par_same (λ t. xor (is_over m t) (is_over n t)) (λ t. xor (ends_with P t) (is_segment s t && false)) B (each_of (λ t. Adds P m n t
    (is_segment s t && false)) B h)
    ∙ par_xor (ends_with P) (λ t. is_segment s t && false) B
    ∙ rw (even_ends P B v) (all_even s B))

back_walls : (B : List GridSegment) (m n : Place) → NoWall B m n → NoWall B n m
back_walls B m n h e w b = h e w (turned e m n b)

parity_step : (B : List GridSegment) (s : GridSegment) (m n : Place) → AreInOrder B → HasPairedEnds B → IsBefore s.a s.b → IsAlone B s
    → 0 < m.w → 0 < n.w
    → HoldsInside s m → HoldsInside s n → NoWall B m n → par (is_over m) B ≡ par (is_over n) B
parity_step B s m n o v so alone hm hn h g walls = elim (three (m.x *ℤ pos n.w) (n.x *ℤ pos m.w)) [
  | Less l ↦ total B s (stands n) m n v (adds_along B s m n o so alone hm hn h g walls l)
  | Same l ↦ total B s (λ u. false) m n v (adds_level B s m n o so alone hm hn h g walls l)
  | More l ↦ sym (total B s (stands m) n m v (adds_along B s n m o so alone hn hm g h (back_walls B m n walls) l))
]

-- ---- all of the segment
abbrev Listed : List GridSegment → List ℕ → Place → Place → Type 0
Listed B W m n = (e : ℕ) → IsWall B e → IsWallBetween e m n → In e W

abbrev Even : List GridSegment → GridSegment → List ℕ → Type 0
Even B s W = (m n : Place) → 0 < m.w → 0 < n.w → HoldsInside s m → HoldsInside s n → Listed B W m n
    → par (is_over m) B ≡ par (is_over n) B

cut_even : (B : List GridSegment) (s : GridSegment) (e : ℕ) (W : List ℕ) → IsBefore s.a s.b → Even B s W → (m n : Place) → 0 < m.w
    → 0 < n.w → HoldsInside s m → HoldsInside s n → Listed B (e ∷ W) m n
    → m.x <ℤ pos (e * m.w) → pos (e * n.w) <ℤ n.x → par (is_over m) B ≡ par (is_over n) B
cut_even B s e W so even m n hm hn h g walls k l =
    let a = before n e in
    let b = after m e in
    let r : Place = blend a b m n in
    let some : 0 < a + b = some_sum a b (some_before n e l) in
    let c : r.x ≡ pos (e * r.w) = at_cut m n e k l in
    let hr = some_weight a b m.w n.w some hm hn in
    let i = inside_blend s a b m n so some h g in
    even m r hm hr h i (λ f w t. let p = first_half m n r e f k l c t in other f e W (walls f w p.0) (λ q. apart f e p.1 q))
    ∙ even r n hr hn i g (λ f w t. let p = last_half m n r e f k l c t in other f e W (walls f w p.0) (λ q. apart e f p.1 (sym q)))
  where
    some_sum : (a b : ℕ) → 0 < a → 0 < a + b
    some_sum a b h = omega arith

    apart : (m n : ℕ) → m < n → m ≡ n → ⊥
    apart m n h e = omega arith

even_along : (B : List GridSegment) (s : GridSegment) → AreInOrder B → HasPairedEnds B → IsBefore s.a s.b → IsAlone B s → (W : List ℕ)
    → Even B s W
even_along B s o v so alone [] m n hm hn h g walls = parity_step B s m n o v so alone hm hn h g (λ e w b. walls e w b)
even_along B s o v so alone (e ∷ W) m n hm hn h g walls = elim (side_of_wall e m n) [
  | Onward k l ↦ cut_even B s e W so (even_along B s o v so alone W) m n hm hn h g walls k l
  | Back k l ↦ sym (cut_even B s e W so (even_along B s o v so alone W) n m hn hm g h (λ f w b. walls f w (turned f m n b)) k l)
  | No u ↦ even_along B s o v so alone W m n hm hn h g (λ f w b. other f e W (walls f w b) (λ q. u (subst (λ
      (x : ℕ). IsWallBetween x m n) q b)))
]

-- all places inside s are alike
pub parity_along : (B : List GridSegment) (s : GridSegment) (m n : Place) → AreInOrder B → HasPairedEnds B → IsBefore s.a s.b
    → IsAlone B s → 0 < m.w → 0 < n.w
    → HoldsInside s m → HoldsInside s n → par (is_over m) B ≡ par (is_over n) B
parity_along B s m n o v so alone hm hn h g = even_along B s o v so alone (walls_of B) m n hm hn h g (λ e w b. wall_listed B e w)
