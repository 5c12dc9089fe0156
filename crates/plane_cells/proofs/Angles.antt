-- This file shows that the segments that begin at one point are ordered by their angles.
use Rattle.std.proofs.Common.{◌≡◌, ℕ, zero, suc, ◌+◌, ◌*◌, ◌<◌, ◌≤◌, List, ℤ, pos, negsuc, ◌+ℤ◌, ◌*ℤ◌, ◌<ℤ◌, refl, sym, ap, subst, ◌∙◌}
use Rattle.std.proofs.Common.{arith, inl, inr}
use Rattle.std.proofs.lemmas.Int.{ints}
use Rattle.grid_base.specs.Point.{GridPoint}
use Rattle.grid_base.specs.Segment.{GridSegment}
use Rattle.grid_base.specs.Sides.{turn}
use Rattle.grid_base.proofs.Turns.{times, times_le}
use Rattle.grid_base.specs.Plane.{Place, side_number_at, Spans}
use Rattle.grid_base.proofs.Signs.{natural_order}
use Rattle.plane_classes.proofs.Heights.{height_is, at_b}
use Rattle.plane_classes.specs.Shear.{sheared_place}
use Rattle.plane_classes.proofs.Shears.{height_sheared, same_record}
use Rattle.plane_cells.specs.Order.{at_point}
use Rattle.plane_cells.proofs.Walks.{Position}
use Rattle.plane_classes.specs.Shear.{sheared_point, sheared}
use Rattle.plane_cells.proofs.Vertical.{held_at}
use Rattle.plane_cells.proofs.ShearedSides.{up_scaled}

-- ---- turns are heights of the sheared plane
times_one : (n : ℕ) → n * 1 ≡ n
times_one n = omega arith

height_is_turn : (s : GridSegment) (p : GridPoint) → side_number_at s (at_point p) ≡ turn s.a s.b p
unfolding side_number_at turn
height_is_turn s p = rw (times_one s.a.x, times_one s.a.y) refl

point_sheared : (n : ℕ) (p : GridPoint) → sheared_place n (at_point p) ≡ at_point (sheared_point n p)
point_sheared n p = same_record _ _ _ _ 1 1 (sum n p.x p.y) refl refl
  where
    sum : (n x y : ℕ) → pos n *ℤ pos x +ℤ pos y ≡ pos (n * x + y)
    sum n x y = omega (arith, ints)

pub turn_sheared : (n : ℕ) (s : GridSegment) (p : GridPoint)
    → side_number_at (sheared n s) (at_point (sheared_point n p)) ≡ pos n *ℤ turn s.a s.b p
turn_sheared n s p = ap (λ (q : Place). side_number_at (sheared n s) q) (sym (point_sheared n p)) ∙ height_sheared n s (at_point p) ∙ ap
    (λ (z : ℤ). pos n *ℤ z) (height_is_turn s p)

pub left_sheared : (n : ℕ) (s : GridSegment) (p : GridPoint) → 0 < n → pos 0 <ℤ turn s.a s.b p
    → pos 0 <ℤ side_number_at (sheared n s) (at_point (sheared_point n p))
left_sheared n s p h k = subst (λ (z : ℤ). pos 0 <ℤ z) (sym (turn_sheared n s p)) (up_scaled n (turn s.a s.b p) h k)

scaled_left : (n : ℕ) (z : ℤ) → 0 < n → pos 0 <ℤ (pos n *ℤ z) → pos 0 <ℤ z
scaled_left n (pos zero) h k = absurd (omega (arith, ints, k))
scaled_left n (pos (suc m)) h k = omega (arith, ints)
scaled_left n (negsuc m) h k = let t = times 0 n 0 (suc m) h (omega arith) in absurd (omega (arith, ints, k))

pub left_unsheared : (n : ℕ) (s : GridSegment) (p : GridPoint) → 0 < n
    → pos 0 <ℤ side_number_at (sheared n s) (at_point (sheared_point n p)) → pos 0 <ℤ turn s.a s.b p
left_unsheared n s p h k = scaled_left n (turn s.a s.b p) h (subst (λ (z : ℤ). pos 0 <ℤ z) (turn_sheared n s p) k)

-- ---- the order by angles
abbrev fan : GridPoint → GridPoint → GridSegment
fan v b = record { a = v; b = b }

turned_fan : (v b c : GridPoint) → side_number_at (fan v b) (at_point c) <ℤ pos 0 → pos 0 <ℤ side_number_at (fan v c) (at_point b)
turned_fan v b c h = omega (arith, ints, h, height_is (fan v b) (at_point c), height_is (fan v c) (at_point b))

flat_fan : (v b c : GridPoint) → side_number_at (fan v b) (at_point c) ≡ pos 0 → side_number_at (fan v c) (at_point b) ≡ pos 0
flat_fan v b c h = omega (arith, ints, h, height_is (fan v b) (at_point c), height_is (fan v c) (at_point b))

-- twice the area of v, b, c as two sums
abbrev more : GridPoint → GridPoint → GridPoint → ℕ
more v b c = b.x * c.y + v.x * v.y + (b.y * v.x + v.y * c.x)

abbrev less : GridPoint → GridPoint → GridPoint → ℕ
less v b c = b.x * v.y + v.x * c.y + (b.y * c.x + v.y * v.x)

sums : (v b c : GridPoint) → pos 0 <ℤ side_number_at (fan v b) (at_point c) → less v b c < more v b c
sums v b c h = omega (arith, ints, h, height_is (fan v b) (at_point c))

by_sums : (v b c : GridPoint) → less v b c < more v b c → pos 0 <ℤ side_number_at (fan v b) (at_point c)
by_sums v b c h = omega (arith, ints, h, height_is (fan v b) (at_point c))

sums_joined : (v b c d : GridPoint) → v.x < b.x → v.x < c.x → v.x < d.x → less v b c < more v b c → less v c d < more v c d
    → more v b d ≤ less v b d → ⊥
sums_joined v b c d hb hc hd h k l =
    let p = times (less v b c) (more v b c) v.x d.x h hd in
    let q = times (less v c d) (more v c d) v.x b.x k hb in
    let r = times_le (more v b d) (less v b d) v.x c.x l (omega (arith, hc)) in
    omega arith

joined_fan : (v b c d : GridPoint) → v.x < b.x → v.x < c.x → v.x < d.x → pos 0 <ℤ side_number_at (fan v b) (at_point c)
    → pos 0 <ℤ side_number_at (fan v c) (at_point d) → pos 0 <ℤ side_number_at (fan v b) (at_point d)
joined_fan v b c d hb hc hd h k = elim (natural_order (more v b d) (less v b d)) [
  | inl l ↦ absurd (sums_joined v b c d hb hc hd (sums v b c h) (sums v c d k) l)
  | inr l ↦ by_sums v b d l
]

as_fan : (s : GridSegment) (v : GridPoint) → s.a ≡ v → fan v s.b ≡ s
as_fan s v e = ap (λ (u : GridPoint). fan u s.b) (sym e)

-- t begins where s does, and its end is not on the left of s: then the end of s is on the left of t
pub angle_turned : (s t : GridSegment) (v : GridPoint) → s.a ≡ v → t.a ≡ v → side_number_at s (at_point t.b) <ℤ pos 0
    → pos 0 <ℤ side_number_at t (at_point s.b)
angle_turned s t v e f h =
    subst (λ (u : GridSegment). pos 0 <ℤ side_number_at u (at_point s.b)) (as_fan t v f)
    (turned_fan v s.b t.b (subst (λ (u : GridSegment). side_number_at u (at_point t.b) <ℤ pos 0) (sym (as_fan s v e)) h))

pub angle_flat : (s t : GridSegment) (v : GridPoint) → s.a ≡ v → t.a ≡ v → side_number_at s (at_point t.b) ≡ pos 0
    → side_number_at t (at_point s.b) ≡ pos 0
angle_flat s t v e f h =
    subst (λ (u : GridSegment). side_number_at u (at_point s.b) ≡ pos 0) (as_fan t v f)
    (flat_fan v s.b t.b (subst (λ (u : GridSegment). side_number_at u (at_point t.b) ≡ pos 0) (sym (as_fan s v e)) h))

pub angle_joined : (s t u : GridSegment) (v : GridPoint) → s.a ≡ v → t.a ≡ v → u.a ≡ v → s.a.x < s.b.x → t.a.x < t.b.x → u.a.x < u.b.x
    → pos 0 <ℤ side_number_at s (at_point t.b) → pos 0 <ℤ side_number_at t (at_point u.b) → pos 0 <ℤ side_number_at s (at_point u.b)
angle_joined s t u v e f g hs ht hu h k =
    subst (λ (w : GridSegment). pos 0 <ℤ side_number_at w (at_point u.b)) (as_fan s v e)
    (joined_fan v s.b t.b u.b (subst (λ (p : GridPoint). p.x < s.b.x) e hs) (subst (λ (p : GridPoint). p.x < t.b.x) f ht)
    (subst (λ (p : GridPoint). p.x < u.b.x) g hu)
    (subst (λ (w : GridSegment). pos 0 <ℤ side_number_at w (at_point t.b)) (sym (as_fan s v e)) h)
    (subst (λ (w : GridSegment). pos 0 <ℤ side_number_at w (at_point u.b)) (sym (as_fan t v f)) k))

-- ---- two that begin at one point aren't on one line
at_end : (s : GridSegment) → side_number_at s (at_point s.b) ≡ pos 0
at_end s = at_b s (at_point s.b) (omega (arith, ints)) (omega (arith, ints))

end_spans : (s : GridSegment) (p : GridPoint) → s.a.x ≤ p.x → p.x ≤ s.b.x → Spans s (at_point p)
end_spans s p h k = record { from = omega (arith, ints, h); to = omega (arith, ints, k) }

same_columns : (v w : GridPoint) → (at_point v).x ≡ pos (w.x * 1) → w.x ≡ v.x
same_columns v w e = omega (arith, ints, e)

one_line_short : (B : List GridSegment) (n : ℕ) (seg : ℕ → GridSegment) (i j : ℕ) (v : GridPoint) → Position B n seg → i < n → j < n
    → (i ≡ j → ⊥) → (seg i).a ≡ v → (seg j).a ≡ v
    → side_number_at (seg i) (at_point (seg j).b) ≡ pos 0 → (seg j).b.x ≤ (seg i).b.x → (seg i).b ≡ (seg j).b
one_line_short B n seg i j v P hi hj d e f z l =
    let b = (seg j).b in
    let g = ap (λ (p : GridPoint). p.x) (e ∙ sym f) in
    let held_i = held_at (seg i) (at_point b) (omega arith) (P.slanted i hi) (end_spans (seg i) b (omega (arith, g, P.slanted j hj)) l) z in
    let held_j = held_at (seg j) (at_point b) (omega arith) (P.slanted j hj)
    (end_spans (seg j) b (omega (arith, P.slanted j hj)) (omega arith)) (at_end (seg j)) in
    let c = P.apart i j (at_point b) hi hj d held_i held_j in
    let x : c.0.x ≡ b.x = same_columns b c.0 c.3.0 in
    elim c.1 [
      | inl h ↦ absurd (early (ap (λ (p : GridPoint). p.x) h) x g (P.slanted j hj))
      | inr h ↦ sym h ∙ P.columns i j c.0 b hi hj (inr h) (inr refl) x
    ]
  where
    early : {p a b c : ℕ} → p ≡ a → p ≡ b → a ≡ c → c < b → ⊥
    early h k g l = omega (arith, h, k, g, l)

pub not_on_one_line : (B : List GridSegment) (n : ℕ) (seg : ℕ → GridSegment) (i j : ℕ) (v : GridPoint) → Position B n seg
    → ((seg i).a ≡ (seg j).a → (seg i).b ≡ (seg j).b → i ≡ j) → i < n → j < n → (i ≡ j → ⊥) → (seg i).a ≡ v → (seg j).a ≡ v
    → side_number_at (seg i) (at_point (seg j).b) ≡ pos 0 → ⊥
not_on_one_line B n seg i j v P once hi hj d e f z = elim (natural_order (seg j).b.x (seg i).b.x) [
  | inl l ↦ d (once (e ∙ sym f) (one_line_short B n seg i j v P hi hj d e f z l))
  | inr l ↦ d (once (e ∙ sym f)
      (sym (one_line_short B n seg j i v P hj hi (λ g. d (sym g)) f e (angle_flat (seg i) (seg j) v e f z) (omega (arith, l)))))
]
