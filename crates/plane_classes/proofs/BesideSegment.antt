-- This file shows how the number of segments above a place beside a segment differs from that of a place inside it.
use Rattle.std.proofs.Common.{◌≡◌, ◌⊎◌, ℕ, zero, suc, ◌+◌, ◌*◌, ◌<◌, Bool, ◌&&◌, List, []}
use Rattle.std.proofs.Common.{◌∷◌, ℤ, pos, negsuc, ◌<ℤ◌, refl, sym, ap, subst, ◌∙◌, arith, inl, inr}
use Rattle.std.specs.Prelude.{Contains}
use Rattle.std.proofs.lemmas.Int.{ints}
use Rattle.grid_base.specs.Segment.{GridSegment}
use Rattle.grid_base.specs.Sides.{Side, On, side_of}
use Rattle.grid_base.proofs.Turns.{times}
use Rattle.grid_base.specs.Plane.{Place, side_number_at, side_at, Holds, IsFree, blend, IsFreeWay, IsBeside}
use Rattle.plane_classes.specs.Classes.{IsWallBetween, AreInOneClass}
use Rattle.grid_base.proofs.Orders.{is_segment}
use Rattle.grid_base.proofs.Signs.{left_by_sign, right_by_sign}
use Rattle.plane_classes.proofs.OverTests.{is_over}
use Rattle.plane_classes.proofs.Parities.{xor, par, HasPairedEnds}
use Rattle.plane_classes.proofs.Ways.{AreInOrder, zero_by}
use Rattle.plane_classes.proofs.Blends.{blend_first, blend_last, blend_turned, height_blend, weighed}
use Rattle.plane_classes.proofs.ClassLemmas.{one_class_joined, turned}
use Rattle.plane_classes.proofs.Cuts.{one_class_by_way, In, walls_of, wall_listed, Cut, Onward, Back, No, side_of_wall, at_cut, after}
use Rattle.plane_classes.proofs.Cuts.{before, last_half, first_half, other, some_before}
use Rattle.plane_classes.proofs.OneParity.{kept_in_one_class}
use Rattle.plane_classes.proofs.PastOthers.{IsClear}
use Rattle.plane_classes.proofs.AtSegment.{Counts, parity_beside}

-- ---- nearer to the segment
some_weight : (a c d : ℕ) → 0 < a → 0 < c + d → 0 < c + d * a
some_weight a c d h k = elim (zero_or d) [ inl e ↦ omega arith | inr l ↦ let t = times 0 d 0 a l h in omega arith ]
  where
    zero_or : (d : ℕ) → (d ≡ 0) ⊎ (0 < d)
    zero_or d = grind arith

clear_way : (B : List GridSegment) (q m : Place) (a b : ℕ) → 0 < a → IsClear B q m → IsFreeWay B q (blend a b q m)
clear_way B q m a b h clear c d k = subst (IsFree B) (sym (blend_first a b c d q m)) (clear (c + d * a) (d * b) (some_weight a c d h k))

clear_rest : (B : List GridSegment) (q m : Place) (a b : ℕ) → 0 < a → IsClear B q m → IsClear B (blend a b q m) m
clear_rest B q m a b h clear i j k = let t = times 0 i 0 a k h in subst (IsFree B) (sym (blend_last a b i j q m)) (clear (i * a)
    (i * b + j) (omega arith))

-- the side stays
side_scaled : (a b : ℕ) (z y : ℤ) → 0 < a → y ≡ pos 0 → side_of (weighed a b z y) ≡ side_of z
side_scaled a b (pos zero) y h e = let f : weighed a b (pos 0) y ≡ pos 0 = rw e (omega (arith, ints)) in rw f refl
side_scaled a b (pos (suc n)) y h e =
    let t = times 0 a 0 (suc n) h (omega arith) in
    let f : pos 0 <ℤ (weighed a b (pos (suc n)) (pos 0)) = omega (arith, ints) in
    rw e (left_by_sign (weighed a b (pos (suc n)) (pos 0)) f)
side_scaled a b (negsuc n) y h e =
    let t = times 0 a 0 (suc n) h (omega arith) in
    let f : (weighed a b (negsuc n) (pos 0)) <ℤ pos 0 = omega (arith, ints) in
    rw e (right_by_sign (weighed a b (negsuc n) (pos 0)) f)

side_kept : (s : GridSegment) (a b : ℕ) (q m : Place) (d : Side) → 0 < a → Holds s m → side_at s q ≡ d → side_at s (blend a b q m) ≡ d
side_kept s a b q m d h on e = ap side_of (height_blend s a b q m)
    ∙ side_scaled a b (side_number_at s q) (side_number_at s m) h (zero_by _ on.line) ∙ e

-- a place of the class of q, on the way from q to m, with no wall of the list strictly between it and m
pub record IsNearer (B : List GridSegment) (s : GridSegment) (d : Side) (W : List ℕ) (q m r : Place) : Type 0 where
  pub clear : IsClear B r m
  pub side : side_at s r ≡ d
  pub class : AreInOneClass B q r
  pub no_wall : (e : ℕ) → In e W → IsWallBetween e r m → ⊥

nearer_by : (B : List GridSegment) (s : GridSegment) (d : Side) (e : ℕ) (W : List ℕ) (q m r : Place) (a b : ℕ) → 0 < a → Holds s m
    → IsNearer B s d W q m r
    → ((f : ℕ) → IsWallBetween f (blend a b r m) m → IsWallBetween f r m × (f ≡ e → ⊥)) → IsNearer B s d (e ∷ W) q m (blend a b r m)
nearer_by B s d e W q m r a b h on n walls = record {
  clear = clear_rest B r m a b h n.clear;
  side = side_kept s a b r m d h on n.side;
  class = one_class_joined B q r (blend a b r m) n.class (one_class_by_way B r (blend a b r m) (clear_way B r m a b h n.clear));
  no_wall = λ f i w. let g = walls f w in n.no_wall f (other f e W i g.1) g.0;
}

apart_by : (m n : ℕ) → (m < n) → (m ≡ n → ⊥)
apart_by m n h e = omega arith

apart_by' : (m n : ℕ) → (m < n) → (n ≡ m → ⊥)
apart_by' m n h e = omega arith

nearer_cut : (B : List GridSegment) (s : GridSegment) (d : Side) (e : ℕ) (W : List ℕ) (q m r : Place) → Holds s m
    → IsNearer B s d W q m r → Cut e r m
    → (p : Place) × IsNearer B s d (e ∷ W) q m p
nearer_cut B s d e W q m r on n (Onward h k) = (
  blend (before m e) (after r e) r m,
  nearer_by B s d e W q m r (before m e) (after r e) (some_before m e k) on n
      (λ f w. let g = last_half r m (blend (before m e) (after r e) r m) e f h k (at_cut r m e h k) w in (g.0, apart_by' e f g.1)),
)
nearer_cut B s d e W q m r on n (Back h k) = (
  blend (after m e) (before r e) r m,
  nearer_by B s d e W q m r (after m e) (before r e) (some_after' m e h) on n
      (λ f w.
      let p : Place = blend (before r e) (after m e) m r in
      let w' = subst (λ (v : Place). IsWallBetween f v m) (blend_turned (after m e) (before r e) r m) w in
      let g = first_half m r p e f h k (at_cut m r e h k) (turned f m p w') in
      (turned f r m g.0, apart_by f e g.1)),
)
  where
    some_after' : (m : Place) (e : ℕ) → m.x <ℤ pos (e * m.w) → 0 < after m e
    some_after' m e h = omega (arith, ints)
nearer_cut B s d e W q m r on n (No u) = (
  r,
  record {
    clear = n.clear;
    side = n.side;
    class = n.class;
    no_wall = λ f i w. n.no_wall f
        (other f e W i (λ t. u (subst (λ (v : ℕ). IsWallBetween v r m) t w))) w;
  },
)

pub nearer : (B : List GridSegment) (s : GridSegment) (d : Side) (W : List ℕ) (q m : Place) → Holds s m → IsClear B q m
    → side_at s q ≡ d → (r : Place) × IsNearer B s d W q m r
nearer B s d [] q m on clear e = (
  blend 1 0 q m,
  record {
    clear = clear_rest B q m 1 0 (omega arith) clear;
    side = side_kept s 1 0 q m d (omega arith) on e;
    class = one_class_by_way B q (blend 1 0 q m) (clear_way B q m 1 0 (omega arith) clear);
    no_wall = λ e i w. i;
  },
)
nearer B s d (e ∷ W) q m on clear f = let n = nearer B s d W q m on clear f in nearer_cut B s d e W q m n.0 on n.1 (side_of_wall e n.0 m)

-- a place beside s is as odd as a place of s, but for s itself
pub parity_at : (B : List GridSegment) (s : GridSegment) (d : Side) (q : Place) (e : Bool) (h : IsBeside B s d q) → AreInOrder B
    → HasPairedEnds B → Counts s d e → (d ≡ On → ⊥)
    → 0 < h.goal.w → ((t : GridSegment) → Contains B t → (t ≡ s → ⊥) → Holds t h.goal → ⊥)
    → xor (par (is_over q) B) (par (is_over h.goal) B) ≡ par (λ t. is_segment s t && e) B
parity_at B s d q e h o v c off real alone =
    let n = nearer B s d (walls_of B) q h.goal h.inside.held h.clear h.side in
    let f = parity_beside B s d n.0 h.goal e o v c (record {
      real = real;
      inside = h.inside;
      side = n.1.side;
      off = off;
      clear = n.1.clear;
      no_wall = λ f w b. n.1.no_wall f (wall_listed B f w) b;
      alone = alone;
    }) in
    ap (λ (z : Bool). xor z (par (is_over h.goal) B)) (kept_in_one_class B o v q n.0 n.1.class) ∙ f
