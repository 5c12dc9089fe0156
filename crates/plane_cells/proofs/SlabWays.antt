-- This file shows that a way within a slab meets no segment.
use Rattle.std.proofs.Common.{◌≡◌, ℕ, zero, suc, ◌+◌, ◌*◌, ◌<◌, ◌≤◌, List, ℤ, pos, negsuc, ◌<ℤ◌, ◌≤ℤ◌, refl, sym, subst, ◌∙◌}
use Rattle.std.proofs.Common.{arith}
use Rattle.std.proofs.lemmas.Int.{ints}
use borrow.Author.Differences.{up, down}
use Rattle.grid_base.specs.Segment.{GridSegment}
use Rattle.grid_base.specs.Sides.{On, side_of}
use Rattle.grid_base.proofs.Turns.{times, times_le}
use Rattle.grid_base.specs.Plane.{Place, side_number_at, Spans, Holds, IsFree, IsFreeWay, blend}
use Rattle.grid_base.proofs.Signs.{not_both}
use Rattle.plane_classes.proofs.Blends.{weighed, height_blend, blend_turned}
use Rattle.plane_classes.proofs.Ways.{held_by_line, zero_by}
use Rattle.plane_classes.proofs.Multiples.{held_scaled}
use Rattle.plane_cells.specs.Steps.{Each}
use Rattle.plane_cells.proofs.Lists.{each_map, each_at}
use Rattle.plane_cells.proofs.Labels.{IsOff, IsAlike, IsSeen}
use Rattle.plane_cells.proofs.Walks.{Position, Bound, None, Wall, IfWall, IsFrom, IsTo, IsAcross, Lies, Across, Ahead, Past, IsStatus}
use Rattle.plane_cells.proofs.AtVertices.{slab_spans}
use Rattle.plane_classes.proofs.OverTests.{le_from}
use Rattle.plane_classes.proofs.AlongSegment.{some_weight}

-- strictly within the slab
abbrev pub IsPast : Bound → Place → Type 0
IsPast lo q = IfWall (λ c. pos (c * q.w) <ℤ q.x) lo

abbrev pub IsShort : Bound → Place → Type 0
IsShort hi q = IfWall (λ e. q.x <ℤ pos (e * q.w)) hi

pub past_from : (lo : Bound) (q : Place) → IsPast lo q → IsFrom lo q
past_from None q h = tt
past_from (Wall c) q h = le_from _ _ h

pub short_to : (hi : Bound) (q : Place) → IsShort hi q → IsTo hi q
short_to None q h = tt
short_to (Wall e) q h = le_from _ _ h

-- ---- a way from a place of the slab to one within
-- two heights of one sign don't meet in 0
no_zero : (i j : ℕ) (x y : ℤ) → 0 < i + j → (side_of x ≡ On → ⊥) → side_of x ≡ side_of y → weighed i j x y ≡ pos 0 → ⊥
no_zero i j (pos zero) y h off e f = absurd (off refl)
no_zero i j (pos (suc m)) (pos zero) h off e f = cc
no_zero i j (pos (suc m)) (pos (suc n)) h off e f = let t = times_le 0 i 0 (suc m) (omega arith) (omega arith) in some_up i j m n h f
  where
    some_up : (i j m n : ℕ) → 0 < i + j → weighed i j (pos (suc m)) (pos (suc n)) ≡ pos 0 → ⊥
    some_up i j m n h f = let a : i * suc m + j * suc n ≡ 0 = omega (arith, ints, f) in grind arith
no_zero i j (pos (suc m)) (negsuc n) h off e f = cc
no_zero i j (negsuc m) (pos zero) h off e f = cc
no_zero i j (negsuc m) (pos (suc n)) h off e f = cc
no_zero i j (negsuc m) (negsuc n) h off e f = some_down i j m n h f
  where
    some_down : (i j m n : ℕ) → 0 < i + j → weighed i j (negsuc m) (negsuc n) ≡ pos 0 → ⊥
    some_down i j m n h f = let a : i * suc m + j * suc n ≡ 0 = omega (arith, ints, f) in grind arith

-- a blend is left of what both are left of
before_wall : (a e i j v w : ℕ) (x y : ℤ) → 0 < j → e ≤ a → x ≤ℤ pos (e * v) → y <ℤ pos (e * w)
    → weighed i j x y <ℤ pos (a * (i * v + j * w))
before_wall a e i j v w x y hj h k l =
    let t = times_le (up x) (e * v + down x) 0 i (omega (arith, ints, k)) (omega arith) in
    let u = times (up y) (e * w + down y) 0 j (omega (arith, ints, l)) hj in
    let f = times_le e a 0 (i * v + j * w) h (omega arith) in
    omega (arith, ints)

behind_wall : (b c i j v w : ℕ) (x y : ℤ) → 0 < j → b ≤ c → pos (c * v) ≤ℤ x → pos (c * w) <ℤ y
    → pos (b * (i * v + j * w)) <ℤ weighed i j x y
behind_wall b c i j v w x y hj h k l =
    let t = times_le (c * v + down x) (up x) 0 i (omega (arith, ints, k)) (omega arith) in
    let u = times (c * w + down y) (up y) 0 j (omega (arith, ints, l)) hj in
    let f = times_le b c 0 (i * v + j * w) h (omega arith) in
    omega (arith, ints)

off_free : (B : List GridSegment) (n : ℕ) (seg : ℕ → GridSegment) (p : Place) (i : ℕ) → Position B n seg → IsFree B p → i < n
    → Spans (seg i) p → IsOff seg p i
off_free B n seg p i P f l s e = f.apart (seg i) (P.listed i l) (held_by_line (seg i) p f.real (P.slanted i l) s e)

pub seen_in_slab : (B : List GridSegment) (n : ℕ) (seg : ℕ → GridSegment) (lo hi : Bound) (status : List ℕ) (p : Place) → Position B n seg
    → Each (IsAcross n seg lo hi) status → IsFree B p → IsFrom lo p → IsTo hi p → Each (IsSeen seg p) status
seen_in_slab B n seg lo hi status p P across f from to =
    each_map (IsAcross n seg lo hi) (IsSeen seg p) status
    (λ i a. let s = slab_spans n seg lo hi i p a from to in record { spans = s; off = off_free B n seg p i P f a.number s }) across

meets_none : (B : List GridSegment) (n : ℕ) (seg : ℕ → GridSegment) (lo hi : Bound) (status : List ℕ) (p g : Place) (i j k : ℕ)
    → Position B n seg → Each (IsAcross n seg lo hi) status → IsFree B p → IsFrom lo p → IsTo hi p → IsPast lo g → IsShort hi g
    → Each (IsAlike seg p g) status → 0 < j → k < n → Lies seg lo hi status k → Holds (seg k) (blend i j p g) → ⊥
meets_none B n seg lo hi status p g i j k P across f from to past short alike hj l (Across m) h =
    no_zero i j (side_number_at (seg k) p) (side_number_at (seg k) g) (omega arith)
    (each_at (IsSeen seg p) status k (seen_in_slab B n seg lo hi status p P across f from to) m).off
    (each_at (IsAlike seg p g) status k alike m) (sym (height_blend (seg k) i j p g) ∙ zero_by _ h.line)
meets_none B n seg lo None status p g i j k P across f from to past short alike hj l (Ahead m) h = absurd m
meets_none B n seg lo (Wall e) status p g i j k P across f from to past short alike hj l (Ahead m) h = not_both _ _
    (before_wall (seg k).a.x e i j p.w g.w p.x g.x hj m to short) h.across.from
meets_none B n seg None hi status p g i j k P across f from to past short alike hj l (Past m) h = absurd m
meets_none B n seg (Wall c) hi status p g i j k P across f from to past short alike hj l (Past m) h = not_both _ _
    (behind_wall (seg k).b.x c i j p.w g.w p.x g.x hj m from past) h.across.to

pub slab_way : (B : List GridSegment) (n : ℕ) (seg : ℕ → GridSegment) (lo hi : Bound) (status : List ℕ) (p g : Place) → Position B n seg
    → IsStatus n seg lo hi status → IsFree B p → IsFrom lo p → IsTo hi p → 0 < g.w → IsPast lo g → IsShort hi g
    → Each (IsAlike seg p g) status → IsFreeWay B p g
slab_way B n seg lo hi status p g P s f from to real past short alike i zero h = record {
  real = some_weight i 0 p.w g.w h f.real real;
  apart = λ t m held. f.apart t m (held_scaled t i g p (omega (arith, h)) (subst (Holds t) (blend_turned i 0 p g) held));
}
slab_way B n seg lo hi status p g P s f from to real past short alike i (suc j) h = record {
  real = some_weight i (suc j) p.w g.w h f.real real;
  apart = λ t m held. let k = P.all t m in
      meets_none B n seg lo hi status p g i (suc j) k.0 P s.across f from to past short alike (omega arith) k.1 (s.others k.0 k.1)
      (subst (λ (u : GridSegment). Holds u (blend i (suc j) p g)) (sym k.2) held);
}
