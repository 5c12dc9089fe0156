-- This file shows that the places of one slab with one label are in one class.
use Rattle.std.proofs.Common.{◌≡◌, ℕ, suc, ◌+◌, ◌*◌, ◌<◌, ◌≤◌, List, ℤ, pos, ◌-ℤ◌, ◌<ℤ◌, refl, sym, ap, subst, ◌∙◌}
use Rattle.std.proofs.Common.{arith, inl, inr}
use Rattle.std.proofs.lemmas.Int.{ints}
use Rattle.grid_base.specs.Point.{GridPoint}
use Rattle.grid_base.specs.Segment.{GridSegment}
use Rattle.grid_base.specs.Segment.{IsEnd}
use Rattle.grid_base.proofs.Turns.{times_le}
use Rattle.grid_base.specs.Plane.{Place, IsFree, IsAtPoint}
use Rattle.plane_classes.specs.Classes.{AreInOneClass}
use Rattle.plane_classes.proofs.ClassLemmas.{one_class_joined, one_class_back}
use Rattle.plane_classes.proofs.Cuts.{one_class_by_way}
use Rattle.plane_cells.specs.Steps.{In, Each}
use Rattle.plane_cells.proofs.Vertical.{InColumn, column_after, column_before, column_real}
use Rattle.plane_cells.proofs.Lists.{each_map, each_at, each_both, each_in}
use Rattle.plane_cells.proofs.Labels.{label_at, IsOff, IsFurtherDown, IsSeen, label_kept, alike_by_label}
use Rattle.plane_cells.proofs.InGaps.{IsThere, IsApartAt, InGap, just_above, below_all}
use Rattle.plane_cells.proofs.Walks.{Position, Bound, None, Wall, IsFrom, IsTo, IsAcross, IsStatus}
use Rattle.plane_cells.proofs.AtVertices.{slab_spans}
use Rattle.plane_cells.proofs.SlabWays.{IsPast, IsShort, past_from, short_to, seen_in_slab, slab_way}

-- ---- a column within the slab
abbrev pub inner : Bound → Bound → Place
inner None None = record { x = pos 0; y = pos 0; w = 1 }
inner None (Wall e) = record { x = pos e -ℤ pos 1; y = pos 0; w = 1 }
inner (Wall c) None = record { x = pos (c + 1); y = pos 0; w = 1 }
inner (Wall c) (Wall e) = record { x = pos (c + e); y = pos 0; w = 2 }

-- the walls are in order
abbrev pub AreApart : Bound → Bound → Type 0
AreApart None hi = Unit {0}
AreApart (Wall c) None = Unit {0}
AreApart (Wall c) (Wall e) = c < e

pub inner_real : (lo hi : Bound) → 0 < (inner lo hi).w
inner_real None None = omega arith
inner_real None (Wall e) = omega arith
inner_real (Wall c) None = omega arith
inner_real (Wall c) (Wall e) = omega arith

pub inner_past : (lo hi : Bound) → AreApart lo hi → IsPast lo (inner lo hi)
inner_past None hi h = tt
inner_past (Wall c) None h = omega (arith, ints)
inner_past (Wall c) (Wall e) h = omega (arith, ints, h)

pub inner_short : (lo hi : Bound) → AreApart lo hi → IsShort hi (inner lo hi)
inner_short None None h = tt
inner_short None (Wall e) h = omega (arith, ints)
inner_short (Wall c) None h = tt
inner_short (Wall c) (Wall e) h = omega (arith, ints, h)

pub column_past : (lo : Bound) (c f : Place) → InColumn c f → IsPast lo c → IsPast lo f
column_past None c f h k = tt
column_past (Wall e) c f h k = column_after e c f h k

pub column_short : (hi : Bound) (c f : Place) → InColumn c f → IsShort hi c → IsShort hi f
column_short None c f h k = tt
column_short (Wall e) c f h k = column_before e c f h k

strictly_from : (a c w : ℕ) (x : ℤ) → a ≤ c → pos (c * w) <ℤ x → pos (a * w) <ℤ x
strictly_from a c w x h k = let t = times_le a c 0 w h (omega arith) in omega (arith, ints, k)

strictly_to : (b e w : ℕ) (x : ℤ) → e ≤ b → x <ℤ pos (e * w) → x <ℤ pos (b * w)
strictly_to b e w x h k = let t = times_le e b 0 w h (omega arith) in omega (arith, ints, k)

not_equal : (x y : ℤ) → x <ℤ y → x ≡ y → ⊥
not_equal x y h e = omega (arith, ints)

-- within a slab no two segments meet
no_end_within : (n : ℕ) (seg : ℕ → GridSegment) (lo hi : Bound) (i : ℕ) (m : Place) (p : GridPoint) → IsAcross n seg lo hi i → IsPast lo m
    → IsShort hi m → IsEnd p (seg i) → IsAtPoint m p → ⊥
no_end_within n seg None hi i m p a past short e at = absurd a.from
no_end_within n seg (Wall c) None i m p a past short e at = absurd a.to
no_end_within n seg (Wall c) (Wall d) i m p a past short (inl e) at =
    not_equal _ _ (strictly_from (seg i).a.x c m.w m.x a.from past) (sym (at.0 ∙ ap (λ (v : GridPoint). pos (v.x * m.w)) e))
no_end_within n seg (Wall c) (Wall d) i m p a past short (inr e) at =
    not_equal _ _ (strictly_to (seg i).b.x d m.w m.x a.to short) (at.0 ∙ ap (λ (v : GridPoint). pos (v.x * m.w)) e)

-- none of the segments goes beyond D
abbrev pub AreWithin : ℕ → (ℕ → GridSegment) → ℕ → Type 0
AreWithin n seg D = (i : ℕ) → i < n → (seg i).b.x < D

there_within : (B : List GridSegment) (n : ℕ) (seg : ℕ → GridSegment) (D : ℕ) (lo hi : Bound) (c : Place) (i : ℕ) → Position B n seg
    → AreWithin n seg D → IsFrom lo c → IsTo hi c → IsAcross n seg lo hi i → IsThere seg D c i
there_within B n seg D lo hi c i P w from to a =
    record { slanted = P.slanted i a.number; spans = slab_spans n seg lo hi i c a from to; within = w i a.number }

apart_within : (B : List GridSegment) (n : ℕ) (seg : ℕ → GridSegment) (lo hi : Bound) (c : Place) (i j : ℕ) → Position B n seg → 0 < c.w
    → IsPast lo c → IsShort hi c → IsAcross n seg lo hi i → IsAcross n seg lo hi j → (i ≡ j → ⊥) → IsApartAt seg c i j
apart_within B n seg lo hi c i j P hc past short a b d m col h k =
    let e = P.apart i j m a.number b.number d h k in
    no_end_within n seg lo hi i m e.0 a (column_past lo c m col past) (column_short hi c m col short) e.1 e.3

-- a label that a place of the slab can have
pub data IsLabelOf (A : List ℕ) (y : ℕ) : Type 0 where
  Least : y ≡ 0 → IsLabelOf A y
  Over : (i : ℕ) → In i A → y ≡ suc i → IsLabelOf A y

pub label_of : (seg : ℕ → GridSegment) (q : Place) (A : List ℕ) → IsLabelOf A (label_at seg q 0 A)
label_of seg q A = label_kept seg q (IsLabelOf A) 0 A (Least refl)
    (each_map (λ i. In i A) (λ i. IsLabelOf A (suc i)) A (λ i m. Over i m refl) (each_in A))

-- within the slab each label has a place
pub record IsGapPlace (seg : ℕ → GridSegment) (lo hi : Bound) (status : List ℕ) (y : ℕ) : Type 0 where
  pub place : Place
  pub real : 0 < place.w
  pub past : IsPast lo place
  pub short : IsShort hi place
  pub gap : InGap seg (inner lo hi) place y status

gap_place : (B : List GridSegment) (n : ℕ) (seg : ℕ → GridSegment) (D : ℕ) (lo hi : Bound) (status : List ℕ) (y : ℕ) → Position B n seg
    → AreWithin n seg D → 0 < D → AreApart lo hi → IsStatus n seg lo hi status → IsLabelOf status y → IsGapPlace seg lo hi status y
gap_place B n seg D lo hi status y P w hD o s (Least e) =
    let c = inner lo hi in
    let r = below_all seg D c in
    let there = each_map (IsAcross n seg lo hi) (IsThere seg D c) status
    (λ i a. there_within B n seg D lo hi c i P w (past_from lo c (inner_past lo hi o)) (short_to hi c (inner_short lo hi o)) a) s.across
    in
    record {
      place = r.0;
      real = column_real c r.0 r.1 (inner_real lo hi);
      past = column_past lo c r.0 r.1 (inner_past lo hi o);
      short = column_short hi c r.0 r.1 (inner_short lo hi o);
      gap = subst (λ (z : ℕ). InGap seg c r.0 z status) (sym e) (r.2 status there);
    }
gap_place B n seg D lo hi status y P w hD o s (Over i m e) =
    let c = inner lo hi in
    let a = each_at (IsAcross n seg lo hi) status i s.across m in
    let from = past_from lo c (inner_past lo hi o) in
    let to = short_to hi c (inner_short lo hi o) in
    let r = just_above seg D c i hD (inner_real lo hi) (there_within B n seg D lo hi c i P w from to a) in
    let there = each_map (IsAcross n seg lo hi) (IsThere seg D c) status (λ j b. there_within B n seg D lo hi c j P w from to b) s.across in
    let apart = each_map (IsAcross n seg lo hi) (λ j. IsFurtherDown seg i j → IsApartAt seg c i j) status
    (λ j b f. apart_within B n seg lo hi c i j P (inner_real lo hi) (inner_past lo hi o) (inner_short lo hi o) a b f.0) s.across in
    record {
      place = r.0;
      real = column_real c r.0 r.1 (inner_real lo hi);
      past = column_past lo c r.0 r.1 (inner_past lo hi o);
      short = column_short hi c r.0 r.1 (inner_short lo hi o);
      gap = subst (λ (z : ℕ). InGap seg c r.0 z status) (sym e) (r.2 status s.sorted there apart m);
    }

-- ---- one class
to_gap : (B : List GridSegment) (n : ℕ) (seg : ℕ → GridSegment) (lo hi : Bound) (status : List ℕ) (p : Place) (y : ℕ) → Position B n seg
    → IsStatus n seg lo hi status → (g : IsGapPlace seg lo hi status y)
    → IsFree B p → IsFrom lo p → IsTo hi p → label_at seg p 0 status ≡ y → AreInOneClass B p g.place
to_gap B n seg lo hi status p y P s g f from to e =
    one_class_by_way B p g.place (slab_way B n seg lo hi status p g.place P s f from to g.real g.past g.short
    (alike_by_label seg p g.place 0 status f.real g.real (seen_in_slab B n seg lo hi status p P s.across f from to) seen_g s.sorted
    (each_map (λ i. In i status) (λ i. 0 ≡ suc i → ⊥) status (λ i m q. no_zero_suc i q) (each_in status)) (e ∙ sym g.gap.label)))
  where
    no_zero_suc : (i : ℕ) → 0 ≡ suc i → ⊥
    no_zero_suc i q = omega (arith, q)

    seen_g : Each (IsSeen seg g.place) status
    seen_g = each_both (IsAcross n seg lo hi) (IsOff seg g.place) (IsSeen seg g.place) status
        (λ i a o. record {
          spans = slab_spans n seg lo hi i g.place a (past_from lo g.place g.past) (short_to hi g.place g.short);
          off =
              o;
        }) s.across g.gap.off

pub one_in_slab : (B : List GridSegment) (n : ℕ) (seg : ℕ → GridSegment) (D : ℕ) (lo hi : Bound) (status : List ℕ) (p q : Place)
    → Position B n seg → AreWithin n seg D → 0 < D → AreApart lo hi → IsStatus n seg lo hi status
    → IsFree B p → IsFrom lo p → IsTo hi p → IsFree B q → IsFrom lo q → IsTo hi q → label_at seg p 0 status ≡ label_at seg q 0 status
    → AreInOneClass B p q
one_in_slab B n seg D lo hi status p q P w hD o s fp fromp top fq fromq toq e =
    let g = gap_place B n seg D lo hi status (label_at seg q 0 status) P w hD o s (label_of seg q status) in
    one_class_joined B p g.place q (to_gap B n seg lo hi status p (label_at seg q 0 status) P s g fp fromp top e)
    (one_class_back B q g.place (to_gap B n seg lo hi status q (label_at seg q 0 status) P s g fq fromq toq refl))
