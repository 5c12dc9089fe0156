-- This file shows that each gap between the segments of a column has a place.
use Rattle.std.proofs.Common.{◌≡◌, ℕ, zero, suc, ◌+◌, ◌*◌, ◌<◌, List, [], ◌∷◌, ℤ, pos, negsuc, ◌<ℤ◌, ◌≤ℤ◌, refl, sym, ap, subst, ◌∙◌, arith}
use Rattle.std.proofs.Common.{inl, inr}
use Rattle.std.proofs.lemmas.Int.{ints}
use borrow.Author.Differences.{up, down}
use Rattle.grid_base.specs.Segment.{GridSegment}
use Rattle.grid_base.specs.Sides.{Side, Left, On, Right, side_of}
use Rattle.grid_base.proofs.Turns.{times_le}
use Rattle.grid_base.specs.Plane.{Place, side_at, side_number_at, Spans, Holds, blend}
use Rattle.grid_base.proofs.Signs.{on_by_zero, right_by_sign, left_off, right_off}
use Rattle.plane_classes.proofs.Heights.{height_is}
use Rattle.plane_classes.proofs.Ways.{zero_by}
use Rattle.plane_cells.specs.Steps.{In, Each, Pairs}
use Rattle.plane_cells.proofs.Vertical.{zenith, raised_left, raised_right, foot, InColumn, column_spans, column_real}
use Rattle.plane_cells.proofs.Vertical.{column_joined, raised_column, held_at}
use Rattle.plane_cells.proofs.Lower.{AtMost}
use Rattle.plane_cells.proofs.Lists.{each_map, each_at}
use Rattle.plane_cells.proofs.Labels.{label_at, IsOver, IsUnder, IsOff, IsFurtherDown, label_of_under}

-- ---- below all
pub under_all : (s : GridSegment) (x : ℤ) (w : ℕ) → s.a.x < s.b.x → Spans s (record { x = x; y = negsuc 0; w = w })
    → side_at s (record { x = x; y = negsuc 0; w = w }) ≡ Right
under_all s x w o h =
    let q : Place = record { x = x; y = negsuc 0; w = w } in
    let t1 = times_le 0 s.a.y (up x) (down x + s.b.x * w) (omega arith) (omega (arith, ints, h.to)) in
    let t2 = times_le 0 s.b.y (down x + s.a.x * w) (up x) (omega arith) (omega (arith, ints, h.from)) in
    right_by_sign _ (omega (arith, ints, height_is s q))

-- ---- just above a place of a segment
pub on_at_most : (x : ℤ) (d : Side) → AtMost d (side_of x) → d ≡ On → pos 0 ≤ℤ x
on_at_most (pos n) d h e = omega (arith, ints)
on_at_most (negsuc n) Left h e = cc
on_at_most (negsuc n) On h e = absurd h
on_at_most (negsuc n) Right h e = cc

pub at_most_on : (x : ℤ) (d : Side) → AtMost (side_of x) d → d ≡ On → (side_of x ≡ On → ⊥) → x <ℤ pos 0
at_most_on (pos zero) d h e off = absurd (off refl)
at_most_on (pos (suc n)) Left h e off = cc
at_most_on (pos (suc n)) On h e off = absurd h
at_most_on (pos (suc n)) Right h e off = cc
at_most_on (negsuc n) d h e off = omega (arith, ints)

pub zero_at_least : (x : ℤ) → x ≡ pos 0 → pos 0 ≤ℤ x
zero_at_least x e = omega (arith, ints, e)

-- a list that is split just above i: all before it are below, and all behind it above
pub over_off : (seg : ℕ → GridSegment) (r : Place) (k : ℕ) → IsOver seg r k → IsOff seg r k
over_off seg r k h e = left_off (sym h ∙ e)

pub under_off : (seg : ℕ → GridSegment) (r : Place) (k : ℕ) → IsUnder seg r k → IsOff seg r k
under_off seg r k h e = right_off (sym h ∙ e)

pub each_apply : (P Q : ℕ → Type 0) (A : List ℕ) → Each P A → Each (λ j. P j → Q j) A → Each Q A
each_apply P Q [] h f = tt
each_apply P Q (i ∷ A) h f = (f.0 h.0, each_apply P Q A h.1 f.1)

pub split_at : (seg : ℕ → GridSegment) (r : Place) (i : ℕ) → IsOver seg r i → (A : List ℕ) (d : ℕ) → Pairs (IsFurtherDown seg) A
    → Each (λ k. IsFurtherDown seg k i → IsOver seg r k) A → Each (λ j. IsFurtherDown seg i j → IsUnder seg r j) A → In i A
    → (label_at seg r d A ≡ suc i) × Each (IsOff seg r) A
split_at seg r i own [] d s f g m = absurd m
split_at seg r i own (k ∷ A) d s f g (inl e) =
    let rest : Each (IsUnder seg r) A = each_apply (IsFurtherDown seg i) (IsUnder seg r) A
    (subst (λ (j : ℕ). Each (IsFurtherDown seg j) A) (sym e) s.0) g.1 in
    let own' : IsOver seg r k = subst (IsOver seg r) e own in (
      rw own' (label_of_under seg r (suc k) A rest ∙ ap (λ (n : ℕ). suc n) (sym e)),
      (over_off seg r k own', each_map (IsUnder seg r) (IsOff seg r) A (under_off seg r) rest),
    )
split_at seg r i own (k ∷ A) d s f g (inr m) =
    let over : IsOver seg r k = f.0 (each_at (IsFurtherDown seg k) A i s.0 m) in
    let rest = split_at seg r i own A (suc k) s.1 f.1 g.1 m in
    (rw over rest.0, (over_off seg r k over, rest.1))

-- what is asked of the segments of a column: none is vertical, each has the column, none goes beyond D
pub record IsThere (seg : ℕ → GridSegment) (D : ℕ) (c : Place) (i : ℕ) : Type 0 where
  pub slanted : (seg i).a.x < (seg i).b.x
  pub spans : Spans (seg i) c
  pub within : (seg i).b.x < D

-- i and j have no common place in the column
abbrev pub IsApartAt : (ℕ → GridSegment) → Place → ℕ → ℕ → Type 0
IsApartAt seg c i j = (m : Place) → InColumn c m → Holds (seg i) m → Holds (seg j) m → ⊥

pub record InGap (seg : ℕ → GridSegment) (c r : Place) (y : ℕ) (A : List ℕ) : Type 0 where
  pub label : label_at seg r 0 A ≡ y
  pub off : Each (IsOff seg r) A

-- a place just above segment i
pub just_above : (seg : ℕ → GridSegment) (D : ℕ) (c : Place) (i : ℕ) → 0 < D → 0 < c.w → IsThere seg D c i
    → (r : Place) × InColumn c r
    × ((A : List ℕ) → Pairs (IsFurtherDown seg) A → Each (IsThere seg D c) A → Each (λ j. IsFurtherDown seg i j → IsApartAt seg c i j) A
    → In i A → InGap seg c r (suc i) A)
just_above seg D c i hD hc t =
    let m = foot (seg i) c t.slanted in
    let real = column_real c m.place m.column hc in
    let r : Place = blend D 1 m.place zenith in
    let spans_i = column_spans (seg i) c m.place m.column t.spans in
    let on_i = on_by_zero (side_number_at (seg i) m.place) m.zero in (
      r,
      column_joined c m.place r m.column (raised_column D 1 m.place hD),
      (λ A s there apart n.
          let h = split_at seg r i (raised_left (seg i) D 1 m.place t.slanted (omega arith) (zero_at_least _ m.zero)) A 0 s
          (each_map (IsThere seg D c) (λ k. IsFurtherDown seg k i → IsOver seg r k) A
          (λ k u f. raised_left (seg k) D 1 m.place u.slanted (omega arith)
          (on_at_most (side_number_at (seg k) m.place) (side_at (seg i) m.place)
          (f.1 m.place real (column_spans (seg k) c m.place m.column u.spans) spans_i) on_i)) there)
          (each_two (IsThere seg D c) (λ j. IsFurtherDown seg i j → IsApartAt seg c i j) (λ j. IsFurtherDown seg i j → IsUnder seg r j) A
          (λ j u a f. raised_right (seg j) D m.place u.slanted u.within
          (at_most_on (side_number_at (seg j) m.place) (side_at (seg i) m.place)
          (f.1 m.place real spans_i (column_spans (seg j) c m.place m.column u.spans)) on_i
          (λ e. a f m.place m.column (held_at (seg i) m.place real t.slanted spans_i m.zero)
          (held_at (seg j) m.place real u.slanted (column_spans (seg j) c m.place m.column u.spans) (zero_by _ e))))) there apart) n in
          record { label = h.0; off = h.1 }),
    )
  where
    each_two : (P Q R : ℕ → Type 0) (A : List ℕ) → ((i : ℕ) → P i → Q i → R i) → Each P A → Each Q A → Each R A
    each_two P Q R [] f h k = tt
    each_two P Q R (i ∷ A) f h k = (f i h.0 k.0, each_two P Q R A f h.1 k.1)

-- a place below all segments
pub below_all : (seg : ℕ → GridSegment) (D : ℕ) (c : Place)
    → (r : Place) × InColumn c r × ((A : List ℕ) → Each (IsThere seg D c) A → InGap seg c r 0 A)
below_all seg D c =
    let r : Place = record { x = c.x; y = negsuc 0; w = c.w } in (
      r,
      record { scale = 1; some = omega arith; x = omega (arith, ints); w = omega arith },
      (λ A there.
          let u = each_map (IsThere seg D c) (IsUnder seg r) A
          (λ i t. under_all (seg i) c.x c.w t.slanted (record { from = t.spans.from; to = t.spans.to })) there in
          record { label = label_of_under seg r 0 A u; off = each_map (IsUnder seg r) (IsOff seg r) A (under_off seg r) u }),
    )
