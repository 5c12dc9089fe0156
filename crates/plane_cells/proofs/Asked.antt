-- This file shows which label the places of a segment have that isn't of the border.
use Rattle.std.proofs.Common.{◌≡◌, ℕ, zero, suc, ◌+◌, ◌*◌, ◌<◌, ◌≤◌, List, [], ◌∷◌, ◌++◌, take, drop, ℤ, pos, negsuc, ◌<ℤ◌, ◌≤ℤ◌, refl, sym, ◌⊎◌}
use Rattle.std.proofs.Common.{ap, subst, ◌∙◌, arith, inl, inr}
use Rattle.std.proofs.lemmas.Int.{ints}
use Rattle.std.proofs.lemmas.List.{take-append-drop}
use Rattle.grid_base.specs.Point.{GridPoint}
use Rattle.grid_base.specs.Segment.{GridSegment}
use Rattle.grid_base.specs.Sides.{Side, Left, On, Right, side_of}
use Rattle.grid_base.proofs.Signs.{sign, on_by_zero, left_by_sign, right_by_sign, above_not_zero, below_not_zero}
use Rattle.grid_base.proofs.Turns.{times, times_le}
use Rattle.grid_base.specs.Plane.{Place, side_number_at, side_at, Spans, Holds, HoldsInside, IsFree, IsBeside, blend}
use Rattle.plane_classes.specs.Classes.{AreInOneClass}
use Rattle.plane_classes.proofs.Ways.{zero_by}
use Rattle.plane_classes.proofs.Multiples.{held_scaled}
use Rattle.plane_classes.proofs.AlongSegment.{inside_blend}
use Rattle.plane_classes.proofs.ClassLemmas.{one_class_joined}
use Rattle.plane_classes.proofs.Cuts.{one_class_by_way}
use Rattle.plane_cells.specs.Order.{at_point, IsFurtherDown}
use Rattle.plane_cells.specs.Steps.{Step, after, Each, label_over}
use Rattle.plane_cells.specs.Walks.{Bound, Wall, IfWall, WalkTo}
use Rattle.plane_cells.proofs.Walks.{Position}
pub use Rattle.plane_cells.specs.Labels.{IsOther}
use Rattle.plane_cells.proofs.Vertical.{foot, column_real, column_after, column_spans, held_at}
use Rattle.plane_cells.proofs.AlongSegments.{one_side_along, left_of_lower, zero_begin}
use Rattle.plane_cells.proofs.Lower.{IsLower, lower_by_angle}
use Rattle.plane_cells.proofs.Lists.{each_left, each_right, each_both}
use Rattle.plane_cells.proofs.Labels.{label_at, IsOver, IsUnder, label_joined, label_of_over, label_of_under}
use Rattle.plane_cells.proofs.InGaps.{on_at_most, at_most_on}
use Rattle.plane_cells.proofs.Walks.{HasLabel}
use Rattle.plane_cells.proofs.Angles.{angle_turned}
use Rattle.plane_cells.proofs.SomeBeside.{half_column, half_spans, half_inside}

-- segment i is below t just behind the lesser end of t
abbrev pub IsBelowBegin : (ℕ → GridSegment) → GridSegment → ℕ → Type 0
IsBelowBegin seg t i =
    (pos 0 <ℤ side_number_at (seg i) (at_point t.a)) ⊎
    (((seg i).a ≡ t.a) × (pos 0 <ℤ side_number_at (seg i) (at_point t.b)))

-- a place inside t, half a column behind its lesser end
abbrev pub inner_place : (t : GridSegment) → t.a.x < t.b.x → Place
inner_place t o = (foot t (half_column t) o).place

-- ---- what the place sees
-- segment i has the column of the lesser end of t, and goes on behind it
pub record GoesOn (seg : ℕ → GridSegment) (t : GridSegment) (i : ℕ) : Type 0 where
  pub slanted : (seg i).a.x < (seg i).b.x
  pub begun : (seg i).a.x ≤ t.a.x
  pub goes : t.a.x < (seg i).b.x

begin_spans : (s : GridSegment) (v : GridPoint) → s.a.x ≤ v.x → v.x < s.b.x → Spans s (at_point v)
begin_spans s v h k = record { from = omega (arith, ints, h); to = omega (arith, ints, k) }

half_in : (s t : GridSegment) → s.a.x ≤ t.a.x → t.a.x < s.b.x → Spans s (half_column t)
half_in s t h k = record { from = omega (arith, ints, h); to = omega (arith, ints, k) }

half_past : (t : GridSegment) → pos (t.a.x * (half_column t).w) <ℤ (half_column t).x
half_past t = omega (arith, ints)

place_spans : (seg : ℕ → GridSegment) (t : GridSegment) (i : ℕ) → (o : t.a.x < t.b.x) → GoesOn seg t i → Spans (seg i) (inner_place t o)
place_spans seg t i o g = let f = foot t (half_column t) o in column_spans (seg i) (half_column t) f.place f.column
    (half_in (seg i) t g.begun g.goes)

real_place : (t : GridSegment) → (o : t.a.x < t.b.x) → 0 < (inner_place t o).w
real_place t o = let f = foot t (half_column t) o in column_real (half_column t) f.place f.column (omega arith)

place_off : (n : ℕ) (seg : ℕ → GridSegment) (t : GridSegment) (i : ℕ) → (h : IsOther n seg t) → i < n → GoesOn seg t i
    → side_number_at (seg i) (inner_place t h.slanted) ≡ pos 0 → ⊥
place_off n seg t i h l g z = h.off i l (inner_place t h.slanted) (half_inside t h.slanted)
    (held_at (seg i) (inner_place t h.slanted) (real_place t h.slanted) g.slanted (place_spans seg t i h.slanted g) z)

along : (n : ℕ) (seg : ℕ → GridSegment) (t : GridSegment) (i : ℕ) → (h : IsOther n seg t) → i < n → GoesOn seg t i
    → (side_number_at (seg i) (at_point t.a) ≡ pos 0 → ⊥) → side_at (seg i) (at_point t.a) ≡ side_at (seg i) (inner_place t h.slanted)
along n seg t i h l g d =
    let f = foot t (half_column t) h.slanted in
    one_side_along (seg i) t f.place (real_place t h.slanted) g.slanted h.slanted (h.off i l) (begin_spans (seg i) t.a g.begun g.goes)
    (place_spans seg t i h.slanted g)
    (column_spans t (half_column t) f.place f.column (half_spans t h.slanted)) f.zero
    (column_after t.a.x (half_column t) f.place f.column (half_past t)) d (place_off n seg t i h l g)

-- below, or above
pub data Seen (seg : ℕ → GridSegment) (t : GridSegment) (r : Place) (i : ℕ) : Type 0 where
  Below : IsBelowBegin seg t i → IsOver seg r i → Seen seg t r i
  Above : (IsBelowBegin seg t i → ⊥) → IsUnder seg r i → Seen seg t r i

up_not_down : (z : ℤ) → pos 0 <ℤ z → z <ℤ pos 0 → ⊥
up_not_down z h k = omega (arith, ints, h, k)

positive : (x : ℤ) → pos 0 ≤ℤ x → (x ≡ pos 0 → ⊥) → side_of x ≡ Left
positive (pos zero) h off = absurd (off refl)
positive (pos (suc n)) h off = refl
positive (negsuc n) h off = absurd (omega (arith, ints, h))

off_side : (x : ℤ) → (x ≡ pos 0 → ⊥) → side_of x ≡ On → ⊥
off_side x h e = h (zero_by x e)

place_on : (t : GridSegment) → (o : t.a.x < t.b.x) → side_at t (inner_place t o) ≡ On
place_on t o = on_by_zero _ (foot t (half_column t) o).zero

t_spans : (t : GridSegment) → (o : t.a.x < t.b.x) → Spans t (inner_place t o)
t_spans t o = let f = foot t (half_column t) o in column_spans t (half_column t) f.place f.column (half_spans t o)

-- both begin at one point
fan_seen : (n : ℕ) (seg : ℕ → GridSegment) (t : GridSegment) (i : ℕ) → (h : IsOther n seg t) → i < n → GoesOn seg t i → (seg i).a ≡ t.a
    → side_number_at (seg i) (at_point t.a) ≡ pos 0 → Seen seg t (inner_place t h.slanted) i
fan_seen n seg t i h l g e z = elim (sign (side_number_at (seg i) (at_point t.b))) [
  | inl k ↦
      let low : IsLower t (seg i) = lower_by_angle t (seg i) t.a refl e h.slanted g.slanted (angle_turned (seg i) t t.a e refl k) in
      Above (λ b. elim b [ inl u ↦ above_not_zero _ u z | inr u ↦ up_not_down _ u.1 k ])
      (right_by_sign _ (at_most_on (side_number_at (seg i) (inner_place t h.slanted)) (side_at t (inner_place t h.slanted))
      (low (inner_place t h.slanted) (real_place t h.slanted) (t_spans t h.slanted) (place_spans seg t i h.slanted g))
      (place_on t h.slanted)
      (off_side _ (place_off n seg t i h l g))))
  | inr o ↦ elim o [
    | inl k ↦ absurd (h.fan i l e k)
    | inr k ↦
        let low : IsLower (seg i) t = lower_by_angle (seg i) t t.a e refl g.slanted h.slanted k in
        Below (inr (e, k)) (positive (side_number_at (seg i) (inner_place t h.slanted))
        (on_at_most (side_number_at (seg i) (inner_place t h.slanted)) (side_at t (inner_place t h.slanted))
        (low (inner_place t h.slanted) (real_place t h.slanted) (place_spans seg t i h.slanted g) (t_spans t h.slanted))
        (place_on t h.slanted))
        (place_off n seg t i h l g))
  ]
]

begins_there : (n : ℕ) (seg : ℕ → GridSegment) (t : GridSegment) (i : ℕ) → IsOther n seg t → i < n → GoesOn seg t i
    → side_number_at (seg i) (at_point t.a) ≡ pos 0 → (seg i).a ≡ t.a
begins_there n seg t i h l g z =
    elim (h.begin i l (held_at (seg i) (at_point t.a) (omega arith) g.slanted (begin_spans (seg i) t.a g.begun g.goes) z)) [
      | inl e ↦ sym e
      | inr e ↦ absurd (late (ap (λ (p : GridPoint). p.x) e) g.goes)
    ]
  where
    late : t.a.x ≡ (seg i).b.x → t.a.x < (seg i).b.x → ⊥
    late e k = omega (arith, e, k)

pub seen_by : (n : ℕ) (seg : ℕ → GridSegment) (t : GridSegment) (i : ℕ) → (h : IsOther n seg t) → i < n → GoesOn seg t i
    → Seen seg t (inner_place t h.slanted) i
seen_by n seg t i h l g = elim (sign (side_number_at (seg i) (at_point t.a))) [
  | inl k ↦ Above (λ b. elim b [ inl u ↦ up_not_down _ u k | inr u ↦ below_not_zero _ k (flat u.0) ])
      (sym (along n seg t i h l g (below_not_zero _ k)) ∙ right_by_sign _ k)
  | inr o ↦ elim o [
    | inl z ↦ fan_seen n seg t i h l g (begins_there n seg t i h l g z) z
    | inr k ↦ Below (inl k) (sym (along n seg t i h l g (above_not_zero _ k)) ∙ left_by_sign _ k)
  ]
]
  where
    flat : (seg i).a ≡ t.a → side_number_at (seg i) (at_point t.a) ≡ pos 0
    flat e = subst (λ (p : GridPoint). side_number_at (seg i) (at_point p) ≡ pos 0) e (zero_begin (seg i))

-- ---- the label of the place
seen_over : (seg : ℕ → GridSegment) (t : GridSegment) (r : Place) (i : ℕ) → Seen seg t r i → IsBelowBegin seg t i → IsOver seg r i
seen_over seg t r i (Below b o) h = o
seen_over seg t r i (Above d u) h = absurd (d h)

seen_under : (seg : ℕ → GridSegment) (t : GridSegment) (r : Place) (i : ℕ) → Seen seg t r i → (IsBelowBegin seg t i → ⊥) → IsUnder seg r i
seen_under seg t r i (Below b o) h = absurd (h b)
seen_under seg t r i (Above d u) h = u

over_seen : (seg : ℕ → GridSegment) (t : GridSegment) (r : Place) (i : ℕ) → Seen seg t r i → IsOver seg r i → IsBelowBegin seg t i
over_seen seg t r i (Below b o) h = b
over_seen seg t r i (Above d u) h = absurd (two (sym h ∙ u))
  where
    two : Left ≡ Right → ⊥
    two e = cc

-- the place has the label over those that are below t
pub asked_label : (seg : ℕ → GridSegment) (t : GridSegment) (r : Place) (status : List ℕ) (k : ℕ) → Each (Seen seg t r) status
    → Each (IsBelowBegin seg t) (take k status) → Each (λ i. IsBelowBegin seg t i → ⊥) (drop k status)
    → label_at seg r 0 status ≡ label_over 0 (take k status)
asked_label seg t r status k s b d =
    let parts = take-append-drop k status in
    let s' = subst (Each (Seen seg t r)) (sym parts) s in
    let over = each_both (Seen seg t r) (IsBelowBegin seg t) (IsOver seg r) (take k status) (λ i a c. seen_over seg t r i a c)
    (each_left (Seen seg t r) (take k status) (drop k status) s') b in
    let under = each_both (Seen seg t r) (λ i. IsBelowBegin seg t i → ⊥) (IsUnder seg r) (drop k status) (λ i a c. seen_under seg t r i a c)
    (each_right (Seen seg t r) (take k status) (drop k status) s') d in
    ap (λ (l : List ℕ). label_at seg r 0 l) (sym parts) ∙ label_joined seg r 0 (take k status) (drop k status)
    ∙ label_of_under seg r (label_at seg r 0 (take k status)) (drop k status) under ∙ label_of_over seg r 0 (take k status) over

-- where one is below t, those before it in the status are
pub asked_sorted : (n : ℕ) (seg : ℕ → GridSegment) (t : GridSegment) (i j : ℕ) → (h : IsOther n seg t) → i < n → j < n → GoesOn seg t i
    → GoesOn seg t j → IsFurtherDown seg i j → IsBelowBegin seg t j → IsBelowBegin seg t i
asked_sorted n seg t i j h hi hj gi gj f b =
    let r = inner_place t h.slanted in
    over_seen seg t r i (seen_by n seg t i h hi gi)
    (left_of_lower (side_at (seg j) r) (side_at (seg i) r)
    (f.1 r (real_place t h.slanted) (place_spans seg t i h.slanted gi) (place_spans seg t j h.slanted gj))
    (seen_over seg t r j (seen_by n seg t j h hj gj) b))

-- ---- a label that is known stays known when the sweep goes on
pub label_stays : (n : ℕ) (seg : ℕ → GridSegment) (lo : Bound) (status : List ℕ) (steps : List Step) (lo' : Bound) (status' : List ℕ) (k :
    Step) (r : Place) (y : ℕ) → WalkTo n seg lo status steps lo' status' → r.x ≤ℤ pos (k.vertex.x * r.w) → HasLabel seg status steps r y
    → HasLabel seg status (steps ++ k ∷ []) r y
label_stays n seg lo status [] lo' status' k r y w h l = inl (h, l)
label_stays n seg lo status (j ∷ steps) lo' status' k r y w h (inl l) = inl l
label_stays n seg lo status (j ∷ steps) lo' status' k r y w h (inr l) = inr
    (l.0, label_stays n seg (Wall j.vertex.x) (after j) steps lo' status' k r y w.4 h l.1)

-- a place behind the last wall has the label that the status gives it
pub label_now : (n : ℕ) (seg : ℕ → GridSegment) (lo : Bound) (status : List ℕ) (steps : List Step) (lo' : Bound) (status' : List ℕ) (r :
    Place) (y : ℕ) → WalkTo n seg lo status steps lo' status' → IfWall (λ c. pos (c * r.w) ≤ℤ r.x) lo' → label_at seg r 0 status' ≡ y
    → HasLabel seg status steps r y
label_now n seg lo status [] lo' status' r y w h e = ap (λ (l : List ℕ). label_at seg r 0 l) w.1 ∙ e
label_now n seg lo status (k ∷ steps) lo' status' r y w h e = inr
    (behind n seg k.vertex.x (after k) steps lo' status' r w.4 h, label_now n seg (Wall k.vertex.x) (after k) steps lo' status' r y w.4 h e)
  where
    behind : (n : ℕ) (seg : ℕ → GridSegment) (v : ℕ) (status : List ℕ) (steps : List Step) (lo' : Bound) (status' : List ℕ) (r : Place)
        → WalkTo n seg (Wall v) status steps lo' status' → IfWall (λ c. pos (c * r.w) ≤ℤ r.x) lo' → pos (v * r.w) ≤ℤ r.x
    behind n seg v status [] lo' status' r w h = subst (IfWall (λ c. pos (c * r.w) ≤ℤ r.x)) (sym w.0) h
    behind n seg v status (k ∷ steps) lo' status' r w h =
        let b = behind n seg k.vertex.x (after k) steps lo' status' r w.4 h in
        let l : v < k.vertex.x = w.2 in
        let t = times_le v k.vertex.x 0 r.w (omega (arith, l)) (omega arith) in omega (arith, ints, b, t)

-- ---- the class of the place is that of all places beside t
pub free_inside : (B : List GridSegment) (n : ℕ) (seg : ℕ → GridSegment) (t : GridSegment) (m : Place) → Position B n seg → IsOther n seg t
    → HoldsInside t m → IsFree B m
free_inside B n seg t m P h i = record {
  real = i.held.real;
  apart = λ u c held. let k = P.all u c in h.off k.0 k.1 m i (subst (λ (s : GridSegment). Holds s m) (sym k.2) held);
}

inside_class : (B : List GridSegment) (n : ℕ) (seg : ℕ → GridSegment) (t : GridSegment) (m r : Place) → Position B n seg → IsOther n seg t
    → HoldsInside t m → HoldsInside t r → AreInOneClass B m r
inside_class B n seg t m r P h hm hr = one_class_by_way B m r
    (λ i j k. free_inside B n seg t (blend i j m r) P h (inside_blend t i j m r (inl h.slanted) k hm hr))

pub beside_class : (B : List GridSegment) (n : ℕ) (seg : ℕ → GridSegment) (t : GridSegment) (d : Side) (q r : Place) → Position B n seg
    → IsOther n seg t → IsBeside B t d q → HoldsInside t r → AreInOneClass B q r
beside_class B n seg t d q r P h b hr =
    one_class_joined B q b.goal r (one_class_by_way B q b.goal (λ i j k. way i j k)) (inside_class B n seg t b.goal r P h b.inside hr)
  where
    free_goal : IsFree B b.goal
    free_goal = free_inside B n seg t b.goal P h b.inside

    some_goal : (j : ℕ) → 0 < j → 0 < 0 * q.w + j * b.goal.w
    some_goal j h = let t = times 0 j 0 b.goal.w h free_goal.real in omega arith

    way : (i j : ℕ) → 0 < i + j → IsFree B (blend i j q b.goal)
    way zero j k = record {
      real = some_goal j (omega (arith, k));
      apart = λ u c held. free_goal.apart u c (held_scaled u j q b.goal (omega (arith, k)) held);
    }
    way (suc i) j k = b.clear (suc i) j (omega arith)
