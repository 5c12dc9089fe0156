-- This file shows how a segment that is asked for lies to the status, and which label it finds there.
use Rattle.std.proofs.Common.{◌≡◌, ◌⊎◌, ℕ, zero, suc, ◌+◌, ◌*◌, ◌<◌, ◌≤◌, List, [], ◌∷◌, length, take, drop, slice_index}
use Rattle.std.proofs.Common.{ℤ, pos, ◌<ℤ◌, ◌≤ℤ◌, refl, ap, subst, ◌∙◌, arith, inl, inr}
use Rattle.std.specs.Prelude.{Contains}
use Rattle.std.proofs.lemmas.Int.{ints}
use Rattle.grid_base.specs.Grid.{grid_side, side_bound}
use Rattle.grid_base.specs.Point.{GridPoint}
use Rattle.grid_base.specs.Segment.{GridSegment}
use Rattle.grid_base.proofs.Turns.{times_le}
use Rattle.grid_base.specs.Plane.{side_number_at}
use Rattle.grid_base.proofs.Signs.{natural_order}
use Rattle.plane_cells.specs.Order.{at_point, IsFurtherDown}
use Rattle.plane_cells.specs.Steps.{Step, Each, Pairs, label_over}
use Rattle.plane_classes.specs.Shear.{sheared_point, sheared}
use Rattle.plane_cells.specs.Numbered.{numbered}
use Rattle.plane_cells.specs.Sheared.{sheared_number, AreOfRealm}
use Rattle.plane_cells.specs.Scan.{column_of, IsUnderBegin}
use Rattle.plane_cells.specs.Walks.{Bound, None, Wall, IfWall, HasWall, IsHere, WalkTo}
use Rattle.plane_cells.specs.Labels.{IsOther}
use Rattle.plane_cells.specs.Swept.{AreVertices, wall_before, bound_at, IsAsked}
use Rattle.plane_cells.proofs.Vertical.{column_to, column_after, foot}
use Rattle.plane_cells.proofs.Lists.{each_map}
use Rattle.plane_cells.proofs.Turning.{ends_listed, rises, read_any, pairs_map}
use Rattle.plane_cells.proofs.ShearedRealm.{position, realm_below, numbered_in, one_point}
use Rattle.plane_cells.proofs.Angles.{left_sheared, left_unsheared}
use Rattle.plane_cells.proofs.SomeBeside.{half_column, half_inside}
use Rattle.plane_cells.proofs.Asked.{GoesOn, Seen, inner_place, seen_by, asked_label, asked_sorted, label_now, IsBelowBegin}

some : 0 < grid_side
some = omega arith

-- ---- bounds
pub bound_read : (V : List ℕ) (m : ℕ) → m < length V → slice_index V m ≡ bound_at V m
bound_read [] m h = absurd (omega (arith, h))
bound_read (v ∷ V) zero h = refl
bound_read (v ∷ V) (suc m) h = bound_read V m (omega (arith, h))

pub bound_none : (V : List ℕ) (m : ℕ) → length V ≤ m → side_bound ≡ bound_at V m
bound_none [] m h = refl
bound_none (v ∷ V) zero h = absurd (omega (arith, h))
bound_none (v ∷ V) (suc m) h = bound_none V m (omega (arith, h))

-- a segment of the status goes on at least to the bound
reaches : (B : List GridSegment) (V : List ℕ) (m i : ℕ) → AreVertices B V → m ≤ length V → i < length B
    → HasWall (λ c. c < column_of (numbered B i).b) (wall_before V m) → bound_at V m ≤ column_of (numbered B i).b
reaches B V zero i vs l h w = absurd w
reaches B V (suc m) i vs l h w = subst (λ (c : ℕ). c ≤ column_of (numbered B i).b) (bound_read V (suc m) short)
    (omega (arith, rises V (suc m) found.0 vs.ascending late found.1, read))
  where
    found : Contains V (column_of (numbered B i).b)
    found = vs.all (column_of (numbered B i).b) (ends_listed B i h).1

    read : slice_index V found.0 ≡ column_of (numbered B i).b
    read = read_any V found.0 0 (column_of (numbered B i).b) found.1 ∙ found.2

    late : suc m ≤ found.0
    late = elim (natural_order (suc m) found.0) [
      | inl a ↦ a
      | inr a ↦ absurd (omega (arith, rises V found.0 m vs.ascending (omega (arith, a)) (omega (arith, l)), read, w))
    ]

    short : suc m < length V
    short = omega (arith, late, found.1)

-- ---- the test of the code
under_sheared : (s t : GridSegment) → IsUnderBegin s t
    → (pos 0 <ℤ side_number_at (sheared grid_side s) (at_point (sheared_point grid_side t.a)))
    ⊎ ((sheared_point grid_side s.a ≡ sheared_point grid_side t.a) ×
    (pos 0 <ℤ side_number_at (sheared grid_side s) (at_point (sheared_point grid_side t.b))))
under_sheared s t (inl h) = inl (left_sheared grid_side s t.a some h)
under_sheared s t (inr h) = inr (ap (λ (p : GridPoint). sheared_point grid_side p) h.0, left_sheared grid_side s t.b some h.1)

under_unsheared : (B : List GridSegment) (i : ℕ) (t : GridSegment) → AreOfRealm B → i < length B → t.a.y < grid_side
    → IsBelowBegin (sheared_number B) (sheared grid_side t) i → IsUnderBegin (numbered B i) t
under_unsheared B i t r h l (inl k) = inl (left_unsheared grid_side (numbered B i) t.a some k)
under_unsheared B i t r h l (inr k) = inr (
  one_point grid_side (numbered B i).a t.a (r.on_grid (numbered B i) (numbered_in B i h)).row l
      (ap (λ (p : GridPoint). p.x) k.0),
  left_unsheared grid_side (numbered B i) t.b some k.1,
)

-- ---- what the status has
pub record IsAt (B : List GridSegment) (t : GridSegment) (i : ℕ) : Type 0 where
  pub number : i < length B
  pub goes : GoesOn (sheared_number B) (sheared grid_side t) i

at_wall : (B : List GridSegment) (V : List ℕ) (m : ℕ) (t : GridSegment) (i : ℕ) → AreOfRealm B → AreVertices B V → m ≤ length V
    → i < length B → IfWall (λ c. c ≤ column_of t.a) (wall_before V m) → column_of t.a < bound_at V m
    → HasWall (λ c. (column_of (numbered B i).a ≤ c) × (c < column_of (numbered B i).b)) (wall_before V m) → IsAt B t i
at_wall B V zero t i r vs l h from to w = absurd w
at_wall B V (suc m) t i r vs l h from to w = record {
  number = h;
  goes = record {
    slanted = (position grid_side B (realm_below B r)).slanted i h;
    begun = omega (arith, w.0, from);
    goes = omega (arith, to, reaches B V (suc m) i vs l h w.1);
  };
}

each_with : (P Q R : ℕ → Type 0) (A : List ℕ) → ((i : ℕ) → P i → Q i → R i) → Each P A → Each Q A → Each R A
each_with P Q R [] f h k = tt
each_with P Q R (i ∷ A) f h k = (f i h.0 k.0, each_with P Q R A f h.1 k.1)

pub all_at : (B : List GridSegment) (V : List ℕ) (m : ℕ) (t : GridSegment) (status : List ℕ) → AreOfRealm B → AreVertices B V → m ≤ length V
    → IfWall (λ c. c ≤ column_of t.a) (wall_before V m) → column_of t.a < bound_at V m
    → IsHere (length B) (sheared_number B) (wall_before V m) status → Each (IsAt B t) status
all_at B V m t status r vs l from to h = each_with (λ i. i < length B)
    (λ i. HasWall (λ c. ((sheared_number B i).a.x ≤ c) × (c < (sheared_number B i).b.x)) (wall_before V m)) (IsAt B t) status
    (λ i a b. at_wall B V m t i r vs l a from to b) h.number h.begun

pub under_sorted : (B : List GridSegment) (t : GridSegment) (status : List ℕ) → AreOfRealm B → t.a.y < grid_side
    → IsOther (length B) (sheared_number B) (sheared grid_side t) → Each (IsAt B t) status → Pairs (IsFurtherDown (sheared_number B)) status
    → Pairs (λ i j. IsUnderBegin (numbered B j) t → IsUnderBegin (numbered B i) t) status
under_sorted B t status r low o a s = pairs_map (IsFurtherDown (sheared_number B))
    (λ i j. IsUnderBegin (numbered B j) t → IsUnderBegin (numbered B i) t) (IsAt B t) status
    (λ i j p q f h. under_unsheared B i t r p.number low
    (asked_sorted (length B) (sheared_number B) (sheared grid_side t) i j o p.number q.number p.goes q.goes f
    (under_sheared (numbered B j) t h))) a s

-- ---- the label
half_to : (t : GridSegment) → (half_column t).x ≤ℤ pos ((t.a.x + 1) * (half_column t).w)
half_to t = omega (arith, ints)

half_past : (t : GridSegment) → pos (t.a.x * (half_column t).w) <ℤ (half_column t).x
half_past t = omega (arith, ints)

behind_wall : (lo : Bound) (c w : ℕ) (x : ℤ) → IfWall (λ d. d ≤ c) lo → pos (c * w) <ℤ x → IfWall (λ d. pos (d * w) ≤ℤ x) lo
behind_wall None c w x h k = tt
behind_wall (Wall d) c w x h k = let t = times_le d c 0 w h (omega arith) in omega (arith, ints, k)

pub asked_now : (B : List GridSegment) (steps : List Step) (lo : Bound) (status : List ℕ) (t : GridSegment) (k : ℕ) → AreOfRealm B
    → t.a.y < grid_side → IsOther (length B) (sheared_number B) (sheared grid_side t)
    → WalkTo (length B) (sheared_number B) None [] steps lo status
    → IfWall (λ c. c ≤ column_of t.a) lo → Each (IsAt B t) status → Each (λ i. IsUnderBegin (numbered B i) t) (take k status)
    → Each (λ i. IsUnderBegin (numbered B i) t → ⊥) (drop k status)
    → IsAsked B steps t (label_over 0 (take k status))
asked_now B steps lo status t k r low o walk from a below others =
    let u = sheared grid_side t in
    let f = foot u (half_column u) o.slanted in
    let seen = each_map (IsAt B t) (Seen (sheared_number B) u (inner_place u o.slanted)) status
    (λ i p. seen_by (length B) (sheared_number B) u i o p.number p.goes) a in
    record {
      other = o;
      place = f.place;
      inside = half_inside u o.slanted;
      column = column_to (u.a.x + 1) (half_column u) f.place f.column (half_to u);
      has = label_now (length B) (sheared_number B) None [] steps lo status f.place (label_over 0 (take k status)) walk
          (behind_wall lo u.a.x f.place.w f.place.x from (column_after u.a.x (half_column u) f.place f.column (half_past u)))
          (asked_label (sheared_number B) u f.place status k seen
          (each_map (λ i. IsUnderBegin (numbered B i) t) (IsBelowBegin (sheared_number B) u) (take k status)
          (λ i h. under_sheared (numbered B i) t h) below)
          (each_with (λ i. i < length B) (λ i. IsUnderBegin (numbered B i) t → ⊥) (λ i. IsBelowBegin (sheared_number B) u i → ⊥)
          (drop k status) (λ i h n b. n (under_unsheared B i t r h low b))
          (each_dropped (λ i. i < length B) status k (each_map (IsAt B t) (λ i. i < length B) status (λ i p. p.number) a)) others));
    }
  where
    each_dropped : (P : ℕ → Type 0) (l : List ℕ) (m : ℕ) → Each P l → Each P (drop m l)
    each_dropped P [] zero h = tt
    each_dropped P [] (suc m) h = tt
    each_dropped P (i ∷ l) zero h = h
    each_dropped P (i ∷ l) (suc m) h = each_dropped P l m h.1
