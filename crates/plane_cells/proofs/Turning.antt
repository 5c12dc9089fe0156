-- This file shows that one step of the sweep leads on.
use Rattle.std.proofs.Common.{◌≡◌, ◌⊎◌, ℕ, zero, suc, ◌+◌, ◌-◌, ◌<◌, ◌≤◌, List, [], ◌∷◌, length, get_or, slice_index, pos, ◌<ℤ◌, refl}
use Rattle.std.proofs.Common.{sym, ap, subst, ◌∙◌, arith, inl, inr}
use Rattle.std.specs.Prelude.{Contains}
use Rattle.std.specs.List.Sorted.{IsStrictlyIncreasing}
use Rattle.std.proofs.lemmas.Int.{ints}
use Rattle.grid_base.specs.Grid.{grid_side}
use Rattle.grid_base.specs.Point.{GridPoint}
use Rattle.grid_base.specs.Segment.{GridSegment}
use Rattle.grid_base.specs.Segment.{IsEnd}
use Rattle.grid_base.specs.Plane.{side_number_at, side_at, Spans}
use Rattle.grid_base.proofs.Signs.{left_by_sign, natural_order}
use Rattle.plane_cells.specs.Order.{at_point, IsFurtherDown}
use Rattle.plane_cells.specs.Steps.{Each, Pairs}
use Rattle.plane_classes.specs.Shear.{sheared_point}
use Rattle.plane_cells.specs.Numbered.{numbered}
use Rattle.plane_cells.specs.Sheared.{sheared_number, AreOfRealm}
use Rattle.plane_cells.specs.Scan.{column_of, end_columns, IsLeftOf, IsSortedAt}
use Rattle.plane_cells.specs.Walks.{Bound, None, Wall, IfWall, HasWall, IsAcross, IsStatus}
use Rattle.plane_cells.proofs.Walks.{IsNextVertex}
use Rattle.plane_cells.specs.Swept.{AreVertices, wall_before}
use Rattle.plane_cells.proofs.Vertical.{left_sign}
use Rattle.plane_cells.proofs.AlongSegments.{left_of_lower}
use Rattle.plane_cells.proofs.Lists.{each_map, each_both}
use Rattle.plane_cells.proofs.ShearedRealm.{numbered_in, one_point}
use Rattle.plane_cells.proofs.Angles.{left_sheared, left_unsheared}

pub some : 0 < grid_side
some = omega arith

-- ---- vertices
-- an end of a numbered segment is listed
abbrev IsColumn : List GridSegment → ℕ → Type 0
IsColumn B c = (i : ℕ) × (i < length B) × ((c ≡ column_of (numbered B i).a) ⊎ (c ≡ column_of (numbered B i).b))

contains_here : (x : ℕ) (l : List ℕ) → Contains (x ∷ l) x
contains_here x l = (0, omega arith, refl)

contains_next : (x y : ℕ) (l : List ℕ) → Contains l y → Contains (x ∷ l) y
contains_next x y l m = (suc m.0, omega (arith, m.1), m.2)

contains_cases : (x y : ℕ) (l : List ℕ) → Contains (x ∷ l) y → (x ≡ y) ⊎ Contains l y
contains_cases x y l m = go m.0 m.1 m.2
  where
    go : (k : ℕ) → k < length (x ∷ l) → get_or (x ∷ l) k y ≡ y → (x ≡ y) ⊎ Contains l y
    go zero h e = inl e
    go (suc k) h e = inr (k, omega (arith, h), e)

pub ends_listed : (B : List GridSegment) (i : ℕ) → i < length B
    → Contains (end_columns B) (column_of (numbered B i).a) × Contains (end_columns B) (column_of (numbered B i).b)
ends_listed [] i h = absurd (omega (arith, h))
ends_listed (s ∷ B) zero h = (
  contains_here (column_of s.a) (column_of s.b ∷ end_columns B),
  contains_next (column_of s.a) (column_of s.b)
      (column_of s.b ∷ end_columns B) (contains_here (column_of s.b) (end_columns B)),
)
ends_listed (s ∷ B) (suc i) h =
    let r = ends_listed B i (omega (arith, h)) in
    (two_on (column_of (numbered B i).a) r.0, two_on (column_of (numbered B i).b) r.1)
  where
    two_on : (y : ℕ) → Contains (end_columns B) y → Contains (end_columns (s ∷ B)) y
    two_on y m = contains_next (column_of s.a) y (column_of s.b ∷ end_columns B) (contains_next (column_of s.b) y (end_columns B) m)

pub listed_end : (B : List GridSegment) (c : ℕ) → Contains (end_columns B) c → IsColumn B c
listed_end [] c m = absurd (omega (arith, m.1))
listed_end (s ∷ B) c m = elim (contains_cases (column_of s.a) c (column_of s.b ∷ end_columns B) m) [
  | inl e ↦ (zero, omega arith, inl (sym e))
  | inr m' ↦ elim (contains_cases (column_of s.b) c (end_columns B) m') [
    | inl e ↦ (zero, omega arith, inr (sym e))
    | inr m'' ↦ let r = listed_end B c m'' in (suc r.0, omega (arith, r.1), r.2)
  ]
]

pub read_any : (l : List ℕ) (k d e : ℕ) → k < length l → get_or l k d ≡ get_or l k e
read_any [] k d e h = absurd (omega (arith, h))
read_any (i ∷ l) zero d e h = refl
read_any (i ∷ l) (suc k) d e h = read_any l k d e (omega (arith, h))

rises_by : (V : List ℕ) (k d : ℕ) → IsStrictlyIncreasing V → k + d < length V → slice_index V k ≤ slice_index V (k + d)
rises_by V k zero h l = let e : k + 0 ≡ k = omega arith in subst (λ (n : ℕ). slice_index V k ≤ slice_index V n) (sym e) (omega arith)
rises_by V k (suc d) h l =
    let e : k + suc d ≡ k + d + 1 = omega arith in
    let f = h (k + d) (omega (arith, l)) in
    let g = rises_by V k d h (omega (arith, l)) in
    subst (λ (n : ℕ). slice_index V k ≤ slice_index V n) (sym e) (omega (arith, f, g))

pub rises : (V : List ℕ) (k m : ℕ) → IsStrictlyIncreasing V → k ≤ m → m < length V → slice_index V k ≤ slice_index V m
rises V k m h l n = let e : k + (m - k) ≡ m = omega (arith, l) in subst (λ (j : ℕ). slice_index V k ≤ slice_index V j) e
    (rises_by V k (m - k) h (omega (arith, e, n)))

-- a listed column is that of a vertex up to number m, or from there on
place_of : (V : List ℕ) (c m : ℕ) → IsStrictlyIncreasing V → m < length V → Contains V c
    → HasWall (λ w. c ≤ w) (wall_before V m) ⊎ (slice_index V m ≤ c)
place_of V c m h l k = go m l (natural_order m k.0)
  where
    read : slice_index V k.0 ≡ c
    read = read_any V k.0 0 c k.1 ∙ k.2

    go : (m : ℕ) → m < length V → (m ≤ k.0) ⊎ (k.0 < m) → HasWall (λ w. c ≤ w) (wall_before V m) ⊎ (slice_index V m ≤ c)
    go m n (inl a) = inr (omega (arith, rises V m k.0 h a k.1, read))
    go zero n (inr a) = absurd (omega (arith, a))
    go (suc m) n (inr a) = inl (omega (arith, rises V k.0 m h (omega (arith, a)) (omega (arith, n)), read))

wall_later : (V : List ℕ) (m : ℕ) → IsStrictlyIncreasing V → m < length V → IfWall (λ c. c < slice_index V m) (wall_before V m)
wall_later V zero h l = tt
wall_later V (suc m) h l = let e : m + 1 ≡ suc m = omega arith in subst (λ (n : ℕ). slice_index V m < slice_index V n) e
    (h m (omega (arith, l)))

pub listed_at : (V : List ℕ) (m : ℕ) → m < length V → Contains V (slice_index V m)
listed_at V m h = (m, h, read_any V m (slice_index V m) 0 h)

-- an end with the column of v is v
end_at : (B : List GridSegment) (v : GridPoint) (c : ℕ) → AreOfRealm B → v.y < grid_side → column_of v ≡ c → IsColumn B c
    → (i : ℕ) × (i < length B) × IsEnd (sheared_point grid_side v) (sheared_number B i)
end_at B v c r low e k = (
  k.0,
  k.1,
  elim k.2 [
    | inl f ↦ inl (ap (λ (p : GridPoint). sheared_point grid_side p)
        (one_point grid_side v (numbered B k.0).a low (r.on_grid (numbered B k.0) (numbered_in B k.0 k.1)).row (e ∙ f)))
    | inr f ↦ inr (ap (λ (p : GridPoint). sheared_point grid_side p)
        (one_point grid_side v (numbered B k.0).b low (r.on_grid (numbered B k.0) (numbered_in B k.0 k.1)).end_row (e ∙ f)))
  ],
)

pub next_vertex : (B : List GridSegment) (V : List ℕ) (m : ℕ) (v : GridPoint) → AreOfRealm B → AreVertices B V → m < length V → v.y < grid_side
    → column_of v ≡ slice_index V m
    → IsNextVertex (length B) (sheared_number B) (wall_before V m) (sheared_point grid_side v)
next_vertex B V m v r vs l low e = record {
  vertex = end_at B v (slice_index V m) r low e (listed_end B (slice_index V m) (vs.only (slice_index V m) (listed_at V m l)));
  later = subst (λ (c : ℕ). IfWall (λ w. w < c) (wall_before V m)) (sym e) (wall_later V m vs.ascending l);
  none_between = λ i p h k. subst (λ (c : ℕ). HasWall (λ w. p.x ≤ w) (wall_before V m) ⊎ (c ≤ p.x)) (sym e)
      (place_of V p.x m vs.ascending l (vs.all p.x (of_end i p h k)));
}
  where
    of_end : (i : ℕ) (p : GridPoint) → i < length B → IsEnd p (sheared_number B i) → Contains (end_columns B) p.x
    of_end i p h (inl f) = subst (Contains (end_columns B)) (sym (ap (λ (u : GridPoint). u.x) f)) (ends_listed B i h).0
    of_end i p h (inr f) = subst (Contains (end_columns B)) (sym (ap (λ (u : GridPoint). u.x) f)) (ends_listed B i h).1

-- ---- the status is sorted at the vertex
pub left_height : (B : List GridSegment) (v : GridPoint) (i : ℕ) → IsLeftOf B v i
    → pos 0 <ℤ side_number_at (sheared_number B i) (at_point (sheared_point grid_side v))
left_height B v i h = left_sheared grid_side (numbered B i) v some h

pub height_left : (B : List GridSegment) (v : GridPoint) (i : ℕ)
    → pos 0 <ℤ side_number_at (sheared_number B i) (at_point (sheared_point grid_side v)) → IsLeftOf B v i
height_left B v i h = left_unsheared grid_side (numbered B i) v some h

pub vertex_spans : (n : ℕ) (seg : ℕ → GridSegment) (lo : Bound) (v : GridPoint) (i : ℕ) → IfWall (λ c. c < v.x) lo
    → IsAcross n seg lo (Wall v.x) i → Spans (seg i) (at_point v)
vertex_spans n seg None v i l a = absurd a.from
vertex_spans n seg (Wall c) v i l a = let m : c < v.x = l in
    record { from = omega (arith, ints, a.from, m); to = omega (arith, ints, a.to) }

pub pairs_map : (R Q : ℕ → ℕ → Type 0) (P : ℕ → Type 0) (l : List ℕ) → ((i j : ℕ) → P i → P j → R i j → Q i j) → Each P l → Pairs R l
    → Pairs Q l
pairs_map R Q P [] f h s = tt
pairs_map R Q P (i ∷ l) f h s = (each_both P (R i) (Q i) l (λ j a b. f i j h.0 a b) h.1 s.0, pairs_map R Q P l f h.1 s.1)

pub sorted_at : (B : List GridSegment) (lo : Bound) (status : List ℕ) (v : GridPoint) → IfWall (λ c. c < column_of v) lo
    → IsStatus (length B) (sheared_number B) lo (Wall (column_of v)) status → IsSortedAt B v status
sorted_at B lo status v l st =
    let u = sheared_point grid_side v in
    pairs_map (IsFurtherDown (sheared_number B)) (λ i j. IsLeftOf B v j → IsLeftOf B v i)
    (λ i. Spans (sheared_number B i) (at_point u)) status
    (λ i j a b f h. height_left B v i
    (left_sign _ (left_of_lower (side_at (sheared_number B j) (at_point u)) (side_at (sheared_number B i) (at_point u))
    (f.1 (at_point u) (omega arith) a b) (left_by_sign _ (left_height B v j h)))))
    (each_map (IsAcross (length B) (sheared_number B) lo (Wall u.x)) (λ i. Spans (sheared_number B i) (at_point u)) status
    (λ i a. vertex_spans (length B) (sheared_number B) lo u i l a) st.across) st.sorted
