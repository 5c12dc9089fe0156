-- This file shows what the parts of a step may ask, and that together they lead the sweep behind the vertex.
use Rattle.std.proofs.Common.{◌≡◌, ◌⊎◌, ℕ, zero, suc, ◌+◌, ◌<◌, ◌≤◌, List, [], ◌∷◌, ◌++◌, length, take, drop, slice_index}
use Rattle.std.proofs.Common.{refl, sym, ap, subst, ◌∙◌, arith, inl, inr}
use Rattle.std.proofs.lemmas.Int.{ints}
use Rattle.std.proofs.lemmas.List.{take-append-drop}
use Rattle.grid_base.specs.Grid.{grid_side, product_bound}
use Rattle.grid_base.specs.Point.{GridPoint}
use Rattle.grid_base.specs.Segment.{GridSegment}
use Rattle.grid_base.proofs.Signs.{above_not_zero, three_ways}
use Rattle.grid_base.proofs.Ends.{columns_in_order}
use Rattle.plane_classes.proofs.Heights.{at_b}
use Rattle.plane_cells.specs.Order.{at_point}
use Rattle.plane_cells.specs.Steps.{In, Each, Pairs, label_over, HasRights}
use Rattle.linked_parts.specs.Parts.{Links}
use Rattle.plane_classes.specs.Shear.{sheared_point}
use Rattle.plane_cells.specs.Numbered.{numbered}
use Rattle.plane_cells.specs.Sheared.{sheared_number, AreOfRealm}
use Rattle.plane_cells.specs.Scan.{column_of, IsLeftOf, IsSortedAt, IsLeftward, IsNext, IsFan}
use Rattle.plane_cells.specs.Walks.{Bound, None, Wall, IfWall, HasWall}
use Rattle.plane_cells.specs.Swept.{AreVertices, wall_before, IsSwept}
use Rattle.plane_cells.proofs.Lists.{each_map, each_at}
use Rattle.plane_cells.proofs.Labels.{over_joined}
use Rattle.plane_cells.proofs.Statuses.{slab_status}
use Rattle.plane_cells.proofs.ShearedRealm.{numbered_in}
use Rattle.plane_cells.proofs.Turning.{listed_end, listed_at, next_vertex, sorted_at, left_height}
use Rattle.plane_cells.proofs.StepOn.{IsFound, step_on, pairs_map, label_up_to}

-- ---- the vertex is on the grid
fits : (p : GridPoint) → p.x < grid_side → p.y < grid_side → column_of p < product_bound
fits p h k = omega (arith, h, k)

pub vertex_fits : (B : List GridSegment) (V : List ℕ) (m : ℕ) → AreOfRealm B → AreVertices B V → m < length V → slice_index V m < product_bound
vertex_fits B V m r vs l =
    let e = listed_end B (slice_index V m) (vs.only (slice_index V m) (listed_at V m l)) in
    let s = numbered B e.0 in
    let c = numbered_in B e.0 e.1 in
    let g = r.on_grid s c in
    elim e.2 [
      | inl f ↦ subst (λ (n : ℕ). n < product_bound) (sym f)
          (fits s.a (low s.a.x s.b.x (columns_in_order s.a s.b ((r.on_grid s c).order)) g.end_column) g.row)
      | inr f ↦ subst (λ (n : ℕ). n < product_bound) (sym f) (fits s.b g.end_column g.end_row)
    ]
  where
    low : (a b : ℕ) → a ≤ b → b < grid_side → a < grid_side
    low a b h k = omega (arith, h, k)

-- ---- what the parts ask
pub sorted_here : (B : List GridSegment) (V : List ℕ) (m : ℕ) (v : GridPoint) (status : List ℕ) (next : ℕ) (L : Links) (right : List ℕ) (T :
    List GridSegment) (Y : List ℕ) → AreOfRealm B → AreVertices B V → m < length V → v.y < grid_side → column_of v ≡ slice_index V m
    → IsSwept B (wall_before V m) status next L right T Y → IsSortedAt B v status
sorted_here B V m v status next L right T Y r vs l low e s =
    let nv = next_vertex B V m v r vs l low e in
    sorted_at B (wall_before V m) status v nv.later
    (slab_status (length B) (sheared_number B) (wall_before V m) (sheared_point grid_side v) status s.here nv)

pub next_here : (B : List GridSegment) (V : List ℕ) (m : ℕ) (v : GridPoint) (status : List ℕ) (next : ℕ) (L : Links) (right : List ℕ) (T :
    List GridSegment) (Y : List ℕ) → AreOfRealm B → AreVertices B V → m < length V → v.y < grid_side → column_of v ≡ slice_index V m
    → IsSwept B (wall_before V m) status next L right T Y → IsNext B v next
next_here B V m v status next L right T Y r vs l low e s =
    let nv = next_vertex B V m v r vs l low e in
    record {
      within = s.within;
      earlier = λ i h. earlier i (wall_before V m) (s.begun i h) nv.later;
      later = λ i h k. later i (wall_before V m) (s.unbegun i h k) (nv.none_between i (sheared_number B i).a k (inl refl));
    }
  where
    earlier : (i : ℕ) (lo : Bound) → HasWall (λ c. column_of (numbered B i).a ≤ c) lo → IfWall (λ c. c < column_of v) lo
        → column_of (numbered B i).a < column_of v
    earlier i None a b = absurd a
    earlier i (Wall c) a b = let d : c < column_of v = b in omega (arith, a, d)

    later : (i : ℕ) (lo : Bound) → IfWall (λ c. c < column_of (numbered B i).a) lo
        → HasWall (λ c. column_of (numbered B i).a ≤ c) lo ⊎ (column_of v ≤ column_of (numbered B i).a)
        → column_of v ≤ column_of (numbered B i).a
    later i lo a (inr b) = b
    later i None a (inl b) = absurd b
    later i (Wall c) a (inl b) = absurd (omega (arith, a, b))

pub small_here : (B : List GridSegment) (lo : Bound) (status : List ℕ) (next : ℕ) (L : Links) (right : List ℕ) (T : List GridSegment) (Y :
    List ℕ) (n : ℕ) → IsSwept B lo status next L right T Y → length right ≤ n → Each (λ i. i < n) status
small_here B lo status next L right T Y n s h = each_map (λ i. i < length B) (λ i. i < n) status
    (λ i a. omega (arith, a, s.places, h)) s.here.number

pub fan_small : (B : List GridSegment) (v : GridPoint) (next : ℕ) (F : List ℕ) (n : ℕ) → IsFan B v next F → length B ≤ n
    → Each (λ i. i < n) F
fan_small B v next F n f h = each_map (λ i. (next ≤ i) × (i < next + length F)) (λ i. i < n) F
    (λ i a. omega (arith, a.1, f.fan.within, h)) f.fan.numbers

pub fan_places : (B : List GridSegment) (lo : Bound) (status : List ℕ) (next : ℕ) (L : Links) (right : List ℕ) (T : List GridSegment) (Y :
    List ℕ) (v : GridPoint) (F : List ℕ) → IsSwept B lo status next L right T Y → IsFan B v next F → Each (λ i. i < length right) F
fan_places B lo status next L right T Y v F s f = fan_small B v next F (length right) f (omega (arith, s.places))

not_own : (B : List GridSegment) (i j : ℕ) → IsLeftward B i j → i ≡ j → ⊥
not_own B i j h e =
    let k = subst (λ (n : ℕ). IsLeftward B i n) (sym e) h in
    let g = left_height B (numbered B i).b i k in
    above_not_zero _ g (at_b (sheared_number B i) (at_point (sheared_number B i).b) (omega (arith, ints)) (omega (arith, ints)))

pub fan_once : (B : List GridSegment) (v : GridPoint) (next : ℕ) (F : List ℕ) → IsFan B v next F → Pairs (λ i j. i ≡ j → ⊥) F
fan_once B v next F f = pairs_map (IsLeftward B) (λ i j. i ≡ j → ⊥) F (λ i j h. not_own B i j h) f.fan.leftward

-- ---- parts of lists
pub drop_sum : (m e : ℕ) (l : List ℕ) → drop (m + e) l ≡ drop e (drop m l)
drop_sum zero e l = let f : 0 + e ≡ e = omega arith in ap (λ (n : ℕ). drop n l) f ∙ ap (λ (k : List ℕ). drop e k) (sym (none l))
  where
    none : (l : List ℕ) → drop zero l ≡ l
    none [] = refl
    none (i ∷ l) = refl
drop_sum (suc m) e [] = empty (suc m + e) ∙ sym (empty e)
  where
    empty : (n : ℕ) → drop {A = ℕ} n [] ≡ []
    empty zero = refl
    empty (suc n) = refl
drop_sum (suc m) e (i ∷ l) = let f : suc m + e ≡ suc (m + e) = omega arith in ap (λ (n : ℕ). drop n (i ∷ l)) f ∙ drop_sum m e l

pub take_sum : (m e : ℕ) (l : List ℕ) → take (m + e) l ≡ take m l ++ take e (drop m l)
take_sum zero e [] = let f : 0 + e ≡ e = omega arith in ap (λ (n : ℕ). take n []) f
take_sum zero e (i ∷ l) = let f : 0 + e ≡ e = omega arith in ap (λ (n : ℕ). take n (i ∷ l)) f
take_sum (suc m) e [] = empty (suc m + e) ∙ sym (empty e)
  where
    empty : (n : ℕ) → take {A = ℕ} n [] ≡ []
    empty zero = refl
    empty (suc n) = refl
take_sum (suc m) e (i ∷ l) = let f : suc m + e ≡ suc (m + e) = omega arith in ap (λ (n : ℕ). take n (i ∷ l)) f ∙ ap (λ (k : List ℕ). i ∷ k)
    (take_sum m e l)

first_dropped : (e : ℕ) (l : List ℕ) → 0 < length (drop e l) → (e < length l) × (slice_index (drop e l) 0 ≡ slice_index l e)
first_dropped zero [] h = absurd (omega (arith, h))
first_dropped zero (i ∷ l) h = (omega arith, refl)
first_dropped (suc e) [] h = absurd (omega (arith, h))
first_dropped (suc e) (i ∷ l) h = let r = first_dropped e l h in (omega (arith, r.0), r.1)

in_or : (i : ℕ) (A : List ℕ) → In i A ⊎ (In i A → ⊥)
in_or i [] = inr (λ m. m)
in_or i (j ∷ A) = elim (three_ways i j) [
  | inl h ↦ elim (in_or i A) [ inl m ↦ inl (inr m) | inr n ↦ inr (λ m. elim m [ inl e ↦ less_self i j h e | inr k ↦ n k ]) ]
  | inr o ↦ elim o [
    | inl e ↦ inl (inl e)
    | inr h ↦ elim (in_or i A) [ inl m ↦ inl (inr m) | inr n ↦ inr (λ m. elim m [ inl e ↦ less_self j i h (sym e) | inr k ↦ n k ]) ]
  ]
]
  where
    less_self : (m n : ℕ) → m < n → m ≡ n → ⊥
    less_self m n h e = omega (arith, h, e)

each_taken : (P : ℕ → Type 0) (l : List ℕ) (m : ℕ) → Each P l → Each P (take m l)
each_taken P [] zero h = tt
each_taken P [] (suc m) h = tt
each_taken P (i ∷ l) zero h = tt
each_taken P (i ∷ l) (suc m) h = (h.0, each_taken P l m h.1)

rights_up_to : (f : ℕ → ℕ) (n d : ℕ) (A : List ℕ) → d ≤ n → Each (λ i. i < n) A → HasRights f d A → Each (λ i. f i ≤ n) A
rights_up_to f n d [] h a r = tt
rights_up_to f n d (i ∷ A) h a r = (subst (λ (x : ℕ). x ≤ n) (sym r.0) h, rights_up_to f n (suc i) A (omega (arith, a.0)) a.1 r.1)

-- ---- behind the vertex
pub passed : (B : List GridSegment) (V : List ℕ) (index : ℕ) (v : GridPoint) (status : List ℕ) (next : ℕ) (L : Links) (right right' : List
    ℕ) (m e : ℕ) (F : List ℕ) (under over other : ℕ) (status' : List ℕ) (L' : Links) (next' : ℕ) (T : List GridSegment) (Y : List ℕ)
    → AreOfRealm B → AreVertices B V → index < length V → v.y < grid_side → column_of v ≡ slice_index V index
    → IsSwept B (wall_before V index) status next L right T Y → ((k : ℕ) → k < length Y → column_of (numbered T k).a < slice_index V index)
    → ((k : ℕ) → length Y ≤ k → k < length T → slice_index V index ≤ column_of (numbered T k).a)
    → Each (IsLeftOf B v) (take m status) → Each (λ i. IsLeftOf B v i → ⊥) (drop m status)
    → Each (λ i. (numbered B i).b ≡ v) (take e (drop m status))
    → (e < length (drop m status) → (numbered B (slice_index (drop m status) e)).b ≡ v → ⊥) → IsFan B v next F
    → under ≡ label_over 0 (take m status) → over ≡ label_over 0 (take (m + e) status) → other ≡ label_over under F
    → HasRights (λ i. slice_index right' i) under F → ((i : ℕ) → (In i F → ⊥) → slice_index right' i ≡ slice_index right i)
    → length right' ≡ length right
    → status' ≡ take m status ++ (F ++ drop (m + e) status) → L' ≡ L ++ ((over, other) ∷ []) → next' ≡ next + length F
    → IsSwept B (Wall (slice_index V index)) status' next' L' right' T Y
passed B V index v status next L right right' m e F under over other status' L' next' T Y r vs l low col s early late below others ends stop
    fan u o t rights kept size st li ne =
    let A = take m status in let E = take e (drop m status) in let C = drop e (drop m status) in
    let whole : status ≡ A ++ (E ++ C) = sym (ap (λ (k : List ℕ). A ++ k) (take-append-drop e (drop m status)) ∙ take-append-drop m status)
    in
    let found : IsFound B v next A E C F = record {
      below = below;
      others = subst (Each (λ i. IsLeftOf B v i → ⊥)) (sym (take-append-drop e (drop m status))) others;
      ends = ends;
      stop = λ h g. let d = first_dropped e (drop m status) h in stop d.0 (subst (λ (n : ℕ). (numbered B n).b ≡ v) d.1 g);
      fan = fan;
    } in
    let on = step_on B (wall_before V index) status v next L right right' A E C F T Y r low (next_vertex B V index v r vs l low col) s
    (λ k h. omega (arith, early k h, col)) (λ k g h. omega (arith, late k g h, col)) whole found
    (subst (λ (d : ℕ). HasRights (λ i. slice_index right' i) d F) u rights) (λ i h. kept i (λ n. later i h n)) size
    (λ i. bound i (in_or i F)) in
    let over' : over ≡ label_over 0 (A ++ E) = o ∙ ap (λ (k : List ℕ). label_over 0 k) (take_sum m e status) in
    let other' : other ≡ label_over 0 (A ++ F) = t ∙ ap (λ (d : ℕ). label_over d F) u ∙ sym (over_joined 0 A F) in
    let status'' : status' ≡ A ++ (F ++ C) = st ∙ ap (λ (k : List ℕ). A ++ (F ++ k)) (drop_sum m e status) in
    let links' : L' ≡ L ++ ((label_over 0 (A ++ E), label_over 0 (A ++ F)) ∷ []) = li ∙ one_link over other (label_over 0 (A ++ E))
    (label_over 0 (A ++ F)) over' other' in
    subst (λ (c : ℕ). IsSwept B (Wall c) status' next' L' right' T Y) col
    (subst (λ (k : List ℕ). IsSwept B (Wall (column_of v)) k next' L' right' T Y) (sym status'')
    (subst (λ (n : ℕ). IsSwept B (Wall (column_of v)) (A ++ (F ++ C)) n L' right' T Y) (sym ne)
    (subst (λ (k : Links). IsSwept B (Wall (column_of v)) (A ++ (F ++ C)) (next + length F) k right' T Y) (sym links') on)))
  where
    under_small : under ≤ length B
    under_small = subst (λ (n : ℕ). n ≤ length B) (sym u)
        (label_up_to (length B) 0 (take m status) (omega arith) (each_taken (λ i. i < length B) status m s.here.number))

    bound : (i : ℕ) → In i F ⊎ (In i F → ⊥) → slice_index right' i ≤ length B
    bound i (inl n) = each_at (λ j. slice_index right' j ≤ length B) F i
        (rights_up_to (λ j. slice_index right' j) (length B) under F under_small (fan_small B v next F (length B) fan (omega arith)) rights)
        n
    bound i (inr n) = subst (λ (x : ℕ). x ≤ length B) (sym (kept i n)) (s.bounded i)

    later : (i : ℕ) → i < next → In i F → ⊥
    later i h n = let a = (each_at (λ j. (next ≤ j) × (j < next + length F)) F i fan.fan.numbers n).0 in omega (arith, a, h)

    one_link : (a b c d : ℕ) → a ≡ c → b ≡ d → L ++ ((a, b) ∷ []) ≡ L ++ ((c, d) ∷ [])
    one_link a b c d e f = ap (λ (n : ℕ). L ++ ((n, b) ∷ [])) e ∙ ap (λ (n : ℕ). L ++ ((c, n) ∷ [])) f
