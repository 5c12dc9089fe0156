-- This file shows that what the code finds for another segment is the label of a place inside it.
use Rattle.std.proofs.Common.{◌≡◌, ◌⊎◌, ℕ, zero, suc, ◌+◌, ◌<◌, ◌≤◌, List, [], ◌∷◌, ◌++◌, length, take, drop, get_or, slice_index}
use Rattle.std.proofs.Common.{refl, sym, ap, subst, ◌∙◌, arith, inl, inr}
use Rattle.grid_base.specs.Grid.{grid_side, side_bound}
use Rattle.grid_base.specs.Point.{GridPoint}
use Rattle.grid_base.specs.Segment.{GridSegment}
use Rattle.grid_base.proofs.Signs.{natural_order}
use Rattle.plane_cells.specs.Steps.{Step, Each, Pairs, label_over}
use Rattle.linked_parts.specs.Parts.{Links}
use Rattle.plane_classes.specs.Shear.{sheared}
use Rattle.plane_cells.specs.Numbered.{numbered}
use Rattle.plane_cells.specs.Sheared.{sheared_number, AreOfRealm}
use Rattle.plane_cells.specs.Scan.{column_of, IsUnderBegin, AreAscending}
use Rattle.plane_cells.proofs.StepOn.{label_up_to}
use Rattle.plane_cells.proofs.Passing.{vertex_fits}
use Rattle.plane_cells.proofs.Parts.{segment_read}
use Rattle.plane_cells.specs.Walks.{Bound, IfWall, HasWall}
use Rattle.plane_cells.specs.Labels.{IsOther}
use Rattle.plane_cells.specs.Swept.{AreVertices, wall_before, bound_at, IsSwept, IsAsked, AreAsked, AreOthers, AreDue, AreLater}
use Rattle.plane_cells.proofs.Turning.{rises}
use Rattle.plane_cells.proofs.Pushed.{read_left, read_end}
use Rattle.plane_cells.proofs.AskedLabels.{bound_read, bound_none, all_at, under_sorted, asked_now}

-- ---- one more label
-- what the loop keeps
pub record IsAsking (B : List GridSegment) (V : List ℕ) (m : ℕ) (status : List ℕ) (next : ℕ) (L : Links) (right : List ℕ)
    (first list : List GridSegment) (Y : List ℕ) : Type 0 where
  pub same : list ≡ first
  pub swept : IsSwept B (wall_before V m) status next L right first Y
  pub due : AreDue first (length Y) (bound_at V m)

read_past : (l : List ℕ) (x i : ℕ) → length l < i → get_or (l ++ x ∷ []) i 0 ≡ 0
read_past [] x zero h = absurd (omega (arith, h))
read_past [] x (suc zero) h = refl
read_past [] x (suc (suc i)) h = refl
read_past (y ∷ l) x zero h = absurd (omega (arith, h))
read_past (y ∷ l) x (suc i) h = read_past l x i (omega (arith, h))

count_pushed : (l : List ℕ) (x : ℕ) → length (l ++ x ∷ []) ≡ length l + 1
count_pushed [] x = refl
count_pushed (y ∷ l) x = let e = count_pushed l x in omega (arith, e)

parts : (i n : ℕ) → (i < n) ⊎ ((i ≡ n) ⊎ (n < i))
parts i n = grind arith

parts_below : (i n : ℕ) → i < n + 1 → (i < n) ⊎ (i ≡ n)
parts_below i n h = grind arith

pub asked_more : (B : List GridSegment) (steps : List Step) (lo : Bound) (T : List GridSegment) (Y : List ℕ) (y : ℕ)
    → AreAsked B steps lo T Y → length Y < length T → IsAsked B steps (numbered T (length Y)) y → y ≤ length B
    → AreAsked B steps lo T (Y ++ y ∷ [])
asked_more B steps lo T Y y a h q b = record {
  count = omega (arith, count_pushed Y y, h);
  asked = λ k l. asked k (parts_below k (length Y) (omega (arith, l, count_pushed Y y)));
  later = λ k l g. a.later k (omega (arith, l, count_pushed Y y)) g;
  bounded = λ k. bounded k (parts k (length Y));
}
  where
    asked : (k : ℕ) → (k < length Y) ⊎ (k ≡ length Y) → IsAsked B steps (numbered T k) (slice_index (Y ++ y ∷ []) k)
    asked k (inl l) = subst (IsAsked B steps (numbered T k)) (sym (read_left Y (y ∷ []) k 0 l)) (a.asked k l)
    asked k (inr e) = subst (λ (j : ℕ). IsAsked B steps (numbered T j) (slice_index (Y ++ y ∷ []) j)) (sym e)
        (subst (IsAsked B steps (numbered T (length Y))) (sym (read_end Y y 0)) q)

    bounded : (k : ℕ) → (k < length Y) ⊎ ((k ≡ length Y) ⊎ (length Y < k)) → slice_index (Y ++ y ∷ []) k ≤ length B
    bounded k (inl l) = subst (λ (x : ℕ). x ≤ length B) (sym (read_left Y (y ∷ []) k 0 l)) (a.bounded k)
    bounded k (inr (inl e)) = subst (λ (j : ℕ). slice_index (Y ++ y ∷ []) j ≤ length B) (sym e)
        (subst (λ (x : ℕ). x ≤ length B) (sym (read_end Y y 0)) b)
    bounded k (inr (inr l)) = subst (λ (x : ℕ). x ≤ length B) (sym (read_past Y y k l)) (omega arith)

pub swept_more : (B : List GridSegment) (lo : Bound) (status : List ℕ) (next : ℕ) (L : Links) (right : List ℕ) (T : List GridSegment) (Y :
    List ℕ) (y : ℕ) → (s : IsSwept B lo status next L right T Y) → length Y < length T → IsAsked B s.steps (numbered T (length Y)) y
    → y ≤ length B
    → IsSwept B lo status next L right T (Y ++ y ∷ [])
swept_more B lo status next L right T Y y s h q b = record {
  steps = s.steps;
  chain = s.chain;
  links = s.links;
  rights = s.rights;
  earlier = s.earlier;
  here = s.here;
  within = s.within;
  begun = s.begun;
  unbegun = s.unbegun;
  places = s.places;
  labels = s.labels;
  bounded = s.bounded;
  asked = asked_more B s.steps lo T Y y s.asked h q b;
}

each_taken : (P : ℕ → Type 0) (l : List ℕ) (m : ℕ) → Each P l → Each P (take m l)
each_taken P [] zero h = tt
each_taken P [] (suc m) h = tt
each_taken P (i ∷ l) zero h = tt
each_taken P (i ∷ l) (suc m) h = (h.0, each_taken P l m h.1)

-- what the search may ask
pub sorted_there : (B : List GridSegment) (V : List ℕ) (m : ℕ) (status : List ℕ) (next : ℕ) (L : Links) (right : List ℕ) (T : List
    GridSegment) (Y : List ℕ) (t : GridSegment) → AreOfRealm B → AreVertices B V → m ≤ length V → AreOthers B T
    → IsSwept B (wall_before V m) status next L right T Y → length Y < length T → t ≡ numbered T (length Y) → column_of t.a < bound_at V m
    → Pairs (λ i j. IsUnderBegin (numbered B j) t → IsUnderBegin (numbered B i) t) status
sorted_there B V m status next L right T Y t r vs l o s h e to =
    let k = length Y in
    under_sorted B t status r (subst (λ (u : GridSegment). u.a.y < grid_side) (sym e) (o.on_grid k h).1)
    (subst (λ (u : GridSegment). IsOther (length B) (sheared_number B) (sheared grid_side u)) (sym e) (o.other k h))
    (all_at B V m t status r vs l
    (subst (λ (u : GridSegment). IfWall (λ c. c ≤ column_of u.a) (wall_before V m)) (sym e) (s.asked.later k (omega arith) h)) to
    s.here) s.here.sorted

-- one more label is known
pub asking_more : (B : List GridSegment) (V : List ℕ) (m : ℕ) (status : List ℕ) (next : ℕ) (L : Links) (right : List ℕ) (first list : List
    GridSegment) (Y Y' : List ℕ) (t : GridSegment) (k y : ℕ) → AreOfRealm B → AreVertices B V → m ≤ length V → AreOthers B first
    → IsAsking B V m status next L right first list Y → length Y < length list → t ≡ numbered list (length Y) → column_of t.a < bound_at V m
    → Each (λ i. IsUnderBegin (numbered B i) t) (take k status) → Each (λ i. IsUnderBegin (numbered B i) t → ⊥) (drop k status)
    → y ≡ label_over 0 (take k status) → Y' ≡ Y ++ y ∷ []
    → IsAsking B V m status next L right first list Y'
asking_more B V m status next L right first list Y Y' t k y r vs l o a h e to below others found ey =
    let s = a.swept in
    let n = length Y in
    let short : n < length first = subst (λ (T : List GridSegment). n < length T) a.same h in
    let e' : t ≡ numbered first n = e ∙ ap (λ (T : List GridSegment). numbered T n) a.same in
    let low = subst (λ (u : GridSegment). u.a.y < grid_side) (sym e') (o.on_grid n short).1 in
    let other = subst (λ (u : GridSegment). IsOther (length B) (sheared_number B) (sheared grid_side u)) (sym e') (o.other n short) in
    let from = subst (λ (u : GridSegment). IfWall (λ c. c ≤ column_of u.a) (wall_before V m)) (sym e')
    (s.asked.later n (omega arith) short) in
    let q = asked_now B s.steps (wall_before V m) status t k r low other s.chain from
    (all_at B V m t status r vs l from to s.here) below others in
    let q' : IsAsked B s.steps (numbered first n) y = subst (IsAsked B s.steps (numbered first n)) (sym found)
    (subst (λ (u : GridSegment). IsAsked B s.steps u (label_over 0 (take k status))) e' q) in
    let small : y ≤ length B = subst (λ (x : ℕ). x ≤ length B) (sym found)
    (label_up_to (length B) 0 (take k status) (omega arith) (each_taken (λ i. i < length B) status k s.here.number)) in
    subst (IsAsking B V m status next L right first list) (sym ey) (record {
      same = a.same;
      swept = swept_more B (wall_before V m) status next L right first Y y s short q' small;
      due = λ j b. due j (parts_below j n (omega (arith, b, count_pushed Y y)));
    })
  where
    due : (j : ℕ) → (j < length Y) ⊎ (j ≡ length Y) → column_of (numbered first j).a < bound_at V m
    due j (inl b) = a.due j b
    due j (inr b) = subst (λ (i : ℕ). column_of (numbered first i).a < bound_at V m) (sym b)
        (subst (λ (u : GridSegment). column_of u.a < bound_at V m) (e ∙ ap (λ (T : List GridSegment). numbered T (length Y)) a.same) to)

-- no more are due
pub rest_later : (T : List GridSegment) (m c : ℕ) → AreAscending T → (m < length T → c ≤ column_of (numbered T m).a) → AreLater T m c
rest_later T m c a h k l g = let x = a m k l g in let y = h (omega (arith, l, g)) in omega (arith, x, y)

-- ---- from vertex to vertex
-- what the loop over the vertices keeps
pub record IsPassing (B : List GridSegment) (V : List ℕ) (m : ℕ) (status : List ℕ) (next : ℕ) (L : Links) (right : List ℕ)
    (first list : List GridSegment) (Y : List ℕ) : Type 0 where
  pub same : list ≡ first
  pub swept : IsSwept B (wall_before V m) status next L right first Y
  pub early : (k : ℕ) → k < length Y → HasWall (λ c. column_of (numbered first k).a < c) (wall_before V m)

pub due_before : (B : List GridSegment) (V : List ℕ) (m : ℕ) (T : List GridSegment) (n : ℕ) → AreOfRealm B → AreVertices B V → m ≤ length V
    → ((k : ℕ) → k < n → HasWall (λ c. column_of (numbered T k).a < c) (wall_before V m)) → AreDue T n (bound_at V m)
due_before B V zero T n r vs l h k a = absurd (h k a)
due_before B V (suc m) T n r vs l h k a = elim (natural_order (length V) (suc m)) [
  | inr b ↦ let e = bound_read V (suc m) b in let f = rises V m (suc m) vs.ascending (omega arith) b in let g = h k a in omega
      (arith, e, f, g)
  | inl b ↦ let e = bound_none V (suc m) b in let f = vertex_fits B V m r vs (omega (arith, l)) in let g = h k a in omega (arith, e, f, g)
]

pub passing_on : (B : List GridSegment) (V : List ℕ) (m : ℕ) (status : List ℕ) (next : ℕ) (L : Links) (right : List ℕ) (first list : List
    GridSegment) (Y : List ℕ) → m < length V → list ≡ first → IsSwept B (wall_before V (suc m)) status next L right first Y → AreDue first
    (length Y) (bound_at V m)
    → IsPassing B V (m + 1) status next L right first list Y
passing_on B V m status next L right first list Y l e s d =
    let f : suc m ≡ m + 1 = omega arith in
    subst (λ (n : ℕ). IsPassing B V n status next L right first list Y) f
    (record {
      same = e;
      swept = s;
      early = λ k h. subst (λ (c : ℕ). column_of (numbered first k).a < c) (sym (bound_read V m l))
          (d k h);
    })

-- ---- what was read
pub read_segment : (T : List GridSegment) (n k : ℕ) (t : GridSegment) → n < length T → k ≡ n → t ≡ get_or T k t → t ≡ numbered T n
read_segment T n k t h e g = sym (segment_read T n t h (g ∙ ap (λ (i : ℕ). get_or T i t) e))

pub due_column : (t s : GridSegment) (p : GridPoint) (c b bound : ℕ) → t ≡ s → p ≡ s.a → c ≡ column_of p → c < b → b ≡ bound
    → column_of t.a < bound
due_column t s p c b bound e f g l h = let k : column_of t.a ≡ c = ap (λ (u : GridSegment). column_of u.a) e ∙ ap column_of (sym f)
    ∙ sym g in omega (arith, k, l, h)

-- what is read at the place of the next answer is asked for next, and is due where the column that was read there is
pub due_next : (V : List ℕ) (m : ℕ) (list : List GridSegment) (n : ℕ) (tested read : GridSegment) (i k : ℕ) (p : GridPoint) (c b : ℕ)
    → n < length list → i ≡ n → tested ≡ get_or list i tested → p ≡ (get_or list i tested).a → c ≡ column_of p → c < b
    → b ≡ bound_at V m → k ≡ n → read ≡ get_or list k read
    → (get_or list k read ≡ numbered list n) × (column_of (get_or list k read).a < bound_at V m)
due_next V m list n tested read i k p c b short at is end column due bound again same =
    let now : tested ≡ numbered list n = read_segment list n i tested short at is in
    let next : get_or list k read ≡ numbered list n = sym same ∙ read_segment list n k read short again same in (
      next,
      due_column (get_or list k read) tested p c b (bound_at V m) (next ∙ sym now)
          (end ∙ ap (λ (u : GridSegment). u.a) (sym is)) column due bound,
    )

pub late_column : (s t : GridSegment) (p : GridPoint) (c b bound : ℕ) → s ≡ t → p ≡ s.a → c ≡ column_of p → b ≤ c → b ≡ bound
    → bound ≤ column_of t.a
late_column s t p c b bound e f g l h = let k : column_of t.a ≡ c = ap (λ (u : GridSegment). column_of u.a) (sym e) ∙ ap column_of (sym f)
    ∙ sym g in omega (arith, k, l, h)

pub first_passing : (B : List GridSegment) (V : List ℕ) (status : List ℕ) (next : ℕ) (L : Links) (right : List ℕ) (first list : List
    GridSegment) (Y : List ℕ) → list ≡ first → Y ≡ [] → IsSwept B (wall_before V 0) status next L right first Y
    → IsPassing B V 0 status next L right first list Y
first_passing B V status next L right first list Y e y s = record { same = e; swept = s; early = λ k h. absurd (none Y y k h) }
  where
    none : (Y : List ℕ) → Y ≡ [] → (k : ℕ) → k < length Y → ⊥
    none Y y k h = let f = ap (λ (l : List ℕ). length l) y in omega (arith, h, f)

-- ---- from clause to clause
pub due_of : (T U : List GridSegment) (V W X : List ℕ) (m n : ℕ) → U ≡ T → W ≡ V → X ≡ V → m < length V → AreDue T n (bound_at W m)
    → AreDue U n (slice_index X m)
due_of T U V W X m n e f g l h k a =
    let b = h k a in
    let c : bound_at W m ≡ slice_index X m = ap (λ (l : List ℕ). bound_at l m) f ∙ sym (bound_read V m l) ∙ ap
    (λ (l : List ℕ). slice_index l m) (sym g) in
    let d = subst (λ (S : List GridSegment). column_of (numbered S k).a < bound_at W m) (sym e) b in omega (arith, c, d)

pub later_of : (T U : List GridSegment) (V W X : List ℕ) (m n : ℕ) → U ≡ T → W ≡ V → X ≡ V → m < length V → AreLater T n (bound_at W m)
    → AreLater U n (slice_index X m)
later_of T U V W X m n e f g l h k a b =
    let i : k < length T = subst (λ (S : List GridSegment). k < length S) e b in
    let j = h k a i in
    let c : bound_at W m ≡ slice_index X m = ap (λ (l : List ℕ). bound_at l m) f ∙ sym (bound_read V m l) ∙ ap
    (λ (l : List ℕ). slice_index l m) (sym g) in
    let d = subst (λ (S : List GridSegment). bound_at W m ≤ column_of (numbered S k).a) (sym e) j in omega (arith, c, d)

-- behind the last vertex all are asked
pub all_asked : (B : List GridSegment) (V : List ℕ) (m : ℕ) (T : List GridSegment) (n : ℕ) → AreOthers B T → length V ≤ m → n ≤ length T
    → AreLater T n (bound_at V m) → n ≡ length T
all_asked B V m T n o h l later = elim (natural_order (length T) n) [
  | inl a ↦ omega (arith, a, l)
  | inr a ↦ let g = o.on_grid n a in let b = later n (omega arith) a in let e = bound_none V m h in absurd
      (far (numbered T n).a g.0 g.1 (omega (arith, b, e)))
]
  where
    far : (p : GridPoint) → p.x < grid_side → p.y < grid_side → side_bound ≤ column_of p → ⊥
    far p h k l = omega (arith, h, k, l)
