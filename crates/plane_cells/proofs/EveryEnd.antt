-- This file shows that of the segments that begin or end at a point an even number divides.
use Rattle.std.proofs.Common.{◌≡◌, ℕ, ◌<◌, ◌≤◌, Bool, true, false, ◌&&◌, List, [], ◌∷◌, ◌++◌, pos, ◌<ℤ◌, sym, ap, subst, ◌∙◌}
use Rattle.std.proofs.Common.{refl, arith, inl, inr}
use Rattle.grid_base.specs.Point.{GridPoint}
use Rattle.grid_base.specs.Segment.{GridSegment, IsEnd}
use Rattle.grid_base.specs.Plane.{side_number_at}
use Rattle.grid_base.proofs.Signs.{above_not_zero, below_not_zero, three_ways}
use Rattle.plane_classes.proofs.Parities.{xor, par, xor_same, and_none}
use Rattle.linked_parts.specs.Parts.{Links}
use Rattle.plane_cells.specs.Steps.{Step, before, after, In, Each, Pairs, link, HaveRights}
use Rattle.plane_cells.specs.Order.{at_point, IsFurtherDown}
use Rattle.plane_cells.specs.Walks.{Bound, None, Wall, IfWall, IsAcross, Lies, Across, Ahead, Past, Walk}
use Rattle.plane_cells.proofs.Walks.{Position}
use Rattle.plane_cells.proofs.Lists.{each_at, in_cases}
use Rattle.plane_cells.proofs.Statuses.{pairs_left, pairs_right}
use Rattle.plane_cells.proofs.AtVertices.{AreNumbers}
use Rattle.plane_cells.proofs.Complete.{first_wall, walk_status, step_numbers}
use Rattle.plane_cells.proofs.Sound.{wall_ahead}
use Rattle.plane_cells.proofs.Beside.{AreRight, AreAmong, right_behind}
use Rattle.plane_cells.proofs.VertexParts.{zero_end}
use Rattle.plane_cells.proofs.ColumnChanges.{Respects, respected, divides, even_at_vertex}
use Rattle.plane_cells.proofs.StatusCounts.{par_below, both, counted_in_status}
use Rattle.plane_cells.proofs.ColumnParity.{distinct}

-- ---- a step has all segments that begin or end at its vertex
off_vertex : (seg : ℕ → GridSegment) (k : Step) (i : ℕ) (A E C : List ℕ) → Each (λ j. pos 0 <ℤ side_number_at (seg j) (at_point k.vertex)) A
    → Each (λ j. side_number_at (seg j) (at_point k.vertex) <ℤ pos 0) C → IsEnd k.vertex (seg i) → In i (A ++ (E ++ C)) → In i E
off_vertex seg k i A E C over under e m = elim (in_cases i A (E ++ C) m) [
  | inl a ↦ absurd (above_not_zero _ (each_at (λ j. pos 0 <ℤ side_number_at (seg j) (at_point k.vertex)) A i over a)
      (zero_end (seg i) k.vertex e))
  | inr b ↦ elim (in_cases i E C b) [
    | inl c ↦ c
    | inr d ↦ absurd (below_not_zero _ (each_at (λ j. side_number_at (seg j) (at_point k.vertex) <ℤ pos 0) C i under d)
        (zero_end (seg i) k.vertex e))
  ]
]

late : (a e v : ℕ) → e ≤ a → v < e → a ≡ v → ⊥
late a e v h k same = omega (arith, h, k, same)

early : (a b v : ℕ) → b ≤ v → a < b → a ≡ v → ⊥
early a b v h k same = omega (arith, h, k, same)

pub all_begin : (B : List GridSegment) (n : ℕ) (seg : ℕ → GridSegment) (lo : Bound) (status : List ℕ) (k : Step) (steps : List Step) (i : ℕ)
    → Position B n seg → Walk n seg lo status (k ∷ steps) → i < n → (seg i).a ≡ k.vertex → In i k.begins
all_begin B n seg lo status k steps i P w hi e =
    go (first_wall steps) (wall_ahead n seg k.vertex.x (after k) steps w.4)
    ((walk_status n seg (Wall k.vertex.x) (after k) steps w.4).others i hi)
  where
    x : (seg i).a.x ≡ k.vertex.x
    x = ap (λ (p : GridPoint). p.x) e

    go : (to : Bound) → IfWall (λ c. k.vertex.x < c) to → Lies seg (Wall k.vertex.x) to (after k) i → In i k.begins
    go to a (Across m) = off_vertex seg k i k.below k.begins k.above w.1.below w.1.above (inl (sym e)) m
    go None a (Ahead m) = absurd m
    go (Wall c) a (Ahead m) = absurd (late (seg i).a.x c k.vertex.x m a x)
    go to a (Past m) = absurd (early (seg i).a.x (seg i).b.x k.vertex.x m (P.slanted i hi) x)

pub all_end : (B : List GridSegment) (n : ℕ) (seg : ℕ → GridSegment) (lo : Bound) (status : List ℕ) (k : Step) (steps : List Step) (i : ℕ)
    → Position B n seg → Walk n seg lo status (k ∷ steps) → i < n → (seg i).b ≡ k.vertex → In i k.ends
all_end B n seg lo status k steps i P w hi e = go lo w.2 (w.3.others i hi)
  where
    x : (seg i).b.x ≡ k.vertex.x
    x = ap (λ (p : GridPoint). p.x) e

    go : (from : Bound) → IfWall (λ c. c < k.vertex.x) from → Lies seg from (Wall k.vertex.x) status i → In i k.ends
    go from a (Across m) = off_vertex seg k i k.below k.ends k.above w.1.below w.1.above (inr (sym e)) (subst (In i) w.0 m)
    go from a (Ahead m) = absurd (late (seg i).a.x (seg i).b.x (seg i).a.x (omega (arith, m, x)) (P.slanted i hi) refl)
    go None a (Past m) = absurd m
    go (Wall c) a (Past m) = absurd (early c (seg i).b.x c m (omega (arith, a, x)) refl)

-- ---- what divides there, counted among all segments
all_pass : (d g : ℕ → Bool) (S : List ℕ) → Each (λ i. g i ≡ true) S → par (λ i. d i && g i) S ≡ par d S
all_pass d g [] h = refl
all_pass d g (i ∷ S) h =
    both (d i && g i) (par (λ i. d i && g i) S) (d i) (par d S) (ap (λ (b : Bool). d i && b) h.0 ∙ and_yes (d i)) (all_pass d g S h.1)
  where
    and_yes : (a : Bool) → (a && true) ≡ a
    and_yes true = refl
    and_yes false = refl

counted : (n : ℕ) (S : List ℕ) (d g : ℕ → Bool) → Pairs (λ i j. i ≡ j → ⊥) S → Each (λ i. i < n) S → Each (λ i. g i ≡ true) S
    → ((i : ℕ) → i < n → (In i S → ⊥) → g i ≡ false) → par_below (λ i. d i && g i) n ≡ par d S
counted n S d g once numbers pass off =
    sym (counted_in_status n S (λ i. d i && g i) once numbers (λ i l m. ap (λ (b : Bool). d i && b) (off i l m) ∙ and_none (d i)))
    ∙ all_pass d g S pass

-- ga tells which segments begin at v, and gb which end there
pub record AreTests (n : ℕ) (seg : ℕ → GridSegment) (v : GridPoint) (ga gb : ℕ → Bool) : Type 0 where
  pub at_a : (i : ℕ) → i < n → (seg i).a ≡ v → ga i ≡ true
  pub off_a : (i : ℕ) → i < n → ((seg i).a ≡ v → ⊥) → ga i ≡ false
  pub at_b : (i : ℕ) → i < n → (seg i).b ≡ v → gb i ≡ true
  pub off_b : (i : ℕ) → i < n → ((seg i).b ≡ v → ⊥) → gb i ≡ false

pub each_passes : (n : ℕ) (P : ℕ → Type 0) (g : ℕ → Bool) (S : List ℕ) → ((i : ℕ) → i < n → P i → g i ≡ true) → Each (λ i. i < n) S → Each P S
    → Each (λ i. g i ≡ true) S
each_passes n P g [] h a b = tt
each_passes n P g (i ∷ S) h a b = (h i a.0 b.0, each_passes n P g S h a.1 b.1)

pub even_at : (B : List GridSegment) (n : ℕ) (seg : ℕ → GridSegment) (L : Links) (right : ℕ → ℕ) (f ga gb : ℕ → Bool) (lo : Bound)
    (status : List ℕ) (k : Step) (steps : List Step) → Position B n seg → Respects L f → AreTests n seg k.vertex ga gb
    → Walk n seg lo status (k ∷ steps) → AreAmong (k ∷ steps) L → HaveRights right (k ∷ steps) → AreRight L right 0 status
    → xor (par_below (λ j. divides f right j && ga j) n) (par_below (λ j. divides f right j && gb j) n) ≡ false
even_at B n seg L right f ga gb lo status k steps P h t w a r u =
    both _ _ _ _ begun ended ∙ both (par d k.begins) (par d k.ends) (par d k.ends) (par d k.ends) (sym same) refl ∙ xor_same (par d k.ends)
  where
    d : ℕ → Bool
    d i = divides f right i

    numbers : AreNumbers n k
    numbers = step_numbers n seg lo status k steps w

    there : AreRight L right 0 (before k)
    there = subst (AreRight L right 0) w.0 u

    same : par d k.ends ≡ par d k.begins
    same = even_at_vertex L right f k.below k.ends k.begins k.above h there (right_behind L right k a.0 r.0 there)
        (respected L f h (link k).0 (link k).1 a.0.0 a.0.1)

    sorted_before : Pairs (IsFurtherDown seg) (before k)
    sorted_before = subst (Pairs (IsFurtherDown seg)) w.0 w.3.sorted

    sorted_after : Pairs (IsFurtherDown seg) (after k)
    sorted_after = (walk_status n seg (Wall k.vertex.x) (after k) steps w.4).sorted

    once : (A E C : List ℕ) → Pairs (IsFurtherDown seg) (A ++ (E ++ C)) → Pairs (λ i j. i ≡ j → ⊥) E
    once A E C s = distinct seg E (pairs_left (IsFurtherDown seg) E C (pairs_right (IsFurtherDown seg) A (E ++ C) s))

    begun : par_below (λ j. d j && ga j) n ≡ par d k.begins
    begun = counted n k.begins d ga (once k.below k.begins k.above sorted_after) numbers.begins
        (each_passes n (λ i. (seg i).a ≡ k.vertex) ga k.begins t.at_a numbers.begins w.1.begins)
        (λ i l m. t.off_a i l (λ e. m (all_begin B n seg lo status k steps i P w l e)))

    ended : par_below (λ j. d j && gb j) n ≡ par d k.ends
    ended = counted n k.ends d gb (once k.below k.ends k.above sorted_before) numbers.ends
        (each_passes n (λ i. (seg i).b ≡ k.vertex) gb k.ends t.at_b numbers.ends w.1.ends)
        (λ i l m. t.off_b i l (λ e. m (all_end B n seg lo status k steps i P w l e)))

-- ---- each end is the vertex of a step
end_column : (s : GridSegment) (v : GridPoint) → s.a.x < s.b.x → IsEnd v s → (s.a.x ≤ v.x) × (v.x ≤ s.b.x)
end_column s v o (inl e) = let f = ap (λ (p : GridPoint). p.x) e in (omega (arith, f), omega (arith, f, o))
end_column s v o (inr e) = let f = ap (λ (p : GridPoint). p.x) e in (omega (arith, f, o), omega (arith, f))

-- no end behind the wall lies before the next wall, and none behind the last
pub not_before : (n : ℕ) (seg : ℕ → GridSegment) (lo hi : Bound) (status : List ℕ) (v : GridPoint) (i : ℕ) → (seg i).a.x < (seg i).b.x
    → IsEnd v (seg i) → IfWall (λ c. c < v.x) lo → IfWall (λ e. v.x < e) hi → Each (IsAcross n seg lo hi) status → Lies seg lo hi status i
    → ⊥
not_before n seg None hi status v i o e l h a (Across m) = (each_at (IsAcross n seg None hi) status i a m).from
not_before n seg (Wall c) None status v i o e l h a (Across m) = (each_at (IsAcross n seg (Wall c) None) status i a m).to
not_before n seg (Wall c) (Wall d) status v i o (inl e) l h a (Across m) =
    let p = each_at (IsAcross n seg (Wall c) (Wall d)) status i a m in
    early c (seg i).a.x c p.from (omega (arith, l, ap (λ (p : GridPoint). p.x) e)) refl
not_before n seg (Wall c) (Wall d) status v i o (inr e) l h a (Across m) =
    let p = each_at (IsAcross n seg (Wall c) (Wall d)) status i a m in
    late (seg i).b.x d v.x p.to h (sym (ap (λ (p : GridPoint). p.x) e))
not_before n seg lo None status v i o e l h a (Ahead m) = m
not_before n seg lo (Wall d) status v i o e l h a (Ahead m) = let c = end_column (seg i) v o e in late v.x d v.x
    (omega (arith, m, c.0)) h refl
not_before n seg None hi status v i o e l h a (Past m) = m
not_before n seg (Wall c) hi status v i o e l h a (Past m) = let d = end_column (seg i) v o e in early c v.x c
    (omega (arith, m, d.1)) l refl

pub even_end : (B : List GridSegment) (n : ℕ) (seg : ℕ → GridSegment) (L : Links) (right : ℕ → ℕ) (f ga gb : ℕ
    → Bool) (v : GridPoint) (i : ℕ)
    → Position B n seg → Respects L f → AreTests n seg v ga gb → i < n → IsEnd v (seg i)
    → (lo : Bound) (status : List ℕ) (steps : List Step)
    → Walk n seg lo status steps → AreAmong steps L → HaveRights right steps → AreRight L right 0 status → IfWall (λ c. c < v.x) lo
    → xor (par_below (λ j. divides f right j && ga j) n) (par_below (λ j. divides f right j && gb j) n) ≡ false
even_end B n seg L right f ga gb v i P h t hi e lo status [] w a r u l =
    absurd (not_before n seg lo None status v i (P.slanted i hi) e l tt w.across (w.others i hi))
even_end B n seg L right f ga gb v i P h t hi e lo status (k ∷ steps) w a r u l = elim (three_ways v.x k.vertex.x) [
  | inl less ↦ absurd (not_before n seg lo (Wall k.vertex.x) status v i (P.slanted i hi) e l less w.3.across (w.3.others i hi))
  | inr o ↦ elim o [
    | inl same ↦
        let p = w.1.vertex in
        let at : v ≡ k.vertex = P.columns i p.0 v k.vertex hi p.1 e p.2 same in
        even_at B n seg L right f ga gb lo status k steps P h (subst (λ (x : GridPoint). AreTests n seg x ga gb) at t) w a r u
    | inr more ↦ even_end B n seg L right f ga gb v i P h t hi e (Wall k.vertex.x) (after k) steps w.4 a.1 r.1
        (right_behind L right k a.0 r.0 (subst (AreRight L right 0) w.0 u)) more
  ]
]
