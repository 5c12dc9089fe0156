-- This file shows that round a vertex as many segments come in as go out, where each has what passes a test on its left alone.
use Rattle.std.proofs.Common.{◌≡◌, ℕ, suc, ◌+◌, ◌<◌, Bool, true, false, not, ◌&&◌, List, [], ◌∷◌, ◌++◌, refl, sym, ap, subst, ◌∙◌}
use Rattle.std.proofs.Common.{arith, inl, inr}
use Rattle.grid_base.specs.Point.{GridPoint}
use Rattle.grid_base.specs.Segment.{GridSegment, IsEnd}
use Rattle.grid_base.proofs.Signs.{three_ways}
use Rattle.linked_parts.specs.Parts.{Links}
use Rattle.plane_cells.specs.Order.{IsFurtherDown}
use Rattle.plane_cells.specs.Steps.{Step, before, after, Pairs, link, label_over, HaveRights}
use Rattle.plane_cells.specs.Walks.{Bound, None, Wall, IfWall, Walk}
use Rattle.plane_cells.proofs.Walks.{Position}
use Rattle.plane_cells.proofs.Labels.{over_joined}
use Rattle.plane_cells.proofs.Statuses.{pairs_left, pairs_right}
use Rattle.plane_cells.proofs.AtVertices.{AreNumbers}
use Rattle.plane_cells.proofs.Beside.{AreRight, AreAmong, right_first, right_last, right_behind}
use Rattle.plane_cells.proofs.ColumnChanges.{Respects, respected}
use Rattle.plane_cells.proofs.ColumnParity.{distinct}
use Rattle.plane_cells.proofs.Complete.{walk_status, step_numbers}
use Rattle.plane_cells.proofs.EveryEnd.{AreTests, all_begin, all_end, each_passes, not_before}
use Rattle.class_borders.proofs.Tallies.{one, tally, tally_below, tallied_where}

-- f holds over segment i and not under it
abbrev pub rises : (ℕ → Bool) → (ℕ → ℕ) → ℕ → Bool
rises f right i = f (suc i) && not (f (right i))

-- f holds under segment i and not over it
abbrev pub falls : (ℕ → Bool) → (ℕ → ℕ) → ℕ → Bool
falls f right i = f (right i) && not (f (suc i))

balance : (a b c : Bool) (m n : ℕ) → m + one a ≡ n + one c → one (a && not b) + m + one b ≡ one (b && not a) + n + one c
balance true true c m n h = omega (arith, h)
balance true false c m n h = omega (arith, h)
balance false true c m n h = omega (arith, h)
balance false false c m n h = omega (arith, h)

-- from the label under the list to the one over it
changes_up : (L : Links) (right : ℕ → ℕ) (f : ℕ → Bool) (d : ℕ) (C : List ℕ) → Respects L f → AreRight L right d C
    → tally (rises f right) C + one (f d) ≡ tally (falls f right) C + one (f (label_over d C))
changes_up L right f d [] h r = refl
changes_up L right f d (i ∷ C) h r =
    let e = ap (λ (b : Bool). one b) (respected L f h (right i) d r.0.0 r.0.1) in
    let rest = changes_up L right f (suc i) C h r.1 in
    let all = balance (f (suc i)) (f (right i)) (f (label_over (suc i) C)) (tally (rises f right) C) (tally (falls f right) C) rest in
    omega (arith, e, all)

-- round a vertex
round_vertex : (L : Links) (right : ℕ → ℕ) (f : ℕ → Bool) (A E N C : List ℕ) → Respects L f → AreRight L right 0 (A ++ (E ++ C))
    → AreRight L right 0 (A ++ (N ++ C)) → f (label_over 0 (A ++ E)) ≡ f (label_over 0 (A ++ N))
    → tally (rises f right) E + tally (falls f right) N ≡ tally (falls f right) E + tally (rises f right) N
round_vertex L right f A E N C h r s e =
    let up_E = changes_up L right f (label_over 0 A) E h (first E (right_last L right 0 A (E ++ C) r)) in
    let up_N = changes_up L right f (label_over 0 A) N h (first N (right_last L right 0 A (N ++ C) s)) in
    let same = ap (λ (b : Bool). one b) (ap f (sym (over_joined 0 A E)) ∙ e ∙ ap f (over_joined 0 A N)) in
    omega (arith, up_E, up_N, same)
  where
    first : (B : List ℕ) → AreRight L right (label_over 0 A) (B ++ C) → AreRight L right (label_over 0 A) B
    first B h = right_first L right (label_over 0 A) B C h

-- as many come in as go out
abbrev pub IsBalanced : ℕ → (ℕ → Bool) → (ℕ → Bool) → (ℕ → Bool) → (ℕ → Bool) → Type 0
IsBalanced n up down ga gb =
    tally_below (λ j. up j && gb j) n + tally_below (λ j. down j && ga j) n
    ≡ tally_below (λ j. down j && gb j) n + tally_below (λ j. up j && ga j) n

balanced_at : (B : List GridSegment) (n : ℕ) (seg : ℕ → GridSegment) (L : Links) (right : ℕ → ℕ) (f ga gb : ℕ → Bool) (lo : Bound)
    (status : List ℕ) (k : Step) (steps : List Step) → Position B n seg → Respects L f → AreTests n seg k.vertex ga gb
    → Walk n seg lo status (k ∷ steps) → AreAmong (k ∷ steps) L → HaveRights right (k ∷ steps) → AreRight L right 0 status
    → IsBalanced n (rises f right) (falls f right) ga gb
balanced_at B n seg L right f ga gb lo status k steps P h t w a r u =
    let all = round_vertex L right f k.below k.ends k.begins k.above h there (right_behind L right k a.0 r.0 there)
    (respected L f h (link k).0 (link k).1 a.0.0 a.0.1) in
    omega (arith, all, begun (rises f right), begun (falls f right), ended (rises f right), ended (falls f right))
  where
    numbers : AreNumbers n k
    numbers = step_numbers n seg lo status k steps w

    there : AreRight L right 0 (before k)
    there = subst (AreRight L right 0) w.0 u

    sorted_before : Pairs (IsFurtherDown seg) (before k)
    sorted_before = subst (Pairs (IsFurtherDown seg)) w.0 w.3.sorted

    sorted_after : Pairs (IsFurtherDown seg) (after k)
    sorted_after = (walk_status n seg (Wall k.vertex.x) (after k) steps w.4).sorted

    once : (A E C : List ℕ) → Pairs (IsFurtherDown seg) (A ++ (E ++ C)) → Pairs (λ i j. i ≡ j → ⊥) E
    once A E C s = distinct seg E (pairs_left (IsFurtherDown seg) E C (pairs_right (IsFurtherDown seg) A (E ++ C) s))

    begun : (d : ℕ → Bool) → tally_below (λ j. d j && ga j) n ≡ tally d k.begins
    begun d = tallied_where n k.begins d ga (once k.below k.begins k.above sorted_after) numbers.begins
        (each_passes n (λ i. (seg i).a ≡ k.vertex) ga k.begins t.at_a numbers.begins w.1.begins)
        (λ i l m. t.off_a i l (λ e. m (all_begin B n seg lo status k steps i P w l e)))

    ended : (d : ℕ → Bool) → tally_below (λ j. d j && gb j) n ≡ tally d k.ends
    ended d = tallied_where n k.ends d gb (once k.below k.ends k.above sorted_before) numbers.ends
        (each_passes n (λ i. (seg i).b ≡ k.vertex) gb k.ends t.at_b numbers.ends w.1.ends)
        (λ i l m. t.off_b i l (λ e. m (all_end B n seg lo status k steps i P w l e)))

-- ---- each end is the vertex of a step
pub balanced_end : (B : List GridSegment) (n : ℕ) (seg : ℕ → GridSegment) (L : Links) (right : ℕ → ℕ) (f ga gb : ℕ → Bool)
    (v : GridPoint) (i : ℕ) → Position B n seg → Respects L f → AreTests n seg v ga gb → i < n → IsEnd v (seg i)
    → (lo : Bound) (status : List ℕ) (steps : List Step) → Walk n seg lo status steps → AreAmong steps L → HaveRights right steps
    → AreRight L right 0 status → IfWall (λ c. c < v.x) lo → IsBalanced n (rises f right) (falls f right) ga gb
balanced_end B n seg L right f ga gb v i P h t hi e lo status [] w a r u l =
    absurd (not_before n seg lo None status v i (P.slanted i hi) e l tt w.across (w.others i hi))
balanced_end B n seg L right f ga gb v i P h t hi e lo status (k ∷ steps) w a r u l = elim (three_ways v.x k.vertex.x) [
  | inl less ↦ absurd (not_before n seg lo (Wall k.vertex.x) status v i (P.slanted i hi) e l less w.3.across (w.3.others i hi))
  | inr o ↦ elim o [
    | inl same ↦
        let p = w.1.vertex in
        let at : v ≡ k.vertex = P.columns i p.0 v k.vertex hi p.1 e p.2 same in
        balanced_at B n seg L right f ga gb lo status k steps P h (subst (λ (x : GridPoint). AreTests n seg x ga gb) at t) w a r u
    | inr more ↦ balanced_end B n seg L right f ga gb v i P h t hi e (Wall k.vertex.x) (after k) steps w.4 a.1 r.1
        (right_behind L right k a.0 r.0 (subst (AreRight L right 0) w.0 u)) more
  ]
]
