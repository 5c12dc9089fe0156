-- This file shows that a sweep goes over all segments in a position without vertical ones, from the first vertex to the last.
use Rattle.std.proofs.Common.{◌≡◌, ◌⊎◌, ℕ, zero, suc, ◌+◌, ◌<◌, ◌≤◌, List, [], ◌∷◌, refl, sym, subst, arith, inr}
use Rattle.grid_base.specs.Point.{GridPoint}
use Rattle.grid_base.specs.Segment.{GridSegment}
use Rattle.plane_cells.specs.Steps.{Step, before, after}
use Rattle.plane_cells.specs.Walks.{Bound, None, Wall, IfWall, HasWall, IsStatus, IsStep, Walk, IsHere}
use Rattle.plane_cells.proofs.Walks.{Position, IsNextVertex, IsTurn}
use Rattle.plane_cells.proofs.Statuses.{slab_status}
use Rattle.plane_cells.proofs.Chains.{last_status}
use Rattle.plane_cells.proofs.Next.{here_behind}
use Rattle.class_borders.proofs.Fans.{IsOnce, each_from, fan_of}
use Rattle.class_borders.proofs.Splits.{split}
use Rattle.class_borders.proofs.FirstEnds.{NoneBehind, FirstBehind, IsEndBelow, first_end}

-- the steps of a sweep from the wall on
pub record IsWalked (n : ℕ) (seg : ℕ → GridSegment) (lo : Bound) (status : List ℕ) : Type 0 where
  pub steps : List Step
  pub walk : Walk n seg lo status steps

-- the first column behind the wall
abbrev from_wall : Bound → ℕ
from_wall None = 0
from_wall (Wall c) = suc c

-- ---- one step
record IsStepped (n : ℕ) (seg : ℕ → GridSegment) (lo : Bound) (status : List ℕ) (v : GridPoint) : Type 0 where
  step : Step
  vertex : step.vertex ≡ v
  was : status ≡ before step
  is_step : IsStep n seg step
  status_is : IsStatus n seg lo (Wall v.x) status
  here : IsHere n seg (Wall v.x) (after step)

stepped : (B : List GridSegment) (n : ℕ) (seg : ℕ → GridSegment) (lo : Bound) (status : List ℕ) (v : GridPoint) → Position B n seg
    → IsOnce n seg → IsHere n seg lo status → IsNextVertex n seg lo v → IsStepped n seg lo status v
stepped B n seg lo status v P once here next =
    let st = slab_status n seg lo v status here next in
    let parts = split B n seg lo v status P next.vertex next.later st.across st.sorted in
    let fan = fan_of B n seg v n P once (omega arith) in
    let k : Step = record { vertex = v; below = parts.A; ends = parts.E; begins = fan.0; above = parts.C } in
    let step : IsStep n seg k = record {
      vertex = next.vertex;
      below = parts.below;
      ends = parts.ends;
      begins = each_from (λ i. (seg i).a ≡ v) fan.0 (λ i m. (fan.1.only i m).1);
      above = parts.above;
    } in
    let turn : IsTurn n seg k = record {
      step = step;
      numbers = each_from (λ i. i < n) fan.0 (λ i m. (fan.1.only i m).0);
      all = fan.1.all;
      fan = fan.1.fan;
    } in
    record {
      step = k;
      vertex = refl;
      was = parts.is;
      is_step = step;
      status_is = st;
      here = here_behind B n seg lo k status P here next parts.is turn;
    }

next_of : (n : ℕ) (seg : ℕ → GridSegment) (lo : Bound) (v : GridPoint) → IsEndBelow seg n v → IfWall (λ c. c < v.x) lo
    → ((p : GridPoint) → IsEndBelow seg n p → HasWall (λ c. p.x ≤ c) lo ⊎ (v.x ≤ p.x)) → IsNextVertex n seg lo v
next_of n seg lo v m l h = record { vertex = m; later = l; none_between = λ i p hi e. h p (i, hi, e) }

-- the wall moves on
stays_below : (lo : Bound) (v p g : ℕ) → IfWall (λ c. c < v) lo → p < from_wall lo + suc g → p < suc v + g
stays_below None v p g l h = omega (arith, h)
stays_below (Wall c) v p g l h = let k : c < v = l in omega (arith, h, k)

none_left : (lo : Bound) (v : ℕ) → IfWall (λ c. c < v) lo → v < from_wall lo + 0 → ⊥
none_left None v l h = omega (arith, h)
none_left (Wall c) v l h = let k : c < v = l in omega (arith, h, k)

no_more : (n : ℕ) (seg : ℕ → GridSegment) (lo : Bound) (status : List ℕ) → IsHere n seg lo status
    → ((p : GridPoint) → IsEndBelow seg n p → HasWall (λ c. p.x ≤ c) lo) → IsWalked n seg lo status
no_more n seg lo status here h =
    record { steps = []; walk = last_status n seg lo status here (λ i l. h (seg i).b (i, l, inr refl)) }

one_more : (n : ℕ) (seg : ℕ → GridSegment) (lo : Bound) (status : List ℕ) (v : GridPoint) → IfWall (λ c. c < v.x) lo
    → (s : IsStepped n seg lo status v) → IsWalked n seg (Wall v.x) (after s.step) → IsWalked n seg lo status
one_more n seg lo status v l s rest = record {
  steps = s.step ∷ rest.steps;
  walk = (
    s.was,
    s.is_step,
    subst (λ (u : GridPoint). IfWall (λ c. c < u.x) lo) (sym s.vertex) l,
    subst (λ (u : GridPoint). IsStatus n seg lo (Wall u.x) status) (sym s.vertex) s.status_is,
    subst (λ (u : GridPoint). Walk n seg (Wall u.x) (after s.step) rest.steps) (sym s.vertex) rest.walk,
  );
}

pub walked : (B : List GridSegment) (n : ℕ) (seg : ℕ → GridSegment) → Position B n seg → IsOnce n seg → (g : ℕ) (lo : Bound)
    (status : List ℕ) → IsHere n seg lo status → ((p : GridPoint) → IsEndBelow seg n p → p.x < from_wall lo + g) → IsWalked n seg lo status
walked B n seg P once zero lo status here bound = elim (first_end seg lo n) [
  | NoneBehind h ↦ no_more n seg lo status here h
  | FirstBehind v m l h ↦ absurd (none_left lo v.x l (bound v m))
]
walked B n seg P once (suc g) lo status here bound = elim (first_end seg lo n) [
  | NoneBehind h ↦ no_more n seg lo status here h
  | FirstBehind v m l h ↦
      let s = stepped B n seg lo status v P once here (next_of n seg lo v m l h) in
      one_more n seg lo status v l s
      (walked B n seg P once g (Wall v.x) (after s.step) s.here (λ p e. stays_below lo v.x p.x g l (bound p e)))
]
