-- This file shows that points that lead from end to end of a segment, and never turn back, stay in its box.
use Rattle.std.proofs.Common.{◌≡◌, ◌≤◌, ℕ, suc, ◌<◌, length, get_or, inl, inr, List, [], ◌∷◌, All, ap, subst, sym, arith}
use Rattle.std.proofs.lemmas.List.Elements.{All-cons, All-nil}
use Rattle.grid_base.specs.Point.{GridPoint, InBox}
use Rattle.grid_base.specs.Segment.{GridSegment}
use Rattle.grid_base.proofs.Turns.{in_order}
use Rattle.hook_chain.specs.Chains.{AllLinks, RunsFrom}
use Rattle.hook_chain.specs.ValidChain.{IsMonotone}
use Rattle.chain_laws.specs.Courses.{IsCourse}
use Rattle.chain_laws.proofs.Progress.{IsPast, past, past_first, begins}

-- v lies before o.b, as o leads
record IsShort (o : GridSegment) (v : GridPoint) : Type 0 where
  pub left : v.x ≤ o.b.x
  pub below : o.a.y ≤ o.b.y → v.y ≤ o.b.y
  pub above : o.b.y ≤ o.a.y → o.b.y ≤ v.y

short_last : (o : GridSegment) (v : GridPoint) → v ≡ o.b → IsShort o v
short_last o v same =
    let column = ap (λ (p : GridPoint). p.x) same in
    let row = ap (λ (p : GridPoint). p.y) same in
    record { left = omega arith; below = λ rising. omega arith; above = λ falling. omega arith }

-- what leads on to such a point is one
short : (o : GridSegment) (v w : GridPoint) → IsShort o w → IsMonotone o.a o.b v w → IsShort o v
short o v w there link = record {
  left = let forth = link.1 in let to = there.left in omega arith;
  below = λ rising. let up = link.2 rising in let to = there.below rising in omega arith;
  above = λ falling. let down = link.3 falling in let to = there.above falling in omega arith;
}

-- between the two is the box
boxed : (o : GridSegment) (v : GridPoint) → IsPast o v → IsShort o v → InBox o.a o.b v
boxed o v from to =
    let right = from.right in
    let left = to.left in
    elim (in_order o.a.y o.b.y) [
      | inl rising ↦
          let up = from.above rising in
          let down = to.below rising in
          ((omega arith, omega arith), (omega arith, omega arith))
      | inr falling ↦
          let down = from.below falling in
          let up = to.above falling in
          ((omega arith, omega arith), (omega arith, omega arith))
    ]

-- so the rest of the way is in it
rest_in_box : (o : GridSegment) (a v : GridPoint) (points : List GridPoint) → IsPast o v → RunsFrom a o.b (v ∷ points)
    → AllLinks (IsMonotone o.a o.b) (v ∷ points) → IsShort o v × All (InBox o.a o.b) (v ∷ points)
rest_in_box o a v [] from leads links =
    let to = short_last o v leads.1 in
    (to, All-cons (InBox o.a o.b) v [] (boxed o v from to) (All-nil (InBox o.a o.b)))
rest_in_box o a v (w ∷ points) from leads links =
    let rest = rest_in_box o w w points (past o v w from links.0) leads.1 links.1 in
    let to = short o v w rest.0 links.0 in
    (to, All-cons (InBox o.a o.b) v (w ∷ points) (boxed o v from to) rest.1)

points_in_box : (o : GridSegment) (points : List GridPoint) → RunsFrom o.a o.b points → AllLinks (IsMonotone o.a o.b) points
    → All (InBox o.a o.b) points
points_in_box o [] leads links = absurd leads
points_in_box o (v ∷ points) leads links =
    (rest_in_box o o.a v points (past_first o v (begins o.a o.b v points leads)) leads links).1

-- so does each point that is read
pub read_in_box : (o : GridSegment) (points : List GridPoint) → IsCourse o points → (i : ℕ) (p : GridPoint)
    → i < length points
    → p ≡ get_or points i p → InBox o.a o.b p
read_in_box o points course i p within is =
    subst (InBox o.a o.b) (sym is) (points_in_box o points course.ends.leads course.monotone i p within)

-- ---- links in the box
-- what a chain of o has at each link: it goes on as o does, and its ends are in the box of o
pub record IsInChain (o : GridSegment) (v w : GridPoint) : Type 0 where
  pub monotone : IsMonotone o.a o.b v w
  pub first_in_box : InBox o.a o.b v
  pub second_in_box : InBox o.a o.b w

links_between : (o : GridSegment) (points : List GridPoint) → All (InBox o.a o.b) points
    → AllLinks (IsMonotone o.a o.b) points → AllLinks (IsInChain o) points
links_between o [] boxed links = tt
links_between o (v ∷ []) boxed links = tt
links_between o (v ∷ w ∷ points) boxed links = (
  record { monotone = links.0; first_in_box = boxed 0 v (omega arith); second_in_box = boxed 1 w (omega arith) },
  links_between o (w ∷ points) (λ k d within. boxed (suc k) d (omega arith)) links.1,
)

pub links_in_chain : (o : GridSegment) (points : List GridPoint) → RunsFrom o.a o.b points
    → AllLinks (IsMonotone o.a o.b) points → AllLinks (IsInChain o) points
links_in_chain o points leads links = links_between o points (points_in_box o points leads links) links
