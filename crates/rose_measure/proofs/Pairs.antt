-- This file shows that the best of the squared distances of all pairs is the best of two lists, and of their elements one by one.
use Rattle.std.proofs.Common.{◌≡◌, ℕ, ◌+◌, ◌<◌, ◌≤◌, min, max, List, [], ◌∷◌, ◌++◌, length, take, get_or, Contains}
use Rattle.std.proofs.Common.{refl, sym, subst, ◌∙◌, inl, inr, ⊎_elim, arith}
use Rattle.std.specs.List.{fold}
use Rattle.grid_base.specs.Point.{GridPoint, gap}
use Rattle.grid_base.proofs.Elements.{Contains-here, Contains-cases}
use Rattle.rose_measure.specs.Numbers.{squared_distance}
use Rattle.rose_measure.specs.Extremes.{distances_from, distances, IsDistance, AtMost, AtLeast}
use Rattle.rose_measure.specs.Extremes.{itself, at_ends, Boxed, boxed, IsBest}
use Rattle.rose_measure.specs.declared.parts.End.{End}
use Rattle.rose_measure.specs.declared.parts.End.TheVariants.{Lesser, Greater}
use Rattle.rose_measure.proofs.Members.{Contains-map, mapped_from, Contains-flat_map, joined_from}
use Rattle.rose_measure.proofs.Ends.{from_itself, at_itself, at_ends-more}
use Rattle.rose_measure.proofs.Halves.{halves_of_lists}
use Rattle.rose_measure.proofs.Picks.{Picks, min_picks, max_picks, IsPick, picked_from}
use Rattle.rose_measure.proofs.Bests.{none_better, best-halves}

-- ---- all pairs
-- each is the squared distance of two of the points, and each of those is one
distance_of : (first second : List GridPoint) (n : ℕ) → Contains (distances first second) n → IsDistance first second n
distance_of first second n there =
    let (p, p_there, from_p) = joined_from (distances_from second) first n there in
    let (q, q_there, is) = mapped_from (squared_distance p) second n from_p in
    (p, q, p_there, q_there, sym is)

has_distance : (first second : List GridPoint) (p q : GridPoint) → Contains first p → Contains second q
    → Contains (distances first second) (squared_distance p q)
has_distance first second p q p_there q_there =
    Contains-flat_map (distances_from second) first p (squared_distance p q) p_there (Contains-map (squared_distance p) second q q_there)

-- the pick of all distances is the best
best_of_all : (pick : ℕ → ℕ → ℕ) (Best : ℕ → ℕ → Type 0) → Picks pick Best → (first second : Boxed) (k n : ℕ)
    → n ≡ fold pick k (distances first.points second.points) → IsBest Best first second k n
best_of_all pick Best picks first second k n same =
    let m = fold pick k (distances first.points second.points) in
    let is = picked_from pick Best picks k (distances first.points second.points) in
    let best : IsBest Best first second k m = record {
      kept = is.kept;
      best = λ p q p_seen q_seen. is.best (squared_distance p q)
          (has_distance first.points second.points p q p_seen.there q_seen.there);
      one_of = ⊎_elim inl (λ there. inr (distance_of first.points second.points m there)) is.one_of;
    } in
    subst (IsBest Best first second k) (sym same) best

-- all points of both lists, each told twice
pub least_of_few : (first second : List GridPoint) (low high other_low other_high : GridPoint) (k n : ℕ)
    → n ≡ fold min k (distances first second)
    → IsBest AtMost (boxed (at_ends itself first) low high) (boxed (at_ends itself second) other_low other_high) k n
least_of_few first second low high other_low other_high k n same =
    let is = best_of_all min AtMost min_picks (boxed first low high) (boxed second other_low other_high) k n same in
    record {
      kept = is.kept;
      best = λ p q p_seen q_seen. is.best p q
          (record { there = from_itself first p p_seen.there; inside = p_seen.inside })
          (record { there = from_itself second q q_seen.there; inside = q_seen.inside });
      one_of = ⊎_elim inl
          (λ (p, q, p_there, q_there, that). inr (p, q, at_itself first p p_there, at_itself second q q_there, that)) is.one_of;
    }

-- ---- from one point
-- a point is at no distance from itself
no_gap : (m : ℕ) → gap m m ≡ 0
no_gap m = omega arith

squared_distance-itself : (p : GridPoint) → 0 ≡ squared_distance p p
squared_distance-itself p = rw (no_gap p.x, no_gap p.y) refl

-- the greatest of 0 and the squared distances from p is the squared distance of p and one of the points, or of p and p
pub greatest_from : (Has : GridPoint → Type 0) (points : List GridPoint) (p : GridPoint) (n : ℕ) → Has p
    → ((q : GridPoint) → Contains points q → Has q) → n ≡ fold max 0 (distances_from points p)
    → (q : GridPoint) × Has q × (n ≡ squared_distance p q)
greatest_from Has points p n itself others is = ⊎_elim
    (λ (none : fold max 0 (distances_from points p) ≡ 0). (p, itself, is ∙ none ∙ squared_distance-itself p))
    (λ there.
    let (q, q_there, same) = mapped_from (squared_distance p) points _ there in
    (q, others q q_there, is ∙ sym same))
    (picked_from max AtLeast max_picks 0 (distances_from points p)).one_of

-- the only one of one point
the_point : (p q : GridPoint) → Contains (p ∷ []) q → p ≡ q
the_point p q there = elim (Contains-cases p [] q there) [
  | inl same ↦ same
  | inr none ↦ absurd (omega (arith, none.1))
]

-- all distances from one point
pub greatest_from_point : (p low high : GridPoint) (second : Boxed) (k n : ℕ) → n ≡ fold max k (distances_from second.points p)
    → IsBest AtLeast (boxed (p ∷ []) low high) second k n
greatest_from_point p low high second k n same =
    let is : IsPick AtLeast k (distances_from second.points p) n =
    subst (IsPick AtLeast k (distances_from second.points p)) (sym same)
    (picked_from max AtLeast max_picks k (distances_from second.points p)) in
    record {
      kept = is.kept;
      best = λ q r q_seen r_seen. subst (λ v. squared_distance v r ≤ n) (the_point p q q_seen.there)
          (is.best (squared_distance p r) (Contains-map (squared_distance p) second.points r r_seen.there));
      one_of = ⊎_elim inl
          (λ there.
          let (q, q_there, that) = mapped_from (squared_distance p) second.points n there in
          inr (p, q, Contains-here p [], q_there, sym that))
          is.one_of;
    }

-- ---- one element after another
-- of no points there is none
pub greatest_of_none : (low high : GridPoint) (second : Boxed) (k : ℕ) → IsBest AtLeast (boxed [] low high) second k k
greatest_of_none low high second k =
    none_better AtLeast max_picks.itself (boxed [] low high) second k (λ q r q_seen r_seen. absurd (omega (arith, q_seen.there.1)))

-- the greatest of some points, and then of others
pub greatest_of_more : (some rest : List GridPoint) (low high : GridPoint) (second : Boxed) (k m n : ℕ)
    → IsBest AtLeast (boxed some low high) second k m → IsBest AtLeast (boxed rest low high) second m n
    → IsBest AtLeast (boxed (some ++ rest) low high) second k n
greatest_of_more some rest low high second k m n =
    best-halves AtLeast max_picks.further (boxed (some ++ rest) low high) (boxed some low high) (boxed rest low high) second k m n
    (halves_of_lists some rest low high low high low high (λ i d within inside. inside) (λ i d within inside. inside))

-- the greatest from the elements so far, then from the lesser end of the next, and then from its greater end
pub greatest_further : {X : Type 0} (place : End → X → GridPoint) (list : List X) (i : ℕ) (item : X) (p q low high : GridPoint)
    (second : Boxed) (k m n o : ℕ) → i < length list → item ≡ get_or list i item → p ≡ place Lesser item → q ≡ place Greater item
    → IsBest AtLeast (boxed (at_ends place (take i list)) low high) second k m
    → IsBest AtLeast (boxed (p ∷ []) low high) second m n → IsBest AtLeast (boxed (q ∷ []) low high) second n o
    → IsBest AtLeast (boxed (at_ends place (take (i + 1) list)) low high) second k o
greatest_further place list i item p q low high second k m n o within is p_is q_is before lesser greater =
    let both : IsBest AtLeast (boxed (place Lesser item ∷ place Greater item ∷ []) low high) second m o =
    subst (λ v. IsBest AtLeast (boxed (v ∷ place Greater item ∷ []) low high) second m o) p_is
    (subst (λ w. IsBest AtLeast (boxed (p ∷ w ∷ []) low high) second m o) q_is
    (greatest_of_more (p ∷ []) (q ∷ []) low high second m n o lesser greater)) in
    subst (λ points. IsBest AtLeast (boxed points low high) second k o) (sym (at_ends-more place list i item within is))
    (greatest_of_more (at_ends place (take i list)) (place Lesser item ∷ place Greater item ∷ []) low high second k m o before both)
