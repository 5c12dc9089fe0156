-- This file shows that a least and a greatest distance are there: what is picked, one number after another.
use Rattle.std.proofs.Common.{◌≡◌, ◌⊎◌, ℕ, ◌≤◌, min, max, List, [], ◌∷◌, Any, Contains, Option, Some, None, MatchOption}
use Rattle.std.proofs.Common.{refl, sym, subst, ◌∙◌, inl, inr, ⊎_elim, arith}
use Rattle.std.specs.List.{fold}
use Rattle.std.specs.Prelude.{flat_map}
use Rattle.grid_base.specs.Point.{GridPoint}
use Rattle.grid_base.specs.Segment.{GridSegment, IsEnd}
use Rattle.rose_values.specs.declared.geometry.Geometry.TheVariants.{P, L, R}
use Rattle.rose_measure.specs.Numbers.{squared_distance, IsLeastDistance, IsEmpty, IsDiameter}
use Rattle.rose_measure.specs.Extremes.{distances_from, distances}
use Rattle.grid_base.proofs.Elements.{Contains-here, Contains-later, Contains-cases}
use Rattle.rose_measure.proofs.Members.{Contains-map, mapped_from, Contains-flat_map, joined_from}

-- what is picked of what was found, if anything was, and n
abbrev pub picked : (ℕ → ℕ → ℕ) → Option ℕ → ℕ → Option ℕ
picked pick None n = Some n
picked pick (Some m) n = Some (pick m n)

-- the ends of the segments
abbrev pub ends : List GridSegment → List GridPoint
ends list = flat_map (λ s. s.a ∷ s.b ∷ []) list

-- the pick of two numbers is one of them, and not worse than either
pub record Picks (pick : ℕ → ℕ → ℕ) (Best : ℕ → ℕ → Type 0) : Type 0 where
  pub one_of : (m n : ℕ) → (pick m n ≡ m) ⊎ (pick m n ≡ n)
  pub first : (m n : ℕ) → Best (pick m n) m
  pub second : (m n : ℕ) → Best (pick m n) n
  pub itself : (n : ℕ) → Best n n
  pub further : (k m n : ℕ) → Best k m → Best m n → Best k n

pub min_picks : Picks min (λ m n. m ≤ n)
min_picks = record {
  one_of = λ m n. grind arith;
  first = λ m n. omega arith;
  second = λ m n. omega arith;
  itself = λ n. omega arith;
  further = λ k m n h g. omega (arith, h, g);
}

pub max_picks : Picks max (λ m n. n ≤ m)
max_picks = record {
  one_of = λ m n. grind arith;
  first = λ m n. omega arith;
  second = λ m n. omega arith;
  itself = λ n. omega arith;
  further = λ k m n h g. omega (arith, h, g);
}

-- the pick of all numbers is one of them, and the best
pub record IsPick (Best : ℕ → ℕ → Type 0) (ns : List ℕ) (m : ℕ) : Type 0 where
  pub one_of : Contains ns m
  pub best : (n : ℕ) → Contains ns n → Best m n

picked_from : (pick : ℕ → ℕ → ℕ) (Best : ℕ → ℕ → Type 0) → Picks pick Best → (k : ℕ) (ns : List ℕ)
    → (m : ℕ) × (fold (picked pick) (Some k) ns ≡ Some m) × IsPick Best (k ∷ ns) m
picked_from pick Best picks k [] = (
  k,
  refl,
  record {
    one_of = Contains-here k [];
    best = λ n there.
        let only : k ≡ n = ⊎_elim (λ same. same) (λ none. absurd (omega (arith, none.1))) (Contains-cases k [] n there) in
        subst (Best k) only (picks.itself k);
  },
)
picked_from pick Best picks k (l ∷ ns) =
    let (m, is, rest) = picked_from pick Best picks (pick k l) ns in
    let better = rest.best (pick k l) (Contains-here (pick k l) ns) in (
      m,
      is,
      record {
        one_of = ⊎_elim
            (λ (same : pick k l ≡ m). ⊎_elim
            (λ first. subst (Contains (k ∷ l ∷ ns)) (sym first ∙ same) (Contains-here k (l ∷ ns)))
            (λ second. subst (Contains (k ∷ l ∷ ns)) (sym second ∙ same) (Contains-later k (l ∷ ns) l (Contains-here l ns)))
            (picks.one_of k l))
            (λ later. Contains-later k (l ∷ ns) m (Contains-later l ns m later))
            (Contains-cases (pick k l) ns m rest.one_of);
        best = λ n there. ⊎_elim
            (λ (same : k ≡ n). subst (Best m) same (picks.further m (pick k l) k better (picks.first k l)))
            (λ later. ⊎_elim
            (λ (same : l ≡ n). subst (Best m) same (picks.further m (pick k l) l better (picks.second k l)))
            (λ last. rest.best n (Contains-later (pick k l) ns n last))
            (Contains-cases l ns n later))
            (Contains-cases k (l ∷ ns) n there);
      },
    )

-- what is picked of a list, from nothing
pub picked_all : (pick : ℕ → ℕ → ℕ) (Best : ℕ → ℕ → Type 0) → Picks pick Best → (ns : List ℕ)
    → MatchOption (fold (picked pick) None ns) (ns ≡ []) (IsPick Best ns)
picked_all pick Best picks [] = refl
picked_all pick Best picks (n ∷ ns) =
    let (m, is, pick_is) = picked_from pick Best picks n ns in
    subst (λ o. MatchOption o (n ∷ ns ≡ []) (IsPick Best (n ∷ ns))) (sym is) pick_is

-- ---- what that says of distances
-- a claim by cases, with weaker cases
cases_weaker : {X : Type 0} (A B : Type 0) (Q S : X → Type 0) (o : Option X) → (A → B) → ((x : X) → Q x → S x) → MatchOption o A Q
    → MatchOption o B S
cases_weaker A B Q S None nothing some h = nothing h
cases_weaker A B Q S (Some x) nothing some h = some x h

-- points with no distances between them
no_distances : (first second : List GridPoint) → distances first second ≡ [] → (first ≡ []) ⊎ (second ≡ [])
no_distances [] second none = inl refl
no_distances (p ∷ first) [] none = inr refl
no_distances (p ∷ first) (q ∷ second) none = cc

-- each is the squared distance of two of the points, and each of those is one
distance_of : (first second : List GridPoint) (n : ℕ) → Contains (distances first second) n
    → (p : GridPoint) × (q : GridPoint) × Contains first p × Contains second q × (n ≡ squared_distance p q)
distance_of first second n there =
    let (p, p_there, from_p) = joined_from (distances_from second) first n there in
    let (q, q_there, is) = mapped_from (squared_distance p) second n from_p in
    (p, q, p_there, q_there, sym is)

has_distance : (first second : List GridPoint) (p q : GridPoint) → Contains first p → Contains second q
    → Contains (distances first second) (squared_distance p q)
has_distance first second p q p_there q_there =
    Contains-flat_map (distances_from second) first p (squared_distance p q) p_there (Contains-map (squared_distance p) second q q_there)

-- the least of all is the least distance
pub least_distance : (first second : List GridPoint)
    → MatchOption (fold (picked min) None (distances first second)) ((first ≡ []) ⊎ (second ≡ [])) (IsLeastDistance first second)
least_distance first second = cases_weaker (distances first second ≡ []) ((first ≡ []) ⊎ (second ≡ []))
    (IsPick (λ m n. m ≤ n) (distances first second)) (IsLeastDistance first second) _ (no_distances first second)
    (λ n pick. record {
      reached = distance_of first second n pick.one_of;
      least = λ p q p_there q_there. pick.best (squared_distance p q) (has_distance first second p q p_there q_there);
    })
    (picked_all min (λ m n. m ≤ n) min_picks (distances first second))

-- n is the greatest of the squared distances of the points
pub record IsWidth (points : List GridPoint) (n : ℕ) : Type 0 where
  pub reached : (p : GridPoint) × (q : GridPoint) × Contains points p × Contains points q × (n ≡ squared_distance p q)
  pub greatest : (p q : GridPoint) → Contains points p → Contains points q → squared_distance p q ≤ n

pub width : (points : List GridPoint) → MatchOption (fold (picked max) None (distances points points)) (points ≡ []) (IsWidth points)
width points = cases_weaker (distances points points ≡ []) (points ≡ [])
    (IsPick (λ m n. n ≤ m) (distances points points)) (IsWidth points) _
    (λ none. ⊎_elim (λ empty. empty) (λ empty. empty) (no_distances points points none))
    (λ n pick. record {
      reached = distance_of points points n pick.one_of;
      greatest = λ p q p_there q_there. pick.best (squared_distance p q) (has_distance points points p q p_there q_there);
    })
    (picked_all max (λ m n. n ≤ m) max_picks (distances points points))

-- ---- the ends of segments
no_ends : (list : List GridSegment) → ends list ≡ [] → list ≡ []
no_ends [] none = refl
no_ends (s ∷ list) none = cc

end_of : (list : List GridSegment) (p : GridPoint) → Contains (ends list) p → Any (IsEnd p) list
end_of list p there =
    let (s, (k, within, is), at_s) = joined_from (λ s. s.a ∷ s.b ∷ []) list p there in (
      k,
      s,
      within,
      is,
      ⊎_elim (λ a. inl (sym a)) (λ rest. inr (⊎_elim (λ b. sym b) (λ none. absurd (omega (arith, none.1)))
          (Contains-cases s.b [] p rest))) (Contains-cases s.a (s.b ∷ []) p at_s),
    )

has_end : (list : List GridSegment) (p : GridPoint) → Any (IsEnd p) list → Contains (ends list) p
has_end list p (k, s, within, is, end) = Contains-flat_map (λ t. t.a ∷ t.b ∷ []) list s p (k, within, is)
    (⊎_elim
    (λ a. subst (Contains (s.a ∷ s.b ∷ [])) (sym a) (Contains-here s.a (s.b ∷ [])))
    (λ b. subst (Contains (s.a ∷ s.b ∷ [])) (sym b) (Contains-later s.a (s.b ∷ []) s.b (Contains-here s.b [])))
    end)

-- the width of all ends of a list, as a diameter
pub width_of_ends : (list : List GridSegment) → MatchOption (fold (picked max) None (distances (ends list) (ends list))) (list ≡ [])
    (λ n. ((p : GridPoint) × (q : GridPoint) × Any (IsEnd p) list × Any (IsEnd q) list × (n ≡ squared_distance p q))
    × ((p q : GridPoint) → Any (IsEnd p) list → Any (IsEnd q) list → squared_distance p q ≤ n))
width_of_ends list = cases_weaker (ends list ≡ []) (list ≡ []) (IsWidth (ends list)) _ _ (no_ends list)
    (λ n is.
    let (p, q, p_there, q_there, reached) = is.reached in (
      (p, q, end_of list p p_there, end_of list q q_there, reached),
      λ v w v_end w_end. is.greatest v w (has_end list v v_end) (has_end list w w_end),
    ))
    (width (ends list))

-- ---- diameters
pub points_diameter : (points : List GridPoint)
    → MatchOption (fold (picked max) None (distances points points)) (IsEmpty (P points)) (IsDiameter (P points))
points_diameter points = cases_weaker (points ≡ []) (IsEmpty (P points)) (IsWidth points) (IsDiameter (P points)) _ (λ empty. empty)
    (λ n is. record { reached = is.reached; greatest = is.greatest })
    (width points)

pub lines_diameter : (list : List GridSegment)
    → MatchOption (fold (picked max) None (distances (ends list) (ends list))) (IsEmpty (L list)) (IsDiameter (L list))
lines_diameter list = cases_weaker (list ≡ []) (IsEmpty (L list)) _ (IsDiameter (L list)) _ (λ empty. empty)
    (λ n is. record { reached = is.0; greatest = is.1 })
    (width_of_ends list)

pub region_diameter : (list : List GridSegment)
    → MatchOption (fold (picked max) None (distances (ends list) (ends list))) (IsEmpty (R list)) (IsDiameter (R list))
region_diameter list = cases_weaker (list ≡ []) (IsEmpty (R list)) _ (IsDiameter (R list)) _ (λ empty. empty)
    (λ n is. record { reached = is.0; greatest = is.1 })
    (width_of_ends list)
