-- This file shows that a cycle which begins with its least point is decided by its links.
use Rattle.std.proofs.Common.{◌≡◌, List, [], ◌∷◌, ◌++◌, Contains, refl, sym, ap, subst, ◌∙◌, inl, inr}
use Rattle.std.proofs.lemmas.List.Elements.{All-contains}
use Rattle.grid_base.specs.Point.{GridPoint, IsBefore}
use Rattle.grid_base.proofs.Elements.{Contains-here, Contains-later, Contains-cases, Contains-nil}
use Rattle.grid_base.proofs.Orders.{IsBefore-asym}
use Rattle.r_cycles.specs.Cycles.{Link, link, links, round, IsCycle}
use Rattle.r_cycles.proofs.Trails.{AreApart, apart-head}
use Rattle.class_borders.proofs.Aligned.{from_in, round_from}
use Rattle.r_faces.specs.Turned.{BeginsLeast}

-- each link of the first cycle is one of the second
abbrev pub HasLinksOf : List GridPoint → List GridPoint → Type 0
HasLinksOf c d = (l : Link) → Contains (links (round c)) l → Contains (links (round d)) l

-- ---- the first point
-- from each vertex of a cycle a link leads on
leads_on : (c : List GridPoint) (e p : GridPoint) → Contains c p → (l : Link) × Contains (links (c ++ e ∷ [])) l × (l.from ≡ p)
leads_on [] e p there = absurd (Contains-nil p there)
leads_on (a ∷ []) e p there = elim (Contains-cases a [] p there) [
  | inl same ↦ (link a e, Contains-here (link a e) [], same)
  | inr none ↦ absurd (Contains-nil p none)
]
leads_on (a ∷ b ∷ c) e p there = elim (Contains-cases a (b ∷ c) p there) [
  | inl same ↦ (link a b, Contains-here (link a b) (links (b ∷ (c ++ e ∷ []))), same)
  | inr later ↦
      let (l, has, is) = leads_on (b ∷ c) e p later in (l, Contains-later (link a b) (links (b ∷ (c ++ e ∷ []))) l has, is)
]

-- so a cycle has the vertices of one whose links it has
is_vertex : (v w : GridPoint) (c d : List GridPoint) → HasLinksOf (v ∷ c) (w ∷ d) → Contains (w ∷ d) v
is_vertex v w c d has =
    let (l, there, is) = leads_on (v ∷ c) v v (Contains-here v c) in
    subst (Contains (w ∷ d)) is (from_in (w ∷ d) w l (has l there))

-- of two least points neither is before the other
same_first : (v w : GridPoint) (c d : List GridPoint) → BeginsLeast (v ∷ c) → BeginsLeast (w ∷ d)
    → HasLinksOf (v ∷ c) (w ∷ d) → HasLinksOf (w ∷ d) (v ∷ c) → v ≡ w
same_first v w c d least other has has_too = elim (Contains-cases w d v (is_vertex v w c d has)) [
  | inl same ↦ sym same
  | inr later ↦ elim (Contains-cases v c w (is_vertex w v d c has_too)) [
    | inl same ↦ same
    | inr behind ↦ absurd (IsBefore-asym v w (All-contains (IsBefore v) c w least behind) (All-contains (IsBefore w) d v other later))
  ]
]

-- ---- the points behind it
-- Two ways from one point to v, along links of a cycle, are one: only one link leads on from a vertex, and v is where both end.
module _ (cycle : List GridPoint) (apart : AreApart cycle) (v : GridPoint) where
  abbrev pub GoesAlong : List GridPoint → Type 0
  GoesAlong way = (l : Link) → Contains (links way) l → Contains (links (round cycle)) l

  -- one link leads on from u
  same_next : (u p q : GridPoint) (ps qs : List GridPoint) → GoesAlong (u ∷ p ∷ ps) → GoesAlong (u ∷ q ∷ qs) → p ≡ q
  same_next u p q ps qs one other =
      let first = one (link u p) (Contains-here (link u p) (links (p ∷ ps))) in
      let second = other (link u q) (Contains-here (link u q) (links (q ∷ qs))) in
      ap (λ (l : Link). l.to) (round_from cycle (link u p) (link u q) apart first second refl)

  -- so the ways go on alike, point by point, until v
  same_way : (u : GridPoint) (ps qs : List GridPoint) → (Contains ps v → ⊥) → (Contains qs v → ⊥)
      → GoesAlong (u ∷ (ps ++ v ∷ [])) → GoesAlong (u ∷ (qs ++ v ∷ [])) → ps ≡ qs
  same_way u [] [] absent absent_too one other = refl
  same_way u [] (q ∷ qs) absent absent_too one other =
      let same = same_next u v q [] (qs ++ v ∷ []) one other in
      absurd (absent_too (subst (Contains (q ∷ qs)) (sym same) (Contains-here q qs)))
  same_way u (p ∷ ps) [] absent absent_too one other =
      let same = same_next u p v (ps ++ v ∷ []) [] one other in
      absurd (absent (subst (Contains (p ∷ ps)) same (Contains-here p ps)))
  same_way u (p ∷ ps) (q ∷ qs) absent absent_too one other =
      let same = same_next u p q (ps ++ v ∷ []) (qs ++ v ∷ []) one other in
      let rest = same_way p ps qs (λ there. absent (Contains-later p ps v there)) (λ there. absent_too (Contains-later q qs v there))
      (λ l there. one l (Contains-later (link u p) (links (p ∷ (ps ++ v ∷ []))) l there))
      (λ l there. other l (Contains-later (link u q) (links (q ∷ (qs ++ v ∷ []))) l
      (subst (λ (x : GridPoint). Contains (links (x ∷ (qs ++ v ∷ []))) l) same there))) in
      ap (λ (x : GridPoint). x ∷ ps) same ∙ ap (λ (xs : List GridPoint). q ∷ xs) rest

-- both begin with the one least vertex, and go on by the same links
pub one_cycle : (c d : List GridPoint) → IsCycle c → IsCycle d → BeginsLeast c → BeginsLeast d → HasLinksOf c d → HasLinksOf d c
    → c ≡ d
one_cycle [] d is also least other has has_too = absurd least
one_cycle (v ∷ c) [] is also least other has has_too = absurd other
one_cycle (v ∷ c) (w ∷ d) is also least other has has_too =
    let first : v ≡ w = same_first v w c d least other has has_too in
    let apart = subst (λ (x : GridPoint). AreApart (x ∷ d)) (sym first) also.once in
    let along = subst (λ (x : GridPoint). HasLinksOf (x ∷ d) (v ∷ c)) (sym first) has_too in
    let rest = same_way (v ∷ c) is.once v v c d (apart-head v c is.once) (apart-head v d apart) (λ l there. there) along in
    ap (λ (xs : List GridPoint). v ∷ xs) rest ∙ ap (λ (x : GridPoint). x ∷ d) first
