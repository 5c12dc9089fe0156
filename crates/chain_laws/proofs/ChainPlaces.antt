-- This file shows which grid points are places of a chain, and that a chain has a place in each column between its ends.
use Rattle.std.proofs.Common.{◌≡◌, ◌≢◌, ◌⊎◌, ℕ, ◌*◌, ◌<◌, min, max, List, [], ◌∷◌, map, ap, arith, inl, inr}
use Rattle.grid_base.specs.Point.{GridPoint, IsFromTo}
use Rattle.grid_base.specs.Segment.{GridSegment, exchanged_point}
use Rattle.grid_base.specs.Crossing.{IsOn}
use Rattle.grid_base.specs.Places.{RationalPoint, IsPlace, IsAt}
use Rattle.grid_base.specs.SideOf.{IsChainPlace, as_rational}
use Rattle.grid_base.proofs.Turns.{leftward, rightward, on_is, on_by}
use Rattle.grid_base.proofs.Signs.{three_ways}
use Rattle.grid_base.proofs.Ends.{place_is_on}
use Rattle.hook_chain.specs.Chains.{RunsFrom}
use Rattle.hook_chain.proofs.Exchange.{way}
use Rattle.hook_chain.proofs.Upright.{place_a}
use Rattle.hook_chain.proofs.CloseNear.{on_place}
use Rattle.hook_chain.proofs.CloseParts.{place_in_column}

-- ---- grid points on a chain
-- a place at a grid point is that point
pub place_at : (s : GridSegment) (q : RationalPoint) (p : GridPoint) → IsPlace s q → IsAt q p → IsPlace s (as_rational p)
place_at s q p place at = on_place s p (place_is_on s q p place at)

pub chain_place_at : (chain : List GridPoint) (q : RationalPoint) (p : GridPoint) → IsChainPlace chain q → IsAt q p
    → IsChainPlace chain (as_rational p)
chain_place_at [] q p place at = place
chain_place_at (v ∷ []) q p place at = place
chain_place_at (v ∷ w ∷ chain) q p (inl first) at = inl (place_at (way v w) q p first at)
chain_place_at (v ∷ w ∷ chain) q p (inr later) at = inr (chain_place_at (w ∷ chain) q p later at)

-- a number lies from one to another, before both or after both
range_or_not : (a b n : ℕ) → IsFromTo a b n ⊎ ((n < min a b) ⊎ (max a b < n))
range_or_not a b n = elim (three_ways n (min a b)) [
  | inl before ↦ inr (inl before)
  | inr from ↦ elim (three_ways n (max a b)) [
    | inl to ↦ inl (omega arith)
    | inr rest ↦ elim rest [ inl last ↦ inl (omega arith) | inr after ↦ inr (inr after) ]
  ]
]

-- a grid point is on a segment or not
on_or_not : (s : GridSegment) (p : GridPoint) → IsOn s p ⊎ (IsOn s p → ⊥)
on_or_not s p = elim (three_ways (leftward s.a s.b p) (rightward s.a s.b p)) [
  | inl right ↦ inr (λ on. let sums = on_is s.a s.b p on.line in omega arith)
  | inr rest ↦ elim rest [
    | inr left ↦ inr (λ on. let sums = on_is s.a s.b p on.line in omega arith)
    | inl line ↦ elim (range_or_not s.a.x s.b.x p.x) [
      | inr beside ↦ inr (λ on. let range = on.box.0 in omega arith)
      | inl across ↦ elim (range_or_not s.a.y s.b.y p.y) [
        | inr beyond ↦ inr (λ on. let range = on.box.1 in omega arith)
        | inl up ↦ inl (record { line = on_by s.a s.b p line; box = (across, up) })
      ]
    ]
  ]
]

-- a grid point is a place of a segment or not
place_or_not : (s : GridSegment) (p : GridPoint) → IsPlace s (as_rational p) ⊎ (IsPlace s (as_rational p) → ⊥)
place_or_not s p = elim (on_or_not s p) [
  | inl on ↦ inl (on_place s p on)
  | inr off ↦ inr (λ place. off (place_is_on s (as_rational p) p place (omega arith)))
]

-- and of a chain or not
pub chain_place_or_not : (chain : List GridPoint) (p : GridPoint)
    → IsChainPlace chain (as_rational p) ⊎ (IsChainPlace chain (as_rational p) → ⊥)
chain_place_or_not [] p = inr (λ none. none)
chain_place_or_not (v ∷ []) p = inr (λ none. none)
chain_place_or_not (v ∷ w ∷ chain) p = elim (place_or_not (way v w) p) [
  | inl first ↦ inl (inl first)
  | inr not_first ↦ elim (chain_place_or_not (w ∷ chain) p) [
    | inl later ↦ inl (inr later)
    | inr not_later ↦ inr (λ some. elim some [ inl first ↦ not_first first | inr later ↦ not_later later ])
  ]
]

-- ---- columns
-- the chain has a place in column x
pub record HasChainPlace (chain : List GridPoint) (x : ℕ) : Type 0 where
  pub place : RationalPoint
  pub is : IsChainPlace chain place
  pub column : place.x ≡ x * place.w

-- a link has a place in each column from one end to the other
link_has_place : (v w : GridPoint) (chain : List GridPoint) (x : ℕ) → IsFromTo v.x w.x x → HasChainPlace (v ∷ w ∷ chain) x
link_has_place v w chain x range = elim (three_ways v.x w.x) [
  | inl less ↦ slanted (λ same. omega arith)
  | inr rest ↦ elim rest [
    | inl upright ↦ record { place = as_rational v; is = inl (place_a (way v w)); column = omega arith }
    | inr greater ↦ slanted (λ same. omega arith)
  ]
]
  where
    slanted : v.x ≢ w.x → HasChainPlace (v ∷ w ∷ chain) x
    slanted apart =
        let found = place_in_column (way v w) x apart range in
        record { place = found.place; is = inl found.is; column = found.column }

-- a chain from v to e has a place in each column from that of v to that of e
pub chain_has_place : (v e : GridPoint) (chain : List GridPoint) (x : ℕ) → RunsFrom v e chain → v.x ≢ e.x → IsFromTo v.x e.x x
    → HasChainPlace chain x
chain_has_place v e [] x leads apart range = absurd leads
chain_has_place v e (p ∷ []) x leads apart range =
    let at_v = ap (λ (r : GridPoint). r.x) leads.0 in
    let at_e = ap (λ (r : GridPoint). r.x) leads.1 in
    absurd (apart (omega arith))
chain_has_place v e (p ∷ q ∷ chain) x leads apart range =
    let at_v = ap (λ (r : GridPoint). r.x) leads.0 in
    elim (range_or_not p.x q.x x) [
      | inl in_link ↦ link_has_place p q chain x in_link
      | inr later ↦
          let rest = chain_has_place q e (q ∷ chain) x leads.1 (λ same. omega arith) (omega arith) in
          record { place = rest.place; is = inr rest.is; column = rest.column }
    ]

-- ---- rows for columns
pub exchanged_leads : (v e : GridPoint) (chain : List GridPoint) → RunsFrom v e chain
    → RunsFrom (exchanged_point v) (exchanged_point e) (map exchanged_point chain)
exchanged_leads v e [] leads = leads
exchanged_leads v e (p ∷ []) leads = (ap exchanged_point leads.0, ap exchanged_point leads.1)
exchanged_leads v e (p ∷ q ∷ chain) leads = (ap exchanged_point leads.0, exchanged_leads q e (q ∷ chain) leads.1)
