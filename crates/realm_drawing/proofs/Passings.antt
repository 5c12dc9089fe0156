-- This file shows that a chain passes a piece at most once, and what it becomes with a path in the place of the piece.
use Rattle.std.proofs.Common.{◌≡◌, ◌≢◌, ◌⊎◌, ℕ, suc, ◌+◌, ◌-◌, ◌<◌, List, ◌++◌, All, get_or, take, drop, reverse}
use Rattle.std.proofs.Common.{subst, add-one, inl, inr, arith}
use Rattle.grid_base.specs.Point.{GridPoint}
use Rattle.grid_base.specs.Segment.{GridSegment}
use Rattle.grid_base.specs.Drawing.{HasLink}
use Rattle.hook_chain.specs.Redrawing.{front, redrawn}
use Rattle.hook_chain.specs.StandingChains.{IsSomeChain}
use Rattle.realm_drawing.specs.Passages.{IsPlaceAt, GoesFrom}
use Rattle.chain_laws.proofs.Progress.{chain_rises}
use Rattle.realm_drawing.proofs.Places.{one_place}
use Rattle.realm_drawing.proofs.Links.{link_at, redrawn_at}
use Rattle.chain_laws.proofs.Stretches.{forth_stretch, back_stretch}

-- the next place
at_next : (chain : List GridPoint) (k : ℕ) (d p : GridPoint) → IsPlaceAt chain p (k + 1) → get_or chain (suc k) d ≡ p
at_next chain k d p place = rw add-one at (place.at d)

-- ---- a chain that has no point twice
-- where it goes from p to q, it goes nowhere else between the two
goes_once : (chain : List GridPoint) → IsSomeChain chain → (p q : GridPoint) (k i : ℕ) → GoesFrom chain p q k → i ≢ k
    → GoesFrom chain p q i ⊎ GoesFrom chain q p i → ⊥
goes_once chain valid p q k i goes other (inl forth) =
    let rises = chain_rises chain valid in
    other (one_place rises.0 chain rises.1 p i k forth.from goes.from)
goes_once chain valid p q k i goes other (inr back) =
    let rises = chain_rises chain valid in
    let first = one_place rises.0 chain rises.1 q i (k + 1) back.from goes.to in
    let second = one_place rises.0 chain rises.1 p (i + 1) k back.to goes.from in
    omega arith

-- the chain with the path in the place of the piece, there and back
pub redrawn_forth : (t : GridSegment) (path chain : List GridPoint) (k : ℕ) → IsSomeChain chain → GoesFrom chain t.a t.b k
    → redrawn t path chain ≡ take k chain ++ front path ++ drop (k + 1) chain
redrawn_forth t path chain k valid goes =
    let within = goes.to.within in
    rw add-one
    (redrawn_at t path (front path) chain k (omega arith)
    (λ d. forth_stretch t path (get_or chain k d) (get_or chain (suc k) d) (goes.from.at d) (at_next chain k d t.b goes.to))
    (λ i other link. goes_once chain valid t.a t.b k i goes other link))

pub redrawn_back : (t : GridSegment) (path chain : List GridPoint) (k : ℕ) → IsSomeChain chain → GoesFrom chain t.b t.a k
    → redrawn t path chain ≡ take k chain ++ front (reverse path) ++ drop (k + 1) chain
redrawn_back t path chain k valid goes =
    let within = goes.to.within in
    let rises = chain_rises chain valid in
    let apart : t.a ≢ t.b = λ same.
    let next = subst (λ (p : GridPoint). IsPlaceAt chain p (k + 1)) same goes.to in
    let here = one_place rises.0 chain rises.1 t.b k (k + 1) goes.from next in
    omega arith
    in
    rw add-one
    (redrawn_at t path (front (reverse path)) chain k (omega arith)
    (λ d. back_stretch t path (get_or chain k d) (get_or chain (suc k) d) apart (goes.from.at d)
    (at_next chain k d t.a goes.to))
    (λ i other link. goes_once chain valid t.b t.a k i goes other
    (elim link [ inl forth ↦ inr forth | inr back ↦ inl back ])))

-- a chain that doesn't come by the lesser end of t hasn't t
pub without_end : (chain : List GridPoint) (t : GridSegment) → All (λ q. q ≢ t.a) chain → HasLink chain t → ⊥
without_end chain t none link = elim (link_at chain t link).1 [
  | inl forth ↦ none (link_at chain t link).0 t.a forth.from.within (forth.from.at t.a)
  | inr back ↦ none ((link_at chain t link).0 + 1) t.a back.to.within (back.to.at t.a)
]

-- nor has one that comes by it at a place, and by the other end neither behind that nor before it
pub without_neighbour : (chain : List GridPoint) → IsSomeChain chain → (t : GridSegment) (place : ℕ)
    → IsPlaceAt chain t.a place → (IsPlaceAt chain t.b (place + 1) → ⊥)
    → ((0 < place) × IsPlaceAt chain t.b (place - 1) → ⊥) → HasLink chain t → ⊥
without_neighbour chain valid t place at not_behind not_before link =
    let rises = chain_rises chain valid in
    let k = (link_at chain t link).0 in
    elim (link_at chain t link).1 [
      | inl forth ↦
          let here = one_place rises.0 chain rises.1 t.a k place forth.from at in
          not_behind (subst (λ n. IsPlaceAt chain t.b (n + 1)) here forth.to)
      | inr back ↦
          let here = one_place rises.0 chain rises.1 t.a place (k + 1) at back.to in
          let before : k ≡ place - 1 = omega arith in
          not_before (omega arith, subst (IsPlaceAt chain t.b) before back.from)
    ]
