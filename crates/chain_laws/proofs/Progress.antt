-- This file shows that a chain comes farther with each link, so it has few links.
use Rattle.std.proofs.Common.{◌≡◌, ◌⊎◌, ℕ, ◌+◌, ◌<◌, ◌≤◌, List, [], ◌∷◌, length, get_or, All, refl, ap, ap₂, sym, ◌∙◌}
use Rattle.std.proofs.Common.{subst, inl, inr, arith}
use Rattle.std.proofs.lemmas.List.Elements.{All-nil, All-cons, All-weaker}
use Rattle.std.proofs.lemmas.List.Kept.{AllPairs-cons}
use Rattle.grid_base.specs.Point.{GridPoint, point_at}
use Rattle.grid_base.specs.Segment.{GridSegment}
use Rattle.grid_base.proofs.Turns.{in_order}
use Rattle.hook_chain.specs.Chains.{AllLinks, RunsFrom}
use Rattle.hook_chain.specs.ValidChain.{IsMonotone, ValidChain}
use Rattle.hook_chain.specs.StandingChains.{IsSomeChain}
use Rattle.hook_chain.specs.Measure.{links_in, most_links, progress}
use Rattle.chain_laws.proofs.KeySearches.{Rises}

-- v lies past o.a, as o leads
pub record IsPast (o : GridSegment) (v : GridPoint) : Type 0 where
  pub right : o.a.x ≤ v.x
  pub above : o.a.y ≤ o.b.y → o.a.y ≤ v.y
  pub below : o.b.y ≤ o.a.y → v.y ≤ o.a.y

-- a link leads on
pub past : (o : GridSegment) (v w : GridPoint) → IsPast o v → IsMonotone o.a o.b v w → IsPast o w
past o v w here link = record {
  right = let forth = link.1 in let from = here.right in omega arith;
  above = λ rising. let up = link.2 rising in let from = here.above rising in omega arith;
  below = λ falling. let down = link.3 falling in let from = here.below falling in omega arith;
}

-- and its ends differ in a coordinate, neither of which turns back
farther : (o : GridSegment) (v w : GridPoint) → IsPast o v → IsMonotone o.a o.b v w → progress o.a v < progress o.a w
farther o v w here link =
    let right = link.1 in
    let apart : v.x ≡ w.x → v.y ≡ w.y → ⊥ = λ column row. link.0 (ap₂ point_at column row) in
    by_direction (in_order o.a.y o.b.y)
  where
    by_direction : (o.a.y ≤ o.b.y) ⊎ (o.b.y ≤ o.a.y) → progress o.a v < progress o.a w
    by_direction (inl rising) =
        let up = link.2 rising in
        let from = here.above rising in
        grind arith
    by_direction (inr falling) =
        let down = link.3 falling in
        let from = here.below falling in
        grind arith

-- so each later point is farther
ahead : (o : GridSegment) (v : GridPoint) (chain : List GridPoint) → IsPast o v → AllLinks (IsMonotone o.a o.b) (v ∷ chain)
    → All (λ q. progress o.a v < progress o.a q) chain
ahead o v [] here links = All-nil (λ q. progress o.a v < progress o.a q)
ahead o v (w ∷ chain) here links =
    let next = farther o v w here links.0 in
    All-cons (λ q. progress o.a v < progress o.a q) w chain next
    (All-weaker (λ q. progress o.a w < progress o.a q) (λ q. progress o.a v < progress o.a q) (λ q later. omega arith) chain
    (ahead o w chain (past o v w here links.0) links.1))

rises_from : (o : GridSegment) (v : GridPoint) (chain : List GridPoint) → IsPast o v
    → AllLinks (IsMonotone o.a o.b) (v ∷ chain)
    → Rises (progress o.a) (v ∷ chain)
rises_from o v [] here links =
    AllPairs-cons (λ (p q : GridPoint). progress o.a p < progress o.a q) v []
    (All-nil (λ (q : GridPoint). progress o.a v < progress o.a q))
    (λ i j d before within. absurd (omega arith))
rises_from o v (w ∷ chain) here links =
    AllPairs-cons (λ (p q : GridPoint). progress o.a p < progress o.a q) v (w ∷ chain) (ahead o v (w ∷ chain) here links)
    (rises_from o w chain (past o v w here links.0) links.1)

-- a itself does
pub past_first : (o : GridSegment) (v : GridPoint) → v ≡ o.a → IsPast o v
past_first o v same =
    let column = ap (λ (p : GridPoint). p.x) same in
    let row = ap (λ (p : GridPoint). p.y) same in
    record { right = omega arith; above = λ rising. omega arith; below = λ falling. omega arith }

-- the chain begins with a
pub begins : (a b v : GridPoint) (chain : List GridPoint) → RunsFrom a b (v ∷ chain) → v ≡ a
begins a b v [] leads = leads.0
begins a b v (w ∷ chain) leads = leads.0

-- each link comes farther, so there are no more of them than there is way
way_of_links : (o : GridSegment) (a v : GridPoint) (chain : List GridPoint) → IsPast o v → RunsFrom a o.b (v ∷ chain)
    → AllLinks (IsMonotone o.a o.b) (v ∷ chain) → length chain + progress o.a v ≤ progress o.a o.b
way_of_links o a v [] here leads links = let there = ap (progress o.a) leads.1 in omega arith
way_of_links o a v (w ∷ chain) here leads links =
    one_more (progress o.a v) (progress o.a w) (farther o v w here links.0)
    (way_of_links o w w chain (past o v w here links.0) leads.1 links.1)
  where
    one_more : (n m : ℕ) → n < m → length chain + m ≤ progress o.a o.b → length (w ∷ chain) + n ≤ progress o.a o.b
    one_more n m next rest = omega (arith, next, rest)

-- a valid chain has at most one link for each column and each row
pub chain_is_short : (o : GridSegment) (chain : List GridPoint) → ValidChain o chain → links_in chain ≤ most_links o
chain_is_short o [] valid = absurd valid.leads
chain_is_short o (v ∷ chain) valid =
    let start = begins o.a o.b v chain valid.leads in
    let way = way_of_links o o.a v chain (past_first o v start) valid.leads valid.monotone in
    omega (arith, way, ap (progress o.a) start)

-- how far a chain has come rises from its first point on
pub progress_rises : (chain : List GridPoint) (first : GridPoint) → 0 < length chain → first ≡ get_or chain 0 first
    → IsSomeChain chain
    → Rises (progress first) chain
progress_rises [] first some is valid = absurd (omega arith)
progress_rises (v ∷ chain) first some is (o, valid) =
    let start = begins o.a o.b v chain valid.leads in
    subst (λ (a : GridPoint). Rises (progress a) (v ∷ chain)) (sym start ∙ sym is)
    (rises_from o v chain (past_first o v start) valid.monotone)

-- so it does along a chain that some original may have
pub chain_rises : (chain : List GridPoint) → IsSomeChain chain → (a : GridPoint) × Rises (progress a) chain
chain_rises [] (o, valid) = absurd valid.leads
chain_rises (v ∷ chain) valid = (v, progress_rises (v ∷ chain) v (omega arith) refl valid)
