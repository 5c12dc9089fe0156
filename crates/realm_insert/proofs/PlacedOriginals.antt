-- This file shows what one more straight original makes of a drawing without a violation.
use Rattle.std.proofs.Common.{ℕ, ◌+◌, ◌<◌, ◌≤◌, [], ◌∷◌, ◌++◌, arith}
use Rattle.std.proofs.lemmas.List.Elements.{All-push, All-weaker, All-contains, Contains-push}
use Rattle.grid_base.specs.Point.{IsBefore}
use Rattle.grid_base.specs.Segment.{GridSegment}
use Rattle.grid_base.specs.Drawing.{Drawing}
use Rattle.hook_chain.specs.Straight.{straight, along, placed, AllBelow}
use Rattle.hook_chain.specs.StandingChains.{IsChainFor, AllStand}
use Rattle.realm_insert.specs.State.{HasIdsBelow}

-- its ends are in order, since its chain stands for it
pub placed_in_order : (d : Drawing) (id : ℕ) (s : GridSegment) → AllStand (placed d id s) → IsBefore s.a s.b
placed_in_order d id s stand =
    let o = straight id s in
    let stands =
    All-contains (λ q. IsChainFor (along q) q.chain) (d.originals ++ o ∷ []) o stand (Contains-push d.originals o) in
    stands.valid.ends

-- the next id is greater than all ids again
pub placed_below : (d : Drawing) (id : ℕ) (s : GridSegment) → 1 ≤ id → HasIdsBelow id d → HasIdsBelow (id + 1) (placed d id s)
placed_below d id s first below =
    All-push (λ o. (1 ≤ o.id) × (o.id < id + 1)) d.originals (straight id s)
    (All-weaker (λ o. (1 ≤ o.id) × (o.id < id)) (λ o. (1 ≤ o.id) × (o.id < id + 1))
    (λ o bounds. (bounds.0, omega (arith, bounds.1))) d.originals below)
    (first, omega arith)

-- so it may have this id
pub id_is_above : (d : Drawing) (id : ℕ) → HasIdsBelow id d → AllBelow id d
id_is_above d id below =
    All-weaker (λ o. (1 ≤ o.id) × (o.id < id)) (λ o. o.id < id) (λ o bounds. bounds.1) d.originals below
