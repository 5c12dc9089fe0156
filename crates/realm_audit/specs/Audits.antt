-- What the lines of a certificate make one after the other: a drawing, and how far the change has come. A line holds
-- where it may stand, and then it leads from one audit to the next.
use Rattle.std.specs.Prelude.{◌≡◌, ◌≢◌, ◌⊎◌, ◌↔◌, ℕ, ◌+◌, ◌<◌, ◌^◌, min, List, [], ◌∷◌, AllPairs, Contains}
use Rattle.grid_base.specs.Point.{GridPoint, IsBefore}
use Rattle.grid_base.specs.Drawing.{Drawing, HasViolation}
use Rattle.hook_chain.specs.Steps.{Permitted}
use Rattle.hook_chain.specs.Straight.{placed}
use Rattle.hook_chain.specs.Ids.{LacksId}
use Rattle.hook_chain.specs.Changed.{PlacesChain, without_id}
use Rattle.realm_audit.specs.Items.{IsTextOf}
use Rattle.realm_audit.specs.declared.item.Item.{Item}
use Rattle.realm_audit.specs.declared.item.Item.TheVariants.{Point, Unpoint, Original, Change, Remove, Segment, End}
use Rattle.realm_audit.specs.declared.item.Item.TheVariants as items
use Rattle.realm_audit.specs.declared.phase.Phase.{Phase}
use Rattle.realm_audit.specs.declared.phase.Phase.TheVariants.{Opening, Placing, Stepping, Ended}

-- the explicit points are those of the old drawing and p, ascending, and all else is as it was
pub record GainsPoint (old new : Drawing) (p : GridPoint) : Type 0 where
  pub points : (q : GridPoint) → Contains new.points q ↔ ((q ≡ p) ⊎ Contains old.points q)
  pub ascending : AllPairs IsBefore new.points
  pub originals : new.originals ≡ old.originals

-- the explicit points are those of the old drawing but p, ascending, and all else is as it was
pub record LosesPoint (old new : Drawing) (p : GridPoint) : Type 0 where
  pub points : (q : GridPoint) → Contains new.points q ↔ (Contains old.points q × (q ≡ p → ⊥))
  pub ascending : AllPairs IsBefore new.points
  pub originals : new.originals ≡ old.originals

-- what the lines so far have made
pub record Audit : Type 0 where
  pub drawing : Drawing
  -- the greatest id so far, those of removed originals among them
  pub greatest : ℕ
  pub phase : Phase
  -- how many changes were begun, and how many steps taken
  pub changes : ℕ
  pub steps : ℕ

-- before the first line
abbrev pub first_audit : Audit
first_audit = record {
  drawing = record { points = []; originals = [] };
  greatest = 0;
  phase = Opening;
  changes = 0;
  steps = 0;
}

-- one more, up to 2^63
abbrev pub next_count : ℕ → ℕ
next_count n = min (n + 1) (2 ^ 63)

-- points may still come: no change was begun, or no step of it was taken
abbrev pub TakesPoints : Phase → Type 0
TakesPoints phase = (phase ≡ Opening) ⊎ (phase ≡ Placing)

-- steps may come
abbrev pub TakesSteps : Phase → Type 0
TakesSteps phase = (phase ≡ Placing) ⊎ (phase ≡ Stepping)

-- the line holds in the old audit, and leads to the new one
abbrev pub LineHolds : Audit → Item → Audit → Type 0
LineHolds old (Point p) new =
    TakesPoints old.phase × (Contains old.drawing.points p → ⊥)
    × (d : Drawing) × GainsPoint old.drawing d p × (new ≡ record old { drawing = d })
LineHolds old (Unpoint p) new =
    (old.phase ≡ Placing) × Contains old.drawing.points p
    × (d : Drawing) × LosesPoint old.drawing d p × (new ≡ record old { drawing = d })
LineHolds old (Original id chain) new =
    (old.phase ≡ Opening) × (old.greatest < id)
    × (d : Drawing) × PlacesChain old.drawing d id chain × (new ≡ record old { drawing = d; greatest = id })
LineHolds old Change new =
    (old.phase ≢ Ended) × (HasViolation old.drawing → ⊥)
    × (new ≡ record old { phase = Placing; changes = next_count old.changes })
LineHolds old (Remove id) new =
    (old.phase ≡ Placing) × (LacksId old.drawing.originals id → ⊥)
    × (new ≡ record old { drawing = without_id old.drawing id })
LineHolds old (Segment id p q) new =
    (old.phase ≡ Placing) × (old.greatest < id) × IsBefore p q
    × (new ≡ record old { drawing = placed old.drawing id (record { a = p; b = q }); greatest = id })
LineHolds old (items.Step step) new =
    TakesSteps old.phase
    × (d : Drawing) × Permitted old.drawing step d
    × (new ≡ record old { drawing = d; phase = Stepping; steps = next_count old.steps })
LineHolds old End new =
    (old.phase ≢ Ended) × (HasViolation old.drawing → ⊥) × (new ≡ record old { phase = Ended })

-- the text is that of a line which holds in the old audit, and leads to the new one
abbrev pub Accepts : Audit → List ℕ → Audit → Type 0
Accepts old text new = (item : Item) × IsTextOf text item × LineHolds old item new

-- the items hold one after the other, and lead from the old audit to the new one
abbrev pub Runs : Audit → List Item → Audit → Type 0
Runs old [] new = old ≡ new
Runs old (item ∷ list) new = (between : Audit) × LineHolds old item between × Runs between list new
