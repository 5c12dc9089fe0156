-- What the items of a sound text tell: the drawings that they make one after the other, and the counts.
use Rattle.std.specs.Prelude.{◌≡◌, ◌⊎◌, ◌^◌, ℕ, min, IsTrue, List, [], ◌∷◌, ◌++◌, All, map, count_by}
use Rattle.grid_base.specs.Point.{IsBefore}
use Rattle.grid_base.specs.Drawing.{Drawing, IsDrawnRealm}
use Rattle.grid_base.specs.declared.kinds.Step.{Step}
use Rattle.hook_chain.specs.Chains.{RunsFrom}
use Rattle.hook_chain.specs.Steps.{Settles}
use Rattle.hook_chain.specs.Straight.{along}
use Rattle.hook_chain.specs.StandingChains.{StaysInEnvelope}
use Rattle.realm_audit.specs.Audits.{Audit, first_audit, Runs}
use Rattle.realm_audit.specs.Facts.{IsClosing, is_change, is_step}
use Rattle.realm_audit.specs.declared.item.Item.{Item}
use Rattle.realm_audit.specs.declared.item.Item.TheVariants.{End}
use Rattle.realm_audit.specs.declared.item.Item.TheVariants as items

-- the items hold one after the other from the first on, and make the drawing d
abbrev pub Makes : List Item → Drawing → Type 0
Makes list d = (audit : Audit) × Runs first_audit list audit × (d ≡ audit.drawing)

-- the list is a sound certificate with so many changes and steps
pub record IsSoundList (list : List Item) (changes steps : ℕ) : Type 0 where
  -- each item holds, and the last one is `end`
  pub holds : (d : Drawing) × Makes list d
  pub ends : (before : List Item) × (list ≡ before ++ End ∷ [])
  -- where a change begins, and at the end, the drawing is a realm
  pub realm : (before after : List Item) (item : Item) (d : Drawing) → list ≡ before ++ item ∷ after → IsClosing item
      → Makes before d → IsDrawnRealm d
  -- anywhere, each chain leads from the lesser end of its original to the greater, and stays in the envelope
  pub leads : (before after : List Item) (d : Drawing) → list ≡ before ++ after → Makes before d
      → All (λ o. IsBefore o.a o.b × RunsFrom o.a o.b o.chain) d.originals
  pub in_envelope : (before after : List Item) (d : Drawing) → list ≡ before ++ after → Makes before d
      → All (λ o. StaysInEnvelope (along o) o.chain) d.originals
  -- the steps of a change come last in it, and settle the drawing that they begin with
  pub come_last : (before after : List Item) (step : Step) (item : Item)
      → list ≡ (before ++ items.Step step ∷ []) ++ item ∷ after → IsClosing item ⊎ IsTrue (is_step item)
  pub settle : (before after : List Item) (trace : List Step) (item : Item) (d e : Drawing)
      → list ≡ (before ++ map items.Step trace) ++ item ∷ after → IsClosing item
      → Makes before d → Makes (before ++ map items.Step trace) e → Settles d trace e
  -- changes and steps are counted, up to 2^63
  pub changes_are : changes ≡ min (count_by is_change list) (2 ^ 63)
  pub steps_are : steps ≡ min (count_by is_step list) (2 ^ 63)
