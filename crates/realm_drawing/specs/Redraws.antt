-- The new chains of a step, each for the original with its id. No public clause cites this file.
use Rattle.std.specs.Prelude.{◌≡◌, ◌⊎◌, ℕ, Option, MatchOption, List, All, Any}
use Rattle.grid_base.specs.Point.{GridPoint}
use Rattle.grid_base.specs.declared.original.Original.{Original}
use Rattle.chain_laws.specs.Redraws.{redrawn_by}
use Rattle.chain_laws.specs.declared.redrawing.Redrawings.{Redrawings}
use Rattle.realm_drawing.specs.declared.redrawing.Replacement.{Replacement}

-- what comes of a chain that is to become the other: none where it stays
abbrev pub Becomes : List GridPoint → List GridPoint → Option (List GridPoint) → Type 0
Becomes chain after found = MatchOption found (after ≡ chain) (λ new. new ≡ after)

-- r has the chain with the paths of the step for the original with its id
abbrev pub IsReplacement : Redrawings → List Original → Replacement → Type 0
IsReplacement step originals r = All (λ o. o.id ≡ r.id → r.chain ≡ redrawn_by step o.chain) originals

-- there is a replacement for the id
abbrev pub HasReplacement : List Replacement → ℕ → Type 0
HasReplacement list id = Any (λ r. r.id ≡ id) list

-- there is one for the original, or its chain stays
abbrev pub IsReplaced : Redrawings → List Replacement → Original → Type 0
IsReplaced step list o = HasReplacement list o.id ⊎ (redrawn_by step o.chain ≡ o.chain)

-- the list has replacements alone, and one for each original whose chain is to change
pub record AreReplacements (step : Redrawings) (originals : List Original) (list : List Replacement)
    : Type 0 where
  pub each : All (IsReplacement step originals) list
  pub all : All (IsReplaced step list) originals

-- the list has replacements alone, those it had, and those for the ids that are wanted
pub record AddsReplacements (step : Redrawings) (originals : List Original) (Wanted : ℕ → Type 0)
    (old new : List Replacement) : Type 0 where
  pub each : All (IsReplacement step originals) old → All (IsReplacement step originals) new
  pub stay : (id : ℕ) → HasReplacement old id → HasReplacement new id
  pub wanted : All (λ o. Wanted o.id → IsReplaced step new o) originals
