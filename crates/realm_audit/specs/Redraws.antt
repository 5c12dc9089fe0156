-- Paths that stand for pieces, drawn in every chain. No public clause cites this file.
use Rattle.std.specs.Prelude.{◌≡◌, ◌⊎◌, ℕ, List, All, Any}
use Rattle.grid_base.specs.Point.{GridPoint}
use Rattle.grid_base.specs.Drawing.{Drawing}
use Rattle.grid_base.specs.declared.original.Original.{Original}
use Rattle.hook_chain.specs.Redrawing.{redraw, redrawn, redrawn_original}
use Rattle.chain_laws.specs.declared.redrawing.Redrawing.{Redrawing}
use Rattle.realm_audit.specs.declared.redrawing.Replacement.{Replacement}

-- the chain with the path
abbrev pub redrawn_by : Redrawing → List GridPoint → List GridPoint
redrawn_by r chain = redrawn r.piece r.path chain

-- the original with the path in its chain
abbrev pub redrawn_original_by : Redrawing → Original → Original
redrawn_original_by r o = redrawn_original r.piece r.path o

-- the drawing with the path in the place of the piece
abbrev pub redraw_by : Redrawing → Drawing → Drawing
redraw_by r d = redraw r.piece r.path d

-- r has the chain with the path for the original with its id
abbrev pub IsReplacement : Redrawing → List Original → Replacement → Type 0
IsReplacement step originals r = All (λ o. o.id ≡ r.id → r.chain ≡ redrawn_by step o.chain) originals

-- there is a replacement for the id
abbrev pub HasReplacement : List Replacement → ℕ → Type 0
HasReplacement list id = Any (λ r. r.id ≡ id) list

-- there is one for the original, or its chain stays
abbrev pub IsReplaced : Redrawing → List Replacement → Original → Type 0
IsReplaced step list o = HasReplacement list o.id ⊎ (redrawn_by step o.chain ≡ o.chain)

-- the list has replacements alone, and one for each original whose chain is to change
pub record AreReplacements (step : Redrawing) (originals : List Original) (list : List Replacement)
    : Type 0 where
  pub each : All (IsReplacement step originals) list
  pub all : All (IsReplaced step list) originals

-- the list has replacements alone, those it had, and those for the ids that are wanted
pub record AddsReplacements (step : Redrawing) (originals : List Original) (Wanted : ℕ → Type 0)
    (old new : List Replacement) : Type 0 where
  pub each : All (IsReplacement step originals) old → All (IsReplacement step originals) new
  pub stay : (id : ℕ) → HasReplacement old id → HasReplacement new id
  pub wanted : All (λ o. Wanted o.id → IsReplaced step new o) originals
