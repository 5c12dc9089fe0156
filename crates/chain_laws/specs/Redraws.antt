-- The one or two redrawings of a step: which paths may stand for its pieces, and what they make of a drawing.
use Rattle.std.specs.Prelude.{◌≡◌, ◌≢◌, ◌⊎◌, ◌↔◌, Option, Some, None, MatchOption, IsSomeAnd, List, map}
use Rattle.grid_base.specs.Point.{GridPoint, IsBefore}
use Rattle.grid_base.specs.Segment.{GridSegment}
use Rattle.grid_base.specs.Drawing.{Drawing, HasLink}
use Rattle.grid_base.specs.declared.kinds.Step.{Step}
use Rattle.grid_base.specs.declared.original.Original.{Original}
use Rattle.hook_chain.specs.Chains.{RunsFrom}
use Rattle.hook_chain.specs.Redrawing.{redrawn}
use Rattle.hook_chain.specs.ValidChain.{ValidChain}
use Rattle.hook_chain.specs.Steps.{Permitted}
use Rattle.hook_chain.specs.Mending.{HasParts, IsPieceOf}
use Rattle.chain_laws.specs.declared.redrawing.Redrawing.{Redrawing}
use Rattle.chain_laws.specs.declared.redrawing.Redrawings.{Redrawings}

-- the chain with the second path in the place of its piece, where there is a second
abbrev pub redrawn_also : Option Redrawing → List GridPoint → List GridPoint
redrawn_also None chain = chain
redrawn_also (Some r) chain = redrawn r.piece r.path chain

-- the chain with the paths of the step
abbrev pub redrawn_by : Redrawings → List GridPoint → List GridPoint
redrawn_by step chain = redrawn_also step.second (redrawn step.first.piece step.first.path chain)

abbrev pub redrawn_original_by : Redrawings → Original → Original
redrawn_original_by step o = record o { chain = redrawn_by step o.chain }

-- the path may stand for the piece: it leads from its lesser end to its greater, and a chain that may stand
-- for its original still may with the path in it
pub record IsPathFor (r : Redrawing) : Type 0 where
  pub ordered : IsBefore r.piece.a r.piece.b
  pub leads : RunsFrom r.piece.a r.piece.b r.path
  pub keeps : (o : GridSegment) (chain : List GridPoint) → ValidChain o chain
      → ValidChain o (redrawn r.piece r.path chain)

-- the two pieces differ, and neither is on the path of the other
pub record AreApart (first second : Redrawing) : Type 0 where
  pub other : second.piece ≢ first.piece
  pub not_on_first : HasLink first.path second.piece → ⊥
  pub not_on_second : HasLink second.path first.piece → ⊥

-- the paths may stand for the pieces, one beside the other
pub record AreRedrawings (step : Redrawings) : Type 0 where
  pub first : IsPathFor step.first
  pub second : MatchOption step.second (Unit {0}) (λ r. IsPathFor r × AreApart step.first r)

-- s is a piece of the step
abbrev pub IsRedrawn : Redrawings → GridSegment → Type 0
IsRedrawn step s = (s ≡ step.first.piece) ⊎ MatchOption step.second ⊥ (λ r. s ≡ r.piece)

-- P holds of a redrawing of the step
abbrev pub AnyOf : Redrawings → (Redrawing → Type 0) → Type 0
AnyOf step P = P step.first ⊎ IsSomeAnd step.second P

-- d with the paths of a step in the place of its pieces
abbrev pub redrawn_drawing : Redrawings → Drawing → Drawing
redrawn_drawing redrawings d =
    record { points = d.points; originals = map (redrawn_original_by redrawings) d.originals }

-- these are the redrawings of the step
pub record IsRedrawingsOf (step : Step) (redrawings : Redrawings) : Type 0 where
  pub sound : AreRedrawings redrawings
  -- they are of its pieces
  pub pieces : (s : GridSegment) → IsPieceOf step s ↔ IsRedrawn redrawings s
  pub leads : (d : Drawing) → HasParts d step → Permitted d step (redrawn_drawing redrawings d)
