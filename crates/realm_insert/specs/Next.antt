-- One change of the state.
use Rattle.std.specs.Prelude.{◌≡◌, ◌↔◌, ◌+◌, List, [], ◌∷◌, ◌++◌, length, All, Contains}
use Rattle.grid_base.specs.Point.{GridPoint}
use Rattle.grid_base.specs.Segment.{GridSegment}
use Rattle.grid_base.specs.Drawing.{Drawing, HasViolation, IsPoint, IsPiece}
use Rattle.grid_base.specs.declared.kinds.Step.{Step}
use Rattle.line_grammar.specs.declared.command.Change.{Change}
use Rattle.hook_chain.specs.Steps.{Settles}
use Rattle.realm_insert.specs.State.{State, kept_trace, latest}
use Rattle.realm_insert.specs.Figures.{Figure, Draws}
use Rattle.realm_insert.specs.Refusals.{IsAccepted}
use Rattle.realm_insert.specs.Changes.{IsChangedTo, ChangesTo, AreValuesAfter}

-- The change is accepted and leads from old to new: what it makes of the drawing is settled by the trace, which is kept,
-- and the numbers and the values follow.
pub record Next (old : State) (c : Change) (trace : List Step) (new : State) : Type 0 where
  pub accepted : IsAccepted c old
  pub figure : Figure
  pub draws : Draws c old figure
  pub changed : Drawing
  pub is_changed : IsChangedTo c figure old.drawing old.next_id changed
  pub settles : Settles changed trace new.drawing
  pub next_id : new.next_id ≡ old.next_id + length figure.segments
  pub values : AreValuesAfter c figure old.next_id old.values new.values
  pub changes : new.changes ≡ old.changes + 1
  pub traces : new.traces ≡ latest (old.traces ++ kept_trace (old.changes + 1) trace ∷ [])

-- nothing that the change itself makes of the drawing has a violation
abbrev pub MakesNoViolation : State → Change → Type 0
MakesNoViolation old c = (changed : Drawing) → ChangesTo c old changed → HasViolation changed → ⊥

-- all that was drawn is there, each original with its chain, and no point or piece is new
pub record KeepsAll (old new : Drawing) : Type 0 where
  pub originals : All (Contains new.originals) old.originals
  pub points : (p : GridPoint) → IsPoint new p ↔ IsPoint old p
  pub pieces : (s : GridSegment) → IsPiece new s ↔ IsPiece old s
