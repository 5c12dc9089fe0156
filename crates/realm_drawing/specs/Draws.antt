-- What a step draws: the pieces that a drawing has once it is taken and didn't have before, each with its key. Each new point is
-- an end of one of them, no point goes, and no piece but those of the step.
use Rattle.std.specs.Prelude.{◌≢◌, ◌⊎◌, ℕ, List, Contains, Any, AllPairs}
use Rattle.grid_base.specs.Point.{GridPoint}
use Rattle.grid_base.specs.Segment.{GridSegment, IsEnd}
use Rattle.grid_base.specs.Drawing.{IsPoint, IsPiece}
use Rattle.grid_base.specs.declared.kinds.Step.{Step}
use Rattle.hook_chain.specs.Mending.{IsPieceOf}
use Rattle.realm_drawing.specs.Keyed.{KeyedPiece, KeyedDrawing, keyed, HasKey}

-- the step leads from the old drawing to the new one, and the list has the pieces that it draws anew, with their keys
pub record DrawsAnew (step : Step) (old new : KeyedDrawing) (list : List KeyedPiece) : Type 0 where
  -- a listed piece has this key, and was no piece before
  pub fresh : (s : GridSegment) (k : ℕ) → Contains list (keyed s k) → HasKey new s k × (IsPiece old.drawing s → ⊥)
  -- a piece afterwards was one before, or is listed with its key
  pub all_pieces : (s : GridSegment) (k : ℕ) → HasKey new s k → IsPiece old.drawing s ⊎ Contains list (keyed s k)
  -- no key is listed twice
  pub once : AllPairs (λ f g. f.key ≢ g.key) list
  -- a point afterwards was one before, or is an end of a listed piece
  pub ends : (p : GridPoint) → IsPoint new.drawing p → IsPoint old.drawing p ⊎ Any (λ f. IsEnd p f.piece) list
  -- no piece goes but those of the step, and no point
  pub others_stay : (s : GridSegment) → IsPiece old.drawing s → IsPiece new.drawing s ⊎ IsPieceOf step s
  pub points_stay : (p : GridPoint) → IsPoint old.drawing p → IsPoint new.drawing p
