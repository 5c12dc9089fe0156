-- This file shows how many points a chain has that is redrawn.
use Rattle.std.proofs.Common.{◌<◌, ◌≤◌, List, [], ◌∷◌, length, arith, inl, inr, length-append}
use Rattle.grid_base.specs.Point.{GridPoint}
use Rattle.grid_base.specs.Segment.{GridSegment}
use Rattle.grid_base.specs.Drawing.{HasLink}
use Rattle.hook_chain.specs.Redrawing.{redrawn}
use Rattle.chain_laws.specs.Stretches.{stretch}
use Rattle.chain_laws.proofs.Stretches.{stretch_is_some, stretch_is_long}

-- it has no fewer
pub redrawn_keeps : (t : GridSegment) (path chain : List GridPoint) → 2 ≤ length path
    → length chain ≤ length (redrawn t path chain)
redrawn_keeps t path [] some = omega arith
redrawn_keeps t path (v ∷ []) some = omega arith
redrawn_keeps t path (v ∷ w ∷ chain) some =
    omega (
      arith,
      length-append (stretch t path v w) (redrawn t path (w ∷ chain)),
      stretch_is_some t path v w some,
      redrawn_keeps t path (w ∷ chain) some,
    )

-- and more where the chain has the piece, and the path a point between its ends
pub redrawn_adds : (t : GridSegment) (path chain : List GridPoint) → 3 ≤ length path → HasLink chain t
    → length chain < length (redrawn t path chain)
redrawn_adds t path [] long has = absurd has
redrawn_adds t path (v ∷ []) long has = absurd has
redrawn_adds t path (v ∷ w ∷ chain) long (inl link) =
    omega (
      arith,
      length-append (stretch t path v w) (redrawn t path (w ∷ chain)),
      stretch_is_long t path v w long link,
      redrawn_keeps t path (w ∷ chain) (omega arith),
    )
redrawn_adds t path (v ∷ w ∷ chain) long (inr later) =
    omega (
      arith,
      length-append (stretch t path v w) (redrawn t path (w ∷ chain)),
      stretch_is_some t path v w (omega arith),
      redrawn_adds t path (w ∷ chain) long later,
    )

-- a chain with a link has two points
pub two_points : (chain : List GridPoint) (t : GridSegment) → HasLink chain t → 2 ≤ length chain
two_points [] t has = absurd has
two_points (v ∷ []) t has = absurd has
two_points (v ∷ w ∷ chain) t has = omega arith
