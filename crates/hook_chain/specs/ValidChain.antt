-- The chains that may stand for an original: the third and the fourth line of what a valid state is.
use Rattle.std.specs.Prelude.{◌≡◌, ◌≢◌, ◌⊎◌, ◌+◌, ◌≤◌, List, [], ◌∷◌}
use Rattle.grid_base.specs.Point.{GridPoint, IsBefore}
use Rattle.grid_base.specs.Segment.{GridSegment}
use Rattle.hook_chain.specs.Close.{Close}
use Rattle.hook_chain.specs.Chains.{AllLinks, RunsFrom}

-- on the way from a to b, w may follow v: x never falls, y never falls where b isn't below a, and y never
-- rises where b isn't above a
abbrev pub IsMonotone : GridPoint → GridPoint → GridPoint → GridPoint → Type 0
IsMonotone a b v w = (v ≢ w) × (v.x ≤ w.x) × (a.y ≤ b.y → v.y ≤ w.y) × (b.y ≤ a.y → w.y ≤ v.y)

-- u, v, w go round the lower left corner v of a cell, and the cell's diagonal from u to w is close to o
pub record IsCorner (o : GridSegment) (u v w : GridPoint) : Type 0 where
  pub down : (v.x ≡ u.x) × (u.y ≡ v.y + 1)
  pub right : (w.x ≡ v.x + 1) × (w.y ≡ v.y)
  pub diagonal : Close o (record { a = u; b = w })

-- each link is close to o, or one of the two of a corner
abbrev pub IsCloseChain : GridSegment → List GridPoint → Type 0
IsCloseChain o [] = Unit {0}
IsCloseChain o (v ∷ []) = Unit {0}
IsCloseChain o (v ∷ w ∷ []) = Close o (record { a = v; b = w })
IsCloseChain o (u ∷ v ∷ w ∷ chain) =
    (Close o (record { a = u; b = v }) × IsCloseChain o (v ∷ w ∷ chain))
    ⊎ (IsCorner o u v w × IsCloseChain o (w ∷ chain))

-- the chain may stand for o
pub record ValidChain (o : GridSegment) (chain : List GridPoint) : Type 0 where
  pub ends : IsBefore o.a o.b
  pub leads : RunsFrom o.a o.b chain
  pub monotone : AllLinks (IsMonotone o.a o.b) chain
  pub close : IsCloseChain o chain
