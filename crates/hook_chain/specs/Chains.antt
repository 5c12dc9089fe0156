-- Chains as lists of grid points.
use Rattle.std.specs.Prelude.{◌≡◌, List, [], ◌∷◌}
use Rattle.grid_base.specs.Point.{GridPoint, IsBefore}
use Rattle.grid_base.specs.Segment.{GridSegment}
use Rattle.grid_base.specs.Drawing.{IsLink}

-- P holds of each vertex and the next
abbrev pub AllLinks : (GridPoint → GridPoint → Type 0) → List GridPoint → Type 0
AllLinks P [] = Unit {0}
AllLinks P (v ∷ []) = Unit {0}
AllLinks P (v ∷ w ∷ chain) = P v w × AllLinks P (w ∷ chain)

-- P holds of each three vertices in a row
abbrev pub AllBends : (GridPoint → GridPoint → GridPoint → Type 0) → List GridPoint → Type 0
AllBends P [] = Unit {0}
AllBends P (u ∷ []) = Unit {0}
AllBends P (u ∷ v ∷ []) = Unit {0}
AllBends P (u ∷ v ∷ w ∷ chain) = P u v w × AllBends P (v ∷ w ∷ chain)

-- the list leads from a to b
abbrev pub RunsFrom : GridPoint → GridPoint → List GridPoint → Type 0
RunsFrom a b [] = ⊥
RunsFrom a b (v ∷ []) = (v ≡ a) × (v ≡ b)
RunsFrom a b (v ∷ w ∷ chain) = (v ≡ a) × RunsFrom w b (w ∷ chain)

-- t is the segment between v and w
abbrev pub IsBetween : GridSegment → GridPoint → GridPoint → Type 0
IsBetween t v w = IsLink t v w × IsBefore t.a t.b
