-- This file shows what one more explicit point makes of a drawing.
use Rattle.std.proofs.Common.{◌≡◌, ◌⊎◌, ◌↔◌, List, Contains, Result, Ok, Err, IfOk, OnOk, refl}
use Rattle.grid_base.specs.Point.{GridPoint}
use Rattle.grid_base.specs.declared.original.Original.{Original}
use Rattle.component_registry.specs.Registry.{Holdings}
use Rattle.realm_drawing.specs.Keyed.{AddsPoint}
use Rattle.realm_drawing.specs.Kept.{drawn}

-- where the point was put, and the originals and the registry stay
pub point_added : {T E : Type 0} (r : Result T E) (old new : List GridPoint) (originals : List Original)
    (registry : Holdings) (p : GridPoint) → IfOk r (λ _. (q : GridPoint) → Contains new q ↔ ((q ≡ p) ⊎ Contains old q))
    → OnOk r (AddsPoint (drawn old originals registry) (drawn new originals registry) p)
point_added (Ok x) old new originals registry p members = record { points = members; originals = refl; keys = refl }
point_added (Err e) old new originals registry p members = tt
