-- This file shows that what isn't on a line is left or right of it.
use Rattle.std.proofs.Common.{◌≡◌, ◌⊎◌, refl, inl, inr}
use Rattle.grid_base.specs.Sides.{Side, Left, On, Right}

abbrev pub IsSlanted : Side → Type 0
IsSlanted d = (d ≡ Left) ⊎ (d ≡ Right)

pub slanted_of : (d : Side) → (d ≡ On → ⊥) → IsSlanted d
slanted_of Left h = inl refl
slanted_of On h = absurd (h refl)
slanted_of Right h = inr refl
