-- The numbers of a state.
use Rattle.std.specs.Prelude.{ℕ, ◌≤◌, ◌<◌, ◌^◌, List, All}
use Rattle.grid_base.specs.declared.original.Original.{Original}

-- there are no more changes and ids than there may be, and each id is from 1 on and below the next one
abbrev pub HaveFitting : ℕ → ℕ → List Original → Type 0
HaveFitting changes next_id originals =
    ((changes ≤ 2 ^ 63) × (1 ≤ next_id) × (next_id ≤ 2 ^ 32)) × All (λ o. (1 ≤ o.id) × (o.id < next_id)) originals
