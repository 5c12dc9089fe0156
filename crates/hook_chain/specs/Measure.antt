-- How many links the chains of a drawing have and can have at most, and how far a chain has come at a point.
use Rattle.std.specs.Prelude.{◌≡◌, ◌≤◌, ℕ, ◌+◌, ◌-◌, List, length, sum_by}
use Rattle.std.specs.List.{AllZip}
use Rattle.grid_base.specs.Point.{GridPoint, gap}
use Rattle.grid_base.specs.Segment.{GridSegment, width, height}
use Rattle.grid_base.specs.Drawing.{Drawing}
use Rattle.grid_base.specs.declared.original.Original.{Original}
use Rattle.hook_chain.specs.Straight.{along}

-- how many links the chain has
abbrev pub links_in : List GridPoint → ℕ
links_in chain = length chain - 1

-- how many links a chain of o has at most: one for each column and each row
abbrev pub most_links : GridSegment → ℕ
most_links o = width o + height o

-- how many links the chains of d have together
abbrev pub links_of : Drawing → ℕ
links_of d = sum_by (λ o. links_in o.chain) d.originals

-- and how many they have at most
abbrev pub most_links_of : Drawing → ℕ
most_links_of d = sum_by (λ o. most_links (along o)) d.originals

-- the two are one original, whose chain has as many links the second time, or more
abbrev pub HasAsManyLinks : Original → Original → Type 0
HasAsManyLinks before after = (before.id ≡ after.id) × (links_in before.chain ≤ links_in after.chain)

-- so it is with each original of d and that at its place in e, and e has no others
abbrev pub NoChainShorter : Drawing → Drawing → Type 0
NoChainShorter d e = AllZip HasAsManyLinks d.originals e.originals

-- how far a chain from a has come at p: each column counts one, and each row
abbrev pub progress : GridPoint → GridPoint → ℕ
progress a p = p.x + gap p.y a.y
