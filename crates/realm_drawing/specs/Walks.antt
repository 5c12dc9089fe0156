-- A walk along originals by rising id, each seen as its id and its chain.
use Rattle.std.specs.Prelude.{ℕ, nat_le, List, map, filter}
use Rattle.grid_base.specs.Point.{GridPoint}
use Rattle.grid_base.specs.declared.original.Original.{Original}
use denote.Ref.{Bor}

-- an original's id and its chain
abbrev pub chain_by_id : Original → ℕ × List GridPoint
chain_by_id o = (o.id, o.chain)

-- those of the originals whose ids are id or greater, in their order
abbrev pub chains_from : ℕ → List Original → List (ℕ × List GridPoint)
chains_from id originals = map chain_by_id (filter (λ o. nat_le id o.id) originals)

-- what an id beside a borrowed chain shows
abbrev pub shown : ℕ × Bor (List GridPoint) → ℕ × List GridPoint
shown e = (e.0, e.1.now)
