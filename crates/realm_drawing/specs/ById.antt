-- Originals in a map by id, as the list of them. No public clause cites this file.
use Rattle.std.specs.Prelude.{ℕ, ◌==◌, cond, List, map}
use Rattle.std.specs.BTreeMap.{BTreeMap}
use Rattle.grid_base.specs.Point.{GridPoint}
use Rattle.grid_base.specs.declared.original.Original.{Original}
use Rattle.realm_drawing.specs.declared.originals.Placed.{Placed}

-- the original with this id that is placed so
abbrev pub original_of : ℕ × Placed → Original
original_of e = record { id = e.0; a = e.1.line.a; b = e.1.line.b; chain = e.1.chain }

-- the id and the chain that is placed with it
abbrev pub chain_of : ℕ × Placed → ℕ × List GridPoint
chain_of e = (e.0, e.1.chain)

-- the originals, in the order of the map
abbrev pub listed : BTreeMap ℕ Placed → List Original
listed m = map original_of m.entries

-- the original, with this chain where it has the id
abbrev pub rechained : ℕ → List GridPoint → Original → Original
rechained id chain o = cond (o.id == id) (record o { chain = chain }) o
