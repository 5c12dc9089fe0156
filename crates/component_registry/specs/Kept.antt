-- How pieces are kept: a map from pieces to what is held of them, a slab from keys to pieces.
-- No public clause cites this file.
use Rattle.std.specs.Prelude.{◌≡◌, ℕ, ◌<◌, ◌&&◌, Bool, length, Option, Some}
use Rattle.std.specs.List.Sorted.{IsStrictlyIncreasing}
use Rattle.std.specs.HashMap.{HashMap}
use Rattle.std.specs.HashMap as hash
use Rattle.std.specs.FinMap as map
use Rattle.slab.specs.Slab.{Slab}
use Rattle.slab.specs.Slab as slab
use Rattle.grid_base.specs.Point.{is_point}
use Rattle.grid_base.specs.Segment.{GridSegment}
use Rattle.component_registry.specs.Registry.{Holding, Holdings}

-- whether s and t are one segment
abbrev pub is_segment : GridSegment → GridSegment → Bool
is_segment s t = is_point s.a t.a && is_point s.b t.b

-- a map from pieces to what is held of them
abbrev pub Pieces : Type 0 → Type 0
Pieces S = HashMap GridSegment Holding S

-- a slab from keys to pieces
abbrev pub Slots : Type 0
Slots = Slab GridSegment

-- there are owners, and they ascend
pub record IsHeld (h : Holding) : Type 0 where
  pub owned : 0 < length h.owners
  pub ascending : IsStrictlyIncreasing h.owners

module _ {S : Type 0} where
  -- what the map has of s
  abbrev pub held_in : Pieces S → GridSegment → Option Holding
  held_in m s = hash.get is_segment m s

  -- what clauses see of a map
  abbrev pub seen_of : Pieces S → Holdings
  seen_of m = map.from_entries m.entries

-- the map has owners of each piece, and the slab has each piece under its key and nothing else
pub record MatchesSlab {S : Type 0} (m : Pieces S) (keys : Slots) : Type 0 where
  pub owners : (s : GridSegment) (h : Holding) → held_in m s ≡ Some h → IsHeld h
  pub stored : (s : GridSegment) (h : Holding) → held_in m s ≡ Some h → slab.get keys h.key ≡ Some s
  pub listed : (k : ℕ) (s : GridSegment) → slab.get keys k ≡ Some s
      → (h : Holding) × (held_in m s ≡ Some h) × (h.key ≡ k)
