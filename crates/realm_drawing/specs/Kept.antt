-- What every drawing that is kept is like. No public clause cites this file.
use Rattle.std.specs.Prelude.{◌≡◌, ◌↔◌, ℕ, List, All, AllPairs, Any, map}
use Rattle.std.specs.FinMap as map
use Rattle.grid_base.specs.Point.{GridPoint, IsBefore}
use Rattle.grid_base.specs.Segment.{GridSegment}
use Rattle.grid_base.specs.Drawing.{HasLink}
use Rattle.grid_base.specs.declared.original.Original.{Original}
use Rattle.component_registry.specs.Registry.{Holdings, IsSound, Owns}
use Rattle.hook_chain.specs.Ids.{IsAscending}
use Rattle.hook_chain.specs.StandingChains.{HasValidChain}
use Rattle.realm_drawing.specs.Keyed.{KeyedPiece, KeyedDrawing, keyed}

-- the pieces of a registry with their keys
abbrev pub keys_in : Holdings → List KeyedPiece
keys_in r = map (λ e. keyed e.0 e.1.key) (map.entries r)

-- what clauses see of explicit points, originals and a registry
abbrev pub drawn : List GridPoint → List Original → Holdings → KeyedDrawing
drawn points originals r = record { drawing = record { points = points; originals = originals }; keys = keys_in r }

-- the original with the id x has the piece s
abbrev pub HasPieceOf : List Original → GridSegment → ℕ → Type 0
HasPieceOf originals s x = IsBefore s.a s.b × Any (λ o. (o.id ≡ x) × HasLink o.chain s) originals

-- the owners of a piece are the originals with it as a link of their chains
abbrev pub HasOwnersOf : List Original → Holdings → Type 0
HasOwnersOf originals r = (s : GridSegment) (x : ℕ) → Owns r s x ↔ HasPieceOf originals s x

-- ids rise, each chain may stand for its original, and the registry has the owners of each piece
pub record AreKept (originals : List Original) (r : Holdings) : Type 0 where
  pub ids_rise : IsAscending originals
  pub all_valid : All HasValidChain originals
  pub sound : IsSound r
  pub owners : HasOwnersOf originals r

-- explicit points ascend and ids rise, each chain may stand for its original, and the registry has the owners of
-- each piece
pub record IsInOrder (points : List GridPoint) (originals : List Original) (r : Holdings) : Type 0 where
  pub points_ascend : AllPairs IsBefore points
  pub ids_rise : IsAscending originals
  pub all_valid : All HasValidChain originals
  pub sound : IsSound r
  pub owners : HasOwnersOf originals r
