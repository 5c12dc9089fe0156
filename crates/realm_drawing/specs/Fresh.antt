-- The pieces that a registry comes to have, with their keys. No public clause cites this file.
use Rattle.std.specs.Prelude.{◌≡◌, ◌≢◌, ◌⊎◌, ℕ, Some, List, [], ◌∷◌, ◌++◌, Contains, AllPairs}
use Rattle.grid_base.specs.Segment.{GridSegment}
use Rattle.component_registry.specs.Registry.{Holdings, IsPiece, key_of}
use Rattle.realm_drawing.specs.Keyed.{KeyedPiece, keyed}

-- the list has the pieces that the new registry has and the old one hasn't, each once and with its key
pub record ListsFresh (old new : Holdings) (list : List KeyedPiece) : Type 0 where
  pub listed : (s : GridSegment) (k : ℕ) → Contains list (keyed s k) → (key_of new s ≡ Some k) × ¬ IsPiece old s
  pub all : (s : GridSegment) (k : ℕ) → key_of new s ≡ Some k → IsPiece old s ⊎ Contains list (keyed s k)
  pub once : AllPairs (λ f g. f.key ≢ g.key) list

-- the piece s, which the new registry has, comes last in the new list, unless the old registry has it too
abbrev pub ListsIfNew : Holdings → Holdings → GridSegment → List KeyedPiece → List KeyedPiece → Type 0
ListsIfNew old new s before after =
    (IsPiece old s × (after ≡ before))
    ⊎ (¬ IsPiece old s × (k : ℕ) × (key_of new s ≡ Some k) × (after ≡ before ++ keyed s k ∷ []))
