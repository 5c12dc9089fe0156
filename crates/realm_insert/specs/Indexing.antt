-- How the index follows a change of the pieces. No public clause cites this file.
use Rattle.std.specs.Prelude.{◌≡◌, ◌⊎◌, ◌↔◌, ℕ, Some, List, Contains}
use Rattle.std.specs.FinMap as map
use Rattle.grid_base.specs.Segment.{GridSegment}
use Rattle.grid_base.specs.Drawing.{Drawing, IsPiece}
use Rattle.realm_drawing.specs.Keyed.{KeyedDrawing, keyed, HasKey}
use Rattle.realm_drawing.specs.declared.keyed.KeyedPiece.{KeyedPiece}
use Rattle.realm_index.specs.Index.{Entries}

-- the new list has what the old one has, and s with its key where it is a piece
abbrev pub ListsWithKey : KeyedDrawing → GridSegment → List KeyedPiece → List KeyedPiece → Type 0
ListsWithKey d s old new = (t : GridSegment) (k : ℕ) → Contains new (keyed t k)
    ↔ (Contains old (keyed t k) ⊎ ((t ≡ s) × HasKey d s k))

-- the list has the pieces as P says, each with its key
abbrev pub ListsKeyed : KeyedDrawing → (GridSegment → Type 0) → List KeyedPiece → Type 0
ListsKeyed d P list = (s : GridSegment) (k : ℕ) → Contains list (keyed s k) ↔ (P s × HasKey d s k)

-- what is under the keys of the list goes unless it is a piece of d, and all else stays
abbrev pub ForgetsGone : Drawing → List KeyedPiece → Entries → Entries → Type 0
ForgetsGone d list old new = (s : GridSegment) (k : ℕ) → (map.get new k ≡ Some s)
    ↔ ((map.get old k ≡ Some s) × ((t : GridSegment) → Contains list (keyed t k) → IsPiece d t))

-- the pieces of the list are under their keys, and all else stays
abbrev pub AddsEntries : List KeyedPiece → Entries → Entries → Type 0
AddsEntries list old new = (s : GridSegment) (k : ℕ) → (map.get new k ≡ Some s)
    ↔ (Contains list (keyed s k) ⊎ (map.get old k ≡ Some s))

-- each entry is a piece of d under its key
abbrev pub HasPiecesOnly : KeyedDrawing → Entries → Type 0
HasPiecesOnly d index = (s : GridSegment) (k : ℕ) → map.get index k ≡ Some s → HasKey d s k

-- s is under its key if it is a piece, and all else stays
abbrev pub AddsPiece : KeyedDrawing → GridSegment → Entries → Entries → Type 0
AddsPiece d s old new = (t : GridSegment) (k : ℕ) → (map.get new k ≡ Some t)
    ↔ ((map.get old k ≡ Some t) ⊎ ((t ≡ s) × HasKey d s k))
