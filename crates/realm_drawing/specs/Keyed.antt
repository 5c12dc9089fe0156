-- Drawings with the keys of their pieces.
use Rattle.std.specs.Prelude.{◌≡◌, ◌⊎◌, ◌↔◌, ℕ, List, [], Contains}
use Rattle.grid_base.specs.Point.{GridPoint}
use Rattle.grid_base.specs.Segment.{GridSegment}
use Rattle.grid_base.specs.Drawing.{Drawing, IsPiece}
pub use Rattle.realm_drawing.specs.declared.keyed.KeyedPiece.{KeyedPiece}

abbrev pub keyed : GridSegment → ℕ → KeyedPiece
keyed s k = record { piece = s; key = k }

-- a drawing, and its pieces with their keys
pub record KeyedDrawing : Type 0 where
  pub drawing : Drawing
  pub keys : List KeyedPiece

-- nothing is drawn
abbrev pub empty_drawing : KeyedDrawing
empty_drawing = record { drawing = record { points = []; originals = [] }; keys = [] }

-- s is a piece with the key k
abbrev pub HasKey : KeyedDrawing → GridSegment → ℕ → Type 0
HasKey d s k = Contains d.keys (keyed s k)

-- what is a piece before and after has one key in both
abbrev pub KeepsKeys : KeyedDrawing → KeyedDrawing → Type 0
KeepsKeys old new = (s : GridSegment) (k j : ℕ) → HasKey old s k → HasKey new s j → j ≡ k

-- the explicit points are those there were and p, and all else is as it was
pub record AddsPoint (old new : KeyedDrawing) (p : GridPoint) : Type 0 where
  pub points : (q : GridPoint) → Contains new.drawing.points q ↔ ((q ≡ p) ⊎ Contains old.drawing.points q)
  pub originals : new.drawing.originals ≡ old.drawing.originals
  pub keys : new.keys ≡ old.keys

-- the explicit points are those there were but p, and all else is as it was
pub record TakesPoint (old new : KeyedDrawing) (p : GridPoint) : Type 0 where
  pub points : (q : GridPoint) → Contains new.drawing.points q ↔ (Contains old.drawing.points q × (q ≡ p → ⊥))
  pub originals : new.drawing.originals ≡ old.drawing.originals
  pub keys : new.keys ≡ old.keys

-- each piece has one key, and each key one piece
pub record AreKeyed (d : KeyedDrawing) : Type 0 where
  pub some_key : (s : GridSegment) → IsPiece d.drawing s → (k : ℕ) × HasKey d s k
  pub of_pieces : (s : GridSegment) (k : ℕ) → HasKey d s k → IsPiece d.drawing s
  pub one_key : (s : GridSegment) (k j : ℕ) → HasKey d s k → HasKey d s j → k ≡ j
  pub one_piece : (s t : GridSegment) (k : ℕ) → HasKey d s k → HasKey d t k → s ≡ t
