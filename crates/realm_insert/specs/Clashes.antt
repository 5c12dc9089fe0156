-- What the search round one segment looks for. No public clause cites this file.
use Rattle.std.specs.Prelude.{◌≢◌, ◌⊎◌, ℕ, List, All, Contains}
use Rattle.grid_base.specs.Point.{GridPoint, InBox}
use Rattle.grid_base.specs.Segment.{GridSegment, IsEnd, BoxesMeet}
use Rattle.grid_base.specs.Crossing.{Inside, Cross}
use Rattle.grid_base.specs.Sides.{On, side}
use Rattle.grid_base.specs.Drawing.{Drawing, IsPoint, IsPiece}
use Rattle.hook_chain.specs.StandingChains.{AllValid}
use Rattle.realm_drawing.specs.Keyed.{KeyedDrawing, HasKey}

-- p is no point, or it is inside no piece
abbrev pub IsInsideNone : Drawing → GridPoint → Type 0
IsInsideNone d p = (t : GridSegment) → IsPoint d p → IsPiece d t → Inside p t → ⊥

-- no end of s that is a point is inside t
abbrev pub HasNoEndInside : Drawing → GridSegment → GridSegment → Type 0
HasNoEndInside d s t = (p : GridPoint) → IsEnd p s → IsPoint d p → Inside p t → ⊥

-- the pieces s and t make no violation
pub record NoClash (d : Drawing) (s t : GridSegment) : Type 0 where
  pub no_end_of_s : HasNoEndInside d s t
  pub no_end_of_t : HasNoEndInside d t s
  pub no_crossing : Cross s t → ⊥

-- s and t have a common end, and each end of t is one of s or off its line
pub record PartWays (s t : GridSegment) : Type 0 where
  pub common : GridPoint
  pub of_s : IsEnd common s
  pub of_t : IsEnd common t
  pub apart : (p : GridPoint) → IsEnd p t → IsEnd p s ⊎ (side s.a s.b p ≢ On)

-- no piece of the list whose box meets that of s makes one with it
abbrev pub AreClear : Drawing → GridSegment → List GridSegment → Type 0
AreClear d s list = All (λ t. BoxesMeet s t → NoClash d s t) list

-- t is one of the list and has p inside
abbrev pub IsOneRound : GridPoint → List GridSegment → GridSegment → Type 0
IsOneRound p list t = Contains list t × Inside p t

-- s is in the bounding box of near
abbrev pub IsWithin : GridSegment → GridSegment → Type 0
IsWithin near s = InBox near.a near.b s.a × InBox near.a near.b s.b

-- the keys of the pieces whose boxes meet that of s are listed
abbrev pub HasKeysRound : KeyedDrawing → GridSegment → List ℕ → Type 0
HasKeysRound d s keys = (t : GridSegment) (k : ℕ) → HasKey d t k → BoxesMeet s t → Contains keys k

-- the keys of the pieces whose boxes hold p are listed
abbrev pub HasKeysAt : KeyedDrawing → GridPoint → List ℕ → Type 0
HasKeysAt d p keys = (t : GridSegment) (k : ℕ) → HasKey d t k → InBox t.a t.b p → Contains keys k

-- t is a piece with one of the keys
abbrev pub HasKeyAmong : KeyedDrawing → List ℕ → GridSegment → Type 0
HasKeyAmong d keys t = (k : ℕ) × (Contains keys k × HasKey d t k)

-- where p is a point, no piece that has it inside is missing in the list
abbrev pub HasPiecesRound : Drawing → GridPoint → List GridSegment → Type 0
HasPiecesRound d p list = (t : GridSegment) → IsPoint d p → IsPiece d t → Inside p t → (Contains list t → ⊥) → ⊥

-- pieces are listed, among them all whose boxes meet that of near
pub record HasPiecesMet (d : Drawing) (near : GridSegment) (list : List GridSegment) : Type 0 where
  pub pieces : All (IsPiece d) list
  pub round : (t : GridSegment) → IsPiece d t → BoxesMeet near t → Contains list t
  pub valid : AllValid d

-- Pieces are listed. Of those whose boxes meet that of s each that isn't listed makes no violation with it: so violations at s
-- can be looked for among the others.
pub record CanBeSearched (d : Drawing) (s : GridSegment) (list : List GridSegment) : Type 0 where
  pub pieces : All (IsPiece d) list
  pub round : (t : GridSegment) → IsPiece d t → BoxesMeet s t → (Contains list t → ⊥) → NoClash d s t
  pub valid : AllValid d
