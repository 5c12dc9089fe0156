-- How much is in a state, and the lines that tell it. Numbers are written in decimal digits, and each line
-- ends with a line feed.
use Rattle.std.specs.Prelude.{◌≡◌, ◌≢◌, ◌↔◌, ℕ, List, [], ◌∷◌, ◌++◌, length, AllPairs, Contains, codes}
use Rattle.std.specs.Fmt.{decimal}
use Rattle.grid_base.specs.Drawing.{IsPoint, IsPiece}
use Rattle.realm_insert.specs.State.{State}
use Rattle.state_counts.specs.declared.counting.Counts.{Counts}

-- so many things have the property: a list has exactly these, each once
pub record IsNumberOf {A : Type 0} (P : A → Type 0) (n : ℕ) : Type 0 where
  pub list : List A
  pub apart : AllPairs (λ x y. x ≢ y) list
  pub exact : (x : A) → Contains list x ↔ P x
  pub many : length list ≡ n

-- the numbers of the state: its originals, its values, its points, explicit ones and vertices of chains, and
-- its pieces, each once, however many originals have it
pub record AreCounts (s : State) (c : Counts) : Type 0 where
  pub originals : c.originals ≡ length s.drawing.originals
  pub values : c.values ≡ length s.values
  pub points : IsNumberOf (IsPoint s.drawing) c.points
  pub pieces : IsNumberOf (IsPiece s.drawing) c.pieces

-- a line with a word and a number
abbrev pub number_line : List ℕ → ℕ → List ℕ
number_line word n = word ++ (32 ∷ (decimal n ++ 10 ∷ []))

-- the four lines of these numbers
abbrev pub count_lines : Counts → List ℕ
count_lines c =
    number_line (codes "originals") c.originals ++ (number_line (codes "values") c.values
    ++ (number_line (codes "points") c.points ++ number_line (codes "pieces") c.pieces))

-- the five lines that tell how much is in the state
abbrev pub TellsCounts : State → List ℕ → Type 0
TellsCounts s reply = (c : Counts) × AreCounts s c
    × (reply ≡ number_line (codes "changes") s.changes ++ count_lines c)
