-- Where a chain passes a point or a piece.
use Rattle.std.specs.Prelude.{◌≡◌, ◌<◌, ◌+◌, ℕ, List, length, HoldsAt}
use Rattle.grid_base.specs.Point.{GridPoint}
use Rattle.grid_base.specs.Segment.{GridSegment}
use Rattle.realm_drawing.specs.declared.passages.Passage.{Passage}
use Rattle.realm_drawing.specs.declared.passages.Passage.TheVariants.{Forth, Back}

-- p stands at place k of the chain
pub record IsPlaceAt (chain : List GridPoint) (p : GridPoint) (k : ℕ) : Type 0 where
  pub within : k < length chain
  pub at : HoldsAt (λ q. q ≡ p) chain k

-- p stands at no other place of the chain than i
abbrev pub IsOnlyPlace : List GridPoint → GridPoint → ℕ → Type 0
IsOnlyPlace chain p i = (k : ℕ) → IsPlaceAt chain p k → k ≡ i

-- the chain goes from p at place k to q
pub record GoesFrom (chain : List GridPoint) (p q : GridPoint) (k : ℕ) : Type 0 where
  pub from : IsPlaceAt chain p k
  pub to : IsPlaceAt chain q (k + 1)

-- the chain passes t so
abbrev pub PassesAt : List GridPoint → GridSegment → Passage → Type 0
PassesAt chain t (Forth k) = GoesFrom chain t.a t.b k
PassesAt chain t (Back k) = GoesFrom chain t.b t.a k
