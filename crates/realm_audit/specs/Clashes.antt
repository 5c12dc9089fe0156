-- Pieces and points that take part in violations, over a list of shares. No public clause cites this file.
use Rattle.std.specs.Prelude.{◌⊎◌, ℕ, List, Any, Contains}
use Rattle.grid_base.specs.Point.{GridPoint}
use Rattle.grid_base.specs.Segment.{GridSegment}
use Rattle.grid_base.specs.Crossing.{Inside}
use Rattle.realm_audit.specs.Shelves.{HasShare}
use Rattle.realm_audit.specs.Kept.{Clash}
use Rattle.realm_audit.specs.declared.shares.Share.{Share}

-- some original has the piece
abbrev pub IsOwned : List Share → GridSegment → Type 0
IsOwned shares s = (x : ℕ) × HasShare shares s x

-- t and u clash, one way or the other
abbrev pub AreClashes : GridSegment → GridSegment → Type 0
AreClashes t u = Clash t u ⊎ Clash u t

-- t is a piece, and an explicit point is inside it or a piece clashes with it
pub record HasClash (points : List GridPoint) (shares : List Share) (t : GridSegment) : Type 0 where
  pub piece : IsOwned shares t
  pub clash : Any (λ p. Inside p t) points ⊎ ((u : GridSegment) × IsOwned shares u × AreClashes t u)

-- p is an explicit point inside a piece
pub record IsExplicitInPiece (points : List GridPoint) (shares : List Share) (p : GridPoint) : Type 0 where
  pub explicit : Contains points p
  pub inside : (u : GridSegment) × IsOwned shares u × Inside p u
