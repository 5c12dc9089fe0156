-- What every drawing that an auditor keeps is like. No public clause cites this file.
use Rattle.std.specs.Prelude.{◌≡◌, ◌⊎◌, ◌↔◌, ℕ, List, All, AllPairs, Any, Contains}
use Rattle.grid_base.specs.Point.{GridPoint, IsBefore}
use Rattle.grid_base.specs.Segment.{GridSegment}
use Rattle.grid_base.specs.Crossing.{Inside, Cross}
use Rattle.grid_base.specs.Drawing.{Drawing, HasLink, IsPiece}
use Rattle.grid_base.specs.declared.original.Original.{Original}
use Rattle.hook_chain.specs.Ids.{IsAscending}
use Rattle.hook_chain.specs.StandingChains.{HasValidChain}
use Rattle.realm_audit.specs.Shelves.{HasShare}
use Rattle.realm_audit.specs.declared.shares.Share.{Share}

-- the drawing with these explicit points and originals
abbrev pub drawing_of : List GridPoint → List Original → Drawing
drawing_of points originals = record { points = points; originals = originals }

-- the original with the id x has the piece s
abbrev pub HasPieceOf : List Original → GridSegment → ℕ → Type 0
HasPieceOf originals s x = IsBefore s.a s.b × Any (λ o. (o.id ≡ x) × HasLink o.chain s) originals

-- the shares are those of the links of the chains
abbrev pub HasSharesOf : List Original → List Share → Type 0
HasSharesOf originals shares = (s : GridSegment) (x : ℕ) → HasShare shares s x ↔ HasPieceOf originals s x

-- u crosses t, or an end of u is inside t
abbrev pub Clash : GridSegment → GridSegment → Type 0
Clash t u = Cross t u ⊎ Inside u.a t ⊎ Inside u.b t

-- each violation has to do with a piece or a point that is fresh: that came since there was no violation
pub record AreCovered (d : Drawing) (pieces : List GridSegment) (points : List GridPoint) : Type 0 where
  pub by_point : (p : GridPoint) (t : GridSegment) → Contains d.points p → IsPiece d t → Inside p t
      → Contains pieces t ⊎ Contains points p
  pub by_piece : (t u : GridSegment) → IsPiece d t → IsPiece d u → Clash t u → Contains pieces t ⊎ Contains pieces u

-- explicit points ascend, ids rise, each chain may stand for its original, the shares are those of the chains, and
-- what is fresh covers the violations
pub record IsInOrder (points : List GridPoint) (originals : List Original) (shares : List Share)
    (fresh_pieces : List GridSegment) (fresh_points : List GridPoint) : Type 0 where
  pub points_ascend : AllPairs IsBefore points
  pub ids_rise : IsAscending originals
  pub all_valid : All HasValidChain originals
  pub shares_are : HasSharesOf originals shares
  pub covered : AreCovered (drawing_of points originals) fresh_pieces fresh_points
