-- Drawings each of whose chains may stand for its original, and what that makes of the grid points round a chain.
use Rattle.std.specs.Prelude.{◌⊎◌, ◌≤◌, MatchBool, List, All}
use Rattle.grid_base.specs.Point.{GridPoint, IsFromTo}
use Rattle.grid_base.specs.Segment.{GridSegment, is_flat}
use Rattle.grid_base.specs.Crossing.{IsOn}
use Rattle.grid_base.specs.SideOf.{Lie, At, SideOf, SideOfSegment}
use Rattle.grid_base.specs.Drawing.{Drawing}
use Rattle.grid_base.specs.declared.original.Original.{Original}
use Rattle.segment_envelope.specs.Envelope.{Env}
use Rattle.segment_envelope.specs.Near.{Near}
use Rattle.hook_chain.specs.Close.{Close}
use Rattle.hook_chain.specs.Chains.{AllLinks}
use Rattle.hook_chain.specs.ValidChain.{ValidChain}
use Rattle.hook_chain.specs.Straight.{along}
use Rattle.hook_chain.specs.Measure.{links_in, most_links}

-- the chain of o may stand for o
abbrev pub HasValidChain : Original → Type 0
HasValidChain o = ValidChain (along o) o.chain

-- so it is with each original of d
abbrev pub AllValid : Drawing → Type 0
AllValid d = All HasValidChain d.originals

-- some original may have this chain: its ends are the first point and the last
abbrev pub IsSomeChain : List GridPoint → Type 0
IsSomeChain chain = (o : GridSegment) × ValidChain o chain

-- each grid point on a link is in the envelope of o
abbrev pub StaysInEnvelope : GridSegment → List GridPoint → Type 0
StaysInEnvelope o chain =
    AllLinks (λ v w. (p : GridPoint) → IsOn (record { a = v; b = w }) p → Env o p) chain

-- each end of a link that is close to o is near o
abbrev pub HasNearEnds : GridSegment → List GridPoint → Type 0
HasNearEnds o chain =
    AllLinks (λ v w. Close o (record { a = v; b = w }) → Near o v × Near o w) chain

-- p has a column in common with o where o is flat, and a row where o is steep
abbrev pub IsAlongside : GridSegment → GridPoint → Type 0
IsAlongside o p = MatchBool (is_flat o) (IsFromTo o.a.x o.b.x p.x) (IsFromTo o.a.y o.b.y p.y)

-- the chain passes no grid point on the wrong side: each one alongside o is on the chain, or lies to it as to o
abbrev pub IsUnswept : GridSegment → List GridPoint → Type 0
IsUnswept o chain = (p : GridPoint) (lie : Lie) → IsAlongside o p → SideOfSegment o p lie
    → SideOf o chain p At ⊎ SideOf o chain p lie

-- what is promised of the chain that stands for o
pub record IsChainFor (o : GridSegment) (chain : List GridPoint) : Type 0 where
  pub valid : ValidChain o chain
  pub in_envelope : StaysInEnvelope o chain
  pub near_ends : HasNearEnds o chain
  pub unswept : IsUnswept o chain
  pub few_links : links_in chain ≤ most_links o

-- it holds of each chain of d
abbrev pub AllStand : Drawing → Type 0
AllStand d = All (λ o. IsChainFor (along o) o.chain) d.originals
