-- All links of chains in one list. No public clause cites this file.
use Rattle.std.specs.Prelude.{◌≡◌, ◌≢◌, ◌<◌, ◌-◌, ⊤, ℕ, if◌then◌else◌, List, [], ◌∷◌, ◌++◌, All, HoldsAt, length}
use Rattle.std.specs.List.{flat_map}
use Rattle.grid_base.specs.Point.{GridPoint, is_point}
use Rattle.grid_base.specs.Segment.{GridSegment, segment_of}
use Rattle.grid_base.specs.Drawing.{Drawing}
use Rattle.grid_base.specs.declared.original.Original.{Original}
use Rattle.hook_chain.specs.Ids.{IsChainOf}
use Rattle.hook_chain.specs.StandingChains.{HasValidChain}
use Rattle.value_geometry.specs.Parts.{AreOriginals}

-- the segment between v and w, in a list, which is empty where they are one point
abbrev pub between : GridPoint → GridPoint → List GridSegment
between v w = if is_point v w then [] else segment_of v w ∷ []

-- the links of the chain
abbrev pub links : List GridPoint → List GridSegment
links [] = []
links (v ∷ []) = []
links (v ∷ w ∷ chain) = between v w ++ links (w ∷ chain)

-- the links of all chains of the parts
abbrev pub links_of : List Original → List GridSegment
links_of parts = flat_map (λ o. links o.chain) parts

-- the chain of o may stand for it, and any original of d with its id has this chain
pub record IsOnlyOne (d : Drawing) (o : Original) : Type 0 where
  pub valid : HasValidChain o
  pub only : All (λ q. q.id ≡ o.id → q.chain ≡ o.chain) d.originals

-- the list has the links of these parts of d
pub record AreLinksOf (d : Drawing) (parts : List Original) (list : List GridSegment) : Type 0 where
  pub only_ones : All (IsOnlyOne d) parts
  pub exact : list ≡ links_of parts

-- the list has the links of the originals with these ids
abbrev pub HasLinksOf : Drawing → List ℕ → List GridSegment → Type 0
HasLinksOf d ids list = (parts : List Original) → AreOriginals d ids parts → AreLinksOf d parts list

-- each chain is that of the original of d with the id beside it
abbrev pub AreChainsOf : Drawing → List (ℕ × List GridPoint) → Type 0
AreChainsOf d walk = All (λ c. IsChainOf d c.0 c.1) walk

-- the walk comes by no original next, or by one with another id
abbrev pub BeginsOtherwise : ℕ → List (ℕ × List GridPoint) → Type 0
BeginsOtherwise id [] = ⊤
BeginsOtherwise id (c ∷ walk) = c.0 ≢ id

-- s is the last of the list
pub record IsLast (list : List GridSegment) (s : GridSegment) : Type 0 where
  pub some : 0 < length list
  pub last : HoldsAt (λ t. t ≡ s) list (length list - 1)
