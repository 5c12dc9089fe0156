-- This file shows that a search of the links of a chain, one by one, finds what there is.
use Rattle.std.proofs.Common.{◌≡◌, ◌↔◌, ℕ, ◌+◌, ◌-◌, ◌<◌, ◌≤◌, List, length, get_or, take, take_all}
use Rattle.std.proofs.Common.{Option, Some, None, MatchOption, refl, subst, inl, inr}
use Rattle.std.specs.Option.{IsNone}
use Rattle.grid_base.specs.Point.{GridPoint}
use Rattle.grid_base.specs.Segment.{GridSegment, segment_of}
use Rattle.grid_base.specs.declared.kinds.Step.{Step}
use Rattle.realm_drawing.specs.Found.{NoneBetween, SomeBetween, NoLink, SomeLink}
use Rattle.chain_laws.proofs.PathLinks.{no_link_at_first, link_more, link_from_take, made_between}

-- what is found of the segment that was made of two points is found between them
pub found_between : (P : GridSegment → Type 0) (Q : Step → GridSegment → Type 0) (v w : GridPoint) (u : GridSegment)
    (r : Option Step) → (IsNone (Some u) ↔ (v ≡ w)) → u ≡ segment_of v w → MatchOption r (P u → ⊥) (λ step. Q step u)
    → MatchOption r (NoneBetween P v w) (λ step. SomeBetween (Q step) v w)
found_between P Q v w u None none is not_found = λ t between holds.
    not_found (subst P ((made_between u t v w none is).0 between) holds)
found_between P Q v w u (Some step) none is found = (u, (made_between u u v w none is).1 refl, found)

-- before the first link
pub no_link_first : (P : GridSegment → Type 0) (chain : List GridPoint) → NoLink P (take 1 chain)
no_link_first P chain t link ordered holds = no_link_at_first chain t link

-- one link more
pub no_link_more : (P : GridSegment → Type 0) (chain : List GridPoint) (i : ℕ) (v w : GridPoint) → 1 ≤ i → i < length chain
    → v ≡ get_or chain (i - 1) v → w ≡ get_or chain i w → NoLink P (take i chain) → NoneBetween P v w
    → NoLink P (take (i + 1) chain)
no_link_more P chain i v w some within is_v is_w before here t link ordered holds =
    elim ((link_more chain i v w t some within is_v is_w).0 link) [
      | inl earlier ↦ before t earlier ordered holds
      | inr last ↦ here t (last, ordered) holds
    ]

-- at the end
pub no_link_left : (P : GridSegment → Type 0) (chain : List GridPoint) (i : ℕ) → length chain ≤ i → NoLink P (take i chain)
    → NoLink P chain
no_link_left P chain i past none = subst (NoLink P) (take_all i chain past) none

-- a link is found
pub link_found : (P : GridSegment → Type 0) (chain : List GridPoint) (i : ℕ) (v w : GridPoint) → 1 ≤ i → i < length chain
    → v ≡ get_or chain (i - 1) v → w ≡ get_or chain i w → SomeBetween P v w → SomeLink P chain
link_found P chain i v w some within is_v is_w (t, (link, ordered), holds) =
    let last = (link_more chain i v w t some within is_v is_w).1 (inr link) in
    (t, link_from_take (i + 1) chain t last, ordered, holds)
