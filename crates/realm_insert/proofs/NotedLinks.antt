-- This file shows that the pieces on a chain are noted, link by link.
use Rattle.std.proofs.Common.{◌≡◌, ◌↔◌, ℕ, ◌+◌, ◌-◌, ◌<◌, ◌≤◌, List, [], length, get_or, take, Some}
use Rattle.std.proofs.Common.{inl, inr, sym, subst}
use Rattle.std.specs.Option.{IsNone}
use Rattle.grid_base.specs.Point.{GridPoint}
use Rattle.grid_base.specs.Segment.{GridSegment, segment_of}
use Rattle.grid_base.specs.Drawing.{HasLink}
use Rattle.hook_chain.specs.Ids.{IsChainOf}
use Rattle.realm_drawing.specs.Keyed.{KeyedDrawing, HasKey, keyed}
use Rattle.realm_drawing.specs.declared.keyed.KeyedPiece.{KeyedPiece}
use Rattle.grid_base.proofs.Elements.{Contains-nil}
use Rattle.chain_laws.proofs.PathLinks.{link_more, no_link_at_first, made_between}
use Rattle.value_geometry.specs.Geometry.{IsOnChainOf}
use Rattle.realm_insert.specs.Indexing.{ListsWithKey, ListsKeyed}
use Rattle.realm_insert.specs.Work.{ListsLink, ListsLinks}

-- the segment that is made of two points is the one between them
pub lists_made : (d : KeyedDrawing) (old new : List KeyedPiece) (s : GridSegment) (v w : GridPoint)
    → (IsNone (Some s) ↔ (v ≡ w)) → s ≡ segment_of v w → ListsWithKey d s old new → ListsLink d v w old new
lists_made d old new s v w none is lists = λ t k.
    let made = made_between s t v w none is in (
      λ there. elim ((lists t k).0 there) [
        | inl before ↦ inl before
        | inr (same, has) ↦ inr (made.1 same, subst (λ (u : GridSegment). HasKey d u k) (sym same) has)
      ],
      λ either. (lists t k).1 (elim either [
        | inl before ↦ inl before
        | inr (between, has) ↦
            let same = made.0 between in
            inr (same, subst (λ (u : GridSegment). HasKey d u k) same has)
      ]),
    )

-- no link before the second point
pub lists_none : (d : KeyedDrawing) (chain : List GridPoint) → ListsLinks d (take 1 chain) []
lists_none d chain s k = (
  λ there. absurd (Contains-nil (keyed s k) there),
  λ both. absurd (no_link_at_first chain s both.0.1),
)

-- one link more
pub lists_next : (d : KeyedDrawing) (chain : List GridPoint) (i : ℕ) (v w : GridPoint) (old new : List KeyedPiece) → 1 ≤ i
    → i < length chain → v ≡ get_or chain (i - 1) v → w ≡ get_or chain i w → ListsLinks d (take i chain) old
    → ListsLink d v w old new → ListsLinks d (take (i + 1) chain) new
lists_next d chain i v w old new some within is_v is_w was one = λ t k.
    let more = link_more chain i v w t some within is_v is_w in (
      λ there. elim ((one t k).0 there) [
        | inl before ↦
            let had = (was t k).0 before in
            ((had.0.0, more.1 (inl had.0.1)), had.1)
        | inr (between, has) ↦ ((between.1, more.1 (inr between.0)), has)
      ],
      λ both. (one t k).1 (elim (more.0 both.0.1) [
        | inl earlier ↦ inl ((was t k).1 ((both.0.0, earlier), both.1))
        | inr last ↦ inr ((last, both.0.0), both.1)
      ]),
    )

-- the links of the one chain with the id are the pieces on it
pub lists_chain : (d : KeyedDrawing) (id : ℕ) (chain : List GridPoint) (list : List KeyedPiece) → IsChainOf d.drawing id chain
    → ListsLinks d chain list → ListsKeyed d (λ s. IsOnChainOf d.drawing s id) list
lists_chain d id chain list found lists = λ s k. (
  λ there.
      let both = (lists s k).0 there in
      let (j, o, within, is, same) = found.there in
      let chain_is = subst (λ q. q.id ≡ id → q.chain ≡ chain) is (found.only j o within) same in
      ((both.0.0, (j, o, within, is, (same, subst (λ (c : List GridPoint). HasLink c s) (sym chain_is) both.0.1))), both.1),
  λ both.
      let (ordered, (j, o, within, is, (same, link))) = both.0 in
      let chain_is = subst (λ q. q.id ≡ id → q.chain ≡ chain) is (found.only j o within) same in
      (lists s k).1 ((ordered, subst (λ (c : List GridPoint). HasLink c s) chain_is link), both.1),
)
