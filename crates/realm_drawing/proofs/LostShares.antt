-- This file shows that a registry loses the shares of a chain link by link, and that its pieces keep their keys then.
use Rattle.std.proofs.Common.{◌≡◌, ◌⊎◌, ◌↔◌, ℕ, ◌+◌, ◌-◌, ◌<◌, ◌≤◌, List, [], ◌∷◌}
use Rattle.std.proofs.Common.{length, get_or, Contains, Some, sym, ap, ap₂, ◌∙◌, inl, inr}
use Rattle.std.specs.Option.{IsNone}
use Rattle.std.proofs.lemmas.Option.{same_Some}
use Rattle.grid_base.specs.Point.{GridPoint}
use Rattle.grid_base.specs.Segment.{GridSegment, segment_of}
use Rattle.grid_base.proofs.Elements.{Contains-cases, Contains-nil}
use Rattle.component_registry.specs.Registry.{Holdings, IsSound}
use Rattle.realm_drawing.specs.declared.shares.Share.{Share}
use Rattle.realm_drawing.specs.Shares.{share_of, KeepsKeys, HasFewer, IsOfChain}
use Rattle.hook_chain.specs.Chains.{IsBetween}
use Rattle.realm_drawing.specs.Leaving.{LosesShares}
use Rattle.chain_laws.proofs.Elements.{Contains-head}
use Rattle.chain_laws.proofs.PathLinks.{no_link_at_first, made_between}
use Rattle.realm_drawing.proofs.LinkShares.{IsAmong, next_among, of_chain}
use Rattle.realm_drawing.proofs.KeptKeys.{KeepsKeys-trans, piece_with_owners}

-- ---- one step after another
-- where no share has P, none is lost
pub loses_nothing : (r : Holdings) (P : Share → Type 0) → ((y : Share) → P y → ⊥) → LosesShares r r P
loses_nothing r P none y = (λ held. (held, none y), λ both. both.0)

-- the same shares are lost
loses_same : (r s : Holdings) (P Q : Share → Type 0) → ((y : Share) → P y ↔ Q y) → LosesShares r s P → LosesShares r s Q
loses_same r s P Q same loses y =
    let lost = loses y in (
      λ held. let (had, stays) = lost.0 held in (had, λ q. stays ((same y).1 q)),
      λ (had, stays). lost.1 (had, λ p. stays ((same y).0 p)),
    )

-- first those with P are lost, and then those with Q
loses_both : (r s t : Holdings) (P Q R : Share → Type 0) → ((y : Share) → R y ↔ (P y ⊎ Q y))
    → LosesShares r s P → LosesShares s t Q → LosesShares r t R
loses_both r s t P Q R either first second y = (
  λ held.
      let (between, not_q) = (second y).0 held in
      let (had, not_p) = (first y).0 between in
      (had, λ has. elim ((either y).0 has) [ inl p ↦ not_p p | inr q ↦ not_q q ]),
  λ (had, stays). (second y).1 (
    (first y).1 (had, λ p. stays ((either y).1 (inl p))),
    λ q. stays ((either y).1 (inr q)),
  ),
)

-- ---- link by link
pub loses_no_link : (id : ℕ) (r : Holdings) (path : List GridPoint)
    → LosesShares r r (λ y. (y.id ≡ id) × IsAmong path 1 y.piece)
loses_no_link id r path = loses_nothing r (λ y. (y.id ≡ id) × IsAmong path 1 y.piece)
    (λ y (same, (link, ordered)). no_link_at_first path y.piece link)

pub loses_next_link : (id : ℕ) (r s t : Holdings) (path : List GridPoint) (i : ℕ) (v w : GridPoint)
    → 1 ≤ i → i < length path → v ≡ get_or path (i - 1) v → w ≡ get_or path i w
    → LosesShares r s (λ y. (y.id ≡ id) × IsAmong path i y.piece)
    → LosesShares s t (λ y. (y.id ≡ id) × IsBetween y.piece v w)
    → LosesShares r t (λ y. (y.id ≡ id) × IsAmong path (i + 1) y.piece)
loses_next_link id r s t path i v w some within is_v is_w = loses_both r s t
    (λ y. (y.id ≡ id) × IsAmong path i y.piece)
    (λ y. (y.id ≡ id) × IsBetween y.piece v w)
    (λ y. (y.id ≡ id) × IsAmong path (i + 1) y.piece)
    (λ y. next_among (y.id ≡ id) path i v w y.piece some within is_v is_w)

-- the shares of all links are those of the chain
pub loses_chain : (id : ℕ) (points : List GridPoint) (i : ℕ) (r s : Holdings) → length points ≤ i
    → LosesShares r s (λ y. (y.id ≡ id) × IsAmong points i y.piece) → LosesShares r s (IsOfChain id points)
loses_chain id points i r s past = loses_same r s
    (λ y. (y.id ≡ id) × IsAmong points i y.piece)
    (IsOfChain id points)
    (λ y. of_chain id points i y past)

-- ---- the segment between two points
-- one share that is lost is that of it
pub loses_between : (r t : Holdings) (s : GridSegment) (id : ℕ) (v w : GridPoint) → (IsNone (Some s) ↔ (v ≡ w))
    → s ≡ segment_of v w → HasFewer r t (share_of s id ∷ []) → LosesShares r t (λ y. (y.id ≡ id) × IsBetween y.piece v w)
loses_between r t s id v w none is less =
    loses_same r t (Contains (share_of s id ∷ [])) (λ y. (y.id ≡ id) × IsBetween y.piece v w)
    (λ y.
    let made = made_between s y.piece v w none is in (
      λ there. elim (Contains-cases (share_of s id) [] y there) [
        | inl here ↦ (ap (λ z. z.id) (sym here), made.1 (ap (λ z. z.piece) (sym here)))
        | inr later ↦ absurd (Contains-nil y later)
      ],
      λ (same, between). Contains-head (share_of s id) [] y (sym (ap₂ share_of (made.0 between) same)),
    ))
    (λ y. less y.piece y.id)

-- ---- keys
pub KeepsKeys-itself : (r : Holdings) → KeepsKeys r r
KeepsKeys-itself r = λ s k j before behind. same_Some j k (sym behind ∙ before)

-- keys that a change keeps, and a loss after it, are kept
pub kept_with_loss : (r s t : Holdings) (P : Share → Type 0) → IsSound t → LosesShares s t P → KeepsKeys r s → KeepsKeys s t
    → KeepsKeys r t
kept_with_loss r s t P sound loses = KeepsKeys-trans r s t
    (λ p in_r in_t. piece_with_owners t s p sound (λ x has. ((loses (share_of p x)).0 has).0) in_t)
