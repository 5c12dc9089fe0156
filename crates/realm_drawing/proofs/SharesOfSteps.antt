-- This file shows which shares are listed for a step.
use Rattle.std.proofs.Common.{◌≡◌, Option, Some, None, List, [], All, Contains, sym, subst, inl, inr}
use Rattle.std.specs.Prelude.{IsSomeAnd}
use Rattle.std.proofs.lemmas.List.Elements.{All-contains_itself, All-weaker}
use Rattle.grid_base.proofs.Elements.{Contains-nil}
use Rattle.component_registry.specs.Registry.{Holdings, owners_of}
use Rattle.chain_laws.specs.declared.redrawing.Redrawing.{Redrawing}
use Rattle.chain_laws.specs.declared.redrawing.Redrawings.{Redrawings}
use Rattle.realm_drawing.specs.declared.shares.Share.{Share}
use Rattle.chain_laws.specs.Redraws.{AreRedrawings, AnyOf}
use Rattle.realm_drawing.specs.Shares.{Held, ListsAlso, IsGained}
use Rattle.realm_drawing.specs.StepShares.{IsGainedBy, Lists}
use Rattle.chain_laws.proofs.StepLinks.{AnyOf-weaker, AnyOf-constant}

-- the list has the shares with P by one redrawing, where there is no other
pub listed_once : (P : Redrawing → Share → Type 0) (step : Redrawings) (list : List Share) → step.second ≡ None
    → ListsAlso [] list (P step.first) → Lists list (λ y. AnyOf step (λ q. P q y))
listed_once P step list one also y =
    let at_none = λ (some : IsSomeAnd step.second (λ q. P q y)).
    let none : IsSomeAnd None (λ (q : Redrawing). P q y) = subst (λ second. IsSomeAnd second (λ q. P q y)) one some in
    none
    in (
      λ h. elim ((also y).0 h) [ inl nothing ↦ absurd (Contains-nil y nothing) | inr first ↦ inl first ],
      λ h. elim h [ inl first ↦ (also y).1 (inr first) | inr second ↦ absurd (at_none second) ],
    )

-- and those by two
pub listed_twice : (P : Redrawing → Share → Type 0) (step : Redrawings) (r : Redrawing) (once twice : List Share)
    → step.second ≡ Some r → ListsAlso [] once (P step.first) → ListsAlso once twice (P r)
    → Lists twice (λ y. AnyOf step (λ q. P q y))
listed_twice P step r once twice two also_first also_second y =
    let At = λ (second : Option Redrawing). IsSomeAnd second (λ q. P q y) in (
      λ h. elim ((also_second y).0 h) [
        | inl before ↦ elim ((also_first y).0 before) [
          | inl nothing ↦ absurd (Contains-nil y nothing)
          | inr first ↦ inl first
        ]
        | inr second ↦ inr (subst At (sym two) second)
      ],
      λ h. elim h [
        | inl first ↦ (also_second y).1 (inl ((also_first y).1 (inr first)))
        | inr second ↦ (also_second y).1 (inr (subst At two second))
      ],
    )

-- what is gained wasn't held
pub gained_are_new : (step : Redrawings) (r : Holdings) (list : List Share) → AreRedrawings step
    → Lists list (IsGainedBy r step) → All (λ y. Held r y → ⊥) list
gained_are_new step r list are lists =
    All-weaker (Contains list) (λ y. Held r y → ⊥)
    (λ y listed. AnyOf-constant (Held r y → ⊥) step
    (AnyOf-weaker (λ q. IsGained r (owners_of r q.piece) q.path y) (λ q. Held r y → ⊥) step are (λ q path gains. gains.new)
    ((lists y).0 listed)))
    list (All-contains_itself list)
