-- This file shows that a registry with what originals gain by a step, without what they lose, has the owners after it.
use Rattle.std.proofs.Common.{◌≡◌, ◌⊎◌, ◌↔◌, ℕ, List, [], ◌∷◌, Contains, map, sym, subst, inl, inr}
use Rattle.std.specs.List.{Any}
use Rattle.std.proofs.lemmas.Bool.{cases_eq}
use Rattle.grid_base.specs.Point.{IsBefore}
use Rattle.grid_base.specs.Segment.{GridSegment}
use Rattle.grid_base.specs.Drawing.{HasLink}
use Rattle.grid_base.specs.declared.original.Original.{Original}
use Rattle.grid_base.proofs.Elements.{Contains-cases, Contains-nil, Contains-later}
use Rattle.component_registry.specs.Registry.{Holdings, owners_of, Owns}
use Rattle.component_registry.proofs.Lookups.{this_segment_or_other}
use Rattle.chain_laws.specs.declared.redrawing.Redrawings.{Redrawings}
use Rattle.chain_laws.specs.declared.redrawing.Redrawing.{Redrawing}
use Rattle.realm_drawing.specs.declared.shares.Share.{Share}
use Rattle.realm_drawing.specs.Kept.{HasOwnersOf}
use Rattle.chain_laws.specs.Redraws.{redrawn_by, redrawn_original_by, AreRedrawings, AnyOf}
use Rattle.realm_drawing.specs.Shares.{share_of, HasMore, HasFewer, IsGained, IsLost}
use Rattle.realm_drawing.specs.StepShares.{IsGainedBy, IsLostBy, Lists}
use Rattle.chain_laws.proofs.Elements.{Any-weaker, Any-head, Any-later, Any-cons_cases, Any-nil}
use Rattle.chain_laws.proofs.Elements.{Contains-head}
use Rattle.chain_laws.proofs.RedrawnLinks.{has_link_or_not}
use Rattle.chain_laws.proofs.StepLinks.{AnyOf-weaker, AnyOf-constant, AnyOf-cases, AnyOf-decided, AnyOf-of_some}
use Rattle.chain_laws.proofs.StepLinks.{links_after, path_is_kept}

-- x is in the list or not
in_list_or_not : (ids : List ℕ) (x : ℕ) → Contains ids x ⊎ (Contains ids x → ⊥)
in_list_or_not [] x = inr (Contains-nil x)
in_list_or_not (id ∷ ids) x = elim (cases_eq id x) [
  | inl here ↦ inl (Contains-head id ids x here)
  | inr not_here ↦ elim (in_list_or_not ids x) [
    | inl there ↦ inl (Contains-later id ids x there)
    | inr nowhere ↦ inr (λ h. elim (Contains-cases id ids x h) [
      | inl here ↦ not_here here
      | inr there ↦ nowhere there
    ])
  ]
]

-- ---- the registry after a step
-- mid has what the old registry has and what is gained, new what mid has without what is lost
pub record ChangesShares (step : Redrawings) (old mid new : Holdings) : Type 0 where
  pub gained : List Share
  pub lost : List Share
  pub lists_gained : Lists gained (IsGainedBy old step)
  pub lists_lost : Lists lost (IsLostBy old step)
  pub more : HasMore old mid gained
  pub less : HasFewer mid new lost

-- x gains the share of s by the redrawing
abbrev Gains : Holdings → GridSegment → ℕ → Redrawing → Type 0
Gains old s x q = IsGained old (owners_of old q.piece) q.path (share_of s x)

-- x loses the share of s by the redrawing
abbrev Loses : Holdings → GridSegment → ℕ → Redrawing → Type 0
Loses old s x q = IsLost (owners_of old q.piece) q.piece q.path (share_of s x)

-- x owns the piece of the redrawing, and s is on its path
abbrev Draws : Holdings → GridSegment → ℕ → Redrawing → Type 0
Draws old s x q = Owns old q.piece x × HasLink q.path s

-- x owned s, which is no piece of the step, or s is on a path whose piece x owned
abbrev OwnsAfter : Redrawings → Holdings → GridSegment → ℕ → Type 0
OwnsAfter step old s x = (Owns old s x × (AnyOf step (λ q. s ≡ q.piece) → ⊥)) ⊎ AnyOf step (Draws old s x)

-- an owner of a piece loses it, unless it is on the path too
loses_or_draws : (old : Holdings) (s : GridSegment) (x : ℕ) (q : Redrawing) → Owns old s x → s ≡ q.piece
    → Loses old s x q ⊎ Draws old s x q
loses_or_draws old s x q owner is =
    let owns_piece = subst (λ t. Owns old t x) is owner in
    elim (has_link_or_not q.path q.piece) [
      | inl link ↦ inr (owns_piece, subst (HasLink q.path) (sym is) link)
      | inr none ↦ inl (record { of_piece = is; owner = owns_piece; no_link = none })
    ]

-- an owner that didn't lose s keeps it, or has it on a path
kept_owner : (step : Redrawings) (old : Holdings) (s : GridSegment) (x : ℕ) → AreRedrawings step → Owns old s x
    → (IsLostBy old step (share_of s x) → ⊥) → OwnsAfter step old s x
kept_owner step old s x are owner not_lost =
    let Is = λ (q : Redrawing). s ≡ q.piece in
    elim (AnyOf-decided Is (λ q. this_segment_or_other q.piece s) step) [
      | inr no_piece ↦ inl (owner, no_piece)
      | inl piece ↦
          let each =
          AnyOf-weaker Is (λ q. Loses old s x q ⊎ Draws old s x q) step are
          (λ q path is. loses_or_draws old s x q owner is) piece in
          elim (AnyOf-cases (Loses old s x) (Draws old s x) step each) [
            | inl lost ↦ absurd (not_lost lost)
            | inr drawn ↦ inr drawn
          ]
    ]

-- who has s after the step has it, with what is gained, before what is lost goes
drawn_owner : (step : Redrawings) (old mid new : Holdings) (s : GridSegment) (x : ℕ) → AreRedrawings step
    → IsBefore s.a s.b → ChangesShares step old mid new → AnyOf step (Draws old s x) → Owns mid s x
drawn_owner step old mid new s x are ordered changes drawn =
    elim (in_list_or_not (owners_of old s) x) [
      | inl had ↦ (changes.more s x).1 (inl had)
      | inr none ↦
          let gains =
          AnyOf-weaker (Draws old s x) (Gains old s x) step are
          (λ q path by. record { owner = by.0; link = by.1; ordered = ordered; new = none }) drawn in
          (changes.more s x).1 (inr ((changes.lists_gained (share_of s x)).1 gains))
    ]

owners_after : (step : Redrawings) (old mid new : Holdings) (s : GridSegment) (x : ℕ) → AreRedrawings step
    → IsBefore s.a s.b → ChangesShares step old mid new → Owns new s x ↔ OwnsAfter step old s x
owners_after step old mid new s x are ordered changes =
    let gained = changes.lists_gained (share_of s x) in
    let lost = changes.lists_lost (share_of s x) in (
      λ h.
          let before = (changes.less s x).0 h in
          elim ((changes.more s x).0 before.0) [
            | inl had ↦ kept_owner step old s x are had (λ is_lost. before.1 (lost.1 is_lost))
            | inr listed ↦ inr (AnyOf-weaker (Gains old s x) (Draws old s x) step are
                (λ q path gains. (gains.owner, gains.link)) (gained.0 listed))
          ],
      λ h. elim h [
        | inl stays ↦
            let no_loss = λ (loss : AnyOf step (Loses old s x)).
            stays.1 (AnyOf-weaker (Loses old s x) (λ q. s ≡ q.piece) step are (λ q path loses. loses.of_piece) loss)
            in
            (changes.less s x).1 ((changes.more s x).1 (inl stays.0), λ listed. no_loss (lost.0 listed))
        | inr drawn ↦
            let on_path = AnyOf-weaker (Draws old s x) (λ q. HasLink q.path s) step are (λ q path by. by.1) drawn in
            let no_loss = λ (loss : AnyOf step (Loses old s x)).
            path_is_kept step s are on_path
            (AnyOf-weaker (Loses old s x) (λ q. (s ≡ q.piece) × (HasLink q.path q.piece → ⊥)) step are
            (λ q path loses. (loses.of_piece, loses.no_link)) loss)
            in
            (changes.less s x).1
            (drawn_owner step old mid new s x are ordered changes drawn, λ listed. no_loss (lost.0 listed))
      ],
    )

-- what the new registry has is ordered
new_is_ordered : (step : Redrawings) (originals : List Original) (old mid new : Holdings) (s : GridSegment) (x : ℕ)
    → AreRedrawings step → HasOwnersOf originals old → ChangesShares step old mid new → Owns new s x → IsBefore s.a s.b
new_is_ordered step originals old mid new s x are owners changes owner =
    elim ((changes.more s x).0 ((changes.less s x).0 owner).0) [
      | inl had ↦ ((owners s x).0 had).0
      | inr listed ↦ AnyOf-constant (IsBefore s.a s.b) step
          (AnyOf-weaker (Gains old s x) (λ q. IsBefore s.a s.b) step are (λ q path gains. gains.ordered)
          ((changes.lists_gained (share_of s x)).0 listed))
    ]

-- ---- the originals after a step
Any-map : {X Y : Type 0} (P : Y → Type 0) (f : X → Y) (xs : List X) → Any P (map f xs) ↔ Any (λ x. P (f x)) xs
Any-map P f [] = (λ h. absurd (Any-nil P h), λ h. absurd (Any-nil (λ x. P (f x)) h))
Any-map P f (x ∷ xs) =
    let rest = Any-map P f xs in
    let Q = λ (y : _). P (f y) in (
      λ h. elim (Any-cons_cases P (f x) (map f xs) h) [
        | inl first ↦ Any-head Q x xs first
        | inr later ↦ Any-later Q x xs (rest.0 later)
      ],
      λ h. elim (Any-cons_cases Q x xs h) [
        | inl first ↦ Any-head P (f x) (map f xs) first
        | inr later ↦ Any-later P (f x) (map f xs) (rest.1 later)
      ],
    )

-- the original has the id x, and its chain the link s
abbrev Has : ℕ → GridSegment → Original → Type 0
Has x s o = (o.id ≡ x) × HasLink o.chain s

-- it will have the link after the step
abbrev HasAfter : Redrawings → ℕ → GridSegment → Original → Type 0
HasAfter step x s o = (o.id ≡ x) × HasLink (redrawn_by step o.chain) s

-- it has the link for the redrawing's path, having its piece
abbrev HasDrawn : ℕ → GridSegment → Original → Redrawing → Type 0
HasDrawn x s o q = (o.id ≡ x) × (HasLink o.chain q.piece × HasLink q.path s)

-- who owns s after the step is an original that has it then
original_after : (step : Redrawings) (originals : List Original) (old : Holdings) (s : GridSegment) (x : ℕ)
    → AreRedrawings step → HasOwnersOf originals old → IsBefore s.a s.b → OwnsAfter step old s x
    → Any (HasAfter step x s) originals
original_after step originals old s x are owners ordered (inl stays) =
    Any-weaker (Has x s) (HasAfter step x s)
    (λ o has. (has.0, (links_after step o.chain s are ordered).1 (inl (has.1, stays.1)))) originals
    ((owners s x).0 stays.0).1
original_after step originals old s x are owners ordered (inr drawn) =
    let each =
    AnyOf-weaker (Draws old s x) (λ q. Any (λ o. HasDrawn x s o q) originals) step are
    (λ q path by. Any-weaker (Has x q.piece) (λ o. HasDrawn x s o q) (λ o has. (has.0, (has.1, by.1))) originals
    ((owners q.piece x).0 by.0).1)
    drawn in
    Any-weaker (λ o. AnyOf step (HasDrawn x s o)) (HasAfter step x s)
    (λ o has.
    let P = HasDrawn x s o in
    let has_id = AnyOf-constant (o.id ≡ x) step (AnyOf-weaker P (λ q. o.id ≡ x) step are (λ q path by. by.0) has) in
    let link = AnyOf-weaker P (λ q. HasLink o.chain q.piece × HasLink q.path s) step are (λ q path by. by.1) has in
    (has_id, (links_after step o.chain s are ordered).1 (inr link)))
    originals (AnyOf-of_some (HasDrawn x s) originals step each)

-- and an original that has s after the step owns it then
owner_after : (step : Redrawings) (originals : List Original) (old : Holdings) (s : GridSegment) (x : ℕ)
    → AreRedrawings step → HasOwnersOf originals old → IsBefore s.a s.b → Any (HasAfter step x s) originals
    → OwnsAfter step old s x
owner_after step originals old s x are owners ordered (k, o, within, is, has) =
    let owns = λ (t : GridSegment) (t_ordered : IsBefore t.a t.b) (link : HasLink o.chain t).
    (owners t x).1 (t_ordered, (k, o, within, is, (has.0, link)))
    in
    elim ((links_after step o.chain s are ordered).0 has.1) [
      | inl stays ↦ inl (owns s ordered stays.0, stays.1)
      | inr drawn ↦ inr (AnyOf-weaker (λ q. HasLink o.chain q.piece × HasLink q.path s) (Draws old s x) step are
          (λ q path by. (owns q.piece path.ordered by.0, by.1)) drawn)
    ]

-- so the new registry has the owners of the redrawn originals
pub owners_redrawn : (step : Redrawings) (originals : List Original) (old mid new : Holdings) → AreRedrawings step
    → HasOwnersOf originals old → ChangesShares step old mid new
    → HasOwnersOf (map (redrawn_original_by step) originals) new
owners_redrawn step originals old mid new are owners changes s x =
    let mapped = Any-map (Has x s) (redrawn_original_by step) originals in (
      λ owner.
          let ordered = new_is_ordered step originals old mid new s x are owners changes owner in
          let after = (owners_after step old mid new s x are ordered changes).0 owner in
          (ordered, mapped.1 (original_after step originals old s x are owners ordered after)),
      λ has.
          let after = owner_after step originals old s x are owners has.0 (mapped.0 has.1) in
          (owners_after step old mid new s x are has.0 changes).1 after,
    )
