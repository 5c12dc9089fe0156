-- This file shows which shares a list has that goes along the links of a path.
use Rattle.std.proofs.Common.{◌≡◌, ◌⊎◌, ◌↔◌, ℕ, ◌+◌, ◌-◌, ◌<◌, ◌≤◌, List, [], ◌∷◌, ◌++◌, length, get_or, take}
use Rattle.std.proofs.Common.{Some, Contains, sym, ap, ap₂, subst, inl, inr, take_all}
use Rattle.std.specs.Option.{IsNone}
use Rattle.grid_base.specs.Point.{GridPoint, IsBefore}
use Rattle.grid_base.specs.Segment.{GridSegment, segment_of}
use Rattle.grid_base.specs.Drawing.{HasLink}
use Rattle.component_registry.specs.Registry.{Holdings}
use Rattle.realm_drawing.specs.declared.shares.Share.{Share}
use Rattle.realm_drawing.specs.Shares.{share_of, Held, ListsAlso, IsGained, IsOfChain}
use Rattle.hook_chain.specs.Chains.{IsBetween}
use Rattle.chain_laws.proofs.PathLinks.{link_more, made_between}
use Rattle.realm_drawing.proofs.ShareLists.{lists_one, lists_same, lists_both}

-- ---- links
-- t is one of the first links of the path, its lesser end first
abbrev pub IsAmong : List GridPoint → ℕ → GridSegment → Type 0
IsAmong path i t = HasLink (take i path) t × IsBefore t.a t.b

-- the first links and one more, where A holds
pub next_among : (A : Type 0) (path : List GridPoint) (i : ℕ) (v w : GridPoint) (t : GridSegment)
    → 1 ≤ i → i < length path → v ≡ get_or path (i - 1) v → w ≡ get_or path i w
    → (A × IsAmong path (i + 1) t) ↔ ((A × IsAmong path i t) ⊎ (A × IsBetween t v w))
next_among A path i v w t some within is_v is_w =
    let more = link_more path i v w t some within is_v is_w in (
      λ (a, (link, ordered)). elim (more.0 link) [
        | inl before ↦ inl (a, (before, ordered))
        | inr here ↦ inr (a, (here, ordered))
      ],
      λ either. elim either [
        | inl (a, (before, ordered)) ↦ (a, (more.1 (inl before), ordered))
        | inr (a, (here, ordered)) ↦ (a, (more.1 (inr here), ordered))
      ],
    )

-- one link more
pub lists_next_link : (A : Share → Type 0) (xs ys zs : List Share) (path : List GridPoint) (i : ℕ) (v w : GridPoint)
    → 1 ≤ i → i < length path → v ≡ get_or path (i - 1) v → w ≡ get_or path i w
    → ListsAlso xs ys (λ y. A y × IsAmong path i y.piece) → ListsAlso ys zs (λ y. A y × IsBetween y.piece v w)
    → ListsAlso xs zs (λ y. A y × IsAmong path (i + 1) y.piece)
lists_next_link A xs ys zs path i v w some within is_v is_w =
    lists_both xs ys zs
    (λ y. A y × IsAmong path i y.piece)
    (λ y. A y × IsBetween y.piece v w)
    (λ y. A y × IsAmong path (i + 1) y.piece)
    (λ y. next_among (A y) path i v w y.piece some within is_v is_w)

-- ---- the segment between two points
-- the share of it and this id
pub lists_share_between : (xs ys : List Share) (s : GridSegment) (id : ℕ) (v w : GridPoint)
    → (IsNone (Some s) ↔ (v ≡ w)) → s ≡ segment_of v w → ys ≡ xs ++ share_of s id ∷ []
    → ListsAlso xs ys (λ y. (y.id ≡ id) × IsBetween y.piece v w)
lists_share_between xs ys s id v w none is pushed =
    let one = subst (λ zs. ListsAlso xs zs (λ y. y ≡ share_of s id)) (sym pushed) (lists_one xs (share_of s id)) in
    lists_same xs ys (λ y. y ≡ share_of s id) (λ y. (y.id ≡ id) × IsBetween y.piece v w)
    (λ y.
    let made = made_between s y.piece v w none is in (
      λ same. (ap (λ z. z.id) same, made.1 (ap (λ z. z.piece) same)),
      λ (same, between). ap₂ share_of (made.0 between) same,
    ))
    one

-- shares of it with A
pub lists_between : (A : Share → Type 0) (xs ys : List Share) (s : GridSegment) (v w : GridPoint)
    → (IsNone (Some s) ↔ (v ≡ w)) → s ≡ segment_of v w → ListsAlso xs ys (λ y. A y × (y.piece ≡ s))
    → ListsAlso xs ys (λ y. A y × IsBetween y.piece v w)
lists_between A xs ys s v w none is = lists_same xs ys (λ y. A y × (y.piece ≡ s)) (λ y. A y × IsBetween y.piece v w)
    (λ y.
    let made = made_between s y.piece v w none is in
    (λ (a, same). (a, made.1 same), λ (a, between). (a, made.0 between)))

-- ---- all links
-- the owners' shares of all links that aren't held yet are what is gained
pub lists_gained : (r : Holdings) (owners : List ℕ) (path : List GridPoint) (i : ℕ) (xs ys : List Share)
    → length path ≤ i → ListsAlso xs ys (λ y. (Contains owners y.id × ¬ Held r y) × IsAmong path i y.piece)
    → ListsAlso xs ys (IsGained r owners path)
lists_gained r owners path i xs ys past = lists_same xs ys
    (λ y. (Contains owners y.id × ¬ Held r y) × IsAmong path i y.piece)
    (IsGained r owners path)
    (λ y. rw take_all (
      λ ((owner, new), (link, ordered)). record { owner = owner; link = link; ordered = ordered; new = new },
      λ gained. ((gained.owner, gained.new), (gained.link, gained.ordered)),
    ))

-- the shares of all links are those of the chain
pub of_chain : (id : ℕ) (points : List GridPoint) (i : ℕ) (y : Share) → length points ≤ i
    → ((y.id ≡ id) × IsAmong points i y.piece) ↔ IsOfChain id points y
of_chain id points i y past = rw take_all (
  λ (same, (link, ordered)). record { has_id = same; link = link; ordered = ordered },
  λ share. (share.has_id, (share.link, share.ordered)),
)

pub lists_of_chain : (id : ℕ) (points : List GridPoint) (i : ℕ) (xs ys : List Share) → length points ≤ i
    → ListsAlso xs ys (λ y. (y.id ≡ id) × IsAmong points i y.piece) → ListsAlso xs ys (IsOfChain id points)
lists_of_chain id points i xs ys past = lists_same xs ys
    (λ y. (y.id ≡ id) × IsAmong points i y.piece)
    (IsOfChain id points)
    (λ y. of_chain id points i y past)
