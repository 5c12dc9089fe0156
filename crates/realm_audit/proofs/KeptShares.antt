-- This file shows that shares stay those of the chains where an original comes or goes, or a path is drawn.
use Rattle.std.proofs.Common.{◌≡◌, ◌≢◌, ◌↔◌, ℕ, List, [], ◌∷◌, ◌++◌, Contains, Any, map, not, ◌==◌, get_or}
use Rattle.std.proofs.Common.{refl, sym, subst, ◌∙◌, inl, inr}
use Rattle.std.specs.List.{filter}
use Rattle.std.proofs.lemmas.List.{get_or_default}
use Rattle.std.proofs.lemmas.List.Elements.{All-nil}
use Rattle.grid_base.specs.Point.{GridPoint, IsBefore}
use Rattle.grid_base.specs.Segment.{GridSegment}
use Rattle.grid_base.specs.Drawing.{HasLink}
use Rattle.grid_base.specs.declared.original.Original.{Original}
use Rattle.hook_chain.specs.Ids.{IsChainAmong}
use Rattle.realm_audit.specs.Shelves.{HasShare}
use Rattle.realm_audit.specs.ShareChanges.{HasMore, HasFewer, IsLinkOf}
use Rattle.realm_audit.specs.Kept.{HasSharesOf}
use Rattle.chain_laws.specs.Redraws.{IsPathFor}
use Rattle.realm_audit.specs.Redraws.{AreReplacements, AddsReplacements, redrawn_original_by, IsReplacement}
use Rattle.chain_laws.specs.declared.redrawing.Redrawing.{Redrawing}
use Rattle.realm_audit.specs.declared.redrawing.Replacement.{Replacement}
use Rattle.realm_audit.specs.declared.shares.Share.{Share}
use Rattle.chain_laws.proofs.Elements.{Any-head, Any-nil, Any-later, Any-single, Any-cons_cases, Any-append_cases}
use Rattle.chain_laws.proofs.Elements.{Any-append_left, Any-append_right, Any-map}
use Rattle.chain_laws.proofs.Filters.{Any-passes, other_id}
use Rattle.chain_laws.proofs.RedrawnLinks.{redrawn_links, has_link_or_not, redrawn_without}

-- the original has the id x and the piece s
abbrev HasIt : GridSegment → ℕ → Original → Type 0
HasIt s x o = (o.id ≡ x) × HasLink o.chain s

-- ---- one original more
-- the original with this chain
abbrev pub with_id : ℕ → GridSegment → List GridPoint → Original
with_id id s chain = record { id = id; a = s.a; b = s.b; chain = chain }

pub shares_with : (originals : List Original) (old new : List Share) (id : ℕ) (line : GridSegment) (chain : List GridPoint)
    → HasSharesOf originals old → HasMore old new (λ s x. IsLinkOf chain s × (x ≡ id))
    → HasSharesOf (originals ++ with_id id line chain ∷ []) new
shares_with originals old new id line chain are more s x =
    let o = with_id id line chain in (
      λ has. elim ((more s x).0 has) [
        | inl had ↦
            let (ordered, some) = (are s x).0 had in
            (ordered, Any-append_left (HasIt s x) originals (o ∷ []) some)
        | inr ((link, ordered), is) ↦
            (ordered, Any-append_right (HasIt s x) originals (o ∷ []) (Any-head (HasIt s x) o [] (sym is, link)))
      ],
      λ (ordered, some). (more s x).1 (elim (Any-append_cases (HasIt s x) originals (o ∷ []) some) [
        | inl before ↦ inl ((are s x).1 (ordered, before))
        | inr last ↦ let (id_is, link) = Any-single (HasIt s x) o last in inr ((link, ordered), sym id_is)
      ]),
    )

-- ---- one original less
pub shares_without : (originals : List Original) (old new : List Share) (id : ℕ) (chain : List GridPoint)
    → HasSharesOf originals old → IsChainAmong originals id chain
    → HasFewer old new (λ s x. IsLinkOf chain s × (x ≡ id))
    → HasSharesOf (filter (λ o. not (o.id == id)) originals) new
shares_without originals old new id chain are found fewer s x =
    let stays = λ (o : Original). not (o.id == id) in (
      λ has.
          let (had, not_lost) = (fewer s x).0 has in
          let (ordered, (k, o, within, is, (has_id, link))) = (are s x).0 had in
          let other : o.id ≢ id = λ same.
          let only = subst (λ q. q.id ≡ id → q.chain ≡ chain) is (found.only k o within) same in
          not_lost ((subst (λ c. HasLink c s) only link, ordered), sym has_id ∙ same) in
          (ordered, (Any-passes stays (HasIt s x) originals).1 (k, o, within, is, ((other_id o.id id).1 other, (has_id, link)))),
      λ (ordered, some).
          let (k, o, within, is, (passes, (has_id, link))) = (Any-passes stays (HasIt s x) originals).0 some in
          (fewer s x).1 (
            (are s x).1 (ordered, (k, o, within, is, (has_id, link))),
            λ lost. (other_id o.id id).0 passes (has_id ∙ lost.1),
          ),
    )

-- ---- a path
Any-from_map : {X Y : Type 0} (P : Y → Type 0) (f : X → Y) (xs : List X) → Any P (map f xs) → Any (λ x. P (f x)) xs
Any-from_map P f [] some = absurd (Any-nil P some)
Any-from_map {X} P f (x ∷ xs) some = elim (Any-cons_cases P (f x) (map f xs) some) [
  | inl first ↦ Any-head (λ (y : X). P (f y)) x xs first
  | inr later ↦ Any-later (λ (y : X). P (f y)) x xs (Any-from_map P f xs later)
]

-- the owners of the piece lose their shares of it, and gain those of the links of the path
pub shares_redrawn : (originals : List Original) (old mid new : List Share) (r : Redrawing) (owners : List ℕ)
    → HasSharesOf originals old → IsPathFor r → ((x : ℕ) → Contains owners x ↔ HasShare old r.piece x)
    → HasFewer old mid (λ s x. (s ≡ r.piece) × Contains owners x)
    → HasMore mid new (λ s x. IsLinkOf r.path s × Contains owners x)
    → HasSharesOf (map (redrawn_original_by r) originals) new
shares_redrawn originals old mid new r owners are path owned fewer more s x =
    let links = λ (o : Original) (ordered : IsBefore s.a s.b).
    redrawn_links r.piece r.path o.chain s path.ordered path.leads ordered in
    let DrawnHas = λ (o : Original). HasIt s x (redrawn_original_by r o) in (
      λ has. elim ((more s x).0 has) [
        | inl between ↦
            let (had, not_lost) = (fewer s x).0 between in
            let (ordered, (k, o, within, is, (has_id, link))) = (are s x).0 had in
            let other : s ≢ r.piece = λ same. not_lost (same, (owned x).1 (subst (λ t. HasShare old t x) same had)) in (
              ordered,
              Any-map (HasIt s x) (redrawn_original_by r) originals
                  (k, o, within, is, (has_id, (links o ordered).1 (inl (link, other)))),
            )
        | inr ((on_path, ordered), owner) ↦
            let (ordered_piece, (k, o, within, is, (has_id, link))) = (are r.piece x).0 ((owned x).0 owner) in (
              ordered,
              Any-map (HasIt s x) (redrawn_original_by r) originals
                  (k, o, within, is, (has_id, (links o ordered).1 (inr (link, on_path)))),
            )
      ],
      λ (ordered, some).
          let (k, o, within, is, (has_id, link)) = Any-from_map (HasIt s x) (redrawn_original_by r) originals some in
          (more s x).1 (elim ((links o ordered).0 link) [
            | inl (stays, other) ↦
                let had = (are s x).1 (ordered, (k, o, within, is, (has_id, stays))) in
                inl ((fewer s x).1 (had, λ lost. other lost.0))
            | inr (had, on_path) ↦
                let owner = (are r.piece x).1 (path.ordered, (k, o, within, is, (has_id, had))) in
                inr ((on_path, ordered), (owned x).1 owner)
          ]),
    )

-- replacements for the owners are those for all originals that have the piece
pub all_replaced : (originals : List Original) (shares : List Share) (r : Redrawing) (owners : List ℕ)
    (list : List Replacement) → HasSharesOf originals shares → IsPathFor r
    → ((x : ℕ) → Contains owners x ↔ HasShare shares r.piece x)
    → AddsReplacements r originals (Contains owners) [] list → AreReplacements r originals list
all_replaced originals shares r owners list are path owned adds = record {
  each = adds.each (All-nil (IsReplacement r originals));
  all = λ k d within.
      let o = get_or originals k d in
      elim (has_link_or_not o.chain r.piece) [
        | inl link ↦
            let is = get_or_default originals k o d within in
            let has = (are r.piece o.id).1 (path.ordered, (k, o, within, is, (refl, link))) in
            adds.wanted k d within ((owned o.id).1 has)
        | inr none ↦ inr (redrawn_without r.piece r.path o.chain none)
      ];
}
