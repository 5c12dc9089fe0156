-- This file shows that new chains for the owners of a piece are new chains for all originals that have the piece.
use Rattle.std.proofs.Common.{◌≡◌, ◌⊎◌, ℕ, ◌+◌, ◌<◌, List, [], ◌∷◌, ◌++◌, Contains, All, take}
use Rattle.std.proofs.Common.{length, get_or, refl, sym, ap, ◌∙◌, inl, inr}
use Rattle.std.proofs.lemmas.List.{get_or_default}
use Rattle.std.proofs.lemmas.List.Elements.{All-push}
use Rattle.std.proofs.lemmas.List.Quantifiers.{Any-push}
use Rattle.grid_base.specs.Point.{GridPoint, IsBefore}
use Rattle.grid_base.specs.Segment.{GridSegment}
use Rattle.grid_base.specs.Drawing.{HasLink}
use Rattle.grid_base.specs.declared.original.Original.{Original}
use Rattle.grid_base.proofs.Elements.{Contains-nil}
use Rattle.component_registry.specs.Registry.{Holdings, Owns}
use Rattle.chain_laws.specs.declared.redrawing.Redrawings.{Redrawings}
use Rattle.realm_drawing.specs.declared.redrawing.Replacement.{Replacement}
use Rattle.hook_chain.specs.Ids.{IsChainAmong}
use Rattle.realm_drawing.specs.Kept.{HasOwnersOf}
use Rattle.chain_laws.specs.Redraws.{redrawn_by}
use Rattle.realm_drawing.specs.Redraws.{IsReplacement, IsReplaced, AddsReplacements}
use Rattle.chain_laws.proofs.Elements.{Any-append_left}
use Rattle.realm_drawing.proofs.OwnerShares.{Contains-next}

-- ---- what is added
-- nothing, where nothing is wanted
none_added : (step : Redrawings) (originals : List Original) (Wanted : ℕ → Type 0) (list : List Replacement)
    → All (λ o. Wanted o.id → ⊥) originals → AddsReplacements step originals Wanted list list
none_added step originals Wanted list none = record {
  each = λ all. all;
  stay = λ id has. has;
  wanted = λ k d within want. absurd (none k d within want);
}

-- nothing for no owner
pub none_owned : (step : Redrawings) (originals : List Original) (list : List Replacement)
    → AddsReplacements step originals (Contains []) list list
none_owned step originals list =
    none_added step originals (Contains []) list (λ k d within none. Contains-nil (get_or originals k d).id none)

-- what is replaced stays so, whatever else is added
pub still_replaced : (step : Redrawings) (originals : List Original) (Wanted : ℕ → Type 0) (old new : List Replacement)
    → AddsReplacements step originals Wanted old new → (o : Original) → IsReplaced step old o → IsReplaced step new o
still_replaced step originals Wanted old new added o (inl has) = inl (added.stay o.id has)
still_replaced step originals Wanted old new added o (inr stays) = inr stays

-- what is wanted first, and then the rest
added_also : (step : Redrawings) (originals : List Original) (First Then Both : ℕ → Type 0) (old mid new : List Replacement)
    → AddsReplacements step originals First old mid → AddsReplacements step originals Then mid new
    → ((x : ℕ) → Both x → First x ⊎ Then x) → AddsReplacements step originals Both old new
added_also step originals First Then Both old mid new first rest either = record {
  each = λ all. rest.each (first.each all);
  stay = λ id has. rest.stay id (first.stay id has);
  wanted = λ k d within want. elim (either (get_or originals k d).id want) [
    | inl early ↦ still_replaced step originals Then mid new rest (get_or originals k d) (first.wanted k d within early)
    | inr late ↦ rest.wanted k d within late
  ];
}

-- ---- one id
-- the chain that comes of that of the one with the id is a replacement
pub replaced_for_id : (step : Redrawings) (originals : List Original) (id : ℕ) (had chain : List GridPoint)
    → (list : List Replacement) → IsChainAmong originals id had → chain ≡ redrawn_by step had
    → AddsReplacements step originals (λ x. x ≡ id) list (list ++ record { id = id; chain = chain } ∷ [])
replaced_for_id step originals id had chain list there is =
    let r : Replacement = record { id = id; chain = chain } in
    let right : IsReplacement step originals r = λ k d within same. is ∙ ap (redrawn_by step) (sym (there.only k d within same)) in
    record {
      each = λ all. All-push (IsReplacement step originals) list r all right;
      stay = λ x has. Any-append_left (λ q. q.id ≡ x) list (r ∷ []) has;
      wanted = λ k d within same. inl (Any-push (λ q. q.id ≡ (get_or originals k d).id) list r (sym same));
    }

-- ---- owners
-- one owner after the other
pub owners_next : (step : Redrawings) (originals : List Original) (ids : List ℕ) (n id : ℕ) (old mid new : List Replacement)
    → n < length ids → id ≡ get_or ids n id → AddsReplacements step originals (Contains (take n ids)) old mid
    → AddsReplacements step originals (λ x. x ≡ id) mid new
    → AddsReplacements step originals (Contains (take (n + 1) ids)) old new
owners_next step originals ids n id old mid new within_ids is before added =
    added_also step originals (Contains (take n ids)) (λ x. x ≡ id) (Contains (take (n + 1) ids)) old mid new before added
    (λ x has. (Contains-next ids n id within_ids is x).0 has)

-- an original with the piece is an owner of it
pub owner_with : (originals : List Original) (r : Holdings) (s : GridSegment) (k : ℕ) (d : Original) → HasOwnersOf originals r
    → IsBefore s.a s.b → k < length originals → HasLink (get_or originals k d).chain s
    → Owns r s (get_or originals k d).id
owner_with originals r s k d owners ordered within link =
    let o = get_or originals k d in
    (owners s o.id).1 (ordered, (k, o, within, get_or_default originals k o d within, (refl, link)))
