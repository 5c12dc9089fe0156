-- This file shows that the pieces that are listed with their keys are those of the registry.
use Rattle.std.proofs.Common.{◌≡◌, ◌≢◌, ◌↔◌, ℕ, Bool, true, false, T, List, [], ◌∷◌, Contains, refl, sym, ap, ap₂, subst, ◌∙◌, cond, Any, ◌&&◌}
use Rattle.std.proofs.Common.{Option, Some, None, inl, inr}
use Rattle.std.specs.Option.{option_map}
use Rattle.std.specs.Ordering.{is_lt, is_eq}
use Rattle.std.specs.FinMap as map
use Rattle.std.specs.FinMap.Entries.{find, below_all, is_sorted}
use Rattle.std.proofs.lemmas.Option.{same_Some, none-some}
use Rattle.std.proofs.lemmas.Cmp.{tied_itself}
use Rattle.grid_base.specs.Segment.{GridSegment, segment_cmp}
use Rattle.grid_base.proofs.Orders.{segment_cmp-total}
use Rattle.grid_base.proofs.Elements.{Contains-later, Contains-cases, Contains-nil}
use Rattle.component_registry.specs.Registry.{Holding, Holdings, key_of}
use Rattle.component_registry.proofs.Lookups.{this_segment_or_other, other_segment_passed}
use Rattle.realm_drawing.specs.Keyed.{KeyedPiece, keyed}
use Rattle.realm_drawing.specs.Kept.{keys_in}
use Rattle.chain_laws.proofs.Elements.{Contains-map, Contains-head}

abbrev Entry : Type 0
Entry = GridSegment × Holding

-- ---- searches
first_of : (a b : Bool) → T (a && b) → T a
first_of true b both = tt
first_of false b both = both

second_of : (a b : Bool) → T (a && b) → T b
second_of true b both = both
second_of false b both = absurd both

-- the first entry is found under its key
first_is_found : (e : Entry) (es : List Entry) → find segment_cmp e.0 (e ∷ es) ≡ Some e.1
first_is_found e es = ap (λ r. cond (is_eq r) (Some e.1) (find segment_cmp e.0 es)) (tied_itself segment_cmp-total e.0)

-- a search for another passes over it
other_is_passed : (s : GridSegment) (e : Entry) (es : List Entry) → e.0 ≢ s → find segment_cmp s (e ∷ es) ≡ find segment_cmp s es
other_is_passed s e es other =
    ap (λ (b : Bool). cond b (Some e.1) (find segment_cmp s es)) (other_segment_passed s e.0 other)

-- what a search finds is in the list
found_is_there : (s : GridSegment) (h : Holding) (es : List Entry) → find segment_cmp s es ≡ Some h → Contains es (s, h)
found_is_there s h [] is = absurd (none-some h is)
found_is_there s h (e ∷ es) is = elim (this_segment_or_other s e.0) [
  | inl same ↦
      let here : find segment_cmp e.0 (e ∷ es) ≡ Some h = subst (λ t. find segment_cmp t (e ∷ es) ≡ Some h) (sym same) is in
      let value : e.1 ≡ h = same_Some e.1 h (sym (first_is_found e es) ∙ here) in
      Contains-head e es (s, h) (ap₂ (λ t g. (t, g)) same value)
  | inr other ↦
      Contains-later e es (s, h) (found_is_there s h es (sym (other_is_passed s e es other) ∙ is))
]

-- each key of a list of keys that rise from x on comes after x
comes_later : (x s : GridSegment) (h : Holding) (es : List Entry) → T (below_all segment_cmp x es) → Contains es (s, h) → s ≢ x
comes_later x s h [] below there = absurd (Contains-nil (s, h) there)
comes_later x s h (e ∷ es) below there = elim (Contains-cases e es (s, h) there) [
  | inl first ↦ λ same.
      let less = subst (λ (t : GridSegment). T (is_lt (segment_cmp x t))) (ap (λ (f : Entry). f.0) first ∙ same) (first_of _ _ below) in
      absurd (subst (λ o. T (is_lt o)) (tied_itself segment_cmp-total x) less)
  | inr later ↦ comes_later x s h es (second_of _ _ below) later
]

-- and what is in a list whose keys rise is found
there_is_found : (s : GridSegment) (h : Holding) (es : List Entry) → T (is_sorted segment_cmp es) → Contains es (s, h)
    → find segment_cmp s es ≡ Some h
there_is_found s h [] sorted there = absurd (Contains-nil (s, h) there)
there_is_found s h (e ∷ es) sorted there = elim (Contains-cases e es (s, h) there) [
  | inl first ↦ subst (λ (f : Entry). find segment_cmp f.0 (e ∷ es) ≡ Some f.1) first (first_is_found e es)
  | inr later ↦
      let other : e.0 ≢ s = λ same. comes_later e.0 s h es (first_of _ _ sorted) later (sym same) in
      other_is_passed s e es other ∙ there_is_found s h es (second_of _ _ sorted) later
]

-- ---- keys
-- a piece of the registry is listed with its key, and no other is
pub has_key : (r : Holdings) (s : GridSegment) (k : ℕ) → Contains (keys_in r) (keyed s k) ↔ (key_of r s ≡ Some k)
has_key r s k =
    let listed = Contains-map (λ (e : Entry). keyed e.0 e.1.key) (map.entries r) (keyed s k) in (
      λ there. from_listed (listed.0 there),
      λ is. listed.1 (to_listed (map.get r s) refl is),
    )
  where
    from_listed : Any (λ (e : Entry). keyed e.0 e.1.key ≡ keyed s k) (map.entries r) → key_of r s ≡ Some k
    from_listed (i, e, within, at, same) =
        let there : Contains (map.entries r) e = (i, within, at) in
        let found = map.get-entries r e.0 ∙ there_is_found e.0 e.1 (map.entries r) (map.entries_sorted r) there in
        let key : key_of r e.0 ≡ Some e.1.key = ap (option_map (λ h. h.key)) found in
        subst (λ (t : GridSegment). key_of r t ≡ Some k) (ap (λ (p : KeyedPiece). p.piece) same)
        (key ∙ ap (λ (p : KeyedPiece). Some p.key) same)

    to_listed : (o : Option Holding) → map.get r s ≡ o → option_map (λ h. h.key) o ≡ Some k
        → Any (λ (e : Entry). keyed e.0 e.1.key ≡ keyed s k) (map.entries r)
    to_listed None is key = absurd (none-some k key)
    to_listed (Some h) is key =
        let there = found_is_there s h (map.entries r) (sym (map.get-entries r s) ∙ is) in
        let (i, within, at) = there in (i, (s, h), within, at, ap (keyed s) (same_Some h.key k key))
