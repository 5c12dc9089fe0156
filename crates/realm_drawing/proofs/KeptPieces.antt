-- This file shows that the pieces of a drawing that is kept are those of its registry, with their keys.
use Rattle.std.proofs.Common.{◌≡◌, ◌↔◌, ℕ, List, [], ◌∷◌, length, ap, map as list_map, get_or, arith, refl, sym, ◌∙◌}
use Rattle.std.proofs.Common.{Option, Some, None, IsSome, true≢false, Result, Ok, Err, IfOk, Contains, Vec, Global}
use Rattle.std.specs.Option.{option_map}
use Rattle.std.specs.FinMap as map
use Rattle.std.proofs.lemmas.List.{get_or_default}
use Rattle.std.proofs.lemmas.Option.{same_Some}
use Rattle.grid_base.specs.Point.{GridPoint}
use Rattle.grid_base.specs.Segment.{GridSegment, segment_cmp}
use Rattle.grid_base.specs.Drawing.{HasLink, IsPiece}
use Rattle.grid_base.specs.declared.original.Original.{Original}
use Rattle.grid_base.specs.declared.segment.Segment.{Segment}
use Rattle.grid_base.proofs.Elements.{Contains-nil}
use Rattle.component_registry.specs.Registry as registries
use Rattle.component_registry.specs.Registry.{Holding, Holdings, key_of, owners_of, Owns}
use Rattle.component_registry.proofs.Registries.{piece_from_owner}
use Rattle.component_registry.proofs.Uses.{sound_empty}
use Rattle.realm_drawing.specs.Keyed as keyed_drawings
use Rattle.realm_drawing.specs.Keyed.{KeyedPiece, AreKeyed, keyed, empty_drawing, HasKey}
use Rattle.realm_drawing.specs.Kept.{drawn, IsInOrder}
use Rattle.realm_drawing.specs.Shares.{KeepsKeys}
use Rattle.chain_laws.proofs.Elements.{Any-weaker, Any-nil}
use Rattle.realm_drawing.proofs.Keys.{has_key}

-- ---- the empty drawing
no_owner : (s : GridSegment) (x : ℕ) → Owns map.empty s x → ⊥
no_owner s x owns = Contains-nil x (rw (map.get-empty {X = Holding} segment_cmp s) at owns)

pub kept_empty : IsInOrder [] [] map.empty
kept_empty = record {
  points_ascend = λ i j d less within. absurd (omega arith);
  ids_rise = λ i j d less within. absurd (omega arith);
  all_valid = λ k d within. absurd (omega arith);
  sound = sound_empty;
  owners = λ s x. (
    λ owns. absurd (no_owner s x owns),
    λ of_some. absurd (Any-nil (λ (o : Original). (o.id ≡ x) × HasLink o.chain s) of_some.1),
  );
}

none_of_length : {X : Type 0} (xs : List X) → length xs ≡ 0 → xs ≡ []
none_of_length [] none = refl
none_of_length (x ∷ xs) none = absurd (omega arith)

no_entries : map.entries {X = Holding} {R = segment_cmp} map.empty ≡ []
no_entries = none_of_length _ (sym (map.len-entries map.empty) ∙ map.len-empty segment_cmp Holding)

-- the empty drawing has no keys
pub drawn_empty : drawn [] [] map.empty ≡ empty_drawing
drawn_empty =
    let keys_of = λ (es : List (GridSegment × Holding)). list_map (λ e. keyed e.0 e.1.key) es in
    let with_keys = λ (keys : List KeyedPiece). record empty_drawing { keys = keys } in
    ap (λ (es : List (GridSegment × Holding)). with_keys (keys_of es)) no_entries

-- ---- pieces
-- some original has each piece of the registry, since someone owns it
pub piece_of_registry : (points : List GridPoint) (originals : List Original) (r : Holdings) → IsInOrder points originals r
    → (s : GridSegment) → registries.IsPiece r s ↔ IsPiece (record { points = points; originals = originals }) s
piece_of_registry points originals r kept s = (
  λ piece.
      let xs = owners_of r s in
      let x = get_or xs 0 0 in
      let some = kept.sound.owned s piece in
      let of_some = (kept.owners s x).0 (0, some, get_or_default xs 0 x 0 some) in
      let Has = λ (o : Original). (o.id ≡ x) × HasLink o.chain s in
      (of_some.0, Any-weaker Has (λ o. HasLink o.chain s) (λ o both. both.1) originals of_some.1),
  λ (ordered, (k, o, within, is, link)).
      piece_from_owner r s o.id ((kept.owners s o.id).1 (ordered, (k, o, within, is, (refl, link)))),
)

-- so a list of the ones is a list of the others
pub pieces_of_registry : {E : Type 0} (points : List GridPoint) (originals : List Original) (r : Holdings)
    → IsInOrder points originals r → (listed : Result (Vec Segment Global) E)
    → IfOk listed (λ v. (s : GridSegment) → Contains v.items s ↔ registries.IsPiece r s)
    → IfOk listed (λ v. (s : GridSegment) → Contains v.items s
    ↔ IsPiece (record { points = points; originals = originals }) s)
pieces_of_registry points originals r kept (Err e) exact = tt
pieces_of_registry points originals r kept (Ok v) exact = λ s.
    let there = exact s in
    let is = piece_of_registry points originals r kept s in
    (λ has. is.0 (there.0 has), λ piece. there.1 (is.1 piece))

-- ---- keys
-- what has a key is a piece of the registry, and the other way round
piece_with_key : (r : Holdings) (s : GridSegment) → IsSome (key_of r s) ↔ registries.IsPiece r s
piece_with_key r s = of_what_is_held (map.get r s)
  where
    of_what_is_held : (o : Option Holding) → IsSome (option_map (λ h. h.key) o) ↔ IsSome o
    of_what_is_held None = (λ some. some, λ some. some)
    of_what_is_held (Some h) = (λ some. refl, λ some. refl)

-- so the pieces that have keys are those of the drawing
pub key_where_piece : (points : List GridPoint) (originals : List Original) (r : Holdings) → IsInOrder points originals r
    → (s : GridSegment) → IsSome (key_of r s) ↔ IsPiece (record { points = points; originals = originals }) s
key_where_piece points originals r kept s =
    let has = piece_with_key r s in
    let is = piece_of_registry points originals r kept s in
    (λ key. is.0 (has.0 key), λ piece. has.1 (is.1 piece))

-- the key that the registry answers is the one that is listed
pub key_is_listed : (points : List GridPoint) (originals : List Original) (r : Holdings) (s : GridSegment) (k : ℕ)
    → (key_of r s ≡ Some k) ↔ HasKey (drawn points originals r) s k
key_is_listed points originals r s k = let listed = has_key r s k in (listed.1, listed.0)

-- keys that a registry keeps are kept in the drawing
pub keys_are_kept : (points after : List GridPoint) (originals changed : List Original) (old new : Holdings)
    → KeepsKeys old new → keyed_drawings.KeepsKeys (drawn points originals old) (drawn after changed new)
keys_are_kept points after originals changed old new keeps s k j before behind =
    keeps s k j ((has_key old s k).0 before) ((has_key new s j).0 behind)

-- a drawing that stays as it is keeps its keys
pub KeepsKeys-itself : (points : List GridPoint) (originals : List Original) (r : Holdings)
    → keyed_drawings.KeepsKeys (drawn points originals r) (drawn points originals r)
KeepsKeys-itself points originals r =
    keys_are_kept points points originals originals r r (λ s k j before behind. same_Some j k (sym behind ∙ before))

-- each piece has one key, and each key one piece
pub kept_keyed : (points : List GridPoint) (originals : List Original) (r : Holdings) → IsInOrder points originals r
    → AreKeyed (drawn points originals r)
kept_keyed points originals r kept = record {
  some_key = λ s piece. with_key s (key_of r s) refl ((key_where_piece points originals r kept s).1 piece);
  of_pieces = λ s k key.
      let is = (has_key r s k).0 key in
      (key_where_piece points originals r kept s).0 (rw is refl);
  one_key = λ s k j first second. same_Some k j (sym ((has_key r s k).0 first) ∙ (has_key r s j).0 second);
  one_piece = λ s t k first second. kept.sound.apart s t k ((has_key r s k).0 first) ((has_key r t k).0 second);
}
  where
    with_key : (s : GridSegment) (o : Option ℕ) → key_of r s ≡ o → IsSome (key_of r s)
        → (k : ℕ) × HasKey (drawn points originals r) s k
    with_key s None is some = absurd (true≢false (sym (rw is at some)))
    with_key s (Some k) is some = (k, (has_key r s k).1 is)
