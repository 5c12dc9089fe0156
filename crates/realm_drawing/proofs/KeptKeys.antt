-- This file shows which pieces keep their keys where a registry comes to have more shares, or fewer.
use Rattle.std.proofs.Common.{◌≡◌, ℕ, List, get_or}
use Rattle.std.proofs.Common.{Option, Some, None, IsSome, refl, ap, ◌∙◌, inl}
use Rattle.std.specs.Option.{option_map}
use Rattle.std.specs.FinMap as map
use Rattle.std.proofs.lemmas.Option.{none-some}
use Rattle.std.proofs.lemmas.List.{get_or_default}
use Rattle.grid_base.specs.Segment.{GridSegment}
use Rattle.component_registry.specs.Registry.{Holding, Holdings, IsPiece, key_of, owners_of, Owns, IsSound}
use Rattle.component_registry.proofs.Registries.{piece_from_owner}
use Rattle.realm_drawing.specs.declared.shares.Share.{Share}
use Rattle.realm_drawing.specs.Shares.{KeepsKeys, HasMore, HasFewer}

-- ---- pieces and their keys
abbrev pub key_in : Option Holding → Option ℕ
key_in o = option_map (λ h. h.key) o

-- what has a key is a piece
pub piece_from_key : (r : Holdings) (s : GridSegment) (k : ℕ) → key_of r s ≡ Some k → IsPiece r s
piece_from_key r s k = of_what_is_held (map.get r s)
  where
    of_what_is_held : (o : Option Holding) → key_in o ≡ Some k → IsSome o
    of_what_is_held None key = absurd (none-some k key)
    of_what_is_held (Some h) key = refl

-- and a piece has a key
pub key_from_piece : (r : Holdings) (s : GridSegment) → IsPiece r s → (k : ℕ) × (key_of r s ≡ Some k)
key_from_piece r s = of_what_is_held (map.get r s)
  where
    of_what_is_held : (o : Option Holding) → IsSome o → (k : ℕ) × (key_in o ≡ Some k)
    of_what_is_held None piece = absurd (cc)
    of_what_is_held (Some h) piece = (h.key, refl)

-- a piece of a sound registry is a piece of each registry in which its owners own it
pub piece_with_owners : (r t : Holdings) (s : GridSegment) → IsSound r → ((x : ℕ) → Owns r s x → Owns t s x)
    → IsPiece r s → IsPiece t s
piece_with_owners r t s sound owners piece =
    let xs = owners_of r s in
    let x = get_or xs 0 0 in
    let some = sound.owned s piece in
    piece_from_owner t s x (owners x (0, some, get_or_default xs 0 x 0 some))

-- a piece before is a piece behind, and the other way round, and keeps its key: the keys are the same
pub same_key : (before behind : Option Holding) → (IsSome before → IsSome behind) → (IsSome behind → IsSome before)
    → ((k j : ℕ) → key_in before ≡ Some k → key_in behind ≡ Some j → j ≡ k) → key_in behind ≡ key_in before
same_key None None stays was keeps = refl
same_key None (Some g) stays was keeps = absurd (cc (was refl))
same_key (Some h) None stays was keeps = absurd (cc (stays refl))
same_key (Some h) (Some g) stays was keeps = ap (λ n. Some n) (keeps h.key g.key refl refl)

-- ---- one change after another
-- keys that are kept from r to s and from s to t are kept from r to t, where a piece of r and t is one of s too
pub KeepsKeys-trans : (r s t : Holdings) → ((p : GridSegment) → IsPiece r p → IsPiece t p → IsPiece s p)
    → KeepsKeys r s → KeepsKeys s t → KeepsKeys r t
KeepsKeys-trans r s t between first second = λ p k j before after.
    let piece = between p (piece_from_key r p k before) (piece_from_key t p j after) in
    let (m, middle) = key_from_piece s p piece in
    second p m j middle after ∙ first p k m before middle

-- keys that more shares leave and a further change keeps are kept
pub kept_with_more : (r s t : Holdings) (xs : List Share) → IsSound r → HasMore r s xs → KeepsKeys r s → KeepsKeys s t
    → KeepsKeys r t
kept_with_more r s t xs sound more = KeepsKeys-trans r s t
    (λ p in_r in_t. piece_with_owners r s p sound (λ x had. (more p x).1 (inl had)) in_r)

-- keys that a change keeps and fewer shares leave are kept
pub kept_with_fewer : (r s t : Holdings) (ys : List Share) → IsSound t → HasFewer s t ys → KeepsKeys r s → KeepsKeys s t
    → KeepsKeys r t
kept_with_fewer r s t ys sound less = KeepsKeys-trans r s t
    (λ p in_r in_t. piece_with_owners t s p sound (λ x has. ((less p x).0 has).0) in_t)
