-- This file shows that values are read exactly where their texts stand.
use Rattle.std.proofs.Common.{◌≡◌, ℕ, zero, suc, ◌<◌, ◌^◌, List, [], ◌∷◌, ◌++◌, length, Some, refl}
use Rattle.std.specs.Int.{w32, to_be_bytes}
use Rattle.grid_base.specs.Point.{OnGrid}
use Rattle.grid_base.specs.declared.kinds.Kind.{Kind}
use Rattle.grid_base.specs.declared.kinds.Kind.TheVariants as kinds
use Rattle.record_codec.specs.declared.snapshot.KeptValue.{KeptValue}
use Rattle.record_codec.specs.declared.snapshot.KeptParts.{KeptParts}
use Rattle.record_codec.specs.declared.snapshot.KeptParts.TheVariants.{Points, Ids}
use Rattle.record_codec.specs.Spelling.{point, list}
use Rattle.record_codec.specs.Fitting.{IsList}
use Rattle.record_codec.specs.Reading.{byte_at, front_at, number_at, point_at, list_at}
use Rattle.record_codec.specs.Payload.{short, parts_text, value_text, named, AreParts, AreOfKind, IsValue, IsNamed, short_at}
use Rattle.record_codec.specs.Payload.{points_value_at, ids_value_at, value_behind, value_at, named_at}
use Rattle.record_codec.proofs.Bytes.{IsBytes, IsBytes-rest, Takes, Takes-then, four_bytes}
use Rattle.record_codec.proofs.Codecs.{IsCodec, bind_some, both_codec, made_codec, renamed_codec, number_codec}
use Rattle.record_codec.proofs.Codecs.{byte_codec, front_takes, front_again, list_codec, kind_takes}
use Rattle.record_codec.proofs.PlaceLemmas.{point_codec}

-- ---- parts
points_codec : IsCodec (IsList OnGrid) (list point) (list_at point_at)
points_codec = list_codec point_codec

ids_codec : IsCodec (IsList (λ id. id < 2 ^ 32)) (list (to_be_bytes w32)) (list_at (number_at w32))
ids_codec = list_codec (number_codec w32 (2 ^ 32) four_bytes)

-- ---- values

behind_takes : (kind : ℕ) (bytes : List ℕ) (v : KeptValue) (rest : List ℕ) → IsBytes bytes → value_behind kind bytes ≡ Some (v, rest)
    → IsValue v × Takes (kind ∷ bytes) (value_text v) rest
unfolding points_value_at ids_value_at value_text parts_text
behind_takes zero bytes v rest is_bytes e = absurd cc
behind_takes (suc zero) bytes v rest is_bytes e =
    kind_takes points_codec IsValue value_text 1 (λ points. record { kind = kinds.Points; parts = Points points })
    (λ points has. record { of_kind = tt; parts = has }) (λ points. refl) bytes v rest is_bytes e
behind_takes (suc (suc zero)) bytes v rest is_bytes e =
    kind_takes ids_codec IsValue value_text 2 (λ ids. record { kind = kinds.Lines; parts = Ids ids })
    (λ ids has. record { of_kind = tt; parts = has }) (λ ids. refl) bytes v rest is_bytes e
behind_takes (suc (suc (suc zero))) bytes v rest is_bytes e =
    kind_takes ids_codec IsValue value_text 3 (λ ids. record { kind = kinds.Regions; parts = Ids ids })
    (λ ids has. record { of_kind = tt; parts = has }) (λ ids. refl) bytes v rest is_bytes e
behind_takes (suc (suc (suc (suc kind)))) bytes v rest is_bytes e = absurd cc

value_takes : (bytes : List ℕ) (v : KeptValue) (rest : List ℕ) → IsBytes bytes → value_at bytes ≡ Some (v, rest)
    → IsValue v × Takes bytes (value_text v) rest
unfolding value_at byte_at
value_takes [] v rest is_bytes e = absurd cc
value_takes (kind ∷ bytes) v rest is_bytes e = behind_takes kind bytes v rest (IsBytes-rest kind bytes is_bytes) e

of_kind : (kind : Kind) (parts : KeptParts) (rest : List ℕ) → AreOfKind kind parts → AreParts parts
    → value_at (value_text (record { kind = kind; parts = parts }) ++ rest) ≡ Some (record { kind = kind; parts = parts }, rest)
unfolding value_at byte_at points_value_at ids_value_at value_text parts_text
of_kind kinds.Points (Points points) rest fit are = rw (points_codec.again points rest are) refl
of_kind kinds.Lines (Ids ids) rest fit are = rw (ids_codec.again ids rest are) refl
of_kind kinds.Regions (Ids ids) rest fit are = rw (ids_codec.again ids rest are) refl
of_kind kinds.Points (Ids ids) rest fit are = absurd fit
of_kind kinds.Lines (Points points) rest fit are = absurd fit
of_kind kinds.Regions (Points points) rest fit are = absurd fit

value_codec : IsCodec IsValue value_text value_at
value_codec = record { takes = value_takes; again = λ v rest is. of_kind v.kind v.parts rest is.of_kind is.parts }

-- ---- names

short_takes : (bytes name rest : List ℕ) → IsBytes bytes → short_at bytes ≡ Some (name, rest)
    → (length name < 256) × Takes bytes (short name) rest
unfolding short_at short
short_takes bytes name rest is_bytes e =
    let a = bind_some (byte_at bytes) (λ n. front_at n.0 n.1) (name, rest) e in
    let n = byte_codec.takes bytes a.0.0 a.0.1 is_bytes a.1 in
    let f = front_takes a.0.0 a.0.1 name rest n.1.rest_is_bytes a.2 in
    let all = Takes-then bytes (a.0.0 ∷ []) a.0.1 name rest n.1 f.1 in
    (rw f.0 n.0, rw f.0 all)

short_again : (name rest : List ℕ) → length name < 256 → short_at (short name ++ rest) ≡ Some (name, rest)
unfolding short_at short byte_at
short_again name rest lt = front_again name rest

short_codec : IsCodec (λ name. length name < 256) short short_at
short_codec = record { takes = short_takes; again = short_again }

pub named_codec : IsCodec IsNamed named named_at
unfolding named named_at
named_codec = renamed_codec IsNamed (λ n has. record { name = has.0; value = has.1 }) (λ n is. (is.name, is.value))
    (made_codec (λ (x : List ℕ × KeptValue). record { name = x.0; value = x.1 }) (λ n. (n.name, n.value)) (λ n. refl) (λ x. refl)
    (both_codec short_codec value_codec))
