-- Registries of pieces, as maps from a piece to its key and its owners.
use Rattle.std.specs.Prelude.{◌≡◌, ◌≢◌, ◌⊎◌, ◌↔◌, ℕ, ◌<◌, ◌+◌, ◌||◌, Bool, if◌then◌else◌, refl}
use Rattle.std.specs.Prelude.{List, [], length, Contains, sum_by}
use Rattle.std.specs.Prelude.{Option, Some, IsSome, IfSome, unwrap_or}
use Rattle.std.specs.Option.{option_map}
use Rattle.std.specs.List.Sorted.{IsStrictlyIncreasing}
use Rattle.std.specs.Coded.{Coded, code_by, coded×, coded_ℕ, coded_list}
use Rattle.std.specs.FinMap as map
use Rattle.grid_base.specs.Point.{GridPoint, is_point}
use Rattle.grid_base.specs.Segment.{GridSegment, segment_cmp}
use Rattle.grid_base.specs.contracts.segment.Segment.{the_row}

-- what is held of a piece: its key, and its owners, ascending
pub record Holding : Type 0 where
  pub key : ℕ
  pub owners : List ℕ

-- what is held of a piece with this key and these owners
abbrev pub holding_of : ℕ → List ℕ → Holding
holding_of k ids = record { key = k; owners = ids }

-- a registry, as clauses see it: what is held of each piece that has an owner
abbrev pub Holdings : Type 0
Holdings = map.FinMap segment_cmp Holding

-- what is held is stored as the pair of its key and its owners
abbrev pub holding_code : Coded Holding
holding_code =
    let parts_code = coded× coded_ℕ (coded_list coded_ℕ) in
    code_by (ℕ × List ℕ) parts_code (λ h. (h.key, h.owners)) (λ c. holding_of c.0 c.1) (λ _. refl)

-- a registry is stored as the list of its pieces, each with what is held of it
abbrev pub holdings_code : Coded Holdings
holdings_code = map.code the_row.coded holding_code

-- s is a piece: it has an owner
abbrev pub IsPiece : Holdings → GridSegment → Type 0
IsPiece r s = IsSome (map.get r s)

-- the key of s, if s is a piece
abbrev pub key_of : Holdings → GridSegment → Option ℕ
key_of r s = option_map (λ h. h.key) (map.get r s)

-- the owners of s, none where s isn't a piece
abbrev pub owners_of : Holdings → GridSegment → List ℕ
owners_of r s = unwrap_or (option_map (λ h. h.owners) (map.get r s)) []

-- id owns s
abbrev pub Owns : Holdings → GridSegment → ℕ → Type 0
Owns r s id = Contains (owners_of r s) id

-- each piece has an owner, its owners ascend, and no two pieces have one key
pub record IsSound (r : Holdings) : Type 0 where
  pub owned : (s : GridSegment) → IsPiece r s → 0 < length (owners_of r s)
  pub ascending : (s : GridSegment) → IsStrictlyIncreasing (owners_of r s)
  pub apart : (s t : GridSegment) (k : ℕ) → key_of r s ≡ Some k → key_of r t ≡ Some k → s ≡ t

-- whether p is an end of s
abbrev pub is_end : GridPoint → GridSegment → Bool
is_end p s = is_point p s.a || is_point p s.b

-- how often p is an end of s: once or not at all
abbrev pub times_end : GridPoint → GridSegment → ℕ
times_end p s = if is_end p s then 1 else 0

-- how often p is used: the sum, over the pieces with the end p, of their numbers of owners
abbrev pub uses_of : Holdings → GridPoint → ℕ
uses_of r p = sum_by (λ e. if is_end p e.0 then length e.1.owners else 0) (map.entries r)

-- in the new registry id owns s too, which has the key k and had no other, its ends are used once
-- more, and the other pieces are as they were
pub record AddsOwner (old new : Holdings) (s : GridSegment) (id k : ℕ) : Type 0 where
  pub owners : (x : ℕ) → Owns new s x ↔ ((x ≡ id) ⊎ Owns old s x)
  pub key : key_of new s ≡ Some k
  pub key_stays : IfSome (key_of old s) (λ had. had ≡ k)
  pub uses : (p : GridPoint) → uses_of new p ≡ uses_of old p + times_end p s
  pub others : (t : GridSegment) → t ≢ s → map.get new t ≡ map.get old t

-- in the new registry id doesn't own s, whose key stays where others own it, its ends are used once
-- less, and the other pieces are as they were
pub record DropsOwner (old new : Holdings) (s : GridSegment) (id : ℕ) : Type 0 where
  pub owners : (x : ℕ) → Owns new s x ↔ (Owns old s x × (x ≢ id))
  pub key_stays : IfSome (key_of new s) (λ kept. key_of old s ≡ Some kept)
  pub uses : (p : GridPoint) → uses_of new p + times_end p s ≡ uses_of old p
  pub others : (t : GridSegment) → t ≢ s → map.get new t ≡ map.get old t
