-- The payload of the pages: a whole state as bytes.
use Rattle.std.specs.Prelude.{ℕ, zero, suc, ◌<◌, ◌^◌, List, [], ◌∷◌, ◌++◌, length, Bool}
use Rattle.std.specs.Prelude.{true, false}
use Rattle.std.specs.Prelude.{◌&&◌, ◌==◌, if◌then◌else◌, None}
use Rattle.std.specs.Int.{w32, w64, to_be_bytes}
use Rattle.grid_base.specs.Point.{OnGrid}
use Rattle.grid_base.specs.declared.kinds.Kind.{Kind}
use Rattle.grid_base.specs.declared.kinds.Kind.TheVariants as kinds
use Rattle.grid_base.specs.declared.original.Original.{Original}
use Rattle.record_codec.specs.declared.snapshot.Named.{Named}
use Rattle.record_codec.specs.declared.snapshot.KeptValue.{KeptValue}
use Rattle.record_codec.specs.declared.snapshot.KeptParts.{KeptParts}
use Rattle.record_codec.specs.declared.snapshot.KeptParts.TheVariants.{Points, Ids}
use Rattle.record_codec.specs.declared.snapshot.Kept.{Kept}
use Rattle.record_codec.specs.declared.snapshot.Snapshot.{Snapshot}
use Rattle.record_codec.specs.Spelling.{point, step, list}
use Rattle.record_codec.specs.Traces.{IsStep}
use Rattle.record_codec.specs.Fitting.{IsList}
use Rattle.record_codec.specs.Reading.{Reader, ◌>>=◌, both, made, byte_at, front_at}
use Rattle.record_codec.specs.Reading.{number_at, list_at, point_at, step_at}

-- ---- texts

-- an original: its id, its ends and the points of its chain
unfoldable pub original : Original → List ℕ
original o = to_be_bytes w32 o.id ++ (point o.a ++ (point o.b ++ list point o.chain))

-- a name: its length in one byte, and its bytes
unfoldable pub short : List ℕ → List ℕ
short name = length name ∷ name

-- the byte of a kind
abbrev pub kind_byte : Kind → ℕ
kind_byte kinds.Points = 1
kind_byte kinds.Lines = 2
kind_byte kinds.Regions = 3

-- the parts of a value: its points, or the ids of its originals
unfoldable pub parts_text : KeptParts → List ℕ
parts_text (Points points) = list point points
parts_text (Ids ids) = list (to_be_bytes w32) ids

-- a value: its kind and its parts
unfoldable pub value_text : KeptValue → List ℕ
value_text v = kind_byte v.kind ∷ parts_text v.parts

-- a value behind its name
unfoldable pub named : Named → List ℕ
named n = short n.name ++ value_text n.value

-- the number of a change and its steps
unfoldable pub kept : Kept → List ℕ
kept k = to_be_bytes w64 k.number ++ list step k.steps

-- the four lists of a state
unfoldable pub lists : Snapshot → List ℕ
lists s = list point s.points ++ (list original s.originals ++ (list named s.values ++ list kept s.traces))

-- all that a state has: its number of changes, its next id and its lists
unfoldable pub long_payload : Snapshot → List ℕ
long_payload s = to_be_bytes w64 s.changes ++ (to_be_bytes w64 s.next_id ++ lists s)

-- the state of files that hold nothing
abbrev pub empty_snapshot : Snapshot
empty_snapshot = record { changes = 0; next_id = 1; points = []; originals = []; values = []; traces = [] }

-- whether a list has no item
abbrev pub has_none : {A : Type 0} → List A → Bool
has_none [] = true
has_none (x ∷ xs) = false

-- whether s has no point, no original, no value and no trace
abbrev pub has_nothing : Snapshot → Bool
has_nothing s = ((has_none s.points && has_none s.originals) && has_none s.values) && has_none s.traces

-- whether s is the state of files that hold nothing
abbrev pub is_empty_state : Snapshot → Bool
is_empty_state s = ((s.changes == 0) && (s.next_id == 1)) && has_nothing s

-- the payload of a state: nothing for the state of files that hold nothing
abbrev pub payload : Snapshot → List ℕ
payload s = if is_empty_state s then [] else long_payload s

-- ---- which states have a payload

-- the id fits in four bytes, and the points are on the grid
pub record IsOriginal (o : Original) : Type 0 where
  pub id : o.id < 2 ^ 32
  pub from : OnGrid o.a
  pub to : OnGrid o.b
  pub chain : IsList OnGrid o.chain

-- the parts are points or ids, in any order, and all fit
abbrev pub AreParts : KeptParts → Type 0
AreParts (Points points) = IsList OnGrid points
AreParts (Ids ids) = IsList (λ id. id < 2 ^ 32) ids

-- points for points values, and ids for the others
abbrev pub AreOfKind : Kind → KeptParts → Type 0
AreOfKind kinds.Points (Points points) = Unit {0}
AreOfKind kinds.Lines (Ids ids) = Unit {0}
AreOfKind kinds.Regions (Ids ids) = Unit {0}
AreOfKind kinds.Points (Ids ids) = ⊥
AreOfKind kinds.Lines (Points points) = ⊥
AreOfKind kinds.Regions (Points points) = ⊥

-- the value is made of what its kind asks for
pub record IsValue (v : KeptValue) : Type 0 where
  pub of_kind : AreOfKind v.kind v.parts
  pub parts : AreParts v.parts

-- the length of the name fits in one byte
pub record IsNamed (n : Named) : Type 0 where
  pub name : length n.name < 256
  pub value : IsValue n.value

-- all numbers fit, and each step has a text
pub record IsKeptTrace (k : Kept) : Type 0 where
  pub number : k.number < 2 ^ 64
  pub steps : IsList IsStep k.steps

-- all numbers fit, and all parts have a text
pub record IsSnapshot (s : Snapshot) : Type 0 where
  pub changes : s.changes < 2 ^ 64
  pub next_id : s.next_id < 2 ^ 64
  pub points : IsList OnGrid s.points
  pub originals : IsList IsOriginal s.originals
  pub values : IsList IsNamed s.values
  pub traces : IsList IsKeptTrace s.traces

-- ---- reading

-- an original
unfoldable pub original_at : Reader Original
original_at = made (λ o. record { id = o.0; a = o.1.0; b = o.1.1.0; chain = o.1.1.1 })
    (both (number_at w32) (both point_at (both point_at (list_at point_at))))

-- a name: its length in one byte, and its bytes
unfoldable pub short_at : Reader (List ℕ)
short_at bytes = do
  n ← byte_at bytes
  front_at n.0 n.1

-- a points value
unfoldable pub points_value_at : Reader KeptValue
points_value_at = made (λ points. record { kind = kinds.Points; parts = Points points }) (list_at point_at)

-- a value of this kind, which is made of ids
unfoldable pub ids_value_at : Kind → Reader KeptValue
ids_value_at kind = made (λ ids. record { kind = kind; parts = Ids ids }) (list_at (number_at w32))

-- a value of the kind of this byte
abbrev pub value_behind : ℕ → Reader KeptValue
value_behind zero bytes = None
value_behind (suc zero) bytes = points_value_at bytes
value_behind (suc (suc zero)) bytes = ids_value_at kinds.Lines bytes
value_behind (suc (suc (suc zero))) bytes = ids_value_at kinds.Regions bytes
value_behind (suc (suc (suc (suc kind)))) bytes = None

-- a value: its kind and its parts
unfoldable pub value_at : Reader KeptValue
value_at bytes = do
  kind ← byte_at bytes
  value_behind kind.0 kind.1

-- a value behind its name
unfoldable pub named_at : Reader Named
named_at = made (λ n. record { name = n.0; value = n.1 }) (both short_at value_at)

-- the number of a change and its steps
unfoldable pub kept_at : Reader Kept
kept_at = made (λ k. record { number = k.0; steps = k.1 }) (both (number_at w64) (list_at step_at))

-- all that a state has
unfoldable pub snapshot_at : Reader Snapshot
snapshot_at = made (λ s. record {
  changes = s.0;
  next_id = s.1.0;
  points = s.1.1.0;
  originals = s.1.1.1.0;
  values = s.1.1.1.1.0;
  traces = s.1.1.1.1.1;
})
    (both (number_at w64) (both (number_at w64) (both (list_at point_at) (both (list_at original_at)
    (both (list_at named_at) (list_at kept_at))))))
