-- What operators on lists of values are answered: `sum`, `decompose`, `overlay` and `fusion`.
use Rattle.std.specs.Prelude.{◌≡◌, ◌≢◌, ◌⊎◌, ℕ, List, [], ◌++◌, map, Any, All, Contains, Some, IsSomeAnd}
use Rattle.std.specs.List.{AllZip}
use Rattle.grid_base.specs.Border.{AreNoded}
use Rattle.rose_values.specs.declared.geometry.Geometry.{Geometry}
use Rattle.rose_operators.specs.Results.{IsAscending}
use Rattle.rose_sets.specs.Sums.{all_segments, IsSum}
use Rattle.rose_sets.specs.Parts.{AreParts}
use Rattle.rose_sets.specs.Overlays.{IsOverlay}
use Rattle.rose_sets.specs.Fusions.{IsFusion}
use Rattle.rose_sets.specs.declared.pair.Pair.{Pair}
use Rattle.rose_sets.specs.declared.group.Group.{Group}
use Rattle.value_table.specs.Table.{NamedValues, value_named}
use Rattle.realm_insert.specs.State.{State}
use Rattle.realm_insert.specs.Operands.{LacksName}
use Rattle.realm_insert.specs.Values.{IsGeometryNamed}
use Rattle.realm_insert.specs.declared.refusal.Refusal.TheVariants.{NoName, Types}
use Rattle.rose_query.specs.Causes.{Answer, Unless}
use Rattle.rose_query.specs.Outlines.{IsNoRegion}
use Rattle.rose_query.specs.Replies.{value_reply, parts_reply, pairs_reply, groups_reply}

-- ---- values by a list of names

-- one of the names is no value's
abbrev pub LacksSome : List (List ℕ) → NamedValues → Type 0
LacksSome names values = Any (λ name. LacksName name values) names

-- g is what the value with this name is made of at present, ascending
abbrev pub IsPresentValue : State → List ℕ → Geometry → Type 0
IsPresentValue s name g = IsGeometryNamed s name (Some g) × IsAscending g

-- the values of the list are those with these names, in their order
abbrev pub ArePresentValues : State → List (List ℕ) → List Geometry → Type 0
ArePresentValues s names list = AllZip (IsPresentValue s) names list

-- the values with these names are of different kinds
abbrev pub DifferInKind : List ℕ → List ℕ → NamedValues → Type 0
DifferInKind first second values =
    IsSomeAnd (value_named first values) (λ v. IsSomeAnd (value_named second values) (λ w. v.kind ≢ w.kind))

-- there is no name, or there are two of values of different kinds
abbrev pub HasMixedKinds : List (List ℕ) → NamedValues → Type 0
HasMixedKinds names values =
    (names ≡ [])
    ⊎ ((first : List ℕ) × (second : List ℕ) × Contains names first × Contains names second
    × DifferInKind first second values)

-- ---- sums

-- the reply lists the sum of the values with these names as they are at present
pub record ShowsSum (names : List (List ℕ)) (state : State) (reply : List ℕ) : Type 0 where
  pub values : List Geometry
  pub are_present : ArePresentValues state names values
  pub noded : AreNoded (all_segments values)
  pub made : Geometry
  pub is_sum : IsSum values made
  pub ascending : IsAscending made
  pub reply_is : reply ≡ value_reply made

-- What `sum` is answered: a name that no value has is the first cause to refuse it, the kinds are the second.
abbrev pub AnswersSum : List (List ℕ) → Answer
AnswersSum names =
    Unless (λ s. LacksSome names s.values) NoName
    (Unless (λ s. HasMixedKinds names s.values) Types (ShowsSum names))

-- ---- parts

-- the reply lists the parts of the value with this name as it is at present
pub record ShowsParts (name : List ℕ) (state : State) (reply : List ℕ) : Type 0 where
  pub value : Geometry
  pub is_present : IsPresentValue state name value
  pub parts : List Geometry
  pub are_parts : AreParts value parts
  pub ascending : All IsAscending parts
  pub reply_is : reply ≡ parts_reply parts

-- What `decompose` is answered: values of every kind have parts.
abbrev pub AnswersDecompose : List ℕ → Answer
AnswersDecompose name = Unless (λ s. LacksName name s.values) NoName (ShowsParts name)

-- ---- overlays

-- one of the names is of a value that is none of regions
abbrev pub HasNonRegion : List (List ℕ) → NamedValues → Type 0
HasNonRegion names values = Any (λ name. IsNoRegion name values) names

-- the reply lists what the values with these names, of the first list and of the second, have in common
pub record ShowsOverlay (first second : List (List ℕ)) (state : State) (reply : List ℕ) : Type 0 where
  pub a : List Geometry
  pub b : List Geometry
  pub are_first : ArePresentValues state first a
  pub are_second : ArePresentValues state second b
  pub noded : AreNoded (all_segments a ++ all_segments b)
  pub pairs : List Pair
  pub is_overlay : IsOverlay a b pairs
  pub reply_is : reply ≡ pairs_reply pairs

-- What `overlay` is answered, by the same causes.
abbrev pub AnswersOverlay : List (List ℕ) → List (List ℕ) → Answer
AnswersOverlay first second =
    Unless (λ s. LacksSome (first ++ second) s.values) NoName
    (Unless (λ s. HasNonRegion (first ++ second) s.values) Types (ShowsOverlay first second))

-- ---- fusions

-- the names of the entries, and their keys
abbrev pub names_of : List (List ℕ × ℕ) → List (List ℕ)
names_of entries = map (λ entry. entry.0) entries

abbrev pub keys_of : List (List ℕ × ℕ) → List ℕ
keys_of entries = map (λ entry. entry.1) entries

-- the reply lists the different keys, and for each the sum of its values
pub record ShowsFusion (entries : List (List ℕ × ℕ)) (state : State) (reply : List ℕ) : Type 0 where
  pub values : List Geometry
  pub are_present : ArePresentValues state (names_of entries) values
  pub noded : AreNoded (all_segments values)
  pub groups : List Group
  pub is_fusion : IsFusion values (keys_of entries) groups
  pub ascending : All (λ group. IsAscending group.g) groups
  pub reply_is : reply ≡ groups_reply groups

-- What `fusion` is answered, by the causes of `sum`.
abbrev pub AnswersFusion : List (List ℕ × ℕ) → Answer
AnswersFusion entries =
    Unless (λ s. LacksSome (names_of entries) s.values) NoName
    (Unless (λ s. HasMixedKinds (names_of entries) s.values) Types (ShowsFusion entries))
