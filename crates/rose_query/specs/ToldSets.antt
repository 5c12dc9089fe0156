-- What is told of sums, parts, overlays and fusions. No public clause cites this file.
use Rattle.std.specs.Prelude.{◌≡◌, ℕ, List, All, Result, Ok, Err}
use Rattle.rose_values.specs.declared.geometry.Geometry.{Geometry}
use Rattle.rose_operators.specs.Results.{IsAscending}
use Rattle.rose_sets.specs.Parts.{AreParts}
use Rattle.rose_sets.specs.declared.error.SetError.{SetError}
use Rattle.rose_sets.specs.declared.error.SetError.TheVariants.{WrongTypes, NoMemory}
use Rattle.rose_sets.specs.declared.group.Group.{Group}
use Rattle.realm_insert.specs.declared.refusal.Refusal.TheVariants.{Types}
use Rattle.rose_query.specs.Replies.{no_reply, value_reply, parts_reply, groups_reply}

-- the reply says that the operator doesn't take the values
abbrev pub IsRefused : SetError → List ℕ → Type 0
IsRefused WrongTypes reply = reply ≡ no_reply Types
IsRefused NoMemory reply = ⊥

-- the reply shows what was made, or says that the operator doesn't take the values
abbrev pub TellsSet : {X : Type 0} → (X → List ℕ → Type 0) → Result X SetError → List ℕ → Type 0
TellsSet Shows (Ok made) reply = Shows made reply
TellsSet Shows (Err error) reply = IsRefused error reply

-- the reply lists the sum, which ascends
abbrev pub ListsSum : Geometry → List ℕ → Type 0
ListsSum made reply = IsAscending made × (reply ≡ value_reply made)

-- the reply lists the groups, whose sums ascend
abbrev pub ListsGroups : List Group → List ℕ → Type 0
ListsGroups groups reply = All (λ group. IsAscending group.g) groups × (reply ≡ groups_reply groups)

-- the reply lists the parts, each of which ascends
abbrev pub ListsAll : List Geometry → List ℕ → Type 0
ListsAll parts reply = All IsAscending parts × (reply ≡ parts_reply parts)

-- the reply lists the parts of the value, each of which ascends
pub record ListsParts (value : Geometry) (reply : List ℕ) : Type 0 where
  pub parts : List Geometry
  pub are_parts : AreParts value parts
  pub ascending : All IsAscending parts
  pub reply_is : reply ≡ parts_reply parts
