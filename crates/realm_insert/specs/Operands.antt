-- What an operator is applied to, by names, and what it makes of these values as they are at present.
use Rattle.std.specs.Prelude.{◌≡◌, ◌⊎◌, ◌++◌, ℕ, List, Option, Some, None, IfSome, IsSomeAnd}
use Rattle.grid_base.specs.Border.{AreNoded}
use Rattle.rose_values.specs.declared.geometry.Geometry.{Geometry}
use Rattle.rose_values.specs.declared.operators.Op.{Op}
use Rattle.rose_values.specs.Kinds.{kind_from_one, kind_from_two}
use Rattle.rose_values.specs.Operators.{segments_of, segments_of_second}
use Rattle.rose_operators.specs.Results.{IsResultOf, IsAscending}
use Rattle.value_table.specs.Table.{NamedValues, IsNamed, value_named}
use Rattle.realm_insert.specs.State.{State}
use Rattle.realm_insert.specs.Values.{IsGeometryNamed}

-- no value has the name
abbrev pub LacksName : List ℕ → NamedValues → Type 0
LacksName name values = IsNamed name values → ⊥

-- there is a second name, and no value has it
abbrev pub LacksSecond : Option (List ℕ) → NamedValues → Type 0
LacksSecond None values = ⊥
LacksSecond (Some name) values = LacksName name values

-- no value has the first name, or none the second
abbrev pub LacksOperand : List ℕ → Option (List ℕ) → NamedValues → Type 0
LacksOperand first second values = LacksName first values ⊎ LacksSecond second values

-- the operator doesn't take values of the kinds that those with these names have
abbrev pub HasWrongKinds : Op → List ℕ → Option (List ℕ) → NamedValues → Type 0
HasWrongKinds op first None values = IsSomeAnd (value_named first values) (λ v. kind_from_one op v.kind ≡ None)
HasWrongKinds op first (Some second) values =
    IsSomeAnd (value_named first values) (λ v. IsSomeAnd (value_named second values)
    (λ w. kind_from_two op v.kind w.kind ≡ None))

-- b is what the value with the second name is made of at present, and none where there is no second name
abbrev pub IsSecondMadeOf : State → Option (List ℕ) → Option Geometry → Type 0
IsSecondMadeOf s None None = Unit {0}
IsSecondMadeOf s None (Some b) = ⊥
IsSecondMadeOf s (Some name) None = ⊥
IsSecondMadeOf s (Some name) (Some b) = IsGeometryNamed s name (Some b)

-- a and b are what the values with these names are made of at present: each ascends, and together they are of one realm
pub record AreOperands (first : List ℕ) (second : Option (List ℕ)) (s : State) (a : Geometry) (b : Option Geometry)
    : Type 0 where
  pub is_first : IsGeometryNamed s first (Some a)
  pub is_second : IsSecondMadeOf s second b
  pub first_ascends : IsAscending a
  pub second_ascends : IfSome b IsAscending
  pub noded : AreNoded (segments_of a ++ segments_of_second b)

-- the operator makes this of the values with these names as they are at present
pub record IsMadeOfNamed (op : Op) (first : List ℕ) (second : Option (List ℕ)) (s : State) (made : Geometry)
    : Type 0 where
  pub a : Geometry
  pub b : Option Geometry
  pub are_operands : AreOperands first second s a b
  pub is_made : IsResultOf op a b made
  pub ascending : IsAscending made
