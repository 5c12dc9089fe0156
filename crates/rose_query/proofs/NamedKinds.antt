-- This file shows that what is said of the kinds of values, by their names, is said of what they are made of.
use Rattle.std.proofs.Common.{◌≡◌, ◌↔◌, ℕ, List, Option, Some, None, IsSomeAnd, false, sym, subst}
use Rattle.grid_base.specs.declared.kinds.Kind.{Kind}
use Rattle.rose_values.specs.declared.geometry.Geometry.{Geometry}
use Rattle.rose_values.specs.declared.operators.Pred.{Pred}
use Rattle.rose_values.specs.declared.operators.Num.{Num}
use Rattle.rose_values.specs.Geometry.{kind_of}
use Rattle.rose_values.specs.Kinds.{takes_kinds, measures}
use Rattle.std.specs.Prelude.{option_map}
use Rattle.value_table.specs.Table.{value_named}
use Rattle.value_table.specs.declared.value.Value.{Value}
use Rattle.realm_insert.specs.State.{State}
use Rattle.realm_insert.specs.Values.{IsGeometryNamed}
use Rattle.realm_insert.specs.Operands.{AreOperands}
use Rattle.realm_insert.proofs.NamedOperands.{same_kind}
use Rattle.rose_query.specs.Asking.{HasUntakenKinds, HasUnmeasuredKinds}

-- a value has the kind of what it is made of
pub kind_of_one : (s : State) (name : List ℕ) (g : Geometry) (Q : Kind → Type 0) → IsGeometryNamed s name (Some g)
    → IsSomeAnd (value_named name s.values) (λ (v : Value). Q v.kind) ↔ Q (kind_of g)
kind_of_one s name g Q (v, named, is) =
    let same = same_kind s.drawing v g is in (
      λ some. subst Q same (subst (λ (found : Option Value). IsSomeAnd found (λ (v : Value). Q v.kind)) named some),
      λ told. subst (λ (found : Option Value). IsSomeAnd found (λ (v : Value). Q v.kind)) (sym named)
          (subst Q (sym same) told),
    )

pub kinds_of_both : (s : State) (first second : List ℕ) (a b : Geometry) (Q : Kind → Kind → Type 0)
    → IsGeometryNamed s first (Some a) → IsGeometryNamed s second (Some b)
    → IsSomeAnd (value_named first s.values)
    (λ (v : Value). IsSomeAnd (value_named second s.values) (λ (w : Value). Q v.kind w.kind)) ↔ Q (kind_of a) (kind_of b)
kinds_of_both s first second a b Q is_first is_second =
    let one = kind_of_one s first a
    (λ k. IsSomeAnd (value_named second s.values) (λ (w : Value). Q k w.kind)) is_first in
    let other = kind_of_one s second b (Q (kind_of a)) is_second in (
      λ said. other.0 (one.0 said),
      λ told. one.1 (other.1 told),
    )

pub untaken_kinds : (pred : Pred) {s : State} {first second : List ℕ} {a b : Geometry}
    → AreOperands first (Some second) s a (Some b)
    → HasUntakenKinds pred first second s.values ↔ (takes_kinds pred (kind_of a) (kind_of b) ≡ false)
untaken_kinds pred {s} {first} {second} {a} {b} are =
    kinds_of_both s first second a b (λ k l. takes_kinds pred k l ≡ false) are.is_first are.is_second

pub unmeasured_kinds : (num : Num) {s : State} {first : List ℕ} (second : Option (List ℕ)) {a : Geometry}
    (b : Option Geometry) → AreOperands first second s a b
    → HasUnmeasuredKinds num first second s.values ↔ (measures num (kind_of a) (option_map kind_of b) ≡ false)
unmeasured_kinds num {s} {first} None {a} None are =
    kind_of_one s first a (λ k. measures num k None ≡ false) are.is_first
unmeasured_kinds num None (Some b) are = absurd are.is_second
unmeasured_kinds num (Some name) None are = absurd are.is_second
unmeasured_kinds num {s} {first} (Some name) {a} (Some b) are =
    kinds_of_both s first name a b (λ k l. measures num k (Some l) ≡ false) are.is_first are.is_second
