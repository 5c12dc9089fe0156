-- This file shows what is known of values that an operator is applied to by their names.
use Rattle.std.proofs.Common.{◌≡◌, ◌↔◌, ℕ, List, ◌++◌, Contains, All, get_or, Option, Some, None, IsSome, IsSomeAnd, IfSome}
use Rattle.std.proofs.Common.{refl, sym, ap, subst, ◌∙◌, inl, inr}
use Rattle.std.specs.Prelude.{option_map}
use Rattle.std.proofs.lemmas.List.Elements.{Contains-get_or, Contains-append_cases}
use Rattle.grid_base.specs.Point.{IsBefore}
use Rattle.grid_base.specs.Segment.{GridSegment}
use Rattle.grid_base.specs.Drawing.{Drawing, IsPiece, IsDrawnRealm}
use Rattle.grid_base.proofs.Elements.{Contains-nil}
use Rattle.rose_values.specs.declared.geometry.Geometry.{Geometry}
use Rattle.rose_values.specs.declared.geometry.Geometry.TheVariants.{P, L, R}
use Rattle.rose_values.specs.declared.operators.Op.{Op}
use Rattle.rose_values.specs.Geometry.{kind_of}
use Rattle.rose_values.specs.Kinds.{kind_from_one, kind_from_two, result_kind_of}
use Rattle.rose_values.specs.Operators.{segments_of, segments_of_second}
use Rattle.value_geometry.specs.Geometry.{IsGeometryOf}
use Rattle.value_geometry.proofs.RealmPieces.{pieces_are_noded, segments_are_pieces}
use Rattle.value_table.specs.Table.{value_named}
use Rattle.value_table.specs.declared.value.Value.{Value}
use Rattle.realm_insert.specs.State.{State}
use Rattle.rose_operators.specs.Results.{IsAscending}
use Rattle.realm_insert.specs.Values.{IsGeometryNamed}
use Rattle.realm_insert.specs.Operands.{LacksName, LacksSecond, LacksOperand, HasWrongKinds, IsSecondMadeOf, AreOperands}

-- ---- their segments
-- what a value is made of at present are pieces of the drawing
pub named_pieces : (s : State) (name : List ℕ) (g : Geometry) → IsGeometryNamed s name (Some g) → (t : GridSegment)
    → Contains (segments_of g) t → IsPiece s.drawing t
named_pieces s name g (v, named, is) = segments_are_pieces s.drawing v g is

second_pieces : (s : State) (second : Option (List ℕ)) (b : Option Geometry) → IsSecondMadeOf s second b
    → (t : GridSegment) → Contains (segments_of_second b) t → IsPiece s.drawing t
second_pieces s None None is t there = absurd (Contains-nil t there)
second_pieces s None (Some b) is t there = absurd is
second_pieces s (Some name) None is t there = absurd is
second_pieces s (Some name) (Some b) is t there = named_pieces s name b is t there

module _ (s : State) (first : List ℕ) (second : Option (List ℕ)) (a : Geometry) (b : Option Geometry)
    (is_first : IsGeometryNamed s first (Some a)) (is_second : IsSecondMadeOf s second b) where
  both_pieces : (t : GridSegment) → Contains (segments_of a ++ segments_of_second b) t → IsPiece s.drawing t
  both_pieces t there = elim (Contains-append_cases (segments_of a) (segments_of_second b) t there) [
    | inl of_first ↦ named_pieces s first a is_first t of_first
    | inr of_second ↦ second_pieces s second b is_second t of_second
  ]

  pub both_ordered : All (λ t. IsBefore t.a t.b) (segments_of a ++ segments_of_second b)
  both_ordered = λ k d within.
      let list = segments_of a ++ segments_of_second b in
      (both_pieces (get_or list k d) (Contains-get_or list k d within)).0

  -- all are pieces of one drawing, which is a realm
  pub are_operands : IsDrawnRealm s.drawing → IsAscending a → IfSome b IsAscending → AreOperands first second s a b
  are_operands realm first_ascends second_ascends = record {
    is_first = is_first;
    is_second = is_second;
    first_ascends = first_ascends;
    second_ascends = second_ascends;
    noded = pieces_are_noded s.drawing realm (segments_of a ++ segments_of_second b) both_pieces;
  }

-- ---- their names
-- a name of a value isn't lacking
is_there : (s : State) (name : List ℕ) (g : Geometry) → IsGeometryNamed s name (Some g) → LacksName name s.values → ⊥
is_there s name g (v, named, is) lacks = lacks (subst (λ (found : Option Value). IsSome found) (sym named) refl)

second_there : (s : State) (second : Option (List ℕ)) (b : Option Geometry) → IsSecondMadeOf s second b
    → LacksSecond second s.values → ⊥
second_there s None b is lacks = lacks
second_there s (Some name) None is lacks = is
second_there s (Some name) (Some b) is lacks = is_there s name b is lacks

pub none_lacks : {s : State} {first : List ℕ} {second : Option (List ℕ)} {a : Geometry} {b : Option Geometry}
    → AreOperands first second s a b → LacksOperand first second s.values → ⊥
none_lacks {s} {first} {second} {a} {b} are (inl lacks) = is_there s first a are.is_first lacks
none_lacks {s} {first} {second} {a} {b} are (inr lacks) = second_there s second b are.is_second lacks

-- ---- their kinds
-- what a value is made of has its kind
pub same_kind : (d : Drawing) (v : Value) (g : Geometry) → IsGeometryOf d v g → v.kind ≡ kind_of g
same_kind d v (P list) is = is.0
same_kind d v (L list) is = is.0
same_kind d v (R list) is = is.0

-- what is said of the kind of a value by its name is said of that of its geometry
by_kind : (s : State) (name : List ℕ) (g : Geometry) (Q : Value → Type 0) (T : Type 0) → IsGeometryNamed s name (Some g)
    → ((v : Value) → v.kind ≡ kind_of g → Q v ↔ T) → IsSomeAnd (value_named name s.values) Q ↔ T
by_kind s name g Q T (v, named, is) same =
    let here = same v (same_kind s.drawing v g is) in (
      λ some. here.0 (subst (λ (found : Option Value). IsSomeAnd found Q) named some),
      λ told. subst (λ (found : Option Value). IsSomeAnd found Q) (sym named) (here.1 told),
    )

pub wrong_kinds : (op : Op) {s : State} {first : List ℕ} (second : Option (List ℕ)) {a : Geometry} (b : Option Geometry)
    → AreOperands first second s a b
    → HasWrongKinds op first second s.values ↔ (result_kind_of op (kind_of a) (option_map kind_of b) ≡ None)
wrong_kinds op {s} {first} None {a} None are =
    by_kind s first a (λ v. kind_from_one op v.kind ≡ None) (kind_from_one op (kind_of a) ≡ None) are.is_first
    (λ v kind. (
      λ none. subst (λ k. kind_from_one op k ≡ None) kind none,
      λ none. subst (λ k. kind_from_one op k ≡ None) (sym kind) none,
    ))
wrong_kinds op None (Some b) are = absurd are.is_second
wrong_kinds op (Some name) None are = absurd are.is_second
wrong_kinds op {s} {first} (Some name) {a} (Some b) are =
    by_kind s first a (λ v. IsSomeAnd (value_named name s.values) (λ w. kind_from_two op v.kind w.kind ≡ None))
    (kind_from_two op (kind_of a) (kind_of b) ≡ None) are.is_first
    (λ v kind. by_kind s name b (λ w. kind_from_two op v.kind w.kind ≡ None)
    (kind_from_two op (kind_of a) (kind_of b) ≡ None) are.is_second
    (λ w other. (
      λ none. ap (λ k. kind_from_two op k (kind_of b)) (sym kind) ∙ ap (kind_from_two op v.kind) (sym other) ∙ none,
      λ none. ap (kind_from_two op v.kind) other ∙ ap (λ k. kind_from_two op k (kind_of b)) kind ∙ none,
    )))
