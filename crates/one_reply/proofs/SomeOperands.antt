-- This file shows that in a valid state names are those of values that operators, predicates and numbers can take, or lacking.
use Rattle.std.proofs.Common.{◌⊎◌, List, ℕ, ◌++◌, All, Contains, Option, Some, None, IfSome, inl, inr}
use Rattle.std.proofs.lemmas.List.Elements.{Contains-append_cases, Contains-append_left}
use Rattle.grid_base.specs.Border.{AreNoded}
use Rattle.grid_base.specs.Drawing.{IsPiece, IsDrawnRealm}
use Rattle.grid_base.specs.Point.{IsBefore}
use Rattle.grid_base.specs.Segment.{GridSegment}
use Rattle.grid_base.proofs.Elements.{Contains-nil}
use Rattle.rose_values.specs.declared.geometry.Geometry.{Geometry}
use Rattle.rose_values.specs.Operators.{segments_of, segments_of_second}
use Rattle.rose_operators.specs.Results.{IsAscending}
use Rattle.rose_predicates.proofs.Truths.{each}
use Rattle.segment_lists.specs.OnGrid.{IsOnGrid}
use Rattle.realm_insert.specs.State.{State}
use Rattle.realm_insert.specs.Operands.{LacksOperand, AreOperands, IsSecondMadeOf}
use Rattle.realm_insert.specs.Snapshots.{IsValidState}
use Rattle.realm_insert.proofs.NamedOperands.{both_ordered, are_operands, named_pieces}
use Rattle.one_reply.specs.Answerable.{IsDrawnOnGrid}
use Rattle.one_reply.proofs.SomeGeometry.{IsEvenValue, some_value}

-- the values are of one realm, ascend, and are even if they are regions
pub record AreFit (a : Geometry) (b : Option Geometry) : Type 0 where
  pub noded : AreNoded (segments_of a ++ segments_of_second b)
  pub ordered : All (λ s. IsBefore s.a s.b) (segments_of a ++ segments_of_second b)
  pub first_ascends : IsAscending a
  pub second_ascends : IfSome b IsAscending
  pub first_even : IsEvenValue a
  pub second_even : IfSome b IsEvenValue

-- what two names, or one, are applied to
pub record Operands (s : State) (first : List ℕ) (second : Option (List ℕ)) : Type 0 where
  pub a : Geometry
  pub b : Option Geometry
  pub are : AreOperands first second s a b
  pub fit : AreFit a b

-- operands ascend and are of one realm by what they are
fitting : (s : State) (first : List ℕ) (second : Option (List ℕ)) (a : Geometry) (b : Option Geometry)
    → AreOperands first second s a b → IsEvenValue a → IfSome b IsEvenValue → Operands s first second
fitting s first second a b are first_even second_even = record {
  a = a;
  b = b;
  are = are;
  fit = record {
    noded = are.noded;
    ordered = both_ordered s first second a b are.is_first are.is_second;
    first_ascends = are.first_ascends;
    second_ascends = are.second_ascends;
    first_even = first_even;
    second_even = second_even;
  };
}

-- each name is a value's, which has a geometry, or is lacking
pub some_operands : (s : State) (first : List ℕ) (second : Option (List ℕ)) → IsValidState s
    → LacksOperand first second s.values ⊎ Operands s first second
some_operands s first None valid = elim (some_value s first valid) [
  | inl lacks ↦ inl (inl lacks)
  | inr (a, is) ↦ inr (fitting s first None a None
      (are_operands s first None a None is.is_geometry tt valid.realm is.ascending tt) is.even tt)
]
some_operands s first (Some name) valid = elim (some_value s first valid) [
  | inl lacks ↦ inl (inl lacks)
  | inr (a, is) ↦ elim (some_value s name valid) [
    | inl lacks ↦ inl (inr lacks)
    | inr (b, also) ↦ inr (fitting s first (Some name) a (Some b)
        (are_operands s first (Some name) a (Some b) is.is_geometry also.is_geometry valid.realm is.ascending also.ascending)
        is.even also.even)
  ]
]

-- ---- on the grid
-- each segment of the values is on the grid
abbrev pub AreAllOnGrid : Geometry → Option Geometry → Type 0
AreAllOnGrid a b = (s : GridSegment) → Contains (segments_of a ++ segments_of_second b) s → IsOnGrid s

pub first_on_grid : (a : Geometry) (b : Option Geometry) → AreAllOnGrid a b → All IsOnGrid (segments_of a)
first_on_grid a b grid =
    each IsOnGrid (segments_of a) (λ s there. grid s (Contains-append_left (segments_of a) (segments_of_second b) s there))

-- the ends of a piece are points that are drawn
pub piece_on_grid : (s : State) → IsDrawnRealm s.drawing → IsDrawnOnGrid s → (t : GridSegment) → IsPiece s.drawing t → IsOnGrid t
piece_on_grid s realm on_grid t piece =
    let ends = realm.ends_are_points t piece in
    let lesser = on_grid t.a ends.0 in
    let greater = on_grid t.b ends.1 in
    record { order = piece.0; row = lesser.row; end_column = greater.column; end_row = greater.row }

-- so values of a state that is drawn on the grid are
pub operands_on_grid : (s : State) (first : List ℕ) (second : Option (List ℕ)) → IsValidState s → IsDrawnOnGrid s
    → (of : Operands s first second) → AreAllOnGrid of.a of.b
operands_on_grid s first second valid on_grid of t there = piece_on_grid s valid.realm on_grid t
    (elim (Contains-append_cases (segments_of of.a) (segments_of_second of.b) t there) [
      | inl of_first ↦ named_pieces s first of.a of.are.is_first t of_first
      | inr of_second ↦ second_piece second of.b of.are.is_second of_second
    ])
  where
    second_piece : (second : Option (List ℕ)) (b : Option Geometry) → IsSecondMadeOf s second b → Contains (segments_of_second b) t
        → IsPiece s.drawing t
    second_piece None None is there = absurd (Contains-nil t there)
    second_piece None (Some b) is there = absurd is
    second_piece (Some name) None is there = absurd is
    second_piece (Some name) (Some b) is there = named_pieces s name b is t there
