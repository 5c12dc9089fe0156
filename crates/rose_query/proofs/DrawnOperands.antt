-- This file shows that no point of a value is inside a segment of a value: both are drawn, and the drawing is a realm.
use Rattle.std.proofs.Common.{ℕ, List, ◌++◌, Contains, Some, subst, inl, inr}
use Rattle.std.proofs.lemmas.List.Elements.{Contains-append_cases}
use Rattle.grid_base.specs.Point.{GridPoint}
use Rattle.grid_base.specs.Drawing.{Drawing, IsPoint, IsPiece, IsDrawnRealm}
use Rattle.grid_base.specs.declared.kinds.Kind.{Kind}
use Rattle.grid_base.specs.declared.kinds.Kind.TheVariants.{Points as OfPoints}
use Rattle.grid_base.proofs.Elements.{Contains-nil}
use Rattle.rose_values.specs.declared.geometry.Geometry.{Geometry}
use Rattle.rose_values.specs.declared.geometry.Geometry.TheVariants.{P, L, R}
use Rattle.rose_values.specs.Operators.{segments_of}
use Rattle.value_geometry.specs.Parts.{HasParts}
use Rattle.value_table.specs.Value.{points_among}
use Rattle.value_table.specs.declared.value.Parts.{Parts}
use Rattle.value_table.specs.declared.value.Parts.TheVariants.{Points, Ids}
use Rattle.realm_insert.specs.State.{State}
use Rattle.realm_insert.specs.Operands.{AreOperands}
use Rattle.realm_insert.specs.Values.{AreValuesOf, IsGeometryNamed}
use Rattle.realm_insert.proofs.KeptValues.{named_has_parts}
use Rattle.realm_insert.proofs.NamedOperands.{named_pieces}
use Rattle.rose_predicates.specs.Predicates.{points_of, AreOutside}

-- the parts of a value of points are explicit points
parts_are_drawn : (d : Drawing) (parts : Parts) → HasParts d OfPoints parts → (p : GridPoint)
    → Contains (points_among parts) p → Contains d.points p
parts_are_drawn d (Points list) has p (k, within, is) = subst (Contains d.points) is (has k p within)
parts_are_drawn d (Ids ids) has p there = absurd has

module _ (s : State) (realm : IsDrawnRealm s.drawing) (fit : AreValuesOf s.drawing s.values) where
  points_are_drawn : (name : List ℕ) (g : Geometry) → IsGeometryNamed s name (Some g) → (p : GridPoint)
      → Contains (points_of g) p → IsPoint s.drawing p
  points_are_drawn name (P list) (v, named, (kind, is)) p there =
      let has = subst (λ (k : Kind). HasParts s.drawing k v.parts) kind (named_has_parts s.drawing s.values name v fit named) in
      inl (parts_are_drawn s.drawing v.parts has p (subst (λ (points : List GridPoint). Contains points p) is there))
  points_are_drawn name (L list) is p there = absurd (Contains-nil p there)
  points_are_drawn name (R border) is p there = absurd (Contains-nil p there)

  pub operands_are_outside : {first second : List ℕ} (a b : Geometry) → AreOperands first (Some second) s a (Some b)
      → AreOutside (points_of a ++ points_of b) (segments_of a ++ segments_of b)
  operands_are_outside {first} {second} a b are p t of_points of_segments =
      let point : IsPoint s.drawing p = elim (Contains-append_cases (points_of a) (points_of b) p of_points) [
        | inl of_first ↦ points_are_drawn first a are.is_first p of_first
        | inr of_second ↦ points_are_drawn second b are.is_second p of_second
      ] in
      let piece : IsPiece s.drawing t = elim (Contains-append_cases (segments_of a) (segments_of b) t of_segments) [
        | inl of_first ↦ named_pieces s first a are.is_first t of_first
        | inr of_second ↦ named_pieces s second b are.is_second t of_second
      ] in
      realm.no_point_inside p t point piece
