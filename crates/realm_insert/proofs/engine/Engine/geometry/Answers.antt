use Rattle.std.proofs.Common.{◌≡◌, ℕ, List, Some, sym, subst}
use Rattle.grid_base.specs.Drawing.{Drawing}
use Rattle.value_geometry.specs.Geometry.{IsGeometryOf}
use Rattle.value_geometry.specs.Parts.{HasParts}
use Rattle.value_table.specs.Table.{NamedValues, value_named}
use Rattle.value_table.specs.declared.value.Value.{Value}
use Rattle.realm_insert.specs.Values.{AreValuesOf}
use Rattle.realm_insert.proofs.KeptValues.{named_has_parts}
use Rattle.realm_insert.proofs.engine.Engine.geometry.Goals as goal

-- the drawing has the parts of what is found in the table
found_has_parts : (d e : Drawing) (table values : NamedValues) (name : List ℕ) (v : Value) → d ≡ e → table ≡ values
    → AreValuesOf e values → value_named name table ≡ Some v → HasParts d v.kind v.parts
found_has_parts d e table values name v drawn kept fit found =
    let named = subst (λ (t : NamedValues). value_named name t ≡ Some v) kept found in
    subst (λ (f : Drawing). HasParts f v.kind v.parts) (sym drawn) (named_has_parts e values name v fit named)

pub geometry_of-requires-clause-parts : goal.geometry_of-requires-clause-parts
geometry_of-requires-clause-parts c =
    found_has_parts _ _ _ _ c.args.name.now c.in-Some.value.now c.drawing-drawing.ensures.drawing c.table.ensures.table
    c.table.ensures.values_fit (sym c.in-Some.ensures)

pub no_region_sweeps-requires-clause-parts : goal.no_region_sweeps-requires-clause-parts
no_region_sweeps-requires-clause-parts c =
    found_has_parts _ _ _ _ c.args.name.now c.in-Some.value.now c.drawing-drawing.ensures.drawing c.table.ensures.table
    c.table.ensures.values_fit (sym c.in-Some.ensures)

-- and it is that of the state
pub returns-in_ok-geometry-in-Some-clause-geometry : goal.returns-in_ok-geometry-in-Some-clause-geometry
returns-in_ok-geometry-in-Some-clause-geometry c =
    let v = c.in-Some.value.now in (
      v,
      subst (λ (t : NamedValues). value_named c.args.name.now t ≡ Some v) c.table.ensures.table (sym c.in-Some.ensures),
      subst (λ (d : Drawing). IsGeometryOf d v c.in_ok-geometry-in-Some.geometry) c.drawing-drawing.ensures.drawing
          c.in_ok-geometry-in-Some.ensures,
    )
