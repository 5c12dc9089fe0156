use Rattle.std.proofs.Common.{◌≡◌, ◌≢◌, ◌↔◌, ℕ, List, Any, Contains, refl, sym, subst}
use Rattle.grid_base.specs.Segment.{GridSegment}
use Rattle.grid_base.specs.Drawing.{Drawing}
use Rattle.grid_base.specs.declared.kinds.Kind.{Kind}
use Rattle.grid_base.specs.declared.kinds.Kind.TheVariants.{Points, Lines, Regions}
use Rattle.value_table.specs.Value.{ids_among}
use Rattle.value_table.specs.declared.value.Parts.TheVariants.{Ids}
use Rattle.value_geometry.specs.Geometry.{IsOnChainOf, IsOnOddly}
use Rattle.value_geometry.specs.Parts.{HasParts}
use Rattle.value_geometry.proofs.geometry.geometry_of.Goals as goal

-- a value of originals that is no region is lines
are_lines : (d : Drawing) (kind : Kind) (ids : List ℕ) → HasParts d kind (Ids ids) → kind ≢ Regions → kind ≡ Lines
are_lines d Points ids parts other = absurd parts
are_lines d Lines ids parts other = refl
are_lines d Regions ids parts other = absurd (other refl)

-- the ids are the parts of the value
pub returns-in_ok-region_of-in-Regions : goal.returns-in_ok-region_of-in-Regions
returns-in_ok-region_of-in-Regions c =
    let d = c.args.drawing.now.drawing in
    let border = c.in_ok-region_of-in-Regions.field-0 in (
      c.in-Regions.is,
      subst (λ parts. (s : GridSegment) → Contains border s ↔ IsOnOddly d (ids_among parts) s) (sym c.in-Ids.is)
          c.in_ok-region_of-in-Regions.ensures,
    )

pub returns-in_ok-lines_of-in_default : goal.returns-in_ok-lines_of-in_default
returns-in_ok-lines_of-in_default c =
    let d = c.args.drawing.now.drawing in
    let list = c.in_ok-lines_of-in_default.field-0 in (
      are_lines d c.args.value.now.kind c.in-Ids.ids (rw c.in-Ids.is at c.requires.parts) c.in_default.not-Regions,
      subst (λ parts. (s : GridSegment) → Contains list s ↔ Any (IsOnChainOf d s) (ids_among parts)) (sym c.in-Ids.is)
          c.in_ok-lines_of-in_default.ensures,
    )
