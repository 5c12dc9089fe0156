use Rattle.std.proofs.Common.{◌↔◌, ℕ, List, All, Contains, IsTrue, IfOk, sym, subst}
use Rattle.grid_base.specs.Point.{GridPoint}
use Rattle.grid_base.specs.declared.kinds.Kind.{Kind}
use Rattle.grid_base.specs.declared.kinds.Kind.TheVariants as kinds
use Rattle.value_geometry.specs.Parts.{HasParts, HasOriginals, HasEvenOriginals}
use Rattle.record_codec.specs.declared.snapshot.KeptParts.{KeptParts}
use Rattle.state_check.specs.Tabled.{parts_of}
use Rattle.state_check.proofs.parts.has_parts.Goals as goal

-- points
pub returns-in-Points-kind : goal.returns-in-Points-kind
returns-in-Points-kind c =
    let d = c.args.drawing.now.drawing in
    let yes = c.are_explicit.result in
    let same = subst (λ (l : List GridPoint). IsTrue yes ↔ All (Contains d.points) l) c.items.ensures c.are_explicit.ensures in
    subst (λ (kind : Kind). IsTrue yes ↔ HasParts d kind (parts_of c.args.v.now.parts)) (sym c.in-Points-kind.is)
    (subst (λ (made : KeptParts). IsTrue yes ↔ HasParts d kinds.Points (parts_of made)) (sym c.in-Points.is) same)

-- lines
pub returns-in-Lines-kind : goal.returns-in-Lines-kind
returns-in-Lines-kind c =
    let d = c.args.drawing.now.drawing in
    let r = c.are_there.result in
    let same = subst (λ (ids : List ℕ). IfOk r (λ has. IsTrue has ↔ HasOriginals d ids)) c.items-in-Lines-kind.ensures
    c.are_there.ensures in
    subst (λ (kind : Kind). IfOk r (λ has. IsTrue has ↔ HasParts d kind (parts_of c.args.v.now.parts))) (sym c.in-Lines-kind.is)
    (subst (λ (made : KeptParts). IfOk r (λ has. IsTrue has ↔ HasParts d kinds.Lines (parts_of made))) (sym c.in-Ids.is) same)

-- regions
pub returns-in-Regions : goal.returns-in-Regions
returns-in-Regions c =
    let d = c.args.drawing.now.drawing in
    let r = c.are_even.result in
    let same = subst (λ (ids : List ℕ). IfOk r (λ has. IsTrue has ↔ HasEvenOriginals d ids)) c.items-in-Regions.ensures
    c.are_even.ensures in
    subst (λ (kind : Kind). IfOk r (λ has. IsTrue has ↔ HasParts d kind (parts_of c.args.v.now.parts))) (sym c.in-Regions.is)
    (subst (λ (made : KeptParts). IfOk r (λ has. IsTrue has ↔ HasParts d kinds.Regions (parts_of made))) (sym c.in-Ids.is) same)
