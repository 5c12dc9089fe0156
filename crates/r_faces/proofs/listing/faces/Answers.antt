use Rattle.std.proofs.Common.{List, sym, subst}
use Rattle.grid_base.specs.Segment.{GridSegment}
use Rattle.grid_base.specs.Border.{IsEvenBorder}
use Rattle.r_faces.specs.FaceCycles.{AreFaces}
use Rattle.r_faces.proofs.CycleRounds.{if_three}
use Rattle.r_faces.proofs.FaceLists.{are_faces}
use Rattle.r_faces.proofs.listing.faces.Goals as goal

-- the list is the region's border
pub rims_of-requires-clause-even : goal.rims_of-requires-clause-even
rims_of-requires-clause-even c = subst IsEvenBorder (sym c.segments-border.ensures.segments) c.segments-border.ensures.even

pub faces_of-requires : goal.faces_of-requires
faces_of-requires c = record { rims = rw c.deref.ensures.value c.in_ok-rims.ensures.only }

-- there is one face for each rim
pub returns : goal.returns
returns c =
    let border = c.segments-border.result.now in
    let zip = rw c.deref.ensures.value at c.in_ok-faces.ensures in
    if_three _ _ _ _ _ (λ v. AreFaces c.args.r.now v.items) c.faces_in_order.result
    (λ v same order again. subst (λ (B : List GridSegment). AreFaces B v.items) c.segments-border.ensures.segments
    (are_faces (λ r. r.items) border c.in_ok-rims.rims.items c.in_ok-faces.faces.items v.items c.each_is_on_grid.ensures
    c.in_ok-rims.ensures.only c.in_ok-rims.ensures.each c.in_ok-rims.ensures.apart zip same order))
    c.faces_in_order.ensures.same c.faces_in_order.ensures.ascending c.faces_in_order.ensures.ascending
