use Rattle.std.proofs.Common.{List, AllPairs, sym, subst}
use Rattle.grid_base.specs.Segment.{GridSegment, IsSegmentBefore}
use Rattle.grid_base.specs.Border.{IsEvenBorder}
use Rattle.r_faces.specs.Rims.{IsSomeRim, IsWithin}
use Rattle.r_faces.proofs.FaceLists.{zip_more}
use Rattle.r_faces.proofs.listing.faces_of.Goals as goal

-- the rim is a border by itself
pub face_of-requires-clause-ascending : goal.face_of-requires-clause-ascending
face_of-requires-clause-ascending c = subst (AllPairs IsSegmentBefore) (sym c.deref.ensures.value)
    (subst (λ r. IsSomeRim c.args.border.now r.items) (sym c.index-rims-k.is)
    (c.requires.rims c.loop-k.k c.index-rims-k.result c.loop-k-test.true)).ascending

pub face_of-requires-clause-even : goal.face_of-requires-clause-even
face_of-requires-clause-even c = subst IsEvenBorder (sym c.deref.ensures.value)
    (subst (λ r. IsSomeRim c.args.border.now r.items) (sym c.index-rims-k.is)
    (c.requires.rims c.loop-k.k c.index-rims-k.result c.loop-k-test.true)).even

-- one face more
pub loop-k-preserved : goal.loop-k-preserved
loop-k-preserved c = zip_more (λ rim f. IsWithin rim.items f) c.args.rims.now c.loop-k.faces.items c.push.new.self.items c.loop-k.k
    c.index-rims-k.result c.in_ok-face_of.field-0 c.loop-k-test.true c.index-rims-k.is c.in_ok-push.ensures.items c.loop-k.invariant
    (subst (λ (l : List GridSegment). IsWithin l c.in_ok-face_of.field-0) c.deref.ensures.value c.in_ok-face_of.ensures)
