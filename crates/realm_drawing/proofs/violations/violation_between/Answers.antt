use Rattle.realm_drawing.specs.Found.{drawing_of, IsViolated, MendsPiece}
use Rattle.realm_drawing.proofs.LinkSearches.{found_between}
use Rattle.realm_drawing.proofs.violations.violation_between.Goals as goal

-- the segment that was made is the one between the points
pub returns : goal.returns
returns c =
    let d = drawing_of c.args.explicit.now c.args.originals.now in
    found_between (IsViolated d) (λ step t. MendsPiece d t step) c.args.v.now c.args.w.now c.in_ok-t.t
    c.violation_of.result c.in_ok-t.ensures.none c.in_ok-t.ensures.ends c.violation_of.ensures
