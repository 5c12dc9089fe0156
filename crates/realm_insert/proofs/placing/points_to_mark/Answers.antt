use Rattle.std.proofs.Common.{◌↔◌, List, Contains, ap, subst, ◌∙◌}
use Rattle.std.proofs.lemmas.List.{take_all}
use Rattle.grid_base.specs.Point.{GridPoint}
use Rattle.realm_insert.specs.Differences.{points_besides}
use Rattle.realm_insert.proofs.placing.points_to_mark.Goals as goal

-- all of the path was gone through, and to put the points in order keeps which they are
pub returns-clause-same : goal.returns-clause-same
returns-clause-same c =
    let old = c.args.drawing.now.drawing.points in
    let all = take_all c.loop-p.p-index c.args.path.now c.loop-p-test.false in
    let listed = c.loop-p.invariant ∙ ap (λ (l : List GridPoint). points_besides l old) all in
    subst (λ (l : List GridPoint). (p : GridPoint) → Contains c.ascending_points.result.items p ↔ Contains l p) listed
    c.ascending_points.ensures.same
