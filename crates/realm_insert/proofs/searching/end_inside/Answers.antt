use Rattle.grid_base.specs.Crossing.{Inside}
use Rattle.grid_base.specs.Drawing.{IsPoint}
use Rattle.hook_chain.specs.Mending.{IsPermitted}
use Rattle.realm_insert.specs.Clashes.{HasNoEndInside}
use Rattle.realm_insert.proofs.FoundSteps.{none_means, no_end_by}
use Rattle.realm_insert.proofs.searching.end_inside.Goals as goal

-- the first end isn't inside, and what is found of the second is all
pub returns : goal.returns
returns c =
    let d = c.args.drawing.now.drawing in
    let s = c.args.s.now in
    let t = c.args.t.now in
    let b = c.b.result in
    none_means c.split_at-2.result (IsPoint d b → Inside b t → ⊥) (HasNoEndInside d s t) (IsPermitted d)
    (λ no_b. no_end_by d s t c.a.result b c.a.ensures.end c.b.ensures.end c.in_default.ensures no_b) c.split_at-2.ensures
