use Rattle.std.proofs.Common.{true≢false, sym, ◌∙◌}
use Rattle.grid_base.specs.Segment.{BoxesMeet}
use Rattle.hook_chain.specs.Mending.{IsPermitted}
use Rattle.realm_insert.specs.Clashes.{NoClash}
use Rattle.realm_insert.proofs.FoundSteps.{none_means}
use Rattle.realm_insert.proofs.searching.clash_met.Goals as goal

-- where their boxes meet, what is found of the two is all
pub returns-then-box_meets : goal.returns-then-box_meets
returns-then-box_meets c =
    let d = c.args.drawing.now.drawing in
    let s = c.args.s.now in
    let t = c.args.t.now in
    none_means c.clash.result (NoClash d s t) (BoxesMeet s t → NoClash d s t) (IsPermitted d) (λ clear meet. clear) c.clash.ensures

-- else there is nothing to say
pub returns-else-box_meets : goal.returns-else-box_meets
returns-else-box_meets c meet = absurd (true≢false (sym (c.box_meets.ensures.1 meet) ∙ c.if-box_meets.false))
