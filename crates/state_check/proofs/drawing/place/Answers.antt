use Rattle.std.proofs.Common.{◌≡◌, ◌++◌, ◌∷◌, [], sym, subst, true≢false, ◌∙◌}
use Rattle.std.proofs.lemmas.Result.{IfOk-weaker}
use Rattle.hook_chain.specs.Changed.{PlacesChain}
use Rattle.hook_chain.specs.StandingChains.{HasValidChain}
use Rattle.state_check.specs.Drawable.{drawing_with}
use Rattle.state_check.specs.Pairs.{IsFromTo}
use Rattle.state_check.proofs.Placed.{placed_with_its_ends, from_its_ends}
use Rattle.state_check.proofs.drawing.place.Goals as goal

-- the chain is that of the original
pub returns-then-is_from_to-clause-placed : goal.returns-then-is_from_to-clause-placed
returns-then-is_from_to-clause-placed c =
    let d = c.args.drawing.now.drawing in
    let e = c.place_chain.new.self.drawing in
    let o = c.args.o.now in
    let ends = subst (IsFromTo o.a o.b) c.points-points.ensures (c.is_from_to.ensures.0 c.if-is_from_to.true) in
    IfOk-weaker c.place_chain.result (λ _. PlacesChain d e o.id c.points-points.result.now)
    (λ _. e ≡ drawing_with d.points (d.originals ++ o ∷ []))
    (λ _ places. (placed_with_its_ends d e o ends (subst (PlacesChain d e o.id) c.points-points.ensures places)).0) c.place_chain.ensures.ok

pub returns-then-is_from_to-clause-valid : goal.returns-then-is_from_to-clause-valid
returns-then-is_from_to-clause-valid c =
    let d = c.args.drawing.now.drawing in
    let e = c.place_chain.new.self.drawing in
    let o = c.args.o.now in
    let ends = subst (IsFromTo o.a o.b) c.points-points.ensures (c.is_from_to.ensures.0 c.if-is_from_to.true) in
    IfOk-weaker c.place_chain.result (λ _. PlacesChain d e o.id c.points-points.result.now) (λ _. HasValidChain o)
    (λ _ places. (placed_with_its_ends d e o ends (subst (PlacesChain d e o.id) c.points-points.ensures places)).1) c.place_chain.ensures.ok

-- a chain that leads elsewhere may not stand for it
pub returns-else-is_from_to-clause-not_a_chain : goal.returns-else-is_from_to-clause-not_a_chain
returns-else-is_from_to-clause-not_a_chain c = λ same valid.
    let o = c.args.o.now in
    let ends = subst (IsFromTo o.a o.b) (sym c.points-points.ensures) (from_its_ends o valid) in
    true≢false (sym (c.is_from_to.ensures.1 ends) ∙ c.if-is_from_to.false)
