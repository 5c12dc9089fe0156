use Rattle.std.proofs.Common.{◌≡◌, ap, sym, subst, ◌∙◌}
use Rattle.std.proofs.lemmas.Result.{IfOk-weaker}
use Rattle.grid_base.specs.Drawing.{Drawing}
use Rattle.grid_base.specs.declared.kinds.Step.{Step}
use Rattle.hook_chain.specs.Steps.{Permitted}
use Rattle.hook_chain.specs.Mending.{HasParts}
use Rattle.chain_laws.specs.Redraws.{redrawn_drawing, IsRedrawingsOf}
use Rattle.chain_laws.specs.declared.redrawing.Redrawings.{Redrawings}
use Rattle.chain_laws.proofs.StepRedrawings.{drawn_in_turn, drawn_alone}
use Rattle.realm_audit.specs.Redraws.{redraw_by}
use Rattle.realm_audit.proofs.board.Board.after.Goals as goal

-- what comes of the redrawings of a step is where it leads
led : (d e : Drawing) (step : Step) (list : Redrawings) → IsRedrawingsOf step list → HasParts d step
    → e ≡ redrawn_drawing list d → Permitted d step e
led d e step list are parts is = subst (Permitted d step) (sym is) (are.leads d parts)

-- one path drawn after the other is both drawn at once
pub returns-in-Some : goal.returns-in-Some
returns-in-Some c =
    let old = c.args.self in
    let list = c.in_ok-redrawings.redrawings in
    let second = c.in-Some.second in
    IfOk-weaker c.redrawn-in-Some.result (λ b. b ≡ redraw_by second c.in_ok-once.once)
    (λ b. Permitted old c.args.step.now b)
    (λ b is. led old b c.args.step.now list c.in_ok-redrawings.ensures c.requires.parts
    (is ∙ ap (redraw_by second) c.in_ok-once.ensures ∙ sym (drawn_in_turn old list second c.in-Some.is)))
    c.redrawn-in-Some.ensures

-- there is one path alone
pub returns : goal.returns
returns c =
    let old = c.args.self in
    let list = c.in_ok-redrawings.redrawings in
    led old c.in_ok-once.once c.args.step.now list c.in_ok-redrawings.ensures c.requires.parts
    (c.in_ok-once.ensures ∙ sym (drawn_alone old list c.in-None.is))
