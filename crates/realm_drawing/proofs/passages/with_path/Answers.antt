use Rattle.std.proofs.Common.{◌≡◌, ◌+◌, ◌-◌, ◌++◌, List, Option, Some, length, take, drop, sym, ap, subst, ◌∙◌, arith}
use Rattle.std.proofs.lemmas.Result.{IfOk-weaker}
use Rattle.grid_base.specs.Point.{GridPoint}
use Rattle.hook_chain.specs.Redrawing.{redrawn}
use Rattle.realm_drawing.specs.Passages.{PassesAt}
use Rattle.realm_drawing.specs.Redraws.{Becomes}
use Rattle.chain_laws.proofs.RedrawnLinks.{redrawn_without}
use Rattle.realm_drawing.proofs.Passings.{redrawn_forth, redrawn_back}
use Rattle.realm_drawing.proofs.Fronts.{some_point, front-take, front-reverse}
use Rattle.realm_drawing.proofs.passages.with_path.Goals as goal

-- the chain that was made is the one that is wanted
made : (chain after way : List GridPoint) → way ≡ after → (found : Option (List GridPoint)) → found ≡ Some way
    → Becomes chain after found
made chain after way same found is = subst (Becomes chain after) (sym is) same

-- the path without its last point comes where the chain goes forth along the piece
pub returns-in-Some-Forth : goal.returns-in-Some-Forth
returns-in-Some-Forth c =
    let t = c.args.redrawing.now.piece in
    let path = c.args.redrawing.now.path in
    let chain = c.args.points.now in
    let k = c.in-Some-Forth.place in
    let passes = subst (PassesAt chain t) c.in-Some-Forth.field-0-is c.in-Some-Forth.ensures in
    let some = some_point t.a t.b path c.requires.leads in
    let part = front-take path (length path - 1) (omega arith) in
    let whole = redrawn_forth t path chain k c.requires.chain passes in
    let way = rw c.points-path.ensures at c.with_way.ensures in
    IfOk-weaker _ _ _ (made chain (redrawn t path chain) (take k chain ++ take (length path - 1) path ++ drop (k + 1) chain)
    (sym (whole ∙ ap (λ (way : List GridPoint). take k chain ++ way ++ drop (k + 1) chain) part))) way

-- and on the way back the path from its end, without its first point
pub returns-in_ok-way-in-Some-Back : goal.returns-in_ok-way-in-Some-Back
returns-in_ok-way-in-Some-Back c =
    let t = c.args.redrawing.now.piece in
    let path = c.args.redrawing.now.path in
    let chain = c.args.points.now in
    let k = c.in-Some-Back.place in
    let passes = subst (PassesAt chain t) c.in-Some-Back.field-0-is c.in-Some-Back.ensures in
    let part = front-reverse t.a t.b path c.requires.leads in
    let whole = redrawn_back t path chain k c.requires.chain passes in
    let back = c.deref.ensures.value ∙ rw c.points-path.ensures at c.in_ok-way-in-Some-Back.ensures in
    IfOk-weaker _ _ _ (made chain (redrawn t path chain) (take k chain ++ c.deref.result.now ++ drop (k + 1) chain)
    (sym (whole ∙ ap (λ (way : List GridPoint). take k chain ++ way ++ drop (k + 1) chain) (part ∙ sym back))))
    c.with_way-in-Some-Back.ensures

-- a chain that doesn't pass the piece stays
pub returns-in-None : goal.returns-in-None
returns-in-None c =
    redrawn_without c.args.redrawing.now.piece c.args.redrawing.now.path c.args.points.now c.in-None.ensures
