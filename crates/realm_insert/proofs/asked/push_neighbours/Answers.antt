use Rattle.std.proofs.Common.{◌++◌, ◌-◌, List, ◌∷◌, [], ◌∙◌, ap, sym, get_or, take, append_assoc, arith}
use Rattle.line_grammar.specs.declared.command.At.{At}
use Rattle.realm_insert.specs.Lines.{ends, neighbours}
use Rattle.realm_insert.specs.declared.asked.Ends.{Ends}
use Rattle.realm_insert.proofs.Neighbours.{neighbours_next}
use Rattle.realm_insert.proofs.asked.push_neighbours.Goals as goal

-- one place more has the place before it for a neighbour
pub loop-i-preserved : goal.loop-i-preserved
loop-i-preserved c =
    let path = c.args.path.now in
    let i = c.loop-i.i in
    let corner : At = record { x = 0; y = 0 } in
    let pair = ends (get_or path (i - 1) corner) (get_or path i corner) in
    c.in_ok-push.ensures.items ∙ ap (λ (l : List Ends). l ++ pair ∷ []) c.loop-i.invariant
    ∙ append_assoc c.args.list.now.items (neighbours (take i path)) (pair ∷ [])
    ∙ ap (λ (l : List Ends). c.args.list.now.items ++ l) (sym (neighbours_next path i corner (omega arith) (omega arith)))
