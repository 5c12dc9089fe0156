use Rattle.std.proofs.Common.{◌++◌, ◌-◌, List, ◌∷◌, [], ◌∙◌, ap, sym, get_or, length, append_assoc, arith}
use Rattle.line_grammar.specs.declared.command.At.{At}
use Rattle.realm_insert.specs.Lines.{ends, neighbours}
use Rattle.realm_insert.specs.declared.asked.Ends.{Ends}
use Rattle.realm_insert.proofs.Neighbours.{round_is}
use Rattle.realm_insert.proofs.asked.push_round.Goals as goal

-- the last place is followed by the first
pub returns : goal.returns
returns c =
    let cycle = c.args.cycle.now in
    let corner : At = record { x = 0; y = 0 } in
    let pair = ends (get_or cycle (length cycle - 1) corner) (get_or cycle 0 corner) in
    c.in_ok-push.ensures.items ∙ ap (λ (l : List Ends). l ++ pair ∷ []) c.in_ok-push_neighbours.ensures
    ∙ append_assoc c.args.list.now.items (neighbours cycle) (pair ∷ [])
    ∙ ap (λ (l : List Ends). c.args.list.now.items ++ l) (sym (round_is cycle corner (omega arith)))
