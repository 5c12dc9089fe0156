use Rattle.std.proofs.Common.{◌++◌, List, ◌∙◌, ap}
use Rattle.line_grammar.specs.declared.command.At.{At}
use Rattle.realm_insert.specs.Lines.{neighbours_round}
use Rattle.realm_insert.specs.declared.asked.Ends.{Ends}
use Rattle.realm_insert.proofs.Neighbours.{flat_map_next}
use Rattle.realm_insert.proofs.asked.ends_round.Goals as goal

-- the neighbours round one cycle more are listed
pub loop-cycle-preserved : goal.loop-cycle-preserved
loop-cycle-preserved c =
    let cycle = c.cycle-item.result in
    c.in_ok-push_round.ensures ∙ ap (λ (p : List At). c.loop-cycle.list.items ++ neighbours_round p) c.places.ensures
    ∙ ap (λ (l : List Ends). l ++ neighbours_round cycle) c.loop-cycle.invariant
    ∙ flat_map_next neighbours_round c.args.cycles.now c.loop-cycle.cycle-index cycle c.loop-cycle-test.true c.cycle-item.is
