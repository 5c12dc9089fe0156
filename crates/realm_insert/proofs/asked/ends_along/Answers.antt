use Rattle.std.proofs.Common.{◌++◌, List, ◌∙◌, ap}
use Rattle.line_grammar.specs.declared.command.At.{At}
use Rattle.realm_insert.specs.Lines.{neighbours}
use Rattle.realm_insert.specs.declared.asked.Ends.{Ends}
use Rattle.realm_insert.proofs.Neighbours.{flat_map_next}
use Rattle.realm_insert.proofs.asked.ends_along.Goals as goal

-- the neighbours on one path more are listed
pub loop-path-preserved : goal.loop-path-preserved
loop-path-preserved c =
    let path = c.path-item.result in
    c.in_ok-push_neighbours.ensures ∙ ap (λ (p : List At). c.loop-path.list.items ++ neighbours p) c.places.ensures
    ∙ ap (λ (l : List Ends). l ++ neighbours path) c.loop-path.invariant
    ∙ flat_map_next neighbours c.args.paths.now c.loop-path.path-index path c.loop-path-test.true c.path-item.is
