-- The change is the one between the corners that were drawn.
use Rattle.std.proofs.Common.{◌≡◌, List, IfOk, length, ap, subst, ◌∙◌}
use Rattle.grid_base.specs.declared.kinds.Step.{Step}
use Rattle.line_grammar.specs.declared.command.Change.{Change}
use Rattle.generated_map.specs.Generated.{change_between, corners_behind}
use Rattle.generated_map.specs.Runs.{Takes}
use Rattle.generated_map.proofs.running.make_next.Goals as goal

pub returns-clause-takes : goal.returns-clause-takes
returns-clause-takes g c =
    let is : c.in_ok-c.c ≡ change_between c.args.number (corners_behind c.args.last.now) =
    c.in_ok-c.ensures.change ∙ ap (change_between c.args.number) c.draw_corners-corners.ensures.corners in
    subst (λ (x : Change). IfOk c.make.result (λ steps. (t : List Step)
    × Takes c.args.engine.now.state x t c.make.new.engine.state × (steps ≡ length t))) is c.make.ensures.takes
