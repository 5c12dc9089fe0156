use Rattle.std.proofs.Common.{List, ◌∷◌, [], Some, None}
use Rattle.std.proofs.lemmas.Result.{err_from_is_err_and}
use Rattle.realm_insert.specs.Refusals.{before_limits}
use Rattle.realm_insert.specs.declared.refusal.Refusal.{Refusal}
use Rattle.realm_insert.specs.declared.refusal.Refusal.TheVariants.{Ids, Changes}
use Rattle.realm_insert.proofs.FirstCauses.{first_after, refused_within}
use Rattle.realm_insert.proofs.causes.figure_drawn.Goals as goal

abbrev limits : List Refusal
limits = Ids ∷ Changes ∷ []

-- what is refused before is refused
pub returns-in_err-figure : goal.returns-in_err-figure
returns-in_err-figure g c =
    let p = err_from_is_err_and c.from_residual.result c.from_residual.ensures.1 in
    rw (p.1, p.2)
    (refused_within before_limits limits c.args.c.now c.args.engine.now.state c.in_err-figure.field-0.0 c.in_err-figure.ensures)

-- what is left of ids and changes is asked for last
pub returns-in-Some : goal.returns-in-Some
returns-in-Some g c =
    first_after before_limits limits c.args.c.now c.args.engine.now.state (Some c.in-Some.found) c.in_ok-figure.ensures.0
    c.in-Some.ensures

pub returns-in-None : goal.returns-in-None
returns-in-None g c = (
  first_after before_limits limits c.args.c.now c.args.engine.now.state None c.in_ok-figure.ensures.0 c.in-None.ensures,
  c.in_ok-figure.ensures.1,
)
