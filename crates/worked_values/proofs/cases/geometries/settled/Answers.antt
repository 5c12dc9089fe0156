use Rattle.std.proofs.Common.{rules}
use Rattle.worked_values.proofs.cases.geometries.settled.Goals as goal

-- where no violation is left, the drawing is a realm
pub returns-clause-realm : goal.returns-clause-realm
returns-clause-realm g c =
    c.settled_is_realm.ensures.realm c.args.drawing.drawing (c.first_violation.ensures.none.0 (search rules))
