use Rattle.std.proofs.Common.{Contains}
use Rattle.std.proofs.lemmas.Result.{on_ok_weaker}
use Rattle.realm_drawing.specs.declared.shares.Share.{Share}
use Rattle.realm_drawing.specs.Shares.{Held}
use Rattle.realm_drawing.proofs.LinkShares.{lists_between}
use Rattle.realm_drawing.proofs.shares.gained_between.Goals as goal

-- the segment that was made is the one between the points
pub returns-in-Some : goal.returns-in-Some
returns-in-Some c =
    let A = λ (y : Share). Contains c.args.owners.now y.id × ¬ Held c.args.registry.now y in
    let made = c.in-Some in
    record {
      ok = on_ok_weaker _ (lists_between A _ _ made.link _ _ made.ensures.none made.ensures.ends) c.gained_of.ensures.ok;
    }
