use Rattle.std.proofs.Common.{List, ◌∷◌, [], ◌++◌, Some, sym}
use Rattle.realm_insert.specs.declared.refusal.Refusal.{Refusal}
use Rattle.realm_insert.specs.declared.refusal.Refusal.TheVariants.{Range, Shape, Degenerate, NameTaken, NoName, Types}
use Rattle.realm_insert.specs.declared.refusal.Refusal.TheVariants.{NoId, NoPoint, InUse}
use Rattle.realm_insert.proofs.FirstCauses.{first_within, first_after}
use Rattle.realm_insert.proofs.causes.unfit.Goals as goal

-- the parts of the list, as they are looked at
abbrev words : List Refusal
words = Range ∷ Shape ∷ Degenerate ∷ []

abbrev names : List Refusal
names = NameTaken ∷ NoName ∷ Types ∷ []

abbrev takings : List Refusal
takings = NoId ∷ NoPoint ∷ InUse ∷ []

-- each part is looked at where those before it have none
pub returns-in-Some : goal.returns-in-Some
returns-in-Some c =
    let s = c.args.engine.now.state in
    first_within words (names ++ takings) c.args.c.now s c.in-Some.found (c.in-Some.ensures s)

pub returns-in-Some-misnamed : goal.returns-in-Some-misnamed
returns-in-Some-misnamed c =
    let s = c.args.engine.now.state in
    let found = c.in-Some-misnamed.found in
    first_after words (names ++ takings) c.args.c.now s (Some found) (c.in_default.ensures s)
    (first_within names takings c.args.c.now s found (c.in-Some-misnamed.ensures s (sym c.table.ensures.table)))

pub taking-requires-clause-on_grid : goal.taking-requires-clause-on_grid
taking-requires-clause-on_grid c = (c.in_default.ensures c.args.engine.now.state).0

pub returns : goal.returns
returns c =
    let s = c.args.engine.now.state in
    let found = c.taking.result in
    first_after words (names ++ takings) c.args.c.now s found (c.in_default.ensures s)
    (first_after names takings c.args.c.now s found (c.in_default-misnamed.ensures s (sym c.table.ensures.table)) c.taking.ensures)
