use Rattle.std.proofs.Common.{◌≡◌, ◌<◌, length, sym, ◌∙◌, arith}
use Rattle.std.proofs.lemmas.Bool.Decides.{nat_tests}
use Rattle.std.proofs.lemmas.Result.{err_from_is_err_and}
use Rattle.line_grammar.specs.NameLists.{names_at}
use Rattle.line_grammar.proofs.NameRows.{names_goes, names_fail, names_ended, names_shorter}
use Rattle.line_grammar.proofs.lists.names_behind.Goals as goal

-- where one stops, the row stops
pub returns-in_err-name : goal.returns-in_err-name
returns-in_err-name c =
    let p = err_from_is_err_and c.from_residual.result c.from_residual.ensures.1 in
    let some : 0 < length c.loop-rest.rest.now = grind (arith, nat_tests, c.is_empty.ensures, c.loop-rest-test.true) in
    rw (p.1, p.2)
    (names_fail c.in_err-name.field-0.0 c.loop-rest.names.items c.loop-rest.rest.now (names_at c.args.before.items c.args.line.now)
    some c.in_err-name.ensures c.loop-rest.invariant)

-- one takes some bytes
pub loop-rest-smaller : goal.loop-rest-smaller
loop-rest-smaller c = names_shorter c.loop-rest.rest.now (c.in_ok-name.name, c.in_ok-name.after.now) c.in_ok-name.ensures

-- it joins those before it
pub loop-rest-preserved : goal.loop-rest-preserved
loop-rest-preserved c =
    let some : 0 < length c.loop-rest.rest.now = grind (arith, nat_tests, c.is_empty.ensures, c.loop-rest-test.true) in
    rw (c.in_ok-push.ensures.items)
    (names_goes c.loop-rest.names.items c.loop-rest.rest.now c.in_ok-name.name c.in_ok-name.after.now
    (names_at c.args.before.items c.args.line.now) some c.in_ok-name.ensures c.loop-rest.invariant)

-- nothing is left
pub returns : goal.returns
returns c =
    let none : length c.loop-rest.rest.now ≡ 0 = grind (arith, nat_tests, c.is_empty.ensures, c.loop-rest-test.false) in
    rw (c.new.ensures) (sym c.loop-rest.invariant ∙ names_ended c.loop-rest.names.items c.loop-rest.rest.now none)
