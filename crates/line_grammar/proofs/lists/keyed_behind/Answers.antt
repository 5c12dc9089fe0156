use Rattle.std.proofs.Common.{◌≡◌, ◌<◌, length, sym, ◌∙◌, arith}
use Rattle.std.proofs.lemmas.Bool.Decides.{nat_tests}
use Rattle.std.proofs.lemmas.Result.{err_from_is_err_and}
use Rattle.line_grammar.specs.NameLists.{keyed_at}
use Rattle.line_grammar.proofs.NameRows.{keyed_goes, keyed_fail, keyed_ended, keyed_shorter}
use Rattle.line_grammar.proofs.lists.keyed_behind.Goals as goal

-- where one stops, the row stops
pub returns-in_err-keyed : goal.returns-in_err-keyed
returns-in_err-keyed c =
    let p = err_from_is_err_and c.from_residual.result c.from_residual.ensures.1 in
    let some : 0 < length c.loop-rest.rest.now = grind (arith, nat_tests, c.is_empty.ensures, c.loop-rest-test.true) in
    rw (p.1, p.2)
    (keyed_fail c.in_err-keyed.field-0.0 c.loop-rest.names.items c.loop-rest.rest.now (keyed_at c.args.before.items c.args.line.now)
    some c.in_err-keyed.ensures c.loop-rest.invariant)

-- one takes some bytes
pub loop-rest-smaller : goal.loop-rest-smaller
loop-rest-smaller c = keyed_shorter c.loop-rest.rest.now (c.in_ok-keyed.keyed, c.in_ok-keyed.after.now) c.in_ok-keyed.ensures

-- it joins those before it
pub loop-rest-preserved : goal.loop-rest-preserved
loop-rest-preserved c =
    let some : 0 < length c.loop-rest.rest.now = grind (arith, nat_tests, c.is_empty.ensures, c.loop-rest-test.true) in
    rw (c.in_ok-push.ensures.items)
    (keyed_goes c.loop-rest.names.items c.loop-rest.rest.now c.in_ok-keyed.keyed c.in_ok-keyed.after.now
    (keyed_at c.args.before.items c.args.line.now) some c.in_ok-keyed.ensures c.loop-rest.invariant)

-- nothing is left
pub returns : goal.returns
returns c =
    let none : length c.loop-rest.rest.now ≡ 0 = grind (arith, nat_tests, c.is_empty.ensures, c.loop-rest-test.false) in
    rw (c.new.ensures) (sym c.loop-rest.invariant ∙ keyed_ended c.loop-rest.names.items c.loop-rest.rest.now none)
