use Rattle.std.proofs.Common.{◌≡◌, length, arith}
use Rattle.std.proofs.lemmas.Bool.Decides.{nat_tests}
use Rattle.std.proofs.lemmas.Result.{err_from_is_err_and}
use Rattle.line_grammar.specs.NameLists.{two_lists_behind}
use Rattle.line_grammar.proofs.TwoLists.{lists_goes, lists_part, lists_fail, lists_ended, marked_shorter}
use Rattle.line_grammar.proofs.lists.lists_behind.Goals as goal

-- where a name stops, the lists stop
pub returns-in_err-begins : goal.returns-in_err-begins
returns-in_err-begins c =
    let p = err_from_is_err_and c.from_residual.result c.from_residual.ensures.1 in
    rw (p.1, p.2)
    (lists_fail c.in_err-begins.field-0.0 c.loop-rest.names.items c.loop-rest.rest.now
    (two_lists_behind c.args.before.items c.args.line.now) c.in_err-begins.ensures c.loop-rest.invariant)

-- the name begins the second list
pub returns-then-begins : goal.returns-then-begins
returns-then-begins c =
    let found = rw (c.if-begins.true) at c.in_ok-begins.ensures in
    let parts =
    lists_part c.loop-rest.names.items c.loop-rest.rest.now c.in_ok-begins.name c.in_ok-begins.after.now
    (two_lists_behind c.args.before.items c.args.line.now) found c.loop-rest.invariant in
    rw (← parts) c.second_list.ensures

-- a name takes some bytes
pub loop-rest-smaller : goal.loop-rest-smaller
loop-rest-smaller c =
    marked_shorter c.loop-rest.rest.now ((c.in_ok-begins.begins, c.in_ok-begins.name), c.in_ok-begins.after.now) c.in_ok-begins.ensures

-- the name joins those before it
pub loop-rest-preserved : goal.loop-rest-preserved
loop-rest-preserved c =
    let found = rw (c.if-begins.false) at c.in_ok-begins.ensures in
    rw (c.in_ok-push.ensures.items)
    (lists_goes c.loop-rest.names.items c.loop-rest.rest.now c.in_ok-begins.name c.in_ok-begins.after.now
    (two_lists_behind c.args.before.items c.args.line.now) found c.loop-rest.invariant)

-- the line ends before the semicolon
pub returns : goal.returns
returns c =
    let none : length c.loop-rest.rest.now ≡ 0 = grind (arith, nat_tests, c.is_empty.ensures, c.loop-rest-test.false) in
    lists_ended c.loop-rest.names.items c.loop-rest.rest.now (two_lists_behind c.args.before.items c.args.line.now) none
    c.loop-rest.invariant
