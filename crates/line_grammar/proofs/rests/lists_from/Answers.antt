use Rattle.std.proofs.Common.{◌≡◌, ◌<◌, ◌∷◌, [], length, arith}
use Rattle.std.proofs.lemmas.Bool.Decides.{nat_tests}
use Rattle.std.proofs.lemmas.Result.{err_from_is_err_and}
use Rattle.line_grammar.specs.Listing.{Lists, items_at}
use Rattle.line_grammar.proofs.ListRows.{items_goes, items_shorter, items_stop, lists_done}
use Rattle.line_grammar.proofs.rests.lists_from.Goals as goal

-- where an item stops, the lists stop
pub returns-in_err-next : goal.returns-in_err-next
returns-in_err-next c =
    let p = err_from_is_err_and c.from_residual-in_err-next.result c.from_residual-in_err-next.ensures.1 in
    let some : 0 < length c.loop-rest.rest.now = grind (arith, nat_tests, c.is_empty.ensures, c.loop-rest-test.true) in
    let so_far : Lists = (c.loop-rest.before.items, c.loop-rest.last.items) in
    rw (p.1, p.2)
    (items_stop c.in_err-next.field-0.0 so_far c.loop-rest.rest.now c.args.first c.args.line.now some c.in_err-next.ensures
    c.loop-rest.invariant)

-- an item takes some bytes
pub loop-rest-smaller : goal.loop-rest-smaller
loop-rest-smaller c = items_shorter c.loop-rest.rest.now (c.in_ok-next.next, c.in_ok-next.after.now) c.in_ok-next.ensures

-- the item joins those before it
pub loop-rest-preserved : goal.loop-rest-preserved
loop-rest-preserved c =
    let some : 0 < length c.loop-rest.rest.now = grind (arith, nat_tests, c.is_empty.ensures, c.loop-rest-test.true) in
    let so_far : Lists = (c.loop-rest.before.items, c.loop-rest.last.items) in
    let next : Lists = (c.add.new.before.items, c.add.new.last.items) in
    items_goes so_far next c.loop-rest.rest.now c.in_ok-next.next c.in_ok-next.after.now
    (items_at ([], c.args.first ∷ []) c.args.line.now) some c.in_ok-next.ensures c.in_ok-add.ensures.added c.loop-rest.invariant

-- nothing is left
pub returns : goal.returns
returns c =
    let none : length c.loop-rest.rest.now ≡ 0 = grind (arith, nat_tests, c.is_empty.ensures, c.loop-rest-test.false) in
    let so_far : Lists = (c.loop-rest.before.items, c.loop-rest.last.items) in
    let whole = lists_done so_far c.loop-rest.rest.now c.args.first c.args.line.now none c.loop-rest.invariant in
    rw (c.new-2.ensures, c.in_ok-push-2.ensures.items, c.new.ensures) whole
