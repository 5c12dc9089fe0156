use Rattle.std.proofs.Common.{◌≡◌, ◌<◌, [], length, sym, ◌∙◌, arith}
use Rattle.std.proofs.lemmas.Bool.Decides.{nat_tests}
use Rattle.std.proofs.lemmas.Result.{err_from_is_err_and}
use Rattle.line_grammar.specs.Reading.{points_at}
use Rattle.line_grammar.proofs.PlaceRows.{points_goes, points_fail, points_ended, points_shorter}
use Rattle.line_grammar.proofs.rests.points.Goals as goal

-- where a place stops, the row stops
pub returns-in_err-place : goal.returns-in_err-place
returns-in_err-place c =
    let p = err_from_is_err_and c.from_residual.result c.from_residual.ensures.1 in
    let some : 0 < length c.loop-rest.rest.now = grind (arith, nat_tests, c.is_empty.ensures, c.loop-rest-test.true) in
    rw (p.1, p.2)
    (points_fail c.in_err-place.field-0.0 c.loop-rest.places.items c.loop-rest.rest.now (points_at [] c.args.line.now)
    some c.in_err-place.ensures c.loop-rest.invariant)

-- a place takes some bytes
pub loop-rest-smaller : goal.loop-rest-smaller
loop-rest-smaller c = points_shorter c.loop-rest.rest.now (c.in_ok-place.place, c.in_ok-place.after.now) c.in_ok-place.ensures

-- the place joins those before it
pub loop-rest-preserved : goal.loop-rest-preserved
loop-rest-preserved c =
    let some : 0 < length c.loop-rest.rest.now = grind (arith, nat_tests, c.is_empty.ensures, c.loop-rest-test.true) in
    rw (c.in_ok-push.ensures.items)
    (points_goes c.loop-rest.places.items c.loop-rest.rest.now c.in_ok-place.place c.in_ok-place.after.now
    (points_at [] c.args.line.now) some c.in_ok-place.ensures c.loop-rest.invariant)

-- nothing is left
pub returns : goal.returns
returns c =
    let none : length c.loop-rest.rest.now ≡ 0 = grind (arith, nat_tests, c.is_empty.ensures, c.loop-rest-test.false) in
    rw (c.new.ensures) (sym c.loop-rest.invariant ∙ points_ended c.loop-rest.places.items c.loop-rest.rest.now none)
