use Rattle.std.proofs.Common.{rules, tests}
use Rattle.std.specs.List.{zip}
use Rattle.std.proofs.lemmas.Iterator.{cases_from_any}
use Rattle.std.proofs.lemmas.Iterator.Adapters.{serves_from_places}
use Rattle.rose_predicates.proofs.PointsAndRegions.{IsEndOrTold, some_told_odd}
use Rattle.rose_predicates.proofs.Truths.{any_told, pairs_yielded, told_by}
use Rattle.rose_predicates.proofs.of_points.one_is_of.Goals as goal

-- the ends are ascending at each call, since no call changes them
pub any-requires-clause-callable : goal.any-requires-clause-callable
any-requires-clause-callable c =
    serves_from_places (pairs_yielded c.args.points.now c.args.odd.now (cc, cc)) (λ x q k. search (rules, tests))
    (λ x k within at. search rules)

-- any answers true where one point is an end or told to be odd, and false where each is neither
pub returns : goal.returns
returns c =
    let P = IsEndOrTold c.args.vertices.now in
    λ border told.
    told_by
    (any_told P (zip c.args.points.now c.args.odd.now) _
    (cases_from_any c.any.new.self _ _ P (λ x. P x → ⊥) c.any.ensures.ran (pairs_yielded c.args.points.now c.args.odd.now (cc, cc))
    (λ x q k. search (rules, tests)) (λ x q k. search (rules, tests))))
    (some_told_odd border c.args.vertices.now c.args.points.now c.args.odd.now told)
