use Rattle.std.proofs.Common.{rules, tests}
use Rattle.std.specs.List.{zip}
use Rattle.std.proofs.lemmas.Iterator.{cases_from_all}
use Rattle.std.proofs.lemmas.Iterator.Adapters.{serves_from_places}
use Rattle.rose_predicates.proofs.PointsAndRegions.{IsEndOrTold, each_told}
use Rattle.rose_predicates.proofs.Truths.{all_told, pairs_yielded, told_by}
use Rattle.rose_predicates.proofs.of_points.each_is_of.Goals as goal

-- the ends are ascending at each call, since no call changes them
pub all-requires-clause-callable : goal.all-requires-clause-callable
all-requires-clause-callable c =
    serves_from_places (pairs_yielded c.args.points.now c.args.odd.now (cc, cc)) (λ x q k. search (rules, tests))
    (λ x k within at. search rules)

-- all answers true where each point is an end or told to be odd, and false where one is neither
pub returns : goal.returns
returns c =
    let P = IsEndOrTold c.args.vertices.now in
    λ border told.
    told_by
    (all_told P (zip c.args.points.now c.args.odd.now) _
    (cases_from_all c.all.new.self _ _ P (λ x. P x → ⊥) c.all.ensures.ran (pairs_yielded c.args.points.now c.args.odd.now (cc, cc))
    (λ x q k. search (rules, tests)) (λ x q k. search (rules, tests))))
    (each_told border c.args.vertices.now c.args.points.now c.args.odd.now told)
