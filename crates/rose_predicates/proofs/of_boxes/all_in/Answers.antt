use Rattle.std.proofs.Common.{rules, tests}
use Rattle.std.proofs.lemmas.Iterator.{YieldsList-from_slice, cases_from_all}
use Rattle.border_boxes.specs.Boxes.{HasPoint}
use Rattle.rose_predicates.proofs.Truths.{all_told}
use Rattle.rose_predicates.proofs.of_boxes.all_in.Goals as goal

-- all answers true where the box has each point, and false where it lacks one
pub returns : goal.returns
returns c =
    let P = HasPoint c.args.around.now in
    all_told P c.args.points.now _
    (cases_from_all _ _ _ P (λ x. P x → ⊥) c.all.ensures.ran (YieldsList-from_slice c.args.points.now cc) (λ x q k. search (rules, tests))
    (λ x q k. search (rules, tests)))
