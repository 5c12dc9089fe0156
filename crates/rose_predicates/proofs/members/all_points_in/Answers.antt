use Rattle.std.proofs.Common.{Contains, rules, tests}
use Rattle.std.proofs.lemmas.Iterator.{YieldsList-from_slice, cases_from_all}
use Rattle.rose_predicates.proofs.Truths.{all_told}
use Rattle.rose_predicates.proofs.members.all_points_in.Goals as goal

-- all answers true where the other list has each element, and false where it lacks one
pub returns : goal.returns
returns c =
    let P = Contains c.args.b.now in
    all_told P c.args.a.now _
    (cases_from_all _ _ _ P (λ x. P x → ⊥) c.all.ensures.ran (YieldsList-from_slice c.args.a.now cc) (λ x q k. search (rules, tests))
    (λ x q k. search (rules, tests)))
