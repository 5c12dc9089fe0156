-- A refused change takes no step.
use Rattle.std.proofs.Common.{◌≡◌, [], Err, refl, ap, ◌∙◌, inr}
use Rattle.realm_insert.specs.declared.refusal.ChangeError.TheVariants.{Refused}
use Rattle.realm_insert.specs.State.{SpendableState}
use Rattle.generated_map.proofs.running.make.Goals as goal

pub returns-in-Err-Refused-clause-takes : goal.returns-in-Err-Refused-clause-takes
returns-in-Err-Refused-clause-takes g c =
    let word = c.in-Err-Refused.field-0-0 in
    let is : c.change.result ≡ Err (Refused word) = c.in-Err-Refused.is ∙ ap Err c.in-Err-Refused.field-0-is in
    let refused = c.change.ensures.refused word is in
    ([], inr (word, refused.0, refl, ap (λ (s : SpendableState). s.state) refused.1), refl)
