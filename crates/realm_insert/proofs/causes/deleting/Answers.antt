use Rattle.std.proofs.Common.{rules, arith, inl, inr, refl}
use Rattle.std.proofs.lemmas.Grind.{common_steps}
use Rattle.realm_insert.proofs.causes.deleting.Goals as goal

-- there is such an original
pub returns-then-users_of-gt0 : goal.returns-then-users_of-gt0
returns-then-users_of-gt0 c = inr (
  first_of (search rules, grind (arith, common_steps)),
  inr (λ none. none, inl (first_of (search rules, grind (arith, common_steps)), refl)),
)
