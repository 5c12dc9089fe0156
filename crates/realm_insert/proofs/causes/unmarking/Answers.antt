use Rattle.std.proofs.Common.{rules, arith, inl, inr, refl}
use Rattle.std.proofs.lemmas.Grind.{common_steps}
use Rattle.realm_insert.proofs.causes.unmarking.Goals as goal

-- the point is explicit
pub returns-then-users_of_point-gt0 : goal.returns-then-users_of_point-gt0
returns-then-users_of_point-gt0 c = inr (
  λ none. none,
  inr (
    first_of (search rules, grind (arith, common_steps)),
    inl (first_of (search rules, grind (arith, common_steps)), refl),
  ),
)
