use Rattle.realm_insert.proofs.DrawnAlready.{let_settled}
use Rattle.realm_insert.proofs.laws.let_makes_no_violation.Goals as goal

-- no point or piece is new
pub returns : goal.returns
returns c = let_settled
