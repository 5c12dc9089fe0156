use Rattle.std.proofs.Common.{Some, rules}
use Rattle.realm_insert.proofs.NamedOperands.{are_operands}
use Rattle.realm_insert.proofs.operands.operands_by_two.Goals as goal

-- both are made of pieces of one realm
pub returns-in-Some-Some : goal.returns-in-Some-Some
returns-in-Some-Some g c =
    are_operands c.args.state.now.state c.args.first.now (Some c.args.second.now) c.in-Some-Some.first (Some c.in-Some-Some.second)
    (search rules) (search rules) c.drawing.ensures.realm (search rules) (search rules)
