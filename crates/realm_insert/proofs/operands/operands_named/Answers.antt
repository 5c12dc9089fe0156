use Rattle.std.proofs.Common.{Some, rules}
use Rattle.std.specs.Option.{option_copied}
use Rattle.realm_insert.proofs.NamedOperands.{are_operands}
use Rattle.realm_insert.proofs.operands.operands_named.Goals as goal

-- both are made of pieces of one realm
pub returns : goal.returns
returns c =
    are_operands c.args.state.now.state c.args.first.now (option_copied c.args.second) c.in-Some.first (Some c.in-Some-2.second)
    (search rules) (search rules) c.drawing.ensures.realm (search rules) (search rules)
