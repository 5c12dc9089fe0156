use Rattle.state_check.proofs.NameBytes.{name_is_utf8}
use Rattle.state_check.proofs.names.name_of.Goals as goal

-- a name is ASCII
pub unreachable-requires : goal.unreachable-requires
unreachable-requires c =
    c.in-Err.ensures.cases.0 (name_is_utf8 c.args.bytes.now (c.is_name.ensures.0 c.if-not-is_name.false))
