use Rattle.realm_store.proofs.Groups.{are_changes}
use Rattle.realm_store.proofs.grouping.prepare_group.Goals as goal

-- each line is the text of a change
pub new-requires-clause-changes : goal.new-requires-clause-changes
new-requires-clause-changes c =
    let (state, leads) = c.requires.leads in
    are_changes c.args.begun.now.state state c.args.entries leads
