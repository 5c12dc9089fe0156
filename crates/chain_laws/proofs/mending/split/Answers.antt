use Rattle.chain_laws.proofs.StepRedrawings.{split_redrawings}
use Rattle.chain_laws.proofs.mending.split.Goals as goal

-- the hook at a point inside a piece leads to what the step leads to
pub returns : goal.returns
returns c =
    let hooked = c.in_ok-hooked.ensures in
    split_redrawings c.args.p c.args.t c.in_ok-hooked.field-0 hooked.piece c.a.ensures.ordered c.requires hooked.hook
