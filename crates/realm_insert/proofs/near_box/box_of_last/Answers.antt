use Rattle.realm_insert.proofs.near_box.box_of_last.Goals as goal

-- a wider box holds what the one before holds
pub loop-i-preserved : goal.loop-i-preserved
loop-i-preserved c =
    let last = c.args.last.now in
    (c.joined-wider.ensures last.a c.loop-i.invariant.0, c.joined-wider.ensures last.b c.loop-i.invariant.1)
