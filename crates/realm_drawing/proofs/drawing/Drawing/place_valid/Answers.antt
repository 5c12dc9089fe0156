use Rattle.realm_drawing.proofs.KeptChanges.{with_id, kept_with_chain, put_and_taken, shares_are_new}
use Rattle.realm_drawing.proofs.KeptPieces.{KeepsKeys-itself, keys_are_kept}
use Rattle.realm_drawing.proofs.drawing.Drawing.place_valid.Goals as goal

-- where memory fails all is as it was
pub returns-in_err-chain_shares-clause-keys : goal.returns-in_err-chain_shares-clause-keys
returns-in_err-chain_shares-clause-keys c =
    let inside = c.self.inside in
    rw (← c.self.view_is) (KeepsKeys-itself inside.explicit inside.originals inside.registry)

pub returns-in_err-put-clause-keys : goal.returns-in_err-put-clause-keys
returns-in_err-put-clause-keys c =
    let inside = c.self.inside in
    rw (← c.self.view_is) (KeepsKeys-itself inside.explicit inside.originals inside.registry)

-- no share of the chain is there, since no original has its id yet
pub add_shares-requires-clause-new_shares : goal.add_shares-requires-clause-new_shares
add_shares-requires-clause-new_shares c =
    let lists = rw (c.new-shares.ensures.items, c.deref.ensures.value) at c.in_ok-chain_shares.ensures.ok in
    let below = rw (← c.self.view_is) at c.requires.id_above in
    rw c.deref-2.ensures.value (shares_are_new c.self.inside.explicit c.self.inside.originals _
    c.self.invariant c.args.id c.args.points.items _ below lists)

-- ---- no memory for the shares
-- the original that was put goes again
pub invariant_of-self-in-Err : goal.invariant_of-self-in-Err
invariant_of-self-in-Err c =
    let below = rw (← c.self.view_is) at c.requires.id_above in
    let same = put_and_taken c.self.inside.originals c.put.new.self c.take.new.self
    (with_id c.args.id c.args.s c.new.result) below c.in_ok-put.ensures.ok c.take.ensures in
    rw (same, c.in-Err.ensures.unchanged) c.self.invariant

pub returns-clause-unchanged : goal.returns-clause-unchanged
returns-clause-unchanged c =
    let below = rw (← c.self.view_is) at c.requires.id_above in
    let same = put_and_taken c.self.inside.originals c.put.new.self c.take.new.self
    (with_id c.args.id c.args.s c.new.result) below c.in_ok-put.ensures.ok c.take.ensures in
    rw (same, c.in-Err.ensures.unchanged) c.self.view_is

pub returns-clause-keys : goal.returns-clause-keys
returns-clause-keys c =
    let inside = c.self.inside in
    rw (c.in-Err.ensures.unchanged, ← c.self.view_is) (KeepsKeys-itself inside.explicit inside.originals inside.registry)

-- ---- memory for all
-- the new original comes last, and the registry has its shares
pub invariant_of-self-in-Ok : goal.invariant_of-self-in-Ok
invariant_of-self-in-Ok c =
    let lists = rw (c.new-shares.ensures.items, c.deref.ensures.value) at c.in_ok-chain_shares.ensures.ok in
    let below = rw (← c.self.view_is) at c.requires.id_above in
    let more = rw c.deref-2.ensures.value at c.in-Ok.ensures.owners in
    rw (c.in_ok-put.ensures.ok, c.new.ensures)
    (kept_with_chain c.self.inside.explicit c.self.inside.originals _ _ c.self.invariant c.args.id c.args.s
    c.args.points.items _ below c.requires.valid lists more c.in-Ok.ensures.sound)

-- the pieces that were there keep their keys
pub returns-in-Ok-clause-keys : goal.returns-in-Ok-clause-keys
returns-in-Ok-clause-keys c =
    let inside = c.self.inside in
    let more = c.put.new.self in
    rw (← c.self.view_is)
    (keys_are_kept inside.explicit inside.explicit inside.originals more _ _ c.in-Ok.ensures.keys)
