use Rattle.std.proofs.Common.{false, subst}
use Rattle.std.specs.BTreeSet.{Updates}
use Rattle.realm_audit.specs.Ranges.{share_cmp}
use Rattle.realm_audit.specs.declared.shelves.Shelf.{Shelf}
use Rattle.realm_audit.specs.declared.shares.Share.{Share}
use Rattle.realm_audit.proofs.ShareSets.{share_taken, shelved_taken}
use Rattle.realm_audit.proofs.shares.Shares.take.Goals as goal

-- what is left stands where it should
pub invariant_of-self : goal.invariant_of-self
invariant_of-self c =
    let y : Share = record { shelf = c.shelf_of.result; piece = c.args.piece.now; id = c.args.id } in
    shelved_taken c.self.inside.set c.remove.new.self y c.remove.ensures.updates c.self.invariant

pub returns : goal.returns
returns c =
    let With = λ (p : Shelf). Updates share_cmp c.self.inside.set c.remove.new.self
    (record { shelf = p; piece = c.args.piece.now; id = c.args.id }) false in
    rw (← c.self.view_is)
    (share_taken c.self.inside.set c.remove.new.self c.args.piece.now c.args.id
    (subst With c.shelf_of.ensures.shelf c.remove.ensures.updates))
