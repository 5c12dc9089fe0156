use Rattle.std.proofs.Common.{true, subst}
use Rattle.std.specs.BTreeSet.{Updates}
use Rattle.realm_audit.specs.Shelves.{IsShelved}
use Rattle.realm_audit.specs.Ranges.{share_cmp}
use Rattle.realm_audit.specs.declared.shelves.Shelf.{Shelf}
use Rattle.realm_audit.specs.declared.shares.Share.{Share}
use Rattle.realm_audit.proofs.ShareSets.{share_put, shelved_put}
use Rattle.realm_audit.proofs.shares.Shares.put.Goals as goal

-- the share that is put stands where it should
pub invariant_of-self-2 : goal.invariant_of-self-2
invariant_of-self-2 c =
    let at = c.shelf_of.ensures in
    let y : Share = record { shelf = c.shelf_of.result; piece = c.args.piece; id = c.args.id } in
    let shelved : IsShelved y = record {
      shelf_is = at.shelf;
      fits = at.fits;
      level_within = at.level_within;
      small_id = c.ranges.id.fits;
      ordered = at.ordered;
    } in
    shelved_put c.self.inside.set c.insert.new.self y c.in_ok-insert.ensures.updates shelved c.self.invariant

pub returns : goal.returns
returns c =
    let at = c.shelf_of.ensures in
    let With = λ (p : Shelf). Updates share_cmp c.self.inside.set c.insert.new.self
    (record { shelf = p; piece = c.args.piece; id = c.args.id }) true in
    rw (← c.self.view_is)
    (share_put c.self.inside.set c.insert.new.self c.args.piece c.args.id (subst With at.shelf c.in_ok-insert.ensures.updates))
