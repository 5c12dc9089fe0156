use Rattle.realm_audit.specs.Shelves.{HasShare}
use Rattle.realm_audit.proofs.OwnerIds.{some_listed}
use Rattle.realm_audit.proofs.shares.Shares.is_piece.Goals as goal

-- it is a piece where it has an owner
pub returns : goal.returns
returns c =
    let owners = c.in_ok-owners.owners in
    some_listed (HasShare c.args.self.now c.args.piece.now) owners.items _ c.is_empty.result owners.ok.0 c.is_empty.ensures
    c.in_ok-owners.ensures
