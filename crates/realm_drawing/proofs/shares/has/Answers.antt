use Rattle.component_registry.proofs.OwnerLists.{found_there}
use Rattle.realm_drawing.proofs.shares.has.Goals as goal

-- the search tells whether the id is there
pub returns : goal.returns
returns c =
    let owners = c.args.owners.now in
    let searched = c.binary_search.ensures.position in
    rw c.is_ok.ensures.value (found_there owners c.args.id _ c.requires.ascending searched)
