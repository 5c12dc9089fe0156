use Rattle.r_faces.proofs.KeyPlaces.{key_at}
use Rattle.r_faces.proofs.parts.place_in.Goals as goal

-- the search finds the number
pub returns-in-Ok-2-clause-within : goal.returns-in-Ok-2-clause-within
returns-in-Ok-2-clause-within c =
    (key_at c.args.keys.now c.args.number c.binary_search.result c.in-Ok.i c.requires.ascending c.binary_search.ensures.position
    c.requires.there c.in-Ok.is).0

pub returns-in-Ok-2-clause-at : goal.returns-in-Ok-2-clause-at
returns-in-Ok-2-clause-at c =
    (key_at c.args.keys.now c.args.number c.binary_search.result c.in-Ok.i c.requires.ascending c.binary_search.ensures.position
    c.requires.there c.in-Ok.is).1
