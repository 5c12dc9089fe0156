use Rattle.std.proofs.Common.{refl}
use Rattle.realm_drawing.proofs.drawing.Drawing.take_point.Goals as goal

-- the originals and the registry stay
pub returns-clause-taken : goal.returns-clause-taken
returns-clause-taken c = rw (← c.self.view_is) (record { points = c.take.ensures.members; originals = refl; keys = refl })
