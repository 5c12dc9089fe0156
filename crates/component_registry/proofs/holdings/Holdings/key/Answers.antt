use Rattle.std.proofs.Common.{arith}
use Rattle.component_registry.proofs.Seen.{get-seen, sound_seen}
use Rattle.component_registry.proofs.holdings.Holdings.key.Goals as goal

-- the map has what is held of the piece
pub returns-in-Some-clause-key : goal.returns-in-Some-clause-key
returns-in-Some-clause-key c =
    let seen = get-seen c.self.inside.pieces c.args.piece.now in
    rw (← c.self.view_is) (grind (arith, seen))

pub returns-in-None-clause-key : goal.returns-in-None-clause-key
returns-in-None-clause-key c =
    let seen = get-seen c.self.inside.pieces c.args.piece.now in
    rw (← c.self.view_is) (grind (arith, seen))

pub returns-in-Some-clause-sound : goal.returns-in-Some-clause-sound
returns-in-Some-clause-sound c = rw (← c.self.view_is) (sound_seen _ _ c.self.invariant)

pub returns-in-None-clause-sound : goal.returns-in-None-clause-sound
returns-in-None-clause-sound c = rw (← c.self.view_is) (sound_seen _ _ c.self.invariant)
