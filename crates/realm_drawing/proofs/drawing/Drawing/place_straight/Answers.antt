use Rattle.realm_drawing.proofs.KeptPieces.{KeepsKeys-itself}
use Rattle.chain_laws.proofs.StandingChains.{straight_is_valid}
use Rattle.realm_drawing.proofs.drawing.Drawing.place_straight.Goals as goal

-- where memory fails all is as it was
pub returns-in_err-ends-clause-keys : goal.returns-in_err-ends-clause-keys
returns-in_err-ends-clause-keys c =
    let inside = c.self.inside in
    rw (← c.self.view_is) (KeepsKeys-itself inside.explicit inside.originals inside.registry)

-- its two ends are a valid chain for a segment
pub place_valid-requires-clause-valid : goal.place_valid-requires-clause-valid
place_valid-requires-clause-valid c =
    rw (c.in_ok-ends.ensures.items, c.a.ensures.end, c.b.ensures.end) (straight_is_valid c.args.s c.a.ensures.ordered)
