use Rattle.chain_laws.proofs.Mendings.{corner_crosses, names_corner}
use Rattle.chain_laws.proofs.mending.cross_at_corner.Goals as goal

-- two diagonals that cross at the centre of a cell have an answer that names a corner
pub returns-in_default : goal.returns-in_default
returns-in_default c = (
  λ no. cc,
  λ mending.
      let named = c.meet_point.ensures.corner.1 (corner_crosses c.args.t.now c.args.u.now mending) in
      absurd (names_corner c.meet_point.result named c.in_default.not-Corner),
)
