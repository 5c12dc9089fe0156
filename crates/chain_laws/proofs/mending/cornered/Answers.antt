use Rattle.chain_laws.proofs.Mendings.{corner_crosses, names_corner}
use Rattle.chain_laws.proofs.StepRedrawings.{cell_within, corner_redrawings}
use Rattle.chain_laws.proofs.mending.cornered.Goals as goal

-- two diagonals that cross at the centre of a cell have an answer that names a corner
pub unreachable-requires : goal.unreachable-requires
unreachable-requires c =
    let named = c.meet_point.ensures.corner.1 (corner_crosses c.args.t c.args.u c.requires) in
    names_corner c.meet_point.result named c.in_default.not-Corner

pub round_path-requires : goal.round_path-requires
round_path-requires c = record {
  within = cell_within c.args.t c.args.u c.in-Corner.cell c.a.ensures.ordered c.a-2.ensures.ordered c.requires
      c.in-Corner.ensures.meeting.cell;
}

-- the cell is that of the crossing
pub returns : goal.returns
returns c =
    rw (c.in_ok-cut_path.ensures, c.in_ok-round_path.ensures)
    (corner_redrawings c.args.t c.args.u c.in-Corner.cell c.a.ensures.ordered c.a-2.ensures.ordered c.requires
    c.in-Corner.ensures.meeting.cell)
