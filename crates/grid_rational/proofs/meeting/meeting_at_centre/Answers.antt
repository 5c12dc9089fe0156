-- Two diagonals that cross at the centre of a cell are those of the cell.
use Rattle.std.proofs.Common.{sym, subst, IsTrue}
use Rattle.grid_base.specs.Places.{RationalPoint}
use Rattle.grid_base.specs.MeetPoint.{IsCell, is_centre}
use Rattle.grid_rational.proofs.Meetings.{corner_by}
use Rattle.grid_rational.proofs.meeting.meeting_at_centre.Goals as goal

-- the tests say that both are diagonal, and the first falls where it doesn't rise
pub returns-in-true-true : goal.returns-in-true-true
returns-in-true-true c =
    let centre = subst (λ (q : RationalPoint). IsTrue (is_centre q)) c.requires.place c.requires.centre in
    let cell = subst (λ (q : RationalPoint). IsCell q c.cell_of.result) c.requires.place c.cell_of.ensures in
    let first = c.in-true-true.ensures in
    let second = c.in-true-true.ensures' in
    corner_by _ _ _ _ c.requires.cross first.ordered second.ordered centre (sym first.diagonal) (sym second.diagonal) cell
    c.rises.ensures
