use Rattle.std.proofs.Common.{◌≢◌, ℕ, ◌<◌}
use Rattle.grid_base.specs.Sides.{Right}
use Rattle.plane_cells.specs.ClassNumbers.{number_at}
use Rattle.r_faces.proofs.bounds.face_number.Given as goal

-- none so far has the outer class on the right
abbrev pub invariant-loop-class : goal.invariant-loop-class
invariant-loop-class l = (i : ℕ) → i < l.class-index → number_at l.classes i Right ≢ 0
