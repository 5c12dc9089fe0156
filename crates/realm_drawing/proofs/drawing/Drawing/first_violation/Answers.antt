use Rattle.realm_drawing.proofs.drawing.Drawing.first_violation.Goals as goal

-- the parts of the drawing make the drawing that clauses see
pub returns-clause-none : goal.returns-clause-none
returns-clause-none c = rw (← c.self.view_is) c.first_violation.ensures.none
