use Rattle.realm_drawing.proofs.drawing.Drawing.explicit_in.Goals as goal

pub returns-clause-exact : goal.returns-clause-exact
returns-clause-exact c = rw (← c.self.view_is) c.in_box_of.ensures.exact
