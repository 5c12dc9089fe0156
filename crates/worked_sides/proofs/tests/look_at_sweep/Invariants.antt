use Rattle.worked_sides.proofs.tests.look_at_sweep.Given as goal

-- the counter is over the ledger of this blank
abbrev pub ghosts-swept : goal.ghosts-swept
ghosts-swept g a = record { name = a.blank.name; parts = a.blank.parts }
