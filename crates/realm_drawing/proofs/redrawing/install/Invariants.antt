-- The originals with the replacements so far, and the others still to come.
use Rattle.realm_drawing.proofs.Installations.{IsInstalling}
use Rattle.realm_drawing.proofs.redrawing.install.Given as goal

abbrev pub invariant-loop-replacement : goal.invariant-loop-replacement
invariant-loop-replacement l = IsInstalling l.step l.fn.originals l.originals l.replacement-iterator.rest.items
