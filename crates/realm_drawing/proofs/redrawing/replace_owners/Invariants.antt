-- The owners so far have their new chains.
use Rattle.std.proofs.Common.{Contains, take}
use Rattle.realm_drawing.specs.Redraws.{AddsReplacements}
use Rattle.realm_drawing.proofs.redrawing.replace_owners.Given as goal

abbrev pub invariant-loop-id : goal.invariant-loop-id
invariant-loop-id l = AddsReplacements l.step l.originals (Contains (take l.id-index l.owners))
    l.fn.list.items l.list.items
