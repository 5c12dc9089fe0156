use Rattle.realm_insert.specs.Clashes.{IsWithin}
use Rattle.realm_insert.proofs.near_box.box_of_last.Given as goal

-- the box holds the last piece all the time
abbrev pub invariant-loop-i : goal.invariant-loop-i
invariant-loop-i l = IsWithin l.near l.last
