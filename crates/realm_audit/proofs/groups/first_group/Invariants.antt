use Rattle.std.proofs.Common.{◌≤◌, ◌-◌, All, length, take}
use Rattle.realm_audit.specs.Groups.{Surrounds}
use Rattle.realm_audit.proofs.groups.first_group.Given as goal

-- the box is around the pieces of the group, which are the first of the list
abbrev pub invariant-loop-group : goal.invariant-loop-group
invariant-loop-group l = record {
  within : l.group.count ≤ length l.pieces;
  around : All (Surrounds l.group.bounds) (take l.group.count l.pieces);
}

abbrev pub decreases-loop-group : goal.decreases-loop-group
decreases-loop-group l = length l.pieces - l.group.count
