use Rattle.std.proofs.Common.{◌≡◌, take}
use Rattle.std.specs.List.{flat_map}
use Rattle.realm_insert.specs.Lines.{neighbours}
use Rattle.realm_insert.proofs.asked.ends_along.Given as goal

-- the neighbours on the paths so far are listed
abbrev pub invariant-loop-path : goal.invariant-loop-path
invariant-loop-path l = l.list.items ≡ flat_map neighbours (take l.path-index l.paths)
