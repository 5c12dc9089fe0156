use Rattle.std.proofs.Common.{◌≡◌, ◌++◌, take}
use Rattle.value_geometry.specs.Links.{links}
use Rattle.value_geometry.proofs.links.add_links.Given as goal

-- the links of the first points are added
abbrev pub invariant-loop-i : goal.invariant-loop-i
invariant-loop-i l = l.list.items ≡ l.fn.list.items ++ links (take l.i l.chain)
