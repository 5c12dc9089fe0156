use Rattle.std.proofs.Common.{◌≡◌, ◌++◌, map, take}
use Rattle.realm_audit.specs.declared.item.Item.TheVariants as items
use Rattle.store_certificate.proofs.telling.push_points.Given as goal

-- the points so far are told
abbrev pub invariant-loop-p : goal.invariant-loop-p
invariant-loop-p l = l.lines ≡ l.fn.lines ++ map items.Point (take l.p-index l.points)
