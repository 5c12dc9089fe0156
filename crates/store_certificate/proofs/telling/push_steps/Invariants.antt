use Rattle.std.proofs.Common.{◌≡◌, ◌++◌, map, take}
use Rattle.realm_audit.specs.declared.item.Item.TheVariants as items
use Rattle.store_certificate.proofs.telling.push_steps.Given as goal

-- the steps so far are told
abbrev pub invariant-loop-step : goal.invariant-loop-step
invariant-loop-step l = l.lines ≡ l.fn.lines ++ map items.Step (take l.step-index l.trace)
