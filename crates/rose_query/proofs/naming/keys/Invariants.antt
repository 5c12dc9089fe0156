use Rattle.std.proofs.Common.{◌≡◌, take}
use Rattle.rose_query.specs.Sets.{keys_of}
use Rattle.rose_query.proofs.naming.keys.Given as goal

-- the keys so far
abbrev pub invariant-loop-key : goal.invariant-loop-key
invariant-loop-key l = l.keys.items ≡ take l.key-index (keys_of l.entries)
