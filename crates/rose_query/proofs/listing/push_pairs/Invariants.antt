use Rattle.std.proofs.Common.{◌≡◌, ◌++◌, string_bytes, take}
use Rattle.std.specs.List.{flat_map}
use Rattle.rose_query.specs.Replies.{pair_lines}
use Rattle.rose_query.proofs.listing.push_pairs.Given as goal

-- the lines so far are written
abbrev pub invariant-loop-pair : goal.invariant-loop-pair
invariant-loop-pair l = string_bytes l.text ≡ string_bytes l.fn.text ++ flat_map pair_lines (take l.pair-index l.pairs)
