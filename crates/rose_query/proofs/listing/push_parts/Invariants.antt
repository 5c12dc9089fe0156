use Rattle.std.proofs.Common.{◌≡◌, ◌++◌, All, string_bytes, take}
use Rattle.std.specs.List.{flat_map}
use Rattle.rose_operators.specs.Results.{IsAscending}
use Rattle.rose_query.specs.Replies.{value_reply}
use Rattle.rose_query.proofs.listing.push_parts.Given as goal

-- the lines so far are written, of what ascends
abbrev pub invariant-loop-part : goal.invariant-loop-part
invariant-loop-part l = record {
  written : string_bytes l.text ≡ string_bytes l.fn.text ++ flat_map value_reply (take l.part-index l.parts);
  ascending : All IsAscending (take l.part-index l.parts);
}
