use Rattle.std.proofs.Common.{◌≡◌, ◌++◌, All, string_bytes, take}
use Rattle.std.specs.List.{flat_map}
use Rattle.rose_operators.specs.Results.{IsAscending}
use Rattle.rose_query.specs.Replies.{group_lines}
use Rattle.rose_query.proofs.listing.push_groups.Given as goal

-- the lines so far are written, of what ascends
abbrev pub invariant-loop-group : goal.invariant-loop-group
invariant-loop-group l = record {
  written : string_bytes l.text ≡ string_bytes l.fn.text ++ flat_map group_lines (take l.group-index l.groups);
  ascending : All (λ group. IsAscending group.g) (take l.group-index l.groups);
}
