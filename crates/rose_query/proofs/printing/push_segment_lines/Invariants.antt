use Rattle.std.proofs.Common.{◌≡◌, ◌++◌, string_bytes, take}
use Rattle.std.specs.List.{flat_map}
use Rattle.rose_query.specs.Replies.{segment_line}
use Rattle.rose_query.proofs.printing.push_segment_lines.Given as goal

-- the lines so far are written
abbrev pub invariant-loop-s : goal.invariant-loop-s
invariant-loop-s l = string_bytes l.text ≡ string_bytes l.fn.text ++ flat_map segment_line (take l.s-index l.segments)
