use Rattle.std.proofs.Common.{◌≡◌, ◌++◌, codes, string_bytes, take}
use Rattle.std.specs.List.{flat_map}
use Rattle.rose_query.specs.Replies.{cycle_line}
use Rattle.rose_query.proofs.printing.push_holes.Given as goal

-- the lines so far are written
abbrev pub invariant-loop-hole : goal.invariant-loop-hole
invariant-loop-hole l =
    string_bytes l.text ≡ string_bytes l.fn.text ++ flat_map (cycle_line (codes "hole")) (take l.hole-index l.holes)
