use Rattle.std.proofs.Common.{◌≡◌, ◌++◌, string_bytes, take}
use Rattle.std.specs.List.{flat_map}
use Rattle.rose_query.specs.Replies.{vertex_text}
use Rattle.rose_query.proofs.printing.push_vertices.Given as goal

-- the lines so far are written
abbrev pub invariant-loop-p : goal.invariant-loop-p
invariant-loop-p l = string_bytes l.text ≡ string_bytes l.fn.text ++ flat_map vertex_text (take l.p-index l.points)
