use Rattle.std.proofs.Common.{◌≡◌, ◌++◌, string_bytes, take}
use Rattle.std.specs.List.{flat_map}
use Rattle.rose_query.specs.Replies.{face_lines}
use Rattle.rose_query.proofs.printing.push_faces.Given as goal

-- the lines so far are written
abbrev pub invariant-loop-face : goal.invariant-loop-face
invariant-loop-face l = string_bytes l.text ≡ string_bytes l.fn.text ++ flat_map face_lines (take l.face-index l.faces)
