use Rattle.std.proofs.Common.{◌≡◌, ◌++◌, string_bytes, take}
use Rattle.std.specs.List.{flat_map}
use Rattle.line_grammar.specs.Pieces.{led_point}
use Rattle.line_grammar.proofs.writing.push_points.Given as goal

-- the places so far are written
abbrev pub invariant-loop-p : goal.invariant-loop-p
invariant-loop-p l = string_bytes l.text ≡ string_bytes l.fn.text ++ flat_map led_point (take l.p-index l.places)
