use Rattle.std.proofs.Common.{◌≡◌, ◌++◌, string_bytes, take}
use Rattle.std.specs.List.{flat_map}
use Rattle.line_grammar.specs.Pieces.{next_list}
use Rattle.line_grammar.proofs.writing.push_next_lists.Given as goal

-- the lists so far are written
abbrev pub invariant-loop-path : goal.invariant-loop-path
invariant-loop-path l = string_bytes l.text ≡ string_bytes l.fn.text ++ flat_map next_list (take l.path-index l.paths)
