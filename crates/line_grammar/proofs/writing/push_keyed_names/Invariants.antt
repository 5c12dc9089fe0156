use Rattle.std.proofs.Common.{◌≡◌, ◌++◌, string_bytes, take}
use Rattle.line_grammar.specs.Pieces.{keyed_names}
use Rattle.line_grammar.proofs.writing.push_keyed_names.Given as goal

-- the names so far are written with their keys
abbrev pub invariant-loop-keyed : goal.invariant-loop-keyed
invariant-loop-keyed l = string_bytes l.text ≡ string_bytes l.fn.text ++ keyed_names (take l.keyed-index l.list)
