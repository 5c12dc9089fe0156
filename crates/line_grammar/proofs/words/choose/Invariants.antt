use Rattle.std.proofs.Common.{◌≡◌, map, drop}
use Rattle.line_grammar.specs.Reading.{choose_from, choose_at}
use Rattle.line_grammar.proofs.words.choose.Given as goal

-- what is left of the table answers as the whole table does
abbrev pub invariant-loop-word : goal.invariant-loop-word
invariant-loop-word g l =
    choose_from l.left (map (λ e. (e.0.now, e.1)) (drop l.word-index l.table)) l.line
    ≡ choose_at (map (λ e. (e.0.now, e.1)) l.table) l.line
