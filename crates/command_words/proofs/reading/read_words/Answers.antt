-- No word of a command is a flag, so words with a flag are no command.
use Rattle.std.proofs.Common.{◌≡◌, List, [], ◌∷◌, map, true, subst, sym, string_bytes}
use Rattle.std.specs.List.{All}
use Rattle.std.proofs.lemmas.List.Elements.{All-cons, All-head, All-nil, All-tail}
use Rattle.command_words.specs.Parsing.{IsNoFlag}
use Rattle.command_words.proofs.Spellings.{command_has_no_flag}
use Rattle.command_words.proofs.reading.read_words.Goals as goal

-- what holds of the images holds of what they are images of
All-mapped : {X Y : Type 0} (P : X → Type 0) (f : Y → X) (ys : List Y) → All P (map f ys) → All (λ y. P (f y)) ys
All-mapped P f [] all = All-nil (λ y. P (f y))
All-mapped P f (y ∷ ys) all =
    let rest = All-mapped P f ys (All-tail P (f y) (map f ys) all) in
    All-cons (λ z. P (f z)) y ys (All-head P (f y) (map f ys) all) rest

pub returns-then-not-are_no_flags : goal.returns-then-not-are_no_flags
returns-then-not-are_no_flags c = λ word is.
    let plain = subst (All IsNoFlag) (sym is.0) (command_has_no_flag word is.1) in
    let yes : c.are_no_flags.result ≡ true = c.are_no_flags.ensures.1 (All-mapped IsNoFlag string_bytes c.args.words.now plain) in
    cc
