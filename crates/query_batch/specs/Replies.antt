-- The bytes of the replies to lines that are refused before any state is looked at. Numbers are written in decimal digits.
use Rattle.std.specs.Prelude.{ℕ, List, [], ◌∷◌, ◌++◌, codes}
use Rattle.std.specs.Fmt.{decimal}

-- the reply to a line that is too long
abbrev pub too_long_reply : List ℕ
too_long_reply = codes "no too-long" ++ 10 ∷ []

-- the reply to a line that is no command's text: how many of its bytes some command's text begins with
abbrev pub no_line_reply : ℕ → List ℕ
no_line_reply at = codes "no line " ++ (decimal at ++ 10 ∷ [])

-- the reply to a command that is no query and stands in a batch
abbrev pub batch_change_reply : List ℕ
batch_change_reply = codes "no batch-change" ++ 10 ∷ []
