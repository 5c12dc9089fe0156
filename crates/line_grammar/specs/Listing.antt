-- Reading lists of places with semicolons between them, up to the end of the line.
use Rattle.std.specs.Prelude.{ℕ, List, [], ◌∷◌, Result, Ok, Bool, true, false, codes, ◌==◌}
use Rattle.std.specs.Prelude.{if◌then◌else◌}
use Rattle.line_grammar.specs.declared.command.At.{At}
use Rattle.line_grammar.specs.Pieces.{space}
use Rattle.line_grammar.specs.Reading.{◌>>=◌, literal_at, point_at, led_point_at, rows_at, push}

-- whether a semicolon and a space are at the front, and the line behind them
unfoldable pub semicolon_at : List ℕ → Result (Bool × List ℕ) ℕ
semicolon_at [] = Ok (false, [])
semicolon_at (b ∷ line) =
    if b == 59 then (literal_at (codes "; ") (b ∷ line) >>= λ rest. Ok (true, rest))
    else Ok (false, b ∷ line)

-- a place behind a space, or behind a semicolon between spaces
unfoldable pub item_at : List ℕ → Result ((Bool × At) × List ℕ) ℕ
item_at line =
    (literal_at space line >>= semicolon_at) >>= λ s. point_at s.1 >>= λ p. Ok ((s.0, p.0), p.1)

-- the lists before the last, and the last
abbrev pub Lists : Type 0
Lists = List (List At) × List At

-- the place begins a new list, or joins the last
abbrev pub added_item : Bool → List (List At) → List At → At → Lists
added_item true before last p = (push before last, p ∷ [])
added_item false before last p = (before, push last p)

-- the place joins the last list, or begins a new one behind a semicolon
abbrev pub add_item : Lists → Bool × At → Lists
add_item ls item = added_item item.0 ls.0 ls.1 item.1

-- the lists with the last behind the others
abbrev pub all_lists : Lists → List (List At)
all_lists ls = push ls.0 ls.1

-- items up to the end of the line, behind those that were read before
unfoldable pub items_at : Lists → List ℕ → Result Lists ℕ
items_at ls line = rows_at item_at add_item ls line

-- lists of places up to the end of the line, behind their first place
abbrev pub lists_from_at : At → List ℕ → Result (List (List At)) ℕ
lists_from_at first line = items_at ([], first ∷ []) line >>= λ ls. Ok (all_lists ls)

-- nothing, or lists of places up to the end of the line
unfoldable pub lists_at : List ℕ → Result (List (List At)) ℕ
lists_at [] = Ok []
lists_at (b ∷ line) = do
  p ← led_point_at (b ∷ line)
  lists_from_at p.0 p.1
