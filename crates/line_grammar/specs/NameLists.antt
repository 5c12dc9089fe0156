-- Reading one or more names, alone, with keys, or in two lists with a semicolon between them, up to the end of the line.
use Rattle.std.specs.Prelude.{ℕ, zero, suc, List, [], ◌∷◌, length, Result, Ok, Err, Bool, if◌then◌else◌}
use Rattle.line_grammar.specs.Pieces.{space}
use Rattle.line_grammar.specs.Reading.{◌>>=◌, literal_at, number_at, name_at, led_name_at, rows_at, push}
use Rattle.line_grammar.specs.Listing.{semicolon_at}

-- ---- names

-- names up to the end of the line, behind those that were read before
unfoldable pub names_at : List (List ℕ) → List ℕ → Result (List (List ℕ)) ℕ
names_at ns line = rows_at led_name_at push ns line

-- one or more names up to the end of the line
unfoldable pub some_names_at : List ℕ → Result (List (List ℕ)) ℕ
some_names_at line = led_name_at line >>= λ n. names_at (n.0 ∷ []) n.1

-- ---- names with keys

-- a number behind a space
unfoldable pub led_number_at : List ℕ → Result (ℕ × List ℕ) ℕ
led_number_at line = literal_at space line >>= number_at

-- a name and its key, each behind a space
unfoldable pub led_keyed_at : List ℕ → Result ((List ℕ × ℕ) × List ℕ) ℕ
led_keyed_at line = led_name_at line >>= λ n. led_number_at n.1 >>= λ k. Ok ((n.0, k.0), k.1)

-- names with their keys up to the end of the line, behind those that were read before
unfoldable pub keyed_at : List (List ℕ × ℕ) → List ℕ → Result (List (List ℕ × ℕ)) ℕ
keyed_at ks line = rows_at led_keyed_at push ks line

-- one or more names with their keys up to the end of the line
unfoldable pub some_keyed_at : List ℕ → Result (List (List ℕ × ℕ)) ℕ
some_keyed_at line = led_keyed_at line >>= λ k. keyed_at (k.0 ∷ []) k.1

-- ---- two lists

-- a name behind a space, or behind a semicolon between spaces
unfoldable pub marked_name_at : List ℕ → Result ((Bool × List ℕ) × List ℕ) ℕ
marked_name_at line =
    (literal_at space line >>= semicolon_at) >>= λ s. name_at s.1 >>= λ n. Ok ((s.0, n.0), n.1)

-- two lists of names
abbrev pub NameLists : Type 0
NameLists = List (List ℕ) × List (List ℕ)

-- the names ns, and those to the end of the line behind the name n
abbrev pub second_list_at : List (List ℕ) → List ℕ → List ℕ → Result NameLists ℕ
second_list_at ns n line = names_at (n ∷ []) line >>= λ more. Ok (ns, more)

-- At most n names behind ns, the last of them behind a semicolon, and then names to the end of the line.
unfoldable pub two_lists_from : ℕ → List (List ℕ) → List ℕ → Result NameLists ℕ
two_lists_from zero ns line = Err 0
two_lists_from (suc n) ns line =
    marked_name_at line >>= λ x.
    if x.0.0 then second_list_at ns x.0.1 x.1 else two_lists_from n (push ns x.0.1) x.1

-- Names behind ns up to a semicolon, and then names to the end of the line. Each name takes a byte at least, so
-- there are no more than the line has bytes.
abbrev pub two_lists_behind : List (List ℕ) → List ℕ → Result NameLists ℕ
two_lists_behind ns line = two_lists_from (suc (length line)) ns line

-- one or more names, a semicolon, and one or more names up to the end of the line
unfoldable pub two_lists_at : List ℕ → Result NameLists ℕ
two_lists_at line = led_name_at line >>= λ n. two_lists_behind (n.0 ∷ []) n.1
