-- The parts of a command's text. One space stands between two tokens.
use Rattle.std.specs.Prelude.{ℕ, List, [], ◌∷◌, ◌++◌, Option, Some, None, codes}
use Rattle.std.specs.List.{flat_map}
use Rattle.std.specs.Fmt.{decimal}
use Rattle.line_grammar.specs.declared.command.At.{At}

-- what stands between two tokens
abbrev pub space : List ℕ
space = 32 ∷ []

-- two numbers
abbrev pub point : At → List ℕ
point p = decimal p.x ++ (space ++ decimal p.y)

-- a point behind a space
abbrev pub led_point : At → List ℕ
led_point p = space ++ point p

-- each point behind a space
abbrev pub points : List At → List ℕ
points ps = flat_map led_point ps

-- nothing, or lists of points with a semicolon between two of them
abbrev pub lists : List (List At) → List ℕ
lists [] = []
lists (ps ∷ []) = points ps
lists (ps ∷ qs ∷ more) = points ps ++ (codes " ;" ++ lists (qs ∷ more))

-- a list behind a semicolon
abbrev pub next_list : List At → List ℕ
next_list ps = codes " ;" ++ points ps

-- a name behind a space
abbrev pub led_name : List ℕ → List ℕ
led_name n = space ++ n

-- each name behind a space
abbrev pub names : List (List ℕ) → List ℕ
names ns = flat_map led_name ns

-- a number behind a space
abbrev pub led_number : ℕ → List ℕ
led_number n = space ++ decimal n

-- a name and its key, each behind a space
abbrev pub led_keyed : List ℕ × ℕ → List ℕ
led_keyed k = led_name k.0 ++ led_number k.1

-- each name with its key
abbrev pub keyed_names : List (List ℕ × ℕ) → List ℕ
keyed_names ks = flat_map led_keyed ks

-- nothing, or a second name
abbrev pub second : Option (List ℕ) → List ℕ
second None = []
second (Some b) = led_name b
