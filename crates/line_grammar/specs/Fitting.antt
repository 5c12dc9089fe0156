-- Which parts of a command have a text: numbers of at most 19 digits, names as a line may have them, no empty
-- list among lists, as many names as the operator takes, and one name at least where any number may stand.
use Rattle.std.specs.Prelude.{◌≡◌, ℕ, ◌<◌, ◌^◌, List, [], ◌∷◌, length, Option, Some, None, Bool, true}
use Rattle.std.specs.Prelude.{false, ◌&&◌, ◌||◌, nat_le, ◌==◌}
use Rattle.std.specs.List.{AllByRecursion}
use Rattle.line_grammar.specs.declared.command.At.{At}

-- a number of at most 19 digits
abbrev pub IsNumber : ℕ → Type 0
IsNumber n = n < 10 ^ 19

-- one of a to z
abbrev pub is_letter : ℕ → Bool
is_letter b = nat_le 97 b && nat_le b 122

-- one of 0 to 9
abbrev pub is_digit : ℕ → Bool
is_digit b = nat_le 48 b && nat_le b 57

-- a letter, a digit or an underscore
abbrev pub is_name_byte : ℕ → Bool
is_name_byte b = is_letter b || is_digit b || b == 95

-- a letter and at most 31 letters, digits and underscores
abbrev pub IsName : List ℕ → Type 0
IsName [] = ⊥
IsName (b ∷ bs) =
    (is_letter b ≡ true) × AllByRecursion (λ c. is_name_byte c ≡ true) bs × (length bs < 32)

-- a place with two such numbers
abbrev pub IsPoint : At → Type 0
IsPoint p = IsNumber p.x × IsNumber p.y

-- a list with one item or more
abbrev pub IsNonempty : {A : Type 0} → List A → Type 0
IsNonempty [] = ⊥
IsNonempty (x ∷ xs) = Unit {0}

-- one or more points
abbrev pub ArePoints : List At → Type 0
ArePoints ps = IsNonempty ps × AllByRecursion IsPoint ps

-- one or more names
abbrev pub AreNames : List (List ℕ) → Type 0
AreNames ns = IsNonempty ns × AllByRecursion IsName ns

-- a name and a number
abbrev pub IsKeyed : List ℕ × ℕ → Type 0
IsKeyed k = IsName k.0 × IsNumber k.1

-- one or more names, each with a number
abbrev pub AreKeyed : List (List ℕ × ℕ) → Type 0
AreKeyed ks = IsNonempty ks × AllByRecursion IsKeyed ks

-- a second name exactly where two are taken
abbrev pub IsSecond : Bool → Option (List ℕ) → Type 0
IsSecond true None = ⊥
IsSecond true (Some b) = IsName b
IsSecond false None = Unit {0}
IsSecond false (Some b) = ⊥
