-- Tokens of a text, and which of them are numbers. No public clause cites this file.
use Rattle.std.specs.Prelude.{◌≡◌, ◌≢◌, ℕ, ◌+◌, ◌-◌, ◌*◌, ◌<◌, ◌^◌, ◌&&◌, Bool, nat_le, List, [], ◌∷◌, ◌++◌}
use Rattle.std.specs.List.{AllByRecursion}

-- a number has at most 19 digits
abbrev pub IsNumber : ℕ → Type 0
IsNumber n = n < 10 ^ 19

-- so has each of these
abbrev pub AreNumbers : List ℕ → Type 0
AreNumbers numbers = AllByRecursion IsNumber numbers

-- whether the byte is a decimal digit
abbrev pub is_digit : ℕ → Bool
is_digit b = nat_le 48 b && nat_le b 57

-- the number of n and then these digits
abbrev pub value_from : ℕ → List ℕ → ℕ
value_from n [] = n
value_from n (d ∷ ds) = value_from (10 * n + (d - 48)) ds

-- a space comes first, or nothing
abbrev pub BeginsSpaced : List ℕ → Type 0
BeginsSpaced [] = Unit {0}
BeginsSpaced (b ∷ bytes) = b ≡ 32

-- there is no space
abbrev pub IsToken : List ℕ → Type 0
IsToken bytes = AllByRecursion (λ b. b ≢ 32) bytes

-- the text is the token and then the rest, which begins with a space if there is one
pub record IsCut (text token rest : List ℕ) : Type 0 where
  pub parts : text ≡ token ++ rest
  pub no_space : IsToken token
  pub spaced : BeginsSpaced rest

-- a digit that isn't 0 comes first
abbrev pub IsNumberText : List ℕ → Type 0
IsNumberText [] = ⊥
IsNumberText (b ∷ bytes) = (48 < b) × (b < 58)
