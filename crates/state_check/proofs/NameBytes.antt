-- This file shows that a name is ASCII, and so is UTF-8.
use Rattle.std.proofs.Common.{◌≡◌, ℕ, zero, suc, true, List, [], ◌∷◌, arith}
use Rattle.std.specs.List.{AllByRecursion}
use Rattle.std.specs.Str.{IsAscii, IsUtf8}
use Rattle.std.proofs.lemmas.Bool.Decides.{nat_tests}
use Rattle.std.proofs.lemmas.Str.{IsUtf8-from_ascii}
use Rattle.line_grammar.specs.Spellable.{IsName, is_name_byte}

name_bytes_are : (bytes : List ℕ) → AllByRecursion (λ b. is_name_byte b ≡ true) bytes → IsAscii bytes
name_bytes_are [] all i = omega arith
name_bytes_are (b ∷ bytes) all zero = let first = all.0 in grind (arith, nat_tests, first)
name_bytes_are (b ∷ bytes) all (suc i) = name_bytes_are bytes all.1 i

name_is : (bytes : List ℕ) → IsName bytes → IsAscii bytes
name_is [] name i = absurd name
name_is (b ∷ bytes) name zero = let first = name.0 in grind (arith, nat_tests, first)
name_is (b ∷ bytes) name (suc i) = name_bytes_are bytes name.1 i

pub name_is_utf8 : (bytes : List ℕ) → IsName bytes → IsUtf8 bytes
name_is_utf8 bytes name = IsUtf8-from_ascii bytes (name_is bytes name)
