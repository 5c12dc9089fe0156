-- Bytes in base 16.
use Rattle.std.specs.Prelude.{ℕ, ◌/◌, ◌%◌, List, [], ◌∷◌, false}
use Rattle.std.specs.Fmt.{digit_glyph}
use Rattle.std.specs.List.{flat_map}

-- a byte by two digits, the greater one first, with small letters
abbrev pub byte_text : ℕ → List ℕ
byte_text byte = digit_glyph false (byte / 16) ∷ digit_glyph false (byte % 16) ∷ []

-- bytes, one after another
abbrev pub bytes_text : List ℕ → List ℕ
bytes_text bytes = flat_map byte_text bytes
