-- Reading tokens from left to right. What stops says how many bytes of the line are left behind the
-- place where it stopped: that number stays the same however many bytes were read before.
use Rattle.std.specs.Prelude.{◌≡◌, ℕ, zero, suc, ◌+◌, ◌*◌, ◌-◌, List, [], ◌∷◌, ◌++◌, length, take, drop}
use Rattle.std.specs.Prelude.{min, Result, Ok, Err, Bool, ◌==◌, if◌then◌else◌}
use Rattle.line_grammar.specs.declared.command.At.{At}
use Rattle.line_grammar.specs.declared.fault.ReadError.{ReadError}
use Rattle.line_grammar.specs.declared.fault.ReadError.TheVariants as errors
use Rattle.line_grammar.specs.declared.tokens.Alphabet.{Alphabet}
use Rattle.line_grammar.specs.declared.tokens.Alphabet.TheVariants.{Digit, NameByte}
use Rattle.line_grammar.specs.Pieces.{space}
use Rattle.line_grammar.specs.Fitting.{is_letter, is_digit, is_name_byte}

infixl 10 ◌>>=◌
-- what was read, and then what reads on from it
abbrev pub ◌>>=◌ : {A B : Type 0} → Result A ℕ → (A → Result B ℕ) → Result B ℕ
(Ok x) >>= f = f x
(Err left) >>= f = Err left

-- why a function gave nothing is why reading stops, unless memory ran out
abbrev pub Fails : {Y : Type 0} → ReadError → Result Y ℕ → Type 0
Fails errors.NoMemory read = Unit {0}
Fails (errors.Stopped left) read = read ≡ Err left

-- what a function returned, seen by view, is what reading gives, unless memory ran out
abbrev pub Gives : {X Y : Type 0} → (X → Y) → Result X ReadError → Result Y ℕ → Type 0
Gives view (Ok x) read = read ≡ Ok (view x)
Gives view (Err e) read = Fails e read

-- ---- tokens

-- the line behind the word that it begins with
unfoldable pub literal_at : List ℕ → List ℕ → Result (List ℕ) ℕ
literal_at [] line = Ok line
literal_at (w ∷ word) [] = Err 0
literal_at (w ∷ word) (b ∷ line) = if w == b then literal_at word line else Err (suc (length line))

-- nothing is left
unfoldable pub end_at : List ℕ → Result (Unit {0}) ℕ
end_at [] = Ok tt
end_at (b ∷ line) = Err (suc (length line))

-- whether a byte is of the alphabet
abbrev pub test_of : Alphabet → ℕ → Bool
test_of Digit = is_digit
test_of NameByte = is_name_byte

-- how many bytes from the front pass the test, at most `most`
unfoldable pub run : (ℕ → Bool) → ℕ → List ℕ → ℕ
run test zero line = 0
run test (suc most) [] = 0
run test (suc most) (b ∷ line) = if test b then suc (run test most line) else 0

-- the name at the front
unfoldable pub name_at : List ℕ → Result (List ℕ × List ℕ) ℕ
name_at [] = Err 0
name_at (b ∷ line) =
    if is_letter b then (let n = run is_name_byte 32 (b ∷ line) in
    Ok (take n (b ∷ line), drop n (b ∷ line)))
    else Err (suc (length line))

-- the number that digits stand for, behind those that made n
unfoldable pub value_from : ℕ → List ℕ → ℕ
value_from n [] = n
value_from n (d ∷ digits) = value_from (10 * n + (d - 48)) digits

-- the number at the front
unfoldable pub number_at : List ℕ → Result (ℕ × List ℕ) ℕ
number_at [] = Err 0
number_at (b ∷ line) =
    if b == 48 then Ok (0, line)
    else if is_digit b then (let n = run is_digit 19 (b ∷ line) in
    Ok (value_from 0 (take n (b ∷ line)), drop n (b ∷ line)))
    else Err (suc (length line))

-- the place at the front
unfoldable pub point_at : List ℕ → Result (At × List ℕ) ℕ
point_at line = do
  x ← number_at line
  rest ← literal_at space x.1
  y ← number_at rest
  Ok (record { x = x.0; y = y.0 }, y.1)

-- a place behind a space
unfoldable pub led_point_at : List ℕ → Result (At × List ℕ) ℕ
led_point_at line = literal_at space line >>= point_at

-- a name behind a space
unfoldable pub led_name_at : List ℕ → Result (List ℕ × List ℕ) ℕ
led_name_at line = literal_at space line >>= name_at

-- ---- one of several words

-- a word that is at the front decides, and another leaves the choice to the rest of the table
abbrev pub or_else : {T : Type 0} → Result (List ℕ) ℕ → T → ℕ → (ℕ → Result (T × List ℕ) ℕ)
    → Result (T × List ℕ) ℕ
or_else (Ok rest) t left more = Ok (t, rest)
or_else (Err there) t left more = more (min left there)

-- the first entry whose word is at the front, or the furthest place at which a word stopped, no
-- nearer than `left`
unfoldable pub choose_from : {T : Type 0} → ℕ → List (List ℕ × T) → List ℕ → Result (T × List ℕ) ℕ
choose_from left [] line = Err left
choose_from left (entry ∷ table) line =
    or_else (literal_at entry.0 line) entry.1 left (λ there. choose_from there table line)

-- the entry whose word is at the front, or the furthest place at which a word stopped
abbrev pub choose_at : {T : Type 0} → List (List ℕ × T) → List ℕ → Result (T × List ℕ) ℕ
choose_at table line = choose_from (length line) table line

-- ---- rows of tokens, to the end of the line

-- at most n tokens, each added to what was read so far
unfoldable pub rows_from : {A S : Type 0} → (List ℕ → Result (A × List ℕ) ℕ) → (S → A → S) → ℕ → S
    → List ℕ → Result S ℕ
rows_from read add n so_far [] = Ok so_far
rows_from read add zero so_far (b ∷ line) = Err 0
rows_from read add (suc n) so_far (b ∷ line) =
    read (b ∷ line) >>= λ x. rows_from read add n (add so_far x.0) x.1

-- Each token is added to what was read so far. Each takes a byte at least, so there are no more than
-- the line has bytes.
abbrev pub rows_at : {A S : Type 0} → (List ℕ → Result (A × List ℕ) ℕ) → (S → A → S) → S → List ℕ
    → Result S ℕ
rows_at read add so_far line = rows_from read add (length line) so_far line

-- xs with x behind it
abbrev pub push : {A : Type 0} → List A → A → List A
push xs x = xs ++ x ∷ []

-- places to the end of the line, behind those that were read before
unfoldable pub points_at : List At → List ℕ → Result (List At) ℕ
points_at ps line = rows_at led_point_at push ps line
