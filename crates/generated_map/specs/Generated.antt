-- A map that nobody wrote: changes whose places follow from a first number alone.
use Rattle.std.specs.Prelude.{ℕ, zero, suc, ◌+◌, ◌*◌, ◌/◌, ◌%◌, ◌^◌, ◌<◌, ◌==◌, if◌then◌else◌}
use Rattle.std.specs.Prelude.{List, [], ◌∷◌, ◌++◌}
use Rattle.std.specs.Fmt.{decimal}
use Rattle.line_grammar.specs.declared.command.At.{At}
use Rattle.line_grammar.specs.declared.command.Change.{Change}
use Rattle.line_grammar.specs.declared.command.Change.TheVariants.{Segment, Regions}
use Rattle.generated_map.specs.declared.drawing_lots.Corners.{Corners}

-- the number behind s
abbrev pub next_number : ℕ → ℕ
next_number s = (s * 6364136223846793005 + 1442695040888963407) % 2 ^ 64

-- what is drawn when s is the last number: the upper bits of the next one
abbrev pub drawn_behind : ℕ → ℕ
drawn_behind s = next_number s / 2 ^ 33

-- the last number after four draws
abbrev pub after_four : ℕ → ℕ
after_four s = next_number (next_number (next_number (next_number s)))

-- the last number after four draws for each of n changes
unfoldable pub number_after : ℕ → ℕ → ℕ
number_after zero start = start
number_after (suc n) start = after_four (number_after n start)

-- the place with these coordinates
abbrev pub place : ℕ → ℕ → At
place x y = record { x = x; y = y }

-- both coordinates are below 2^17
abbrev pub IsNear : At → Type 0
IsNear p = (p.x < 2 ^ 17) × (p.y < 2 ^ 17)

-- two corners by four draws: two for the first one, and two for how far the other lies right of it, 1 at
-- least, and above
abbrev pub corners_behind : ℕ → Corners
corners_behind s =
    let x = drawn_behind s % 65536 in
    let y = drawn_behind (next_number s) % 65536 in
    let width = 1 + drawn_behind (next_number (next_number s)) % 256 in
    let height = drawn_behind (next_number (next_number (next_number s))) % 256 in
    record { low = place x y; high = place (x + width) (y + height) }

-- the name of what change i defines: `r` and its number
abbrev pub name_of : ℕ → List ℕ
name_of i = 114 ∷ decimal i

-- three corners of the rectangle between the two, the last of them one higher
abbrev pub triangle : Corners → List At
triangle c = c.low ∷ place c.high.x c.low.y ∷ place c.high.x (c.high.y + 1) ∷ []

-- change i between these corners: each fourth one defines a triangle, and the others draw a segment
abbrev pub change_between : ℕ → Corners → Change
change_between i c = if i % 4 == 0 then Regions (name_of i) (triangle c ∷ []) else Segment c.low c.high

-- the first n changes
unfoldable pub generated : ℕ → ℕ → List Change
generated zero start = []
generated (suc n) start =
    generated n start ++ change_between (suc n) (corners_behind (number_after n start)) ∷ []
