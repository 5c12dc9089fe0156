-- Gates: what stands behind a gate counts where the gate is open.
use Rattle.std.specs.Prelude.{◌≡◌, ◌≢◌, ◌<◌, ℕ, List, ◌∷◌, ◌++◌, length, take, drop, slice_index_or}

-- the byte of an open gate; every other byte is a closed one
abbrev pub open_gate : ℕ
open_gate = 165

-- the byte that is written for a closed gate
abbrev pub closed_gate : ℕ
closed_gate = 0

-- these bytes stand in the file from a place on
abbrev pub IsWrittenAt : ℕ → List ℕ → List ℕ → Type 0
IsWrittenAt at bytes file = take (length bytes) (drop at file) ≡ bytes

-- the gate at this place is open
abbrev pub IsOpenAt : ℕ → List ℕ → Type 0
IsOpenAt at file = slice_index_or file at 0 ≡ open_gate

-- the gate at this place is closed, as each is that lies past the end
abbrev pub IsClosedAt : ℕ → List ℕ → Type 0
IsClosedAt at file = slice_index_or file at 0 ≢ open_gate

-- a closed gate stands at this place, within the file
abbrev pub HasClosedAt : ℕ → List ℕ → Type 0
HasClosedAt at file = (at < length file) × IsClosedAt at file

-- the gate is open, these bytes stand whole behind it, and then comes a closed gate that the file has
abbrev pub IsWholeAt : ℕ → List ℕ → List ℕ → Type 0
IsWholeAt at text file = (rest : List ℕ) × (drop at file ≡ open_gate ∷ (text ++ closed_gate ∷ rest))
