-- What a crash may leave of a file, byte by byte.
use Rattle.std.specs.Prelude.{◌≡◌, ◌⊎◌, ◌↔◌, ◌+◌, ◌<◌, ◌≤◌, ℕ, List, [], ◌∷◌, length, min, max}
use Rattle.std.specs.Prelude.{slice_index_or}
use Rattle.outside_world.specs.declared.world.FileName.{FileName}
use Rattle.outside_world.specs.View.{View}

-- a range of a file: its first place, and how many bytes it has
pub record Range : Type 0 where
  pub from : ℕ
  pub size : ℕ

-- the place lies in one of these ranges
abbrev pub IsPending : ℕ → List Range → Type 0
IsPending i [] = ⊥
IsPending i (range ∷ ranges) = ((range.from ≤ i) × (i < range.from + range.size)) ⊎ IsPending i ranges

-- a file between two syncs: what it held at the last one, the ranges that were written since, and the
-- greatest length that it has reached since
pub record Disk : Type 0 where
  pub base : List ℕ
  pub pending : List Range
  pub greatest : ℕ

-- A crash may leave this: a file no shorter than at the last sync, no longer than it has been since, and with
-- the byte of the last sync wherever there was one and nothing was written since. All other bytes are free.
pub record IsImageOf (disk : Disk) (c : List ℕ) : Type 0 where
  pub no_shorter : length disk.base ≤ length c
  pub no_longer : length c ≤ disk.greatest
  pub kept : (i : ℕ) → i < length disk.base
      → IsPending i disk.pending ⊎ (slice_index_or c i 0 ≡ slice_index_or disk.base i 0)

-- what a crash may leave of a file is just what it may leave of some disk
abbrev pub IsByteByByte : View → Type 0
IsByteByByte v = (f : FileName) → (disk : Disk) × ((c : List ℕ) → v.image f c ↔ IsImageOf disk c)

-- c has a byte at this place, and e has the same
abbrev pub IsByteOf : ℕ → List ℕ → List ℕ → Type 0
IsByteOf i c e = (i < length c) × (slice_index_or e i 0 ≡ slice_index_or c i 0)

-- e is mixed of c and d: its length lies between theirs, and each of its bytes is that of the one or of the
-- other
pub record IsMixture (c d e : List ℕ) : Type 0 where
  pub no_shorter : min (length c) (length d) ≤ length e
  pub no_longer : length e ≤ max (length c) (length d)
  pub bytes : (i : ℕ) → i < length e → IsByteOf i c e ⊎ IsByteOf i d e
