-- How counts of faults rise.
use Rattle.std.specs.Prelude.{◌⊎◌, ◌<◌, ◌≤◌, ◌-◌, ◌^◌, ℕ}

-- A count has risen; or it stands at the last value of a u64, which it can't pass: that counts as risen.
abbrev pub Rose : ℕ → ℕ → Type 0
Rose before now = (before < now) ⊎ (2 ^ 64 - 1 ≤ now)
