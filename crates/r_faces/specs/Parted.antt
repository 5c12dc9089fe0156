-- Segments in parts by numbers.
use Rattle.std.specs.Prelude.{◌≡◌, ◌↔◌, ℕ, ◌<◌, List, Contains, length, slice_index}
use Rattle.std.specs.List.Sorted.{IsStrictlyIncreasing}

-- the keys are the numbers, ascending, each once
pub record AreKeys (numbers keys : List ℕ) : Type 0 where
  pub ascending : IsStrictlyIncreasing keys
  pub same : (n : ℕ) → Contains keys n ↔ Contains numbers n

-- the list has the places of the first k numbers among the keys
pub record ArePlacesIn (keys numbers : List ℕ) (k : ℕ) (places : List ℕ) : Type 0 where
  pub one_each : length places ≡ k
  pub each : (i : ℕ) → i < k → (slice_index places i < length keys)
      × (slice_index keys (slice_index places i) ≡ slice_index numbers i)
