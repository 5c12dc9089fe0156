-- How uses of points are counted: a map from points to counts. No public clause cites this file.
use Rattle.std.specs.Prelude.{◌≡◌, ◌≢◌, ℕ, ◌<◌, ◌≤◌, Option, Some}
use Rattle.std.specs.HashMap.{HashMap}
use Rattle.std.specs.HashMap as hash
use Rattle.std.specs.Map.{count_at}
use Rattle.grid_base.specs.Point.{GridPoint, is_point}
use Rattle.component_registry.specs.Registry.{Holdings, IsSound, uses_of}

-- a map from points to counts
abbrev pub Counts : Type 0 → Type 0
Counts S = HashMap GridPoint ℕ S

module _ {S : Type 0} where
  -- the count that the map has of p
  abbrev pub found_in : Counts S → GridPoint → Option ℕ
  found_in ends p = hash.get is_point ends p

  -- the count of p, and 0 where the map has none
  abbrev pub uses_in : Counts S → GridPoint → ℕ
  uses_in ends p = count_at (found_in ends) p

  -- no count is 0: a point that isn't used any more isn't in the map
  abbrev pub HasNoZero : Counts S → Type 0
  HasNoZero ends = (p : GridPoint) (n : ℕ) → found_in ends p ≡ Some n → 0 < n

  -- every count is what it was
  abbrev pub SameUses : Counts S → Counts S → Type 0
  SameUses old new = (p : GridPoint) → found_in new p ≡ found_in old p

  -- every count but that of p is what it was
  abbrev pub SameOtherUses : Counts S → Counts S → GridPoint → Type 0
  SameOtherUses old new p = (q : GridPoint) → q ≢ p → found_in new q ≡ found_in old q

-- The registry is sound, and the counts are its own. None is 0, and none is greater than the number of
-- owners that were ever added.
pub record IsCounted {S : Type 0} (r : Holdings) (ends : Counts S) (added : ℕ) : Type 0 where
  pub sound : IsSound r
  pub counted : (p : GridPoint) → uses_in ends p ≡ uses_of r p
  pub no_zero : HasNoZero ends
  pub bounded : (p : GridPoint) → uses_of r p ≤ added
