-- Counts of users: a map from keys to how many values name each. No public clause cites this file.
use Rattle.std.specs.Prelude.{ℕ, List, count_by}
use Rattle.std.specs.Map.{count_at}
use Rattle.std.specs.Ordering.{eq_by_cmp}
use Rattle.std.specs.declared.cmp.Ordering.{Ordering}
use Rattle.std.specs.BTreeMap.{BTreeMap, get}

module _ {K : Type 0} (cmp : K → K → Ordering) where
  -- how often q stands among the keys
  abbrev pub times_among : List K → K → ℕ
  times_among keys q = count_by (eq_by_cmp cmp q) keys

  -- how many users q has, and 0 where the map hasn't it
  abbrev pub users_in : BTreeMap K ℕ → K → ℕ
  users_in counts q = count_at (get cmp counts) q
