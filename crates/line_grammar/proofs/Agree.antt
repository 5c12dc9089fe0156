-- How far two texts agree. Their common end counts as a place, so a text agrees with itself on more
-- places than with any other.
use Rattle.std.specs.Prelude.{ℕ, suc, List, [], ◌∷◌, ◌==◌, if◌then◌else◌}

-- on how many places xs and ys agree from the front, their common end counted as one more place
unfoldable pub agree : List ℕ → List ℕ → ℕ
agree [] [] = 1
agree [] (y ∷ ys) = 0
agree (x ∷ xs) [] = 0
agree (x ∷ xs) (y ∷ ys) = if x == y then suc (agree xs ys) else 0
