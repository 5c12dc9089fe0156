-- The steps of a sweep over the vertices of a border, and the labels of the gaps between its segments. No
-- public clause cites this file.
use Rattle.std.specs.Prelude.{◌≡◌, ◌⊎◌, ℕ, suc, List, [], ◌∷◌, ◌++◌}
use Rattle.grid_base.specs.Point.{GridPoint}
use Rattle.linked_parts.specs.Parts.{Links}

-- one vertex of the sweep: the numbers of the segments that pass below it, that end there, that begin there
-- and that pass above it, each from below
pub record Step : Type 0 where
  pub vertex : GridPoint
  pub below : List ℕ
  pub ends : List ℕ
  pub begins : List ℕ
  pub above : List ℕ

-- the segments just left of the vertex, from below
abbrev pub before : Step → List ℕ
before k = k.below ++ (k.ends ++ k.above)

-- the segments just right of the vertex, from below
abbrev pub after : Step → List ℕ
after k = k.below ++ (k.begins ++ k.above)

-- the label of the gap over the last segment of the list, d where there is none
abbrev pub label_over : ℕ → List ℕ → ℕ
label_over d [] = d
label_over d (i ∷ l) = label_over (suc i) l

-- the gap over the vertex has one label just left of it and another just right of it
abbrev pub link : Step → ℕ × ℕ
link k = (label_over 0 (k.below ++ k.ends), label_over 0 (k.below ++ k.begins))

-- the links of the vertices
abbrev pub links : List Step → Links
links [] = []
links (k ∷ steps) = link k ∷ links steps

-- ---- the segment numbers of a list
abbrev pub In : ℕ → List ℕ → Type 0
In i [] = ⊥
In i (j ∷ l) = (i ≡ j) ⊎ In i l

-- P holds of each
abbrev pub Each : (ℕ → Type 0) → List ℕ → Type 0
Each P [] = Unit {0}
Each P (i ∷ l) = P i × Each P l

-- R holds of each two, the one further below first
abbrev pub Pairs : (ℕ → ℕ → Type 0) → List ℕ → Type 0
Pairs R [] = Unit {0}
Pairs R (i ∷ l) = Each (R i) l × Pairs R l

-- ---- the labels just under segments
-- each segment of the list has the label of the gap under it, d being the label under the first
abbrev pub HasRights : (ℕ → ℕ) → ℕ → List ℕ → Type 0
HasRights right d [] = Unit {0}
HasRights right d (i ∷ l) = (right i ≡ d) × HasRights right (suc i) l

-- each segment that begins at a vertex has the label of the gap under it
abbrev pub HaveRights : (ℕ → ℕ) → List Step → Type 0
HaveRights right [] = Unit {0}
HaveRights right (k ∷ steps) = HasRights right (label_over 0 k.below) k.begins × HaveRights right steps
