-- What one drawing has and another hasn't.
use Rattle.std.specs.Prelude.{ℕ, Bool, false, not, ◌||◌, ◌==◌, List, [], ◌∷◌, filter}
use Rattle.grid_base.specs.Point.{GridPoint, is_point}
use Rattle.grid_base.specs.declared.original.Original.{Original}

-- the point is among these
abbrev pub is_among : List GridPoint → GridPoint → Bool
is_among [] p = false
is_among (q ∷ points) p = is_point q p || is_among points p

-- the points that the others lack, in their order
abbrev pub points_besides : List GridPoint → List GridPoint → List GridPoint
points_besides points others = filter (λ p. not (is_among others p)) points

-- one of the originals has this id
abbrev pub has_id : List Original → ℕ → Bool
has_id [] id = false
has_id (o ∷ originals) id = (o.id == id) || has_id originals id

-- the originals whose ids the others lack, in their order
abbrev pub originals_besides : List Original → List Original → List Original
originals_besides originals others = filter (λ o. not (has_id others o.id)) originals
