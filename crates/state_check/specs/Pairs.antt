-- Lists of points in pairs. No public clause cites this file.
use Rattle.std.specs.Prelude.{◌≡◌, ℕ, ◌%◌, ◌<◌, ◌-◌, length, get_or, Bool, true, false, if◌then◌else◌, List, [], ◌∷◌, All, Contains}
use Rattle.std.specs.Prelude.{count_by}
use Rattle.std.specs.List.{flat_map}
use Rattle.grid_base.specs.Point.{GridPoint, IsBefore, is_point}
use Rattle.grid_base.specs.Drawing.{Drawing}
use Rattle.grid_base.specs.declared.original.Original.{Original}
use Rattle.value_geometry.specs.Parts.{AreOriginals}

-- whether the first point is the second, the third the fourth, and so on to the end
unfoldable pub are_pairs : List GridPoint → Bool
are_pairs [] = true
are_pairs (p ∷ []) = false
are_pairs (p ∷ q ∷ more) = if is_point p q then are_pairs more else false

-- how often p stands in the list
abbrev pub times : GridPoint → List GridPoint → ℕ
times p list = count_by (λ q. is_point q p) list

-- each point stands in the list an even number of times
abbrev pub IsEvenList : List GridPoint → Type 0
IsEvenList list = (p : GridPoint) → times p list % 2 ≡ 0

-- the two ends of o
abbrev pub ends_of : Original → List GridPoint
ends_of o = o.a ∷ o.b ∷ []

-- the list has the ends of these originals, whose ids are those of the list
pub record HasEndsOf (d : Drawing) (ids : List ℕ) (list : List GridPoint) : Type 0 where
  pub parts : List Original
  pub are : AreOriginals d ids parts
  pub ordered : All (λ (o : Original). IsBefore o.a o.b) parts
  pub ends : list ≡ flat_map ends_of parts

-- an original of d has this id and these ends
pub record HasEnds (d : Drawing) (id : ℕ) (a b : GridPoint) : Type 0 where
  pub original : Original
  pub there : Contains d.originals original
  pub id_is : original.id ≡ id
  pub from : original.a ≡ a
  pub to : original.b ≡ b
  pub ordered : IsBefore original.a original.b

-- the first point is a and the last b
abbrev pub IsFromTo : GridPoint → GridPoint → List GridPoint → Type 0
IsFromTo a b points = (0 < length points) × (get_or points 0 a ≡ a) × (get_or points (length points - 1) b ≡ b)
