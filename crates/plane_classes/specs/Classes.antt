-- Classes: the parts into which segments cut the plane.
use Rattle.std.specs.Prelude.{◌≡◌, ◌⊎◌, ℕ, ◌*◌, ◌<◌, List, [], ◌∷◌, Contains, pos, ◌<ℤ◌}
use Rattle.grid_base.specs.Segment.{GridSegment}
use Rattle.grid_base.specs.Sides.{Left, Right}
use Rattle.grid_base.specs.Plane.{Place, IsFreeWay, IsBeside}

-- a wall stands at e: it is the column of an end
abbrev pub IsWall : List GridSegment → ℕ → Type 0
IsWall list e = (s : GridSegment) × Contains list s × ((e ≡ s.a.x) ⊎ (e ≡ s.b.x))

-- the wall at e lies strictly between the columns of p and q
abbrev pub IsWallBetween : ℕ → Place → Place → Type 0
IsWallBetween e p q =
    ((p.x <ℤ pos (e * p.w)) × (pos (e * q.w) <ℤ q.x))
    ⊎ ((q.x <ℤ pos (e * q.w)) × (pos (e * p.w) <ℤ p.x))

-- p and q touch one cell, from within or from a wall: no wall lies strictly between them, and the straight
-- way between them meets no segment
pub record TouchOneCell (list : List GridSegment) (p q : Place) : Type 0 where
  pub no_wall_between : (e : ℕ) → IsWall list e → IsWallBetween e p q → ⊥
  pub no_segment_between : IsFreeWay list p q

-- each place of the list touches one cell with the next, from p to q
abbrev pub Joins : List GridSegment → Place → List Place → Place → Type 0
Joins list p [] q = TouchOneCell list p q
Joins list p (r ∷ between) q = TouchOneCell list p r × Joins list r between q

-- p and q are in one class: joined cells lead from p to q
abbrev pub AreInOneClass : List GridSegment → Place → Place → Type 0
AreInOneClass list p q = (between : List Place) × Joins list p between q

-- straight ways that meet no segment lead from p over the places of the list to q
abbrev pub WaysLead : List GridSegment → Place → List Place → Place → Type 0
WaysLead list p [] q = IsFreeWay list p q
WaysLead list p (r ∷ over) q = IsFreeWay list p r × WaysLead list r over q

-- p and q lie beside s, on its two sides
pub data AreAcross (list : List GridSegment) (s : GridSegment) (p q : Place) : Type 0 where
  FromLeft : IsBeside list s Left p → IsBeside list s Right q → AreAcross list s p q
  FromRight : IsBeside list s Right p → IsBeside list s Left q → AreAcross list s p q

-- p lies left of each segment
pub record IsLeftOfAll (list : List GridSegment) (p : Place) : Type 0 where
  pub real : 0 < p.w
  pub left : (s : GridSegment) → Contains list s → p.x <ℤ pos (s.a.x * p.w)

-- q is in the outer class: that of the places left of all segments
abbrev pub IsOuter : List GridSegment → Place → Type 0
IsOuter list q = (p : Place) × IsLeftOfAll list p × AreInOneClass list p q
