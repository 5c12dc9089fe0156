-- When a piece stays close to an original. The notion is this project's own.
use Rattle.std.specs.Prelude.{◌⊎◌, ◌*◌, ◌<◌, ◌≤◌, MatchBool}
use Rattle.grid_base.specs.Point.{GridPoint}
use Rattle.grid_base.specs.Segment.{GridSegment, is_flat, exchanged}
use Rattle.grid_base.specs.Places.{RationalPoint, IsPlace, InColumn}

-- p lies in a column from r to q, which are in it: r counts and q doesn't
abbrev pub IsFrom : RationalPoint → RationalPoint → GridPoint → Type 0
IsFrom r q p = ((r.y ≤ p.y * r.w) × (p.y * q.w < q.y)) ⊎ ((p.y * r.w ≤ r.y) × (q.y < p.y * q.w))

-- in no column a grid point lies from a place of o to a place of p
abbrev pub IsCloseUp : GridSegment → GridSegment → Type 0
IsCloseUp o p =
    (g : GridPoint) (r q : RationalPoint) → IsPlace o r → IsPlace p q → InColumn g r → InColumn g q
    → IsFrom r q g → ⊥

-- the piece p is close to o: by columns where o is flat, and by rows where it is steep
abbrev pub Close : GridSegment → GridSegment → Type 0
Close o p = MatchBool (is_flat o) (IsCloseUp o p) (IsCloseUp (exchanged o) (exchanged p))
