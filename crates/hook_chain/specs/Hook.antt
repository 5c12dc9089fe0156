-- The hook of a piece at a point: the way of a rubber band along the piece that is pulled to the point,
-- with the grid points as nails. The redrawing follows Daniel H. Greene and F. Frances Yao, "Finite-Resolution
-- Computational Geometry" (1986); this list and what is asked of it are this project's own.
use Rattle.std.specs.Prelude.{◌≡◌, ◌≢◌, ◌⊎◌, ◌<◌, nat_lt, MatchBool, List, [], ◌∷◌, ◌++◌}
use Rattle.std.specs.List.{AllByRecursion}
use Rattle.grid_base.specs.Point.{GridPoint, IsFromTo}
use Rattle.grid_base.specs.Segment.{GridSegment, is_flat}
use Rattle.grid_base.specs.Sides.{On, opposite, side}
use Rattle.grid_base.specs.Crossing.{IsOn}
use Rattle.hook_chain.specs.Close.{Close}
use Rattle.hook_chain.specs.Chains.{AllLinks, AllBends, RunsFrom}

-- p is in the closed triangle a, b, x: on the line of each side of it, or on the side of that line on which
-- the third corner is
pub record InTriangle (a b x p : GridPoint) : Type 0 where
  pub first : (side a b p ≡ On) ⊎ (side a b p ≡ side a b x)
  pub second : (side b x p ≡ On) ⊎ (side b x p ≡ side a b x)
  pub third : (side x a p ≡ On) ⊎ (side x a p ≡ side a b x)

-- w is farther along t than v: x rises where t is flat, and where it is steep y changes as along t
abbrev pub IsOnward : GridSegment → GridPoint → GridPoint → Type 0
IsOnward t v w = MatchBool (is_flat t) (v.x < w.x) (MatchBool (nat_lt t.a.y t.b.y) (v.y < w.y) (w.y < v.y))

-- the hook of t at a point x that is not on t: a part from a to x, and a part from x to b
pub record IsBent (t : GridSegment) (x : GridPoint) (to from : List GridPoint) : Type 0 where
  pub leads_to_x : RunsFrom t.a x (to ++ x ∷ [])
  pub leads_from_x : RunsFrom x t.b (x ∷ from)
  pub all_in_triangle : AllByRecursion (InTriangle t.a t.b x) (to ++ x ∷ from)
  -- no grid point lies between t and a link, where points on t count and points on the link don't
  pub no_point_between : AllLinks (λ v w. Close t (record { a = v; b = w })) (to ++ x ∷ from)
  -- each vertex of a part lies strictly on the side of t of the line through its two neighbours
  pub bulges_before_x : AllBends (λ u v w. side u v w ≡ side t.a t.b x) (to ++ x ∷ [])
  pub bulges_after_x : AllBends (λ u v w. side u v w ≡ side t.a t.b x) (x ∷ from)
  pub runs_forward : AllLinks (IsOnward t) (to ++ x ∷ from)

-- chain is the hook of t at x
abbrev pub Hook : GridSegment → GridPoint → List GridPoint → Type 0
Hook t x chain =
    ((x ≡ t.a) × (chain ≡ t.a ∷ t.b ∷ []))
    ⊎ ((x ≡ t.b) × (chain ≡ t.a ∷ t.b ∷ []))
    ⊎ ((x ≢ t.a) × (x ≢ t.b) × IsOn t x × (chain ≡ t.a ∷ x ∷ t.b ∷ []))
    ⊎ ((side t.a t.b x ≢ On) × (to : List GridPoint) × (from : List GridPoint) × (chain ≡ to ++ x ∷ from)
    × IsBent t x to from)

-- p lies beside the link from v to w: in one of its columns where t is flat, and in one of its rows where
-- t is steep
abbrev pub IsBeside : GridSegment → GridPoint → GridPoint → GridPoint → Type 0
IsBeside t v w p = MatchBool (is_flat t) (IsFromTo v.x w.x p.x) (IsFromTo v.y w.y p.y)

-- p lies between t and the link from v to w of its hook at x, both counted
pub record IsBetweenPieceAndHook (t : GridSegment) (x v w p : GridPoint) : Type 0 where
  pub beside : IsBeside t v w p
  -- on t, or on the side of it on which x is
  pub not_behind : (side t.a t.b p ≡ On) ⊎ (side t.a t.b p ≡ side t.a t.b x)
  -- on the link, or on the other side of it
  pub not_beyond : (side v w p ≡ On) ⊎ (side v w p ≡ opposite (side t.a t.b x))

-- each grid point between t and the link from v to w of its hook at x is on the link
abbrev pub HoldsBetween : GridSegment → GridPoint → GridPoint → GridPoint → Type 0
HoldsBetween t x v w =
    (p : GridPoint) → IsBetweenPieceAndHook t x v w p → IsOn (record { a = v; b = w }) p
