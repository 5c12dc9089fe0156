-- The words of these proofs: parity as one truth, places inside a segment, and places next to it, in a picture that
-- has no coordinate below 0.
use Rattle.std.specs.Prelude.{◌≡◌, ◌≢◌, ℕ, ◌+◌, ◌*◌, ◌<◌, Bool, false, List, [], ◌∷◌, Contains}
use Rattle.grid_base.specs.Point.{GridPoint}
use Rattle.grid_base.specs.Segment.{GridSegment, IsEnd}
use Rattle.grid_base.specs.Sides.{Side, Left, Right}
use Rattle.grid_base.specs.Places.{RationalPoint, IsPlace, IsAt}
use Rattle.grid_base.specs.Plane.{Place, as_place, side_at}
use Rattle.grid_base.specs.Odd.{is_strictly_above}
use Rattle.side_parity.specs.Middle.{differ}

-- ---- odd numbers of things
-- an odd number of the items of the list have f
abbrev pub odd_count : {A : Type 0} → (A → Bool) → List A → Bool
odd_count f [] = false
odd_count f (x ∷ l) = differ (f x) (odd_count f l)

-- an odd number of the segments of B is strictly above q
abbrev pub is_odd : List GridSegment → Place → Bool
is_odd B q = odd_count (λ s. is_strictly_above s q) B

-- ---- realms
-- two different segments of the list have no place in common but a common end
pub record MeetInEnds (L : List GridSegment) : Type 0 where
  pub only_ends_in_common : (s t : GridSegment) (q : RationalPoint) → Contains L s → Contains L t → s ≢ t
      → IsPlace s q → IsPlace t q → (p : GridPoint) × IsEnd p s × IsEnd p t × IsAt q p

-- ---- the two sides of a segment
-- the place q is inside s: it isn't an end of s
pub record IsInnerPlace (s : GridSegment) (q : RationalPoint) : Type 0 where
  pub place : IsPlace s q
  pub not_a : IsAt q s.a → ⊥
  pub not_b : IsAt q s.b → ⊥

-- the place on the way from r to q that divides it as n to m
abbrev pub mean : ℕ → RationalPoint → ℕ → RationalPoint → RationalPoint
mean m r n q = record { x = m * r.x + n * q.x; y = m * r.y + n * q.y; w = m * r.w + n * q.w }

-- the straight way from r to q, where r doesn't count, has no place of s
abbrev pub IsClearOf : GridSegment → RationalPoint → RationalPoint → Type 0
IsClearOf s r q = (m n : ℕ) → 0 < n → IsPlace s (mean m r n q) → ⊥

-- q is next to s on the side k: a straight way leads from a place inside s to q and meets neither s nor B again
pub record IsNextTo (B : List GridSegment) (s : GridSegment) (k : Side) (q : RationalPoint) : Type 0 where
  pub real : 0 < q.w
  pub side : side_at s (as_place q) ≡ k
  pub from : RationalPoint
  pub inside : IsInnerPlace s from
  pub clear_of_s : IsClearOf s from q
  pub clear : (t : GridSegment) → Contains B t → IsClearOf t from q

-- whether the places next to s on its left, and those on its right, are odd for B
pub record IsSides (B : List GridSegment) (s : GridSegment) (left right : Bool) : Type 0 where
  pub on_left : (q : RationalPoint) → IsNextTo B s Left q → is_odd B (as_place q) ≡ left
  pub on_right : (q : RationalPoint) → IsNextTo B s Right q → is_odd B (as_place q) ≡ right
