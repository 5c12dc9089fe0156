-- This file shows that parity beside a segment of a realm is one answer along all of it.
use Rattle.std.proofs.Common.{◌≡◌, ◌≢◌, ℕ, ◌+◌, ◌*◌, ◌<◌, ◌≤◌, Bool, true, false, not, ◌&&◌, List, [], ◌∷◌, refl, sym, ap}
use Rattle.std.proofs.Common.{subst, ◌∙◌, arith, inl, inr}
use Rattle.std.specs.Prelude.{Contains}
use Rattle.std.specs.List.{AllByRecursion}
use Rattle.std.proofs.lemmas.Bool.{true≢false, cases_Bool}
use Rattle.grid_base.specs.Point.{IsBefore}
use Rattle.grid_base.specs.Segment.{GridSegment}
use Rattle.grid_base.specs.Places.{RationalPoint, IsPlace}
use Rattle.grid_base.proofs.Orders.{is_segment}
use Rattle.grid_base.specs.Border.{IsEvenBorder}
use Rattle.grid_base.specs.Odd.{is_strictly_above}
use Rattle.grid_base.specs.Plane.{as_place}
use Rattle.grid_base.proofs.Ends.{columns_in_order, not_before_itself}
use Rattle.grid_base.proofs.Orders.{is_segment-itself, is_segment-same}
use Rattle.grid_base.proofs.Turns.{in_order}
use Rattle.side_parity.specs.Middle.{differ}
use Rattle.side_parity.proofs.Each.{all_by, ordered_in}
use Rattle.side_parity.proofs.EvenBorders.{AllHaveEnds}
use Rattle.side_parity.proofs.Inner.{IsStrict}
use Rattle.side_parity.proofs.Itself.{TellsItself, flips, itself_backward, itself_forward}
use Rattle.side_parity.proofs.Parities.{differ-comm, differ-false, differ-self}
use Rattle.side_parity.proofs.Regions.{is_odd, odd_count}
use Rattle.side_parity.proofs.Steps.{IsTold, changes, is_above, unchanged}
use Rattle.side_parity.proofs.Ways.{IsApart}

-- ---- a whole border
pub apart_back : (t : GridSegment) (r q : RationalPoint) → IsApart t r q → IsApart t q r
apart_back t r q far m n l k =
    far n m (omega arith) (subst (IsPlace t) (λ i. record { x = swap m n q.x r.x i; y = swap m n q.y r.y i; w = swap m n q.w r.w i }) k)
  where
    swap : (m n x y : ℕ) → m * x + n * y ≡ n * y + m * x
    swap m n x y = omega arith

-- g: t is s, and q is on the side of s at which a border changes
abbrev pub Flipping : GridSegment → RationalPoint → GridSegment → Bool
Flipping s q t = is_segment s t && flips s q

told_itself : (s t : GridSegment) (q lo hi : RationalPoint) → is_segment s t ≡ true → TellsItself s q lo hi
    → IsTold (Flipping s q) lo hi t
told_itself s t q lo hi e h =
    subst (λ (u : GridSegment). IsTold (Flipping s q) lo hi u) (is_segment-same s t e)
    (h ∙ ap (λ b. differ (differ (is_above lo hi s.a) (is_above lo hi s.b)) (b && flips s q)) (sym (is_segment-itself s)))

told_other : (s t : GridSegment) (q lo hi : RationalPoint) → is_segment s t ≡ false
    → differ (is_strictly_above t (as_place lo)) (is_strictly_above t (as_place hi)) ≡ differ (is_above lo hi t.a) (is_above lo hi t.b)
    → IsTold (Flipping s q) lo hi t
told_other s t q lo hi e h =
    h ∙ sym (differ-false (differ (is_above lo hi t.a) (is_above lo hi t.b)))
    ∙ ap (λ b. differ (differ (is_above lo hi t.a) (is_above lo hi t.b)) (b && flips s q)) (sym e)

pub flipped : (s : GridSegment) (q : RationalPoint) (B : List GridSegment)
    → odd_count (Flipping s q) B ≡ (odd_count (is_segment s) B && flips s q)
flipped s q [] = refl
flipped s q (t ∷ B) = ap (differ (Flipping s q t)) (flipped s q B) ∙ spread (is_segment s t) (odd_count (is_segment s) B) (flips s q)
  where
    spread : (a b c : Bool) → differ (a && c) (b && c) ≡ (differ a b && c)
    spread false b c = refl
    spread true false c = differ-false c
    spread true true c = differ-self c

pub have_ends : (B : List GridSegment) → AllByRecursion (λ t. IsBefore t.a t.b) B → AllHaveEnds B
have_ends [] h = tt
have_ends (t ∷ B) h = (λ e. not_before_itself t.a t.b e h.0, have_ends B h.1)

solve : (a b c : Bool) → differ a b ≡ c → b ≡ differ a c
solve false b c e = e
solve true false c e = ap not e
solve true true c e = ap not e

first_end : (B : List GridSegment) (t : GridSegment) → AllByRecursion (λ u. IsBefore u.a u.b) B → Contains B t
    → t.a.x ≤ t.b.x
first_end B t ordered k =
    columns_in_order t.a t.b (ordered_in B t ordered k)

another : (s t : GridSegment) → is_segment s t ≡ false → s ≢ t
another s t e k = true≢false (sym (is_segment-itself s) ∙ ap (is_segment s) k ∙ e)

-- each segment of the list tells what it should, the way leading from r to the right, or to the left
pub all_forward : (B : List GridSegment) (s : GridSegment) (r q : RationalPoint)
    → AllByRecursion (λ t. IsBefore t.a t.b) B → IsStrict s r → 0 < q.w
    → ((t : GridSegment) → Contains B t → s ≢ t → IsApart t r q) → r.x * q.w ≤ q.x * r.w
    → AllByRecursion (IsTold (Flipping s q) r q) B
all_forward B s r q ordered h wq far o = all_by B _ each
  where
    each : (t : GridSegment) → Contains B t → IsTold (Flipping s q) r q t
    each t k = elim (cases_Bool (is_segment s t)) [
      | inl e ↦ told_itself s t q r q e (itself_forward s r q h o)
      | inr e ↦ told_other s t q r q e (unchanged t r q (far t k (another s t e)) h.real wq o (first_end B t ordered k))
    ]

pub all_backward : (B : List GridSegment) (s : GridSegment) (r q : RationalPoint)
    → AllByRecursion (λ t. IsBefore t.a t.b) B → IsStrict s r → 0 < q.w
    → ((t : GridSegment) → Contains B t → s ≢ t → IsApart t r q) → q.x * r.w ≤ r.x * q.w
    → AllByRecursion (IsTold (Flipping s q) q r) B
all_backward B s r q ordered h wq far o = all_by B _ each
  where
    each : (t : GridSegment) → Contains B t → IsTold (Flipping s q) q r t
    each t k = elim (cases_Bool (is_segment s t)) [
      | inl e ↦ told_itself s t q q r e (itself_backward s r q h wq o)
      | inr e ↦ told_other s t q q r e (unchanged t q r (apart_back t r q (far t k (another s t e))) wq h.real o (first_end B t ordered k))
    ]

-- from a place strictly inside s the parity stays along any way that meets no other segment, but it changes with s
-- where the way leads to the side that flips
pub beside : (B : List GridSegment) (s : GridSegment) (r q : RationalPoint)
    → AllByRecursion (λ t. IsBefore t.a t.b) B → IsEvenBorder B → IsStrict s r → 0 < q.w
    → ((t : GridSegment) → Contains B t → s ≢ t → IsApart t r q)
    → is_odd B (as_place q) ≡ differ (is_odd B (as_place r)) (odd_count (is_segment s) B && flips s q)
beside B s r q ordered even h wq far = elim (in_order (r.x * q.w) (q.x * r.w)) [
  | inl o ↦ solve _ _ _ (changes B (Flipping s q) r q (have_ends B ordered) even (all_forward B s r q ordered h wq far o) ∙ flipped s q B)
  | inr o ↦ solve _ _ _
      (differ-comm (is_odd B (as_place r)) (is_odd B (as_place q))
      ∙ changes B (Flipping s q) q r (have_ends B ordered) even (all_backward B s r q ordered h wq far o)
      ∙ flipped s q B)
]
