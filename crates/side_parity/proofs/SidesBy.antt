-- The sides of a segment, by the parity of any one place strictly inside it.
use Rattle.std.proofs.Common.{◌≡◌, ℕ, ◌*◌, ◌<◌, ◌≤◌, false, not, ◌&&◌, ltb, List, ◌∷◌, sym, ap, ◌∙◌, arith, inl, inr}
use Rattle.std.specs.List.{AllByRecursion}
use Rattle.std.proofs.lemmas.Bool.{lt-ltb, le-ltb, le-leb, lt-leb}
use Rattle.grid_base.specs.Segment.{GridSegment}
use Rattle.grid_base.specs.Point.{IsBefore}
use Rattle.grid_base.specs.Sides.{Side, Left, Right}
use Rattle.grid_base.specs.Places.{RationalPoint}
use Rattle.grid_base.proofs.Turns.{times_le}
use Rattle.grid_base.proofs.Orders.{is_segment}
use Rattle.std.proofs.Math.Bool.{and-false}
use Rattle.grid_base.specs.Border.{IsEvenBorder}
use Rattle.grid_base.specs.Plane.{as_place, side_at}
use Rattle.grid_base.proofs.Elements.{Contains-here, Contains-later}
use Rattle.side_parity.specs.Middle.{differ}
use Rattle.side_parity.proofs.Beside.{beside}
use Rattle.side_parity.proofs.Inner.{IsStrict, apart_along, apart_off, strict_of}
use Rattle.side_parity.proofs.Itself.{flips, flips_flat, flips_upright}
use Rattle.side_parity.proofs.Numbers.{left_sum, right_sum, wider}
use Rattle.side_parity.proofs.Parities.{differ-false}
use Rattle.side_parity.proofs.Regions.{IsNextTo, IsSides, MeetInEnds, is_odd, odd_count}

-- the border and s are segments of a realm, each with its lesser end first, and the border is even
pub record IsSound (B : List GridSegment) (s : GridSegment) : Type 0 where
  pub realm : MeetInEnds (s ∷ B)
  pub ordered : AllByRecursion (λ t. IsBefore t.a t.b) B
  pub first : IsBefore s.a s.b
  pub even : IsEvenBorder B

-- ---- which side flips
no_flip : (s : GridSegment) (r : RationalPoint) → IsStrict s r → flips s r ≡ false
no_flip s r h = elim h.between [
  | inl b ↦ flips_flat s r (wider s.a.x s.b.x r.w r.x (omega arith) b.1) ∙ le-ltb _ _ (let e = h.line in omega arith)
  | inr b ↦ flips_upright s r b.0 ∙ ap not (le-leb _ _ (omega arith))
]

left_flip : (s : GridSegment) (q : RationalPoint) → IsBefore s.a s.b → side_at s (as_place q) ≡ Left
    → flips s q ≡ not (ltb s.a.x s.b.x)
left_flip s q (inl h) e = let o = left_sum s q e in flips_flat s q h ∙ le-ltb _ _ (omega arith) ∙ ap not (sym (lt-ltb _ _ h))
left_flip s q (inr h) e =
    let o = left_sum s q e in
    let h1 = ap (λ (k : ℕ). k * q.y) h.0 in
    let h2 = ap (λ (k : ℕ). k * (s.a.y * q.w)) h.0 in
    let under : s.a.x * q.w ≤ q.x → ⊥ = λ l. (let p1 = times_le s.a.y s.b.y (s.a.x * q.w) q.x (omega arith) l in omega arith) in
    flips_upright s q h.0 ∙ ap not (lt-leb _ _ (omega (arith, under))) ∙ ap not (sym (le-ltb _ _ (omega arith)))

right_flip : (s : GridSegment) (q : RationalPoint) → IsBefore s.a s.b → side_at s (as_place q) ≡ Right
    → flips s q ≡ ltb s.a.x s.b.x
right_flip s q (inl h) e = flips_flat s q h ∙ lt-ltb _ _ (right_sum s q e) ∙ sym (lt-ltb _ _ h)
right_flip s q (inr h) e =
    let o = right_sum s q e in
    let h1 = ap (λ (k : ℕ). k * q.y) h.0 in
    let h2 = ap (λ (k : ℕ). k * (s.a.y * q.w)) h.0 in
    let over : q.x < s.a.x * q.w → ⊥ = λ l. (let p1 = times_le s.a.y s.b.y q.x (s.a.x * q.w) (omega arith) (omega arith) in omega arith) in
    flips_upright s q h.0 ∙ ap not (le-leb _ _ (omega (arith, over))) ∙ sym (le-ltb _ _ (omega arith))

-- ---- one parity all along s
pub same_inside : (B : List GridSegment) (s : GridSegment) (r q : RationalPoint) → IsSound B s → IsStrict s r
    → IsStrict s q → is_odd B (as_place q) ≡ is_odd B (as_place r)
same_inside B s r q sound h k =
    beside B s r q sound.ordered sound.even h k.real
    (λ t c o. apart_along (s ∷ B) s t r q sound.realm (Contains-here s B) (Contains-later s B t c) o h k)
    ∙ ap (λ b. differ (is_odd B (as_place r)) (odd_count (is_segment s) B && b)) (no_flip s q k)
    ∙ ap (differ (is_odd B (as_place r))) (and-false (odd_count (is_segment s) B)) ∙ differ-false (is_odd B (as_place r))

-- the parity of a place next to s, by that of any place strictly inside s
next_to : (B : List GridSegment) (s : GridSegment) (k : Side) (m q : RationalPoint) → IsSound B s → IsStrict s m
    → IsNextTo B s k q
    → is_odd B (as_place q) ≡ differ (is_odd B (as_place m)) (odd_count (is_segment s) B && flips s q)
next_to B s k m q sound h n =
    let r = strict_of s n.from sound.first n.inside in
    beside B s n.from q sound.ordered sound.even r n.real
    (λ t c o. apart_off (s ∷ B) s t n.from q sound.realm (Contains-here s B) (Contains-later s B t c) o r (n.clear t c))
    ∙ ap (λ b. differ b (odd_count (is_segment s) B && flips s q)) (same_inside B s m n.from sound h r)

-- the sides: the parity at m, changed on the right where s is in the border an odd number of times, or on the left where s is vertical
pub sides_by : (B : List GridSegment) (s : GridSegment) (m : RationalPoint) → IsSound B s → IsStrict s m
    → IsSides B s (differ (is_odd B (as_place m)) (odd_count (is_segment s) B && not (ltb s.a.x s.b.x)))
    (differ (is_odd B (as_place m)) (odd_count (is_segment s) B && ltb s.a.x s.b.x))
sides_by B s m sound h = record {
  on_left =
      λ q n. next_to B s Left m q sound h n
      ∙ ap (λ b. differ (is_odd B (as_place m)) (odd_count (is_segment s) B && b)) (left_flip s q sound.first n.side);
  on_right =
      λ q n. next_to B s Right m q sound h n
      ∙ ap (λ b. differ (is_odd B (as_place m)) (odd_count (is_segment s) B && b)) (right_flip s q sound.first n.side);
}
