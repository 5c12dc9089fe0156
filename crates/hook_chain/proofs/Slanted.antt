-- That the search along a piece that isn't vertical decides whether it is close by columns.
use Rattle.std.proofs.Common.{◌≡◌, ◌⊎◌, ℕ, ◌+◌, ◌*◌, ◌<◌, ◌≤◌, max, ℤ, pos, negsuc, ◌-ℤ◌, ◌≤ℤ◌, unsigned_abs, sym, arith, inl, inr}
use Rattle.std.proofs.lemmas.Int.{ints}
use Rattle.grid_base.specs.Point.{GridPoint, gap}
use Rattle.grid_base.specs.Segment.{GridSegment}
use Rattle.grid_base.specs.Sides.{turn, side_number}
use Rattle.grid_base.proofs.Turns.{leftward, rightward, turn_is}
use Rattle.grid_base.proofs.Signs
use Rattle.hook_chain.specs.Close.{IsCloseUp}
use Rattle.hook_chain.specs.Climbs.{IsRaised, AllSteeperClimb, AllSteeperWithinClimb}
use Rattle.grid_base.proofs.Signs.{natural_order}
use Rattle.hook_chain.proofs.Closes.{close_by_sides, sides_by_close}
use Rattle.hook_chain.proofs.Raised.{IsRaisedPair, IsClear, sides_at, bare_by_clear, clear_by_bare}
use Rattle.hook_chain.proofs.Clear.{IsSpan, clear_by_steeper, clear_by_flatter, near_ends, steeper_by_clear, flatter_by_clear}

-- ---- side numbers as gaps of naturals
-- the size of a difference is the gap
abs_is_gap : (z : ℤ) (l r : ℕ) → z ≡ pos l -ℤ pos r → unsigned_abs z ≡ gap l r
abs_is_gap (pos n) l r is = omega (arith, ints)
abs_is_gap (negsuc n) l r is = omega (arith, ints)

-- the size of a turn is the gap of its two sums
pub turn_gap : (v w p : GridPoint) → unsigned_abs (turn v w p) ≡ gap (leftward v w p) (rightward v w p)
turn_gap v w p = abs_is_gap (turn v w p) (leftward v w p) (rightward v w p) (turn_is v w p)

-- one turn isn't above another where the sums say so
turn_order : (v w p q : GridPoint) → turn v w p ≤ℤ turn v w q
    → leftward v w p + rightward v w q ≤ leftward v w q + rightward v w p
turn_order v w p q below =
    let first = turn_is v w p in
    let second = turn_is v w q in
    omega (arith, ints)

-- ---- a piece and its margin
-- o and p are raised, and the margin is the greater of the sizes of the side numbers of the ends of p
pub record IsMeasured (slant : ℕ) (o p : GridSegment) (dx dy q r margin : ℕ) : Type 0 where
  pub pair : IsRaisedPair slant o p dx dy q r
  pub high : 0 < r
  pub is_margin : margin ≡ max (gap (leftward o.a o.b p.a) (rightward o.a o.b p.a)) (gap (leftward o.a o.b p.b) (rightward o.a o.b p.b))

-- p doesn't fall against o: its greater end isn't farther to the right of o than its lesser
abbrev pub Rises : GridSegment → GridSegment → Type 0
Rises o p = leftward o.a o.b p.a + rightward o.a o.b p.b ≤ leftward o.a o.b p.b + rightward o.a o.b p.a

-- p doesn't rise against o
abbrev pub Falls : GridSegment → GridSegment → Type 0
Falls o p = leftward o.a o.b p.b + rightward o.a o.b p.a ≤ leftward o.a o.b p.a + rightward o.a o.b p.b

-- where the side numbers of the ends are in order, the piece rises, and else it falls
pub rises_by : (o p : GridSegment) → side_number o p.a ≤ℤ side_number o p.b → Rises o p
rises_by o p below = turn_order o.a o.b p.a p.b below

pub falls_by : (o p : GridSegment) → (side_number o p.a ≤ℤ side_number o p.b → ⊥) → Falls o p
falls_by o p not_below = elim (Signs.order (side_number o p.a) (side_number o p.b)) [
  | inl below ↦ absurd (not_below below)
  | inr above ↦ turn_order o.a o.b p.b p.a (omega (arith, ints))
]

-- the margin, by the side numbers
pub measured_by : (slant : ℕ) (o p : GridSegment) (dx dy q r margin : ℕ) → IsRaised slant o dx dy → IsRaised slant p q r → 0 < r
    → (o.a.x ≤ p.a.x) × (p.b.x ≤ o.b.x) → p.a.x < p.b.x
    → margin ≡ max (unsigned_abs (side_number o p.a)) (unsigned_abs (side_number o p.b)) → IsMeasured slant o p dx dy q r margin
measured_by slant o p dx dy q r margin line piece high within slanted is = record {
  pair = record { line = line; piece = piece; wide = omega (arith, piece.across); first = within.0; last = within.1 };
  high = high;
  is_margin = rw (turn_gap o.a o.b p.a, turn_gap o.a o.b p.b) at is;
}

-- the side numbers of the ends of p, which q and r lead from one to the other
measured_span : (slant : ℕ) (o p : GridSegment) (dx dy q r margin : ℕ) → IsMeasured slant o p dx dy q r margin
    → IsSpan dx dy q r (leftward o.a o.b p.a) (rightward o.a o.b p.a) (leftward o.a o.b p.b) (rightward o.a o.b p.b) margin
measured_span slant o p dx dy q r margin m =
    let to_b = sides_at slant o dx dy m.pair.line p.a p.b q r 0 (sym m.pair.piece.across) (omega (arith, m.pair.piece.up)) in
    record {
      ends = omega arith;
      v_within = omega (arith, m.is_margin);
      w_within = omega (arith, m.is_margin);
      wide = m.pair.wide;
      high = m.high;
    }

-- a piece that rises against the line is as steep as it, or steeper
pub rises_forth : (slant : ℕ) (o p : GridSegment) (dx dy q r margin : ℕ) → IsMeasured slant o p dx dy q r margin → Rises o p
    → dy * q ≤ dx * r
rises_forth slant o p dx dy q r margin m rises =
    let span = measured_span slant o p dx dy q r margin m in omega (arith, span.ends)

-- and one that falls against it isn't steeper
pub falls_forth : (slant : ℕ) (o p : GridSegment) (dx dy q r margin : ℕ) → IsMeasured slant o p dx dy q r margin → Falls o p
    → dx * r ≤ dy * q
falls_forth slant o p dx dy q r margin m falls =
    let span = measured_span slant o p dx dy q r margin m in omega (arith, span.ends)

-- ---- from the search to close
close_by_clear : (slant : ℕ) (o p : GridSegment) (dx dy q r margin : ℕ) → IsMeasured slant o p dx dy q r margin
    → IsClear dx dy q r (leftward o.a o.b p.a) (rightward o.a o.b p.a) → IsCloseUp o p
close_by_clear slant o p dx dy q r margin m clear =
    let pair = m.pair in
    close_by_sides o p (omega (arith, pair.wide, pair.first, pair.last, pair.piece.across)) (omega (arith, pair.wide, pair.piece.across))
    (bare_by_clear slant o p dx dy q r pair clear)

-- where all steeper ways climb, the piece is close
pub close_by_steeper : (slant : ℕ) (o p : GridSegment) (dx dy q r margin : ℕ) → IsMeasured slant o p dx dy q r margin
    → margin < dx → AllSteeperClimb dx dy margin q r → IsCloseUp o p
close_by_steeper slant o p dx dy q r margin m below climb =
    close_by_clear slant o p dx dy q r margin m
    (clear_by_steeper dx dy q r _ _ _ _ margin (measured_span slant o p dx dy q r margin m) below climb)

-- where all less steep ways climb, it is too
pub close_by_flatter : (slant : ℕ) (o p : GridSegment) (dx dy q r margin : ℕ) → IsMeasured slant o p dx dy q r margin
    → margin < dx → AllSteeperClimb dy dx margin r q → IsCloseUp o p
close_by_flatter slant o p dx dy q r margin m below climb =
    close_by_clear slant o p dx dy q r margin m
    (clear_by_flatter dx dy q r _ _ _ _ margin (measured_span slant o p dx dy q r margin m) below climb)

-- ---- from close to the search
clear_by_close : (slant : ℕ) (o p : GridSegment) (dx dy q r margin : ℕ) → IsMeasured slant o p dx dy q r margin → IsCloseUp o p
    → IsClear dx dy q r (leftward o.a o.b p.a) (rightward o.a o.b p.a)
clear_by_close slant o p dx dy q r margin m close =
    let pair = m.pair in
    clear_by_bare slant o p dx dy q r pair
    (sides_by_close o p (omega (arith, pair.wide, pair.first, pair.last, pair.piece.across)) (omega (arith, pair.wide, pair.piece.across))
    pair.first pair.last close)

-- a piece with an end a step away isn't close
pub margin_by_close : (slant : ℕ) (o p : GridSegment) (dx dy q r margin : ℕ) → IsMeasured slant o p dx dy q r margin → IsCloseUp o p
    → margin < dx
margin_by_close slant o p dx dy q r margin m close =
    let span = measured_span slant o p dx dy q r margin m in
    let clear = clear_by_close slant o p dx dy q r margin m close in
    let near = near_ends dx dy q r _ _ _ _ margin span clear in
    omega (arith, near.v_near, near.w_near, m.is_margin)

-- where p rises, the end that is as far off as the margin is the greater one on the left, or the lesser one on the right
far_where_rises : (left_v right_v left_w right_w margin : ℕ) → margin ≡ max (gap left_v right_v) (gap left_w right_w)
    → left_v + right_w ≤ left_w + right_v → (left_w ≡ right_w + margin) ⊎ (right_v ≡ left_v + margin)
far_where_rises left_v right_v left_w right_w margin is rises = elim (natural_order (right_w + margin) left_w) [
  | inl left ↦ inl (omega arith)
  | inr right ↦ inr (omega arith)
]

-- all steeper ways climb where a piece that rises is close
pub steeper_by_close : (slant : ℕ) (o p : GridSegment) (dx dy q r margin : ℕ) → IsMeasured slant o p dx dy q r margin → Rises o p
    → IsCloseUp o p → AllSteeperWithinClimb dx dy margin q r
steeper_by_close slant o p dx dy q r margin m rises close =
    steeper_by_clear dx dy q r _ _ _ _ margin (measured_span slant o p dx dy q r margin m)
    (far_where_rises _ _ _ _ margin m.is_margin rises) (clear_by_close slant o p dx dy q r margin m close)

-- and all less steep ones where a piece that falls is close
pub flatter_by_close : (slant : ℕ) (o p : GridSegment) (dx dy q r margin : ℕ) → IsMeasured slant o p dx dy q r margin → Falls o p
    → IsCloseUp o p → AllSteeperWithinClimb dy dx margin r q
flatter_by_close slant o p dx dy q r margin m falls close =
    flatter_by_clear dx dy q r _ _ _ _ margin (measured_span slant o p dx dy q r margin m)
    (far_where_rises (leftward o.a o.b p.b) (rightward o.a o.b p.b) (leftward o.a o.b p.a) (rightward o.a o.b p.a) margin
    (omega (arith, m.is_margin)) falls) (clear_by_close slant o p dx dy q r margin m close)
