-- This file shows that links between points near a steep piece are close to a flat original where the piece is.
use Rattle.std.proofs.Common.{◌≡◌, ◌≢◌, ℕ, ◌+◌, ◌-◌, ◌*◌, ◌<◌, ◌≤◌, refl, ap, zero-le, arith, inl, inr}
use Rattle.grid_base.specs.Point.{GridPoint, point_at, gap, InBox}
use Rattle.grid_base.specs.Segment.{GridSegment, width, height}
use Rattle.grid_base.specs.Places.{IsPlace}
use Rattle.grid_base.proofs.Turns.{times_le, in_order, leftward, rightward}
use Rattle.grid_base.proofs.Signs.{three_ways}
use Rattle.grid_base.proofs.Columns.{placed}
use Rattle.hook_chain.specs.Close.{IsCloseUp}
use Rattle.hook_chain.proofs.Upright.{grid_place, place_a, place_b}
use Rattle.hook_chain.proofs.Exchange.{way, place_back}
use Rattle.chain_laws.proofs.Strips.{Strip, InStrip, RunsAlong, close_in_strip}

-- ---- beside the ends of a close piece
-- g is under o where it is under p, and over o where it is over p
record IsBesideEnd (o : GridSegment) (p g : GridPoint) : Type 0 where
  under : g.y < p.y → leftward o.a o.b g < rightward o.a o.b g
  over : p.y < g.y → rightward o.a o.b g < leftward o.a o.b g

-- this holds in the column of a grid point p of a close piece, since no grid point lies from o to p
beside_end : (o t : GridSegment) (p g : GridPoint) → o.a.x < o.b.x → o.a.x ≤ g.x → g.x ≤ o.b.x → p.x ≡ g.x
    → IsPlace t (grid_place p.x p.y) → IsCloseUp o t → IsBesideEnd o p g
beside_end o t p g wide from to column on close =
    let r = placed o g.x wide from to in
    let sides = r.sides g.y in
    let here : p.x ≡ g.x * 1 = omega arith in
    let not_over : g.y < p.y → rightward o.a o.b g ≤ leftward o.a o.b g → ⊥ =
    λ below over. close g r.place (grid_place p.x p.y) r.is on r.column here (inl (omega arith, omega arith)) in
    let not_under : p.y < g.y → leftward o.a o.b g ≤ rightward o.a o.b g → ⊥ =
    λ above under. close g r.place (grid_place p.x p.y) r.is on r.column here (inr (omega arith, omega arith)) in
    record { under = λ below. omega (arith, not_over below); over = λ above. omega (arith, not_under above) }

-- on a way up that is a diagonal or steeper, the side numbers at a flat segment don't fall
climbing_side : (o : GridSegment) (g h : GridPoint) → o.a.x < o.b.x → height o ≤ width o → g.x ≤ h.x → g.y + h.x ≤ h.y + g.x
    → leftward o.a o.b g + rightward o.a o.b h ≤ leftward o.a o.b h + rightward o.a o.b g
climbing_side o g h wide flat order steep =
    let by_width = times_le o.a.x o.b.x (g.y + h.x) (h.y + g.x) (omega arith) steep in
    let by_slope = times_le (o.b.y + o.a.x) (o.a.y + o.b.x) g.x h.x (omega arith) order in
    omega arith

-- and along such a way down, they don't rise
falling_side : (o : GridSegment) (g h : GridPoint) → o.a.x < o.b.x → height o ≤ width o → g.x ≤ h.x → h.y + h.x ≤ g.y + g.x
    → leftward o.a o.b h + rightward o.a o.b g ≤ leftward o.a o.b g + rightward o.a o.b h
falling_side o g h wide flat order steep =
    let by_width = times_le o.a.x o.b.x (h.y + h.x) (g.y + g.x) (omega arith) steep in
    let by_slope = times_le (o.a.y + o.a.x) (o.b.y + o.b.x) g.x h.x (omega arith) order in
    omega arith

-- ---- the strip of a piece
-- p is in the box of t, and less than a step from its line along the rows
pub record IsReached (t : GridSegment) (p : GridPoint) : Type 0 where
  pub box : InBox t.a t.b p
  pub near : gap (leftward t.a t.b p) (rightward t.a t.b p) < height t

-- o runs along a strip that holds what is near t
record HasStrip (o t : GridSegment) : Type 0 where
  strip : Strip
  runs : RunsAlong o t strip
  holds : (p : GridPoint) → IsReached t p → InStrip strip p

-- near a segment that rises by e more than it is wide are only points of the diagonals from that of its lesser end to that of
-- its greater
pub beside_rising : (t : GridSegment) (p : GridPoint) (e : ℕ) → t.a.x ≤ t.b.x → t.b.y + t.a.x ≡ t.a.y + t.b.x + e
    → InBox t.a t.b p → gap (leftward t.a t.b p) (rightward t.a t.b p) < height t
    → (p.x + t.a.y ≤ p.y + t.a.x) × (p.y + t.a.x ≤ p.x + t.a.y + e)
beside_rising t p e order high box step =
    let high_p = ap (λ (n : ℕ). p.x * n) high in
    let high_a = ap (λ (n : ℕ). t.a.x * n) high in
    let not_over : t.a.y + p.x + e + 1 ≤ p.y + t.a.x → ⊥ = λ over.
    let far = times_le t.a.x t.b.x (t.a.y + p.x + e + 1) (p.y + t.a.x) order over in
    let more = times_le 0 e (p.x + 1) t.b.x zero-le (omega arith) in
    omega arith in
    let not_under : p.y + t.a.x + 1 ≤ t.a.y + p.x → ⊥ = λ under.
    let far = times_le t.a.x t.b.x (p.y + t.a.x + 1) (t.a.y + p.x) order under in
    let more = times_le 0 e (t.a.x + 1) p.x zero-le (omega arith) in
    omega arith in
    (omega (arith, not_under), omega (arith, not_over))

-- and so it is near one that falls by e more than it is wide
pub beside_falling : (t : GridSegment) (p : GridPoint) (e : ℕ) → t.a.x ≤ t.b.x → t.b.y + t.b.x + e ≡ t.a.y + t.a.x
    → InBox t.a t.b p → gap (leftward t.a t.b p) (rightward t.a t.b p) < height t
    → (t.a.x + t.a.y ≤ p.y + p.x + e) × (p.y + p.x ≤ t.a.x + t.a.y)
beside_falling t p e order high box step =
    let high_p = ap (λ (n : ℕ). p.x * n) high in
    let high_a = ap (λ (n : ℕ). t.a.x * n) high in
    let not_over : t.a.y + t.a.x + 1 ≤ p.y + p.x → ⊥ = λ over.
    let far = times_le t.a.x t.b.x (t.a.y + t.a.x + 1) (p.y + p.x) order over in
    let more = times_le 0 e (t.a.x + 1) p.x zero-le (omega arith) in
    omega arith in
    let not_under : p.y + p.x + e + 1 ≤ t.a.y + t.a.x → ⊥ = λ under.
    let far = times_le t.a.x t.b.x (p.y + p.x + e + 1) (t.a.y + t.a.x) order under in
    let more = times_le 0 e (p.x + 1) t.b.x zero-le (omega arith) in
    omega arith in
    (omega (arith, not_under), omega (arith, not_over))

-- A flat original passes over the start of a close piece that rises steeply and under its end, both by less than 1. So the
-- piece rises by one more than it is wide, and the original stays between the two diagonals.
strip_rising : (o t : GridSegment) → o.a.x < o.b.x → height o ≤ width o → width t < height t → t.a.x ≤ t.b.x
    → t.a.y < t.b.y → o.a.x ≤ t.a.x → t.b.x ≤ o.b.x → IsCloseUp o t → HasStrip o t
strip_rising o t wide flat steep order up first last close =
    let over_a = point_at t.a.x (t.a.y + 1) in
    let under_b = point_at t.b.x (t.b.y - 1) in
    let before_b : (t.b.y - 1) + 1 ≡ t.b.y = omega arith in
    let at_a = (beside_end o t t.a over_a wide first (omega arith) refl (place_a t) close).over (omega arith) in
    let at_b = (beside_end o t t.b under_b wide (omega arith) last refl (place_b t) close).under (omega arith) in
    let not_higher : t.a.y + t.b.x + 2 ≤ t.b.y + t.a.x → ⊥ = λ higher.
    let sides = climbing_side o over_a under_b wide flat order (omega arith) in
    omega arith in
    let high : t.b.y + t.a.x ≡ t.a.y + t.b.x + 1 = omega (arith, not_higher) in
    record {
      strip = record { rise = 1; up = t.a.y; fall = 0; down = t.a.x };
      runs = record {
        over_lower = λ g from to under. let sides = climbing_side o g under_b wide flat to (omega arith) in omega arith;
        under_upper = λ g from to over. let sides = climbing_side o over_a g wide flat from (omega arith) in omega arith;
      };
      holds = λ p near.
          let beside = beside_rising t p 1 order high near.box near.near in
          record { not_under = omega (arith, beside.0); not_over = omega (arith, beside.1) };
    }

-- and the same mirrored, where the piece falls steeply
strip_falling : (o t : GridSegment) → o.a.x < o.b.x → height o ≤ width o → width t < height t → t.a.x ≤ t.b.x
    → t.b.y < t.a.y → o.a.x ≤ t.a.x → t.b.x ≤ o.b.x → IsCloseUp o t → HasStrip o t
strip_falling o t wide flat steep order down first last close =
    let under_a = point_at t.a.x (t.a.y - 1) in
    let over_b = point_at t.b.x (t.b.y + 1) in
    let before_a : (t.a.y - 1) + 1 ≡ t.a.y = omega arith in
    let at_a = (beside_end o t t.a under_a wide first (omega arith) refl (place_a t) close).under (omega arith) in
    let at_b = (beside_end o t t.b over_b wide (omega arith) last refl (place_b t) close).over (omega arith) in
    let not_higher : t.b.y + t.b.x + 2 ≤ t.a.y + t.a.x → ⊥ = λ higher.
    let sides = falling_side o under_a over_b wide flat order (omega arith) in
    omega arith in
    let high : t.b.y + t.b.x + 1 ≡ t.a.y + t.a.x = omega (arith, not_higher) in
    record {
      strip = record { rise = 0; up = t.a.x + t.a.y; fall = 1; down = 1 };
      runs = record {
        over_lower = λ g from to under. let sides = falling_side o under_a g wide flat from (omega arith) in omega arith;
        under_upper = λ g from to over. let sides = falling_side o g over_b wide flat to (omega arith) in omega arith;
      };
      holds = λ p near.
          let beside = beside_falling t p 1 order high near.box near.near in
          record { not_under = omega (arith, beside.0); not_over = omega (arith, beside.1) };
    }

-- and so it does whether the piece rises or falls
has_strip : (o t : GridSegment) → o.a.x < o.b.x → height o ≤ width o → width t < height t → t.a.x ≤ t.b.x
    → o.a.x ≤ t.a.x → t.b.x ≤ o.b.x → IsCloseUp o t → HasStrip o t
has_strip o t wide flat steep order first last close = elim (three_ways t.a.y t.b.y) [
  | inl up ↦ strip_rising o t wide flat steep order up first last close
  | inr rest ↦ elim rest [
    | inl level ↦ absurd (omega arith)
    | inr down ↦ strip_falling o t wide flat steep order down first last close
  ]
]

-- ---- links near a steep piece
-- so a link between two points near the piece is close to the original
close_across_sorted : (o t : GridSegment) (v w : GridPoint) → o.a.x < o.b.x → height o ≤ width o → width t < height t
    → t.a.x ≤ t.b.x → o.a.x ≤ t.a.x → t.b.x ≤ o.b.x → IsCloseUp o t → IsReached t v → IsReached t w → IsCloseUp o (way v w)
close_across_sorted o t v w wide flat steep order first last close near_v near_w =
    let has = has_strip o t wide flat steep order first last close in
    close_in_strip o t has.strip v w wide order has.runs near_v.box near_w.box (has.holds v near_v) (has.holds w near_w)

-- also where the ends of the piece are named in the other order
close_across_piece : (o t : GridSegment) (v w : GridPoint) → o.a.x < o.b.x → height o ≤ width o → width t < height t
    → InBox o.a o.b t.a → InBox o.a o.b t.b → IsCloseUp o t → IsReached t v → IsReached t w → IsCloseUp o (way v w)
close_across_piece o t v w wide flat steep box_a box_b close near_v near_w = elim (in_order t.a.x t.b.x) [
  | inl order ↦ close_across_sorted o t v w wide flat steep order (omega arith) (omega arith) close near_v near_w
  | inr back ↦
      close_across_sorted o (way t.b t.a) v w wide flat (omega arith) back (omega arith) (omega arith)
      (λ g r q of_o of_t. close g r q of_o (place_back t.b t.a q of_t))
      (reached_back t v near_v) (reached_back t w near_w)
]
  where
    reached_back : (t : GridSegment) (p : GridPoint) → IsReached t p → IsReached (way t.b t.a) p
    reached_back t p near =
        let step = near.near in
        record { box = omega (arith, near.box); near = omega arith }

-- and also where those of the original are
pub close_across : (o t : GridSegment) (v w : GridPoint) → o.a.x ≢ o.b.x → height o ≤ width o → width t < height t
    → InBox o.a o.b t.a → InBox o.a o.b t.b → IsCloseUp o t → IsReached t v → IsReached t w → IsCloseUp o (way v w)
close_across o t v w slanted flat steep box_a box_b close near_v near_w = elim (three_ways o.a.x o.b.x) [
  | inl wide ↦ close_across_piece o t v w wide flat steep box_a box_b close near_v near_w
  | inr rest ↦ elim rest [
    | inl same ↦ absurd (slanted same)
    | inr back ↦
        let turned = close_across_piece (way o.b o.a) t v w back (omega arith) steep
        (omega (arith, box_a)) (omega (arith, box_b))
        (λ g r q of_o of_t. close g r q (place_back o.b o.a r of_o) of_t) near_v near_w in
        λ g r q of_o of_link. turned g r q (place_back o.a o.b r of_o) of_link
  ]
]
