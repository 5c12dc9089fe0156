-- This file shows that a chain stays valid where a falling diagonal is drawn round the lower left corner of a cell, and
-- that a piece cut at a point on it is a hook.
use Rattle.std.proofs.Common.{◌≡◌, ◌≢◌, ◌+◌, ◌<◌, ◌≤◌, Bool, true, false, IsTrue, if◌then◌else◌, List, [], ◌∷◌, ◌++◌}
use Rattle.std.proofs.Common.{refl, ap, sym, arith, inl, inr}
use Rattle.grid_base.specs.Point.{GridPoint, point_at, IsBefore, is_point}
use Rattle.grid_base.specs.Segment.{GridSegment, is_diagonal}
use Rattle.grid_base.specs.Crossing.{IsOn}
use Rattle.grid_base.proofs.Orders.{is_point-same}
use Rattle.segment_envelope.proofs.Diagonals.{IsFalling}
use Rattle.hook_chain.specs.Close.{Close}
use Rattle.hook_chain.specs.Hook.{Hook}
use Rattle.hook_chain.specs.Redrawing.{redrawn, round_corner, cut_at}
use Rattle.hook_chain.specs.ValidChain.{IsMonotone, ValidChain}
use Rattle.hook_chain.proofs.CloseParts.{part_close}
use Rattle.hook_chain.proofs.HookLaw.{a_is_on, b_is_on}
use Rattle.chain_laws.proofs.ChainJoins.{GoesOn, join_ways}
use Rattle.chain_laws.proofs.Replacements.{Serves, Replaces, replaced_valid}
use Rattle.chain_laws.proofs.CrossedCells.{upper_left, lower_right, falling_by}
use Rattle.chain_laws.proofs.Stretches.{apart_by_test}

-- ---- the way round the corner
-- what a falling diagonal passes in a chain goes down there, as the whole chain does
falls_on : (o u : GridSegment) (v w : GridPoint) → IsFalling u → IsMonotone o.a o.b u.a u.b → v ≢ w → v.x ≤ w.x
    → w.y ≤ v.y → IsMonotone o.a o.b v w
falls_on o u v w falling whole apart across down =
    (apart, across, λ up. let no = whole.2 up in absurd (omega (arith, falling.down)), λ so. down)

-- the falling diagonal u passes both corners between which z lies
pub record PassesCorner (u : GridSegment) (z : GridPoint) : Type 0 where
  pub falling : IsFalling u
  pub first : IsOn u (upper_left z)
  pub last : IsOn u (lower_right z)

-- the ends are on a segment
a_on : (s : GridSegment) → IsOn s s.a
a_on s = record { line = a_is_on s.a s.b s.a refl; box = ((omega arith, omega arith), (omega arith, omega arith)) }

b_on : (s : GridSegment) → IsOn s s.b
b_on s = record { line = b_is_on s.a s.b s.b refl; box = ((omega arith, omega arith), (omega arith, omega arith)) }

-- from the lesser end to the upper left corner, which may be one
to_first : (o u : GridSegment) (z : GridPoint) (at_a : Bool) → is_point u.a (upper_left z) ≡ at_a → PassesCorner u z
    → IsMonotone o.a o.b u.a u.b → Close o u
    → GoesOn o u.a (upper_left z) ((if at_a then [] else u.a ∷ []) ++ upper_left z ∷ [])
to_first o u z true is passes monotone close =
    record { leads = (sym (is_point-same u.a (upper_left z) is), refl); monotone = tt; close = tt }
to_first o u z false is passes monotone close =
    let apart = apart_by_test u.a (upper_left z) is in
    let box = passes.first.box in
    let down = passes.falling.down in
    record {
      leads = (refl, (refl, refl));
      monotone = (falls_on o u u.a (upper_left z) passes.falling monotone apart (omega arith) (omega arith), tt);
      close = part_close o u u.a (upper_left z) (a_on u) passes.first apart close;
    }

-- from the lower right corner to the greater end, which may be one
from_last : (o u : GridSegment) (z : GridPoint) (at_b : Bool) → is_point u.b (lower_right z) ≡ at_b → PassesCorner u z
    → IsMonotone o.a o.b u.a u.b → Close o u
    → GoesOn o (lower_right z) u.b (lower_right z ∷ (if at_b then [] else u.b ∷ []))
from_last o u z true is passes monotone close =
    record { leads = (refl, sym (is_point-same u.b (lower_right z) is)); monotone = tt; close = tt }
from_last o u z false is passes monotone close =
    let apart : lower_right z ≢ u.b = λ same. apart_by_test u.b (lower_right z) is (sym same) in
    let box = passes.last.box in
    let across = passes.falling.across in
    let down = passes.falling.down in
    record {
      leads = (refl, (refl, refl));
      monotone = (falls_on o u (lower_right z) u.b passes.falling monotone apart (omega arith) (omega arith), tt);
      close = part_close o u (lower_right z) u.b passes.last (b_on u) apart close;
    }

-- two points in different rows or columns
other_row : (p q : GridPoint) → p.y ≢ q.y → p ≢ q
other_row p q rows same = rows (ap (λ (r : GridPoint). r.y) same)

other_column : (p q : GridPoint) → p.x ≢ q.x → p ≢ q
other_column p q columns same = columns (ap (λ (r : GridPoint). r.x) same)

-- round the corner itself, whose diagonal is a part of u
round : (o u : GridSegment) (z : GridPoint) → PassesCorner u z → IsMonotone o.a o.b u.a u.b → Close o u
    → GoesOn o (upper_left z) (lower_right z) (upper_left z ∷ z ∷ lower_right z ∷ [])
round o u z passes monotone close =
    let first = upper_left z in
    let last = lower_right z in
    let diagonal = part_close o u first last passes.first passes.last (other_row first last (omega arith)) close in
    record {
      leads = (refl, (refl, (refl, refl)));
      monotone = (
        falls_on o u first z passes.falling monotone (other_row first z (omega arith)) (omega arith) (omega arith),
        (falls_on o u z last passes.falling monotone (other_column z last (omega arith)) (omega arith) (omega arith), tt),
      );
      close = inr (record { down = (refl, refl); right = (refl, refl); diagonal = diagonal }, tt);
    }

-- the three together, where no point is named twice
goes_round : (o u : GridSegment) (z : GridPoint) → PassesCorner u z → Serves o u.a u.b (round_corner u z)
goes_round o u z passes inside close = by_tests (is_point u.a first) (is_point u.b last) refl refl
  where
    first : GridPoint
    first = upper_left z

    last : GridPoint
    last = lower_right z

    from_corner : (at_b : Bool) → is_point u.b last ≡ at_b
        → GoesOn o first u.b (first ∷ z ∷ last ∷ (if at_b then [] else u.b ∷ []))
    from_corner at_b is =
        join_ways o first last u.b (first ∷ z ∷ last ∷ []) (last ∷ (if at_b then [] else u.b ∷ []))
        (round o u z passes inside.monotone close) (from_last o u z at_b is passes inside.monotone close)

    by_tests : (at_a at_b : Bool) → is_point u.a first ≡ at_a → is_point u.b last ≡ at_b
        → GoesOn o u.a u.b ((if at_a then [] else u.a ∷ []) ++ first ∷ z ∷ last ∷ [] ++ (if at_b then [] else u.b ∷ []))
    by_tests true at_b is_a is_b =
        join_ways o u.a first u.b (first ∷ []) (first ∷ z ∷ last ∷ (if at_b then [] else u.b ∷ []))
        (to_first o u z true is_a passes inside.monotone close) (from_corner at_b is_b)
    by_tests false at_b is_a is_b =
        join_ways o u.a first u.b (u.a ∷ first ∷ []) (first ∷ z ∷ last ∷ (if at_b then [] else u.b ∷ []))
        (to_first o u z false is_a passes inside.monotone close) (from_corner at_b is_b)

-- a diagonal isn't passed back, since x rises, and isn't a level or an upright link of length 1
corner_replaces : (o u : GridSegment) (z : GridPoint) → PassesCorner u z → Replaces o u (round_corner u z)
corner_replaces o u z passes =
    let across = passes.falling.across in
    let down = passes.falling.down in
    record {
      forth = goes_round o u z passes;
      back = λ inside close. let no = inside.monotone.1 in absurd (omega arith);
      unit = λ unit. absurd (elim unit [ inl upright ↦ omega arith | inr level ↦ omega arith ]);
    }

-- a chain stays valid where a falling diagonal is drawn round the corner of a cell
pub cornered_valid : (o u : GridSegment) (z : GridPoint) (chain : List GridPoint) → IsBefore u.a u.b
    → IsTrue (is_diagonal u) → u.b.y < u.a.y → IsOn u (point_at z.x (z.y + 1)) → IsOn u (point_at (z.x + 1) z.y)
    → ValidChain o chain → ValidChain o (redrawn u (round_corner u z) chain)
cornered_valid o u z chain ordered diagonal down first last valid =
    let passes : PassesCorner u z = record { falling = falling_by u ordered diagonal down; first = first; last = last } in
    replaced_valid o u (round_corner u z) chain ordered (corner_replaces o u z passes) valid

-- ---- the cut
-- the cut at a point of t other than its greater end is the hook there
pub cut_is_hook : (t : GridSegment) (z : GridPoint) → IsOn t z → z ≢ t.b → Hook t z (cut_at t z)
cut_is_hook t z on not_b = by_test (is_point t.a z) refl
  where
    by_test : (at_a : Bool) → is_point t.a z ≡ at_a → Hook t z (if at_a then t.a ∷ t.b ∷ [] else t.a ∷ z ∷ t.b ∷ [])
    by_test true is = inl (sym (is_point-same t.a z is), refl)
    by_test false is = inr (inr (inl (λ same. apart_by_test t.a z is (sym same), not_b, on, refl)))
