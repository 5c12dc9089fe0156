-- This file shows that a chain which passes no grid point counts, at each grid point off it, as the straight way.
use Rattle.std.proofs.Common.{◌⊎◌, false, not, List, [], ◌∷◌, map, refl, arith, inl, inr}
use Rattle.std.proofs.lemmas.Bool.{leb-true, leb-false}
use Rattle.grid_base.specs.Point.{GridPoint, IsFromTo}
use Rattle.grid_base.specs.Segment.{GridSegment, exchanged_point}
use Rattle.grid_base.specs.Places.{IsPlace}
use Rattle.grid_base.specs.SideOf.{Lie, Above, At, Below, SideUp, IsChainPlace, as_rational, SideOfUp}
use Rattle.hook_chain.specs.Chains.{AllLinks}
use Rattle.hook_chain.proofs.Exchange.{way}
use Rattle.side_parity.proofs.Numbers.{line_by}
use Rattle.unswept_regions.proofs.Turning.{last_from, straight_from, IsKeptBack}
use Rattle.unswept_regions.proofs.LinkTests.{IsRising, IsFalling, is_right_of, is_left_of, is_under, is_above_row, CountsAsStraight}
use Rattle.unswept_regions.proofs.LinkTests.{flat_as_straight, rising_as_straight, falling_as_straight}
use Rattle.unswept_regions.proofs.Lies.{is_below, IsApart, some_lie, turned_lie, in_rows, right_by, rising_by, falling_by}
use Rattle.unswept_regions.proofs.TurningChains.{LiesUp, IsOnward, IsUpward, IsDownward, not_true, not_false}
use Rattle.unswept_regions.proofs.TurningChains.{back_onward, back_upward, back_downward}
use Rattle.unswept_regions.proofs.TurningChains.{turning_columns, turning_rows_up, turning_rows_down}
use Rattle.unswept_regions.proofs.TurningChains.{turns_or_not, still_turn, still_chain}

-- p is on no link
abbrev pub IsOff : GridPoint → List GridPoint → Type 0
IsOff p chain = IsChainPlace chain (as_rational p) → ⊥

-- where p is in a column of o, it is on the chain, or lies to the chain as to o
abbrev pub IsUnsweptUp : GridSegment → List GridPoint → GridPoint → Type 0
IsUnsweptUp o chain p = (lie : Lie) → IsFromTo o.a.x o.b.x p.x → SideUp o p lie
    → SideOfUp chain p At ⊎ SideOfUp chain p lie

-- off the chain, p is on one side of each of its places
sides_kept : (chain : List GridPoint) (p : GridPoint) (lie : Lie) → IsOff p chain
    → SideOfUp chain p At ⊎ SideOfUp chain p lie → IsApart lie × LiesUp chain p lie
sides_kept chain p lie off (inl on) = absurd (off on)
sides_kept chain p Above off (inr side) = (inl refl, side)
sides_kept chain p At off (inr on) = absurd (off on)
sides_kept chain p Below off (inr side) = (inr refl, side)

pub all_links : (P Q : GridPoint → GridPoint → Type 0) → ((v w : GridPoint) → P v w → Q v w) → (v : GridPoint) (chain : List GridPoint)
    → AllLinks P (v ∷ chain) → AllLinks Q (v ∷ chain)
all_links P Q by v [] h = tt
all_links P Q by v (w ∷ chain) h = (by v w h.0, all_links P Q by w chain h.1)

-- ---- flat
pub flat_counts : (p v : GridPoint) (chain : List GridPoint) → AllLinks IsOnward (v ∷ chain) → IsOff p (v ∷ chain)
    → IsUnsweptUp (straight_from v chain) (v ∷ chain) p → CountsAsStraight p v chain
flat_counts p v chain onward off unswept = elim (turns_or_not (is_left_of p) v last) [
  | inr still ↦ flat_as_straight p false v chain
      (still_chain (is_left_of p) (is_right_of p) false v chain
      (all_links IsOnward (IsKeptBack (is_left_of p)) (back_onward p) v chain onward) still)
      (still_turn (is_left_of p) (is_right_of p) false v last still)
  | inl turns ↦
      let from = leb-true _ _ turns.0 in
      let to = leb-false _ _ turns.1 in
      let lie = some_lie (way v last) p (omega arith) in
      let (apart, lies) = sides_kept (v ∷ chain) p lie.0 off (unswept lie.0 (omega arith, omega arith) lie.1) in
      flat_as_straight p (is_below lie.0) v chain (turning_columns p v chain lie.0 apart onward lies)
      (λ e f. right_by (way v last) p lie.0 (omega arith) from (omega arith) apart lie.1)
]
  where
    last : GridPoint
    last = last_from v chain

-- ---- steep and rising
-- off a link that rises, p isn't on its line within its box
rising_off : (p v w : GridPoint) → IsUpward v w → (IsPlace (way v w) (as_rational p) → ⊥) → IsRising p v w
rising_off p v w upward off = record {
  right = upward.0;
  up = upward.1;
  off = λ e a b c d. off (record {
    real = omega arith;
    line = line_by (way v w) (as_rational p) (omega arith);
    across = (omega arith, omega arith);
    up = (omega arith, omega arith);
  });
}

all_rising : (p v : GridPoint) (chain : List GridPoint) → AllLinks IsUpward (v ∷ chain) → IsOff p (v ∷ chain)
    → AllLinks (IsRising p) (v ∷ chain)
all_rising p v [] upward off = tt
all_rising p v (w ∷ chain) upward off =
    (rising_off p v w upward.0 (λ place. off (inl place)), all_rising p w chain upward.1 (λ place. off (inr place)))

last_up : (v : GridPoint) (chain : List GridPoint) → AllLinks IsUpward (v ∷ chain) → IsUpward v (last_from v chain)
last_up v [] upward = (omega arith, omega arith)
last_up v (w ∷ chain) upward =
    let rest = last_up w chain upward.1 in
    (omega (arith, upward.0.0, rest.0), omega (arith, upward.0.1, rest.1))

pub rising_counts : (p v : GridPoint) (chain : List GridPoint) → AllLinks IsUpward (v ∷ chain) → IsOff p (v ∷ chain)
    → (IsPlace (straight_from v chain) (as_rational p) → ⊥) → IsOff (exchanged_point p) (map exchanged_point (v ∷ chain))
    → IsUnsweptUp (in_rows v (last_from v chain)) (map exchanged_point (v ∷ chain)) (exchanged_point p)
    → CountsAsStraight p v chain
rising_counts p v chain upward off off_straight off_rows unswept = elim (turns_or_not (is_under p) v last) [
  | inr still ↦ rising_as_straight p false v chain (all_rising p v chain upward off) straight
      (still_chain (is_under p) (is_right_of p) false v chain
      (all_links IsUpward (IsKeptBack (is_under p)) (back_upward p) v chain upward) still)
      (still_turn (is_under p) (is_right_of p) false v last still)
  | inl turns ↦
      let from = leb-true _ _ turns.0 in
      let to = leb-false _ _ turns.1 in
      let lie = some_lie (in_rows v last) (exchanged_point p) (omega arith) in
      let (apart, lies) = sides_kept rows (exchanged_point p) lie.0 off_rows (unswept lie.0 (omega arith, omega arith) lie.1) in
      rising_as_straight p (not (is_below lie.0)) v chain (all_rising p v chain upward off) straight
      (turning_rows_up p v chain lie.0 apart upward lies)
      (λ e f. rising_by p v last lie.0 (omega arith) from (omega arith) apart lie.1)
]
  where
    last : GridPoint
    last = last_from v chain

    rows : List GridPoint
    rows = map exchanged_point (v ∷ chain)

    straight : IsRising p v last
    straight = rising_off p v last (last_up v chain upward) off_straight

-- ---- steep and falling
last_down : (v : GridPoint) (chain : List GridPoint) → AllLinks IsDownward (v ∷ chain) → IsDownward v (last_from v chain)
last_down v [] downward = (omega arith, omega arith)
last_down v (w ∷ chain) downward =
    let rest = last_down w chain downward.1 in
    (omega (arith, downward.0.0, rest.0), omega (arith, downward.0.1, rest.1))

falls : (v w : GridPoint) → IsDownward v w → IsFalling v w
falls v w downward = record { right = downward.0; down = downward.1 }

pub falling_counts : (p v : GridPoint) (chain : List GridPoint) → AllLinks IsDownward (v ∷ chain)
    → IsOff (exchanged_point p) (map exchanged_point (v ∷ chain))
    → IsUnsweptUp (in_rows v (last_from v chain)) (map exchanged_point (v ∷ chain)) (exchanged_point p)
    → CountsAsStraight p v chain
falling_counts p v chain downward off_rows unswept = elim (turns_or_not (is_above_row p) v last) [
  | inr still ↦ falling_as_straight p false v chain falling straight
      (still_chain (is_above_row p) (is_right_of p) false v chain
      (all_links IsDownward (IsKeptBack (is_above_row p)) (back_downward p) v chain downward) still)
      (still_turn (is_above_row p) (is_right_of p) false v last still)
  | inl turns ↦
      let to = leb-false _ _ (not_true _ turns.0) in
      let from = leb-true _ _ (not_false _ turns.1) in
      let back = some_lie (in_rows last v) (exchanged_point p) (omega arith) in
      let lie = turned_lie (exchanged_point v) (exchanged_point last) (exchanged_point p) back.0 back.1 in
      let (apart, lies) = sides_kept rows (exchanged_point p) back.0 off_rows (unswept back.0 (omega arith, omega arith) lie) in
      falling_as_straight p (is_below back.0) v chain falling straight
      (turning_rows_down p v chain back.0 apart downward lies)
      (λ e f. falling_by p v last back.0 (omega arith) from (omega arith) apart lie)
]
  where
    last : GridPoint
    last = last_from v chain

    rows : List GridPoint
    rows = map exchanged_point (v ∷ chain)

    falling : AllLinks IsFalling (v ∷ chain)
    falling = all_links IsDownward IsFalling falls v chain downward

    straight : IsFalling v last
    straight = falls v last (last_down v chain downward)
