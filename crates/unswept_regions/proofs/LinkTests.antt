-- This file shows that beside a grid point a rising link, and a falling one, tests in rows as it does in columns, but for how
-- its ends lie to a quadrant of the point.
use Rattle.std.proofs.Common.{◌≡◌, ◌<◌, ◌≤◌, Bool, true, false, not, ◌&&◌, leb, ltb, List, [], ◌∷◌, refl, sym, ◌∙◌, arith, inl, inr}
use Rattle.std.proofs.lemmas.Bool.{cases_lt, le-leb, lt-ltb, le-ltb, leb-true, leb-false, true≢false}
use Rattle.grid_base.specs.Point.{GridPoint}
use Rattle.grid_base.specs.Segment.{GridSegment}
use Rattle.grid_base.proofs.Turns.{leftward, rightward, times, times_le}
use Rattle.hook_chain.specs.Chains.{AllLinks}
use Rattle.hook_chain.proofs.Exchange.{way}
use Rattle.side_parity.specs.Middle.{differ}
use Rattle.side_parity.proofs.Regions.{odd_count}
use Rattle.side_parity.proofs.Parities.{differ-false, differ-self}
use Rattle.unswept_regions.proofs.Turning.{links_from, last_from, straight_from, crosses_with, IsTurning, TurnsAs, as_straight}
use Rattle.unswept_regions.proofs.Turning.{DifferAs, by_other_test}

-- ---- a grid point beside a link
-- p is strictly on the right
abbrev pub is_right_of : GridPoint → GridSegment → Bool
is_right_of p t = ltb (leftward t.a t.b p) (rightward t.a t.b p)

-- the column of v is that of p or left of it
abbrev pub is_left_of : GridPoint → GridPoint → Bool
is_left_of p v = leb v.x p.x

-- the row of v is that of p or under it
abbrev pub is_under : GridPoint → GridPoint → Bool
is_under p v = leb v.y p.y

-- the row of v is above that of p
abbrev pub is_above_row : GridPoint → GridPoint → Bool
is_above_row p v = not (is_under p v)

-- t is strictly above p
abbrev pub is_over_point : GridPoint → GridSegment → Bool
is_over_point p t = crosses_with (is_left_of p) (is_right_of p) t

-- as many links as the straight way, up to an even number, are strictly above p
abbrev pub CountsAsStraight : GridPoint → GridPoint → List GridPoint → Type 0
CountsAsStraight p v chain = odd_count (is_over_point p) (links_from v chain) ≡ is_over_point p (straight_from v chain)

-- ---- rising links: x and y never fall
pub record IsRising (p v w : GridPoint) : Type 0 where
  pub right : v.x ≤ w.x
  pub up : v.y ≤ w.y
  pub off : leftward v w p ≡ rightward v w p → v.x ≤ p.x → p.x ≤ w.x → v.y ≤ p.y → p.y ≤ w.y → ⊥

-- left of p and above it
abbrev is_upper_left : GridPoint → GridPoint → Bool
is_upper_left p v = is_left_of p v && not (is_under p v)

rising_above : (p v w : GridPoint) → v.y ≤ w.y → v.x ≤ p.x → p.x < w.x → p.y < v.y
    → leftward v w p < rightward v w p
rising_above p v w up from to above =
    let one = times v.x w.x p.y v.y (omega arith) above in
    let two = times_le v.y w.y v.x p.x up from in
    omega arith

rising_below : (p v w : GridPoint) → v.y ≤ w.y → v.x ≤ p.x → p.x < w.x → w.y ≤ p.y
    → rightward v w p ≤ leftward v w p
rising_below p v w up from to below =
    let one = times_le v.x w.x w.y p.y (omega arith) below in
    let two = times_le v.y w.y p.x w.x up (omega arith) in
    omega arith

rising_left : (p v w : GridPoint) → IsRising p v w → v.y ≤ p.y → p.y < w.y → w.x ≤ p.x
    → leftward v w p < rightward v w p
rising_left p v w h from to left =
    let right = h.right in
    let one = times_le v.x w.x p.y w.y right (omega arith) in
    let two = times_le v.y w.y w.x p.x (omega arith) left in
    let not_on : leftward v w p ≡ rightward v w p → ⊥ = λ e. on_it e in
    omega (arith, not_on)
  where
    -- only a vertical link has p's column at its end and p on its line
    on_it : leftward v w p ≡ rightward v w p → ⊥
    on_it e = elim (cases_lt w.x p.x) [
      | inl past ↦
          let right = h.right in
          let one = times_le v.x w.x p.y w.y right (omega arith) in
          let two = times v.y w.y w.x p.x (omega arith) past in
          omega arith
      | inr at ↦ h.off e (let right = h.right in omega arith) (omega arith) from (omega arith)
    ]

rising_right : (p v w : GridPoint) → v.x ≤ w.x → v.y ≤ p.y → p.y < w.y → p.x < v.x
    → rightward v w p ≤ leftward v w p
rising_right p v w right from to past =
    let one = times_le v.x w.x v.y p.y right from in
    let two = times_le v.y w.y p.x v.x (omega arith) (omega arith) in
    omega arith

-- the four tests of a rising link
rising_bits : (xv xw yv yw r : Bool) → (xw ≡ true → xv ≡ true) → (yw ≡ true → yv ≡ true)
    → (xv ≡ true → xw ≡ false → yv ≡ false → r ≡ true) → (xv ≡ true → xw ≡ false → yw ≡ true → r ≡ false)
    → (yv ≡ true → yw ≡ false → xw ≡ true → r ≡ true) → (yv ≡ true → yw ≡ false → xv ≡ false → r ≡ false)
    → differ (xv && (not xw && r)) (yv && (not yw && r)) ≡ differ (xv && not yv) (xw && not yw)
rising_bits true true true true r h k a b c d = refl
rising_bits true true true false r h k a b c d = c refl refl refl
rising_bits true true false true r h k a b c d = absurd (true≢false (sym (k refl)))
rising_bits true true false false r h k a b c d = refl
rising_bits true false true true r h k a b c d = differ-false r ∙ b refl refl refl
rising_bits true false true false r h k a b c d = differ-self r
rising_bits true false false true r h k a b c d = absurd (true≢false (sym (k refl)))
rising_bits true false false false r h k a b c d = differ-false r ∙ a refl refl refl
rising_bits false true yv yw r h k a b c d = absurd (true≢false (sym (h refl)))
rising_bits false false true true r h k a b c d = refl
rising_bits false false true false r h k a b c d = d refl refl refl
rising_bits false false false true r h k a b c d = absurd (true≢false (sym (k refl)))
rising_bits false false false false r h k a b c d = refl

-- above p in its column, or right of p in its row: as the ends lie to the quadrant
rising_tests : (p v w : GridPoint) → IsRising p v w
    → DifferAs (is_over_point p) (crosses_with (is_under p) (is_right_of p)) (is_upper_left p) v w
rising_tests p v w h =
    let right = h.right in
    let up = h.up in
    rising_bits (is_left_of p v) (is_left_of p w) (is_under p v) (is_under p w) (is_right_of p (way v w))
    (λ e. le-leb _ _ (let l = leb-true _ _ e in omega arith))
    (λ e. le-leb _ _ (let l = leb-true _ _ e in omega arith))
    (λ e f g. lt-ltb _ _ (rising_above p v w up (leb-true _ _ e) (leb-false _ _ f) (leb-false _ _ g)))
    (λ e f g. le-ltb _ _ (rising_below p v w up (leb-true _ _ e) (leb-false _ _ f) (leb-true _ _ g)))
    (λ e f g. lt-ltb _ _ (rising_left p v w h (leb-true _ _ e) (leb-false _ _ f) (leb-true _ _ g)))
    (λ e f g. le-ltb _ _ (rising_right p v w right (leb-true _ _ e) (leb-false _ _ f) (leb-false _ _ g)))

-- a rising chain, row by row: where it turns as the straight way does, it counts as the straight way
pub rising_as_straight : (p : GridPoint) (f : Bool) (v : GridPoint) (chain : List GridPoint)
    → AllLinks (IsRising p) (v ∷ chain) → IsRising p v (last_from v chain)
    → AllLinks (IsTurning (is_under p) (is_right_of p) f) (v ∷ chain)
    → TurnsAs (is_under p) (is_right_of p) f v (last_from v chain) → CountsAsStraight p v chain
rising_as_straight p f v chain rising straight turning turned =
    by_other_test (is_over_point p) (crosses_with (is_under p) (is_right_of p)) (is_upper_left p) v chain
    (all v chain rising) (rising_tests p v (last_from v chain) straight)
    (as_straight (is_under p) (is_right_of p) f v chain turning turned)
  where
    all : (v : GridPoint) (chain : List GridPoint) → AllLinks (IsRising p) (v ∷ chain)
        → AllLinks (DifferAs (is_over_point p) (crosses_with (is_under p) (is_right_of p)) (is_upper_left p)) (v ∷ chain)
    all v [] h = tt
    all v (w ∷ chain) h = (rising_tests p v w h.0, all w chain h.1)

-- ---- falling links: x never falls, y never rises
pub record IsFalling (v w : GridPoint) : Type 0 where
  pub right : v.x ≤ w.x
  pub down : w.y ≤ v.y

-- right of p and above it
abbrev is_upper_right : GridPoint → GridPoint → Bool
is_upper_right p v = not (is_left_of p v) && not (is_under p v)

falling_above : (p v w : GridPoint) → w.y ≤ v.y → v.x ≤ p.x → p.x < w.x → p.y < w.y
    → leftward v w p < rightward v w p
falling_above p v w down from to above =
    let one = times v.x w.x p.y w.y (omega arith) above in
    let two = times_le w.y v.y p.x w.x down (omega arith) in
    omega arith

falling_below : (p v w : GridPoint) → w.y ≤ v.y → v.x ≤ p.x → p.x < w.x → v.y ≤ p.y
    → rightward v w p ≤ leftward v w p
falling_below p v w down from to below =
    let one = times_le v.x w.x v.y p.y (omega arith) below in
    let two = times_le w.y v.y v.x p.x down from in
    omega arith

falling_right : (p v w : GridPoint) → v.x ≤ w.x → w.y ≤ p.y → p.y < v.y → p.x < v.x
    → leftward v w p < rightward v w p
falling_right p v w right from to past =
    let one = times_le v.x w.x p.y v.y right (omega arith) in
    let two = times w.y v.y p.x v.x (omega arith) past in
    omega arith

falling_left : (p v w : GridPoint) → v.x ≤ w.x → w.y ≤ p.y → p.y < v.y → w.x ≤ p.x
    → rightward v w p ≤ leftward v w p
falling_left p v w right from to past =
    let one = times_le v.x w.x w.y p.y right from in
    let two = times_le w.y v.y w.x p.x (omega arith) past in
    omega arith

falling_bits : (xv xw yv yw r : Bool) → (xw ≡ true → xv ≡ true) → (yv ≡ true → yw ≡ true)
    → (xv ≡ true → xw ≡ false → yw ≡ false → r ≡ true) → (xv ≡ true → xw ≡ false → yv ≡ true → r ≡ false)
    → (yw ≡ true → yv ≡ false → xv ≡ false → r ≡ true) → (yw ≡ true → yv ≡ false → xw ≡ true → r ≡ false)
    → differ (xv && (not xw && r)) (not yv && (not (not yw) && r)) ≡ differ (not xv && not yv) (not xw && not yw)
falling_bits true true true true r h k a b c d = refl
falling_bits true true true false r h k a b c d = absurd (true≢false (sym (k refl)))
falling_bits true true false true r h k a b c d = d refl refl refl
falling_bits true true false false r h k a b c d = refl
falling_bits true false true true r h k a b c d = differ-false r ∙ b refl refl refl
falling_bits true false true false r h k a b c d = absurd (true≢false (sym (k refl)))
falling_bits true false false true r h k a b c d = differ-self r
falling_bits true false false false r h k a b c d = differ-false r ∙ a refl refl refl
falling_bits false true yv yw r h k a b c d = absurd (true≢false (sym (h refl)))
falling_bits false false true true r h k a b c d = refl
falling_bits false false true false r h k a b c d = absurd (true≢false (sym (k refl)))
falling_bits false false false true r h k a b c d = c refl refl refl
falling_bits false false false false r h k a b c d = refl

falling_tests : (p v w : GridPoint) → IsFalling v w
    → DifferAs (is_over_point p) (crosses_with (is_above_row p) (is_right_of p)) (is_upper_right p) v w
falling_tests p v w h =
    let right = h.right in
    let down = h.down in
    falling_bits (is_left_of p v) (is_left_of p w) (is_under p v) (is_under p w) (is_right_of p (way v w))
    (λ e. le-leb _ _ (let l = leb-true _ _ e in omega arith))
    (λ e. le-leb _ _ (let l = leb-true _ _ e in omega arith))
    (λ e f g. lt-ltb _ _ (falling_above p v w down (leb-true _ _ e) (leb-false _ _ f) (leb-false _ _ g)))
    (λ e f g. le-ltb _ _ (falling_below p v w down (leb-true _ _ e) (leb-false _ _ f) (leb-true _ _ g)))
    (λ e f g. lt-ltb _ _ (falling_right p v w right (leb-true _ _ e) (leb-false _ _ f) (leb-false _ _ g)))
    (λ e f g. le-ltb _ _ (falling_left p v w right (leb-true _ _ e) (leb-false _ _ f) (leb-true _ _ g)))

-- a falling chain, row by row
pub falling_as_straight : (p : GridPoint) (f : Bool) (v : GridPoint) (chain : List GridPoint)
    → AllLinks IsFalling (v ∷ chain) → IsFalling v (last_from v chain)
    → AllLinks (IsTurning (is_above_row p) (is_right_of p) f) (v ∷ chain)
    → TurnsAs (is_above_row p) (is_right_of p) f v (last_from v chain) → CountsAsStraight p v chain
falling_as_straight p f v chain falling straight turning turned =
    by_other_test (is_over_point p) (crosses_with (is_above_row p) (is_right_of p)) (is_upper_right p) v chain
    (all v chain falling) (falling_tests p v (last_from v chain) straight)
    (as_straight (is_above_row p) (is_right_of p) f v chain turning turned)
  where
    all : (v : GridPoint) (chain : List GridPoint) → AllLinks IsFalling (v ∷ chain)
        → AllLinks (DifferAs (is_over_point p) (crosses_with (is_above_row p) (is_right_of p)) (is_upper_right p)) (v ∷ chain)
    all v [] h = tt
    all v (w ∷ chain) h = (falling_tests p v w h.0, all w chain h.1)

-- a chain whose x never falls, column by column
pub flat_as_straight : (p : GridPoint) (f : Bool) (v : GridPoint) (chain : List GridPoint)
    → AllLinks (IsTurning (is_left_of p) (is_right_of p) f) (v ∷ chain)
    → TurnsAs (is_left_of p) (is_right_of p) f v (last_from v chain) → CountsAsStraight p v chain
flat_as_straight p f v chain turning turned = as_straight (is_left_of p) (is_right_of p) f v chain turning turned
