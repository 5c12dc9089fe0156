-- This file shows that along a chain that a grid point lies to in one way, on one side of it, the point's own column or row
-- turns as it does on the straight way.
use Rattle.std.proofs.Common.{◌≡◌, ◌⊎◌, ◌≤◌, Bool, true, false, not, List, [], ◌∷◌, map, refl, sym, ap, ◌∙◌, arith, inl, inr}
use Rattle.std.proofs.lemmas.Bool.{cases_Bool, le-leb, lt-leb, leb-true, leb-false, true≢false}
use Rattle.grid_base.specs.Point.{GridPoint}
use Rattle.grid_base.specs.Segment.{GridSegment, exchanged_point}
use Rattle.grid_base.specs.Places.{RationalPoint, InColumn}
use Rattle.grid_base.specs.SideOf.{Lie, LiesTo, IsChainPlace}
use Rattle.hook_chain.specs.Chains.{AllLinks}
use Rattle.unswept_regions.proofs.Turning.{last_from, IsKeptBack, TurnsAs, IsTurning}
use Rattle.unswept_regions.proofs.LinkTests.{is_right_of, is_left_of, is_under, is_above_row}
use Rattle.unswept_regions.proofs.Lies.{is_below, IsApart, right_by, rising_by, falling_by}

-- p lies so to each place of the chain in its column
abbrev pub LiesUp : List GridPoint → GridPoint → Lie → Type 0
LiesUp chain p lie = (q : RationalPoint) → IsChainPlace chain q → InColumn p q → LiesTo p q lie

abbrev pub IsOnward : GridPoint → GridPoint → Type 0
IsOnward v w = v.x ≤ w.x

abbrev pub IsUpward : GridPoint → GridPoint → Type 0
IsUpward v w = (v.x ≤ w.x) × (v.y ≤ w.y)

abbrev pub IsDownward : GridPoint → GridPoint → Type 0
IsDownward v w = (v.x ≤ w.x) × (w.y ≤ v.y)

pub not_true : (b : Bool) → not b ≡ true → b ≡ false
not_true true h = cc
not_true false h = refl

pub not_false : (b : Bool) → not b ≡ false → b ≡ true
not_false true h = refl
not_false false h = cc

-- ---- tests that fail for good once they fail
pub back_onward : (p v w : GridPoint) → IsOnward v w → IsKeptBack (is_left_of p) v w
back_onward p v w onward e = le-leb _ _ (let l = leb-true _ _ e in omega arith)

pub back_upward : (p v w : GridPoint) → IsUpward v w → IsKeptBack (is_under p) v w
back_upward p v w upward e = le-leb _ _ (let l = leb-true _ _ e in let o = upward.1 in omega arith)

pub back_downward : (p v w : GridPoint) → IsDownward v w → IsKeptBack (is_above_row p) v w
back_downward p v w downward e =
    ap not (lt-leb _ _ (let l = leb-false _ _ (not_true _ e) in let o = downward.1 in omega arith))

-- ---- chains that p lies to in one way
pub turning_columns : (p v : GridPoint) (chain : List GridPoint) (lie : Lie) → IsApart lie
    → AllLinks IsOnward (v ∷ chain) → LiesUp (v ∷ chain) p lie
    → AllLinks (IsTurning (is_left_of p) (is_right_of p) (is_below lie)) (v ∷ chain)
turning_columns p v [] lie apart onward lies = tt
turning_columns p v (w ∷ chain) lie apart onward lies = (
  record {
    back = back_onward p v w onward.0;
    turn = λ e f.
        let from = leb-true _ _ e in
        let to = leb-false _ _ f in
        right_by _ p lie (omega arith) from (omega arith) apart (λ q place column. lies q (inl place) column);
  },
  turning_columns p w chain lie apart onward.1 (λ q place column. lies q (inr place) column),
)

pub turning_rows_up : (p v : GridPoint) (chain : List GridPoint) (lie : Lie) → IsApart lie
    → AllLinks IsUpward (v ∷ chain) → LiesUp (map exchanged_point (v ∷ chain)) (exchanged_point p) lie
    → AllLinks (IsTurning (is_under p) (is_right_of p) (not (is_below lie))) (v ∷ chain)
turning_rows_up p v [] lie apart upward lies = tt
turning_rows_up p v (w ∷ chain) lie apart upward lies = (
  record {
    back = back_upward p v w upward.0;
    turn = λ e f.
        let from = leb-true _ _ e in
        let to = leb-false _ _ f in
        rising_by p v w lie (omega arith) from (omega arith) apart (λ q place column. lies q (inl place) column);
  },
  turning_rows_up p w chain lie apart upward.1 (λ q place column. lies q (inr place) column),
)

pub turning_rows_down : (p v : GridPoint) (chain : List GridPoint) (lie : Lie) → IsApart lie
    → AllLinks IsDownward (v ∷ chain) → LiesUp (map exchanged_point (v ∷ chain)) (exchanged_point p) lie
    → AllLinks (IsTurning (is_above_row p) (is_right_of p) (is_below lie)) (v ∷ chain)
turning_rows_down p v [] lie apart downward lies = tt
turning_rows_down p v (w ∷ chain) lie apart downward lies = (
  record {
    back = back_downward p v w downward.0;
    turn = λ e f.
        let to = leb-false _ _ (not_true _ e) in
        let from = leb-true _ _ (not_false _ f) in
        falling_by p v w lie (omega arith) from (omega arith) apart (λ q place column. lies q (inl place) column);
  },
  turning_rows_down p w chain lie apart downward.1 (λ q place column. lies q (inr place) column),
)

-- ---- chains on which nothing turns
-- the test turns from v to w, or it doesn't
abbrev pub IsStill : (GridPoint → Bool) → GridPoint → GridPoint → Type 0
IsStill key v w = (key v ≡ false) ⊎ (key w ≡ true)

pub turns_or_not : (key : GridPoint → Bool) (v w : GridPoint) → ((key v ≡ true) × (key w ≡ false)) ⊎ IsStill key v w
turns_or_not key v w = elim (cases_Bool (key v)) [
  | inr e ↦ inr (inl e)
  | inl e ↦ elim (cases_Bool (key w)) [ inl f ↦ inr (inr f) | inr f ↦ inl (e, f) ]
]

pub still_turn : (key : GridPoint → Bool) (s : GridSegment → Bool) (f : Bool) (v w : GridPoint) → IsStill key v w
    → TurnsAs key s f v w
still_turn key s f v w (inl e) g h = absurd (true≢false (sym g ∙ e))
still_turn key s f v w (inr e) g h = absurd (true≢false (sym e ∙ h))

kept_back : (key : GridPoint → Bool) (v : GridPoint) (chain : List GridPoint) → AllLinks (IsKeptBack key) (v ∷ chain)
    → key (last_from v chain) ≡ true → key v ≡ true
kept_back key v [] back e = e
kept_back key v (w ∷ chain) back e = back.0 (kept_back key w chain back.1 e)

-- a test that is still from the first vertex to the last is still at the next vertex
still_later : (key : GridPoint → Bool) (v w last : GridPoint) → IsKeptBack key v w → IsStill key v last → IsStill key w last
still_later key v w last back (inr e) = inr e
still_later key v w last back (inl e) = elim (cases_Bool (key w)) [
  | inl f ↦ absurd (true≢false (sym (back f) ∙ e))
  | inr f ↦ inl f
]

pub still_chain : (key : GridPoint → Bool) (s : GridSegment → Bool) (f : Bool) (v : GridPoint) (chain : List GridPoint)
    → AllLinks (IsKeptBack key) (v ∷ chain) → IsStill key v (last_from v chain)
    → AllLinks (IsTurning key s f) (v ∷ chain)
still_chain key s f v [] back still = tt
still_chain key s f v (w ∷ chain) back still = (
  record { back = back.0; turn = still_turn key s f v w (first still) },
  still_chain key s f w chain back.1 (still_later key v w (last_from w chain) back.0 still),
)
  where
    first : IsStill key v (last_from w chain) → IsStill key v w
    first (inl e) = inl e
    first (inr e) = inr (kept_back key w chain back.1 e)
