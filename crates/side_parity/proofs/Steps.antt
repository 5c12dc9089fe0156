-- Parity along a straight way that meets no segment.
use Rattle.std.proofs.Common.{◌≡◌, ℕ, ◌*◌, ◌<◌, ◌≤◌, Bool, true, false, not, ◌&&◌, ltb, leb, List, [], ◌∷◌, refl, sym, ap, ◌∙◌}
use Rattle.std.proofs.Common.{arith, inl, inr}
use Rattle.std.specs.Prelude.{nat_le, nat_lt}
use Rattle.std.specs.List.{AllByRecursion}
use Rattle.std.proofs.lemmas.Bool.{cases_lt, lt-ltb, le-ltb, le-leb, lt-leb, leb-true, leb-false, ltb-true, ltb-false}
use Rattle.grid_base.specs.Point.{GridPoint}
use Rattle.grid_base.specs.Segment.{GridSegment}
use Rattle.grid_base.specs.Places.{RationalPoint}
use Rattle.grid_base.proofs.Turns.{times, times_le}
use Rattle.grid_base.specs.Border.{IsEvenBorder}
use Rattle.grid_base.specs.Odd.{is_strictly_above}
use Rattle.grid_base.specs.Plane.{as_place}
use Rattle.side_parity.specs.Middle.{differ}
use Rattle.side_parity.proofs.Between.{both_between}
use Rattle.side_parity.proofs.EvenBorders.{AllHaveEnds, ends, even_in_all}
use Rattle.side_parity.proofs.Numbers.{leftward, leftward_of_way, right_is, rightward, rightward_of_way, wider}
use Rattle.side_parity.proofs.Parities.{differ-false, differ-self, differ-swap, same_by}
use Rattle.side_parity.proofs.Regions.{is_odd, odd_count}
use Rattle.side_parity.proofs.Ways.{IsApart, begins_between, both_within, ends_between}

-- v is past the column of q, not past that of p, and above the way from q to p
abbrev pub is_above : RationalPoint → RationalPoint → GridPoint → Bool
is_above q p v = not (nat_le (v.x * q.w) q.x) && (nat_le (v.x * p.w) p.x && nat_lt (rightward_of_way q p v) (leftward_of_way q p v))

-- with u: t begins by the column of q; n: it doesn't end by it; v and w: the same of the column of p
turned : (u n v w sq sp sa sb : Bool)
    → (u ≡ true → v ≡ true) → (w ≡ true → n ≡ true) → (n ≡ false → u ≡ true) → (v ≡ false → w ≡ true)
    → (u ≡ true → w ≡ true → sq ≡ sp) → (u ≡ true → n ≡ true → w ≡ false → sq ≡ sb)
    → (u ≡ false → v ≡ true → w ≡ true → sa ≡ sp) → (u ≡ false → v ≡ true → w ≡ false → sa ≡ sb)
    → differ (u && (n && sq)) (v && (w && sp)) ≡ differ (not u && (v && sa)) (n && (not w && sb))
turned true true true true sq sp sa sb h1 h2 h3 h4 c1 c2 c3 c4 = ap (λ b. differ b sp) (c1 refl refl) ∙ differ-self sp
turned true true true false sq sp sa sb h1 h2 h3 h4 c1 c2 c3 c4 = differ-false sq ∙ c2 refl refl refl
turned true n false w sq sp sa sb h1 h2 h3 h4 c1 c2 c3 c4 = cc (h1 refl)
turned true false true true sq sp sa sb h1 h2 h3 h4 c1 c2 c3 c4 = cc (h2 refl)
turned true false true false sq sp sa sb h1 h2 h3 h4 c1 c2 c3 c4 = refl
turned false false v w sq sp sa sb h1 h2 h3 h4 c1 c2 c3 c4 = cc (h3 refl)
turned false true true true sq sp sa sb h1 h2 h3 h4 c1 c2 c3 c4 = sym (c3 refl refl refl) ∙ sym (differ-false sa)
turned false true true false sq sp sa sb h1 h2 h3 h4 c1 c2 c3 c4 = sym (differ-self sb) ∙ ap (λ b. differ b sb) (sym (c4 refl refl refl))
turned false true false true sq sp sa sb h1 h2 h3 h4 c1 c2 c3 c4 = refl
turned false true false false sq sp sa sb h1 h2 h3 h4 c1 c2 c3 c4 = cc (h4 refl)

-- ---- one segment and one way
lt_is : (m n : ℕ) → ltb m n ≡ not (leb n m)
lt_is m n = elim (cases_lt m n) [ inl h ↦ lt-ltb m n h ∙ ap not (sym (lt-leb n m h)) | inr h ↦ le-ltb m n h ∙ ap not (sym (le-leb n m h)) ]

not_true : (m n : ℕ) → not (leb n m) ≡ true → m < n
not_true m n e = ltb-true m n (lt_is m n ∙ e)

not_false : (m n : ℕ) → not (leb n m) ≡ false → n ≤ m
not_false m n e = ltb-false m n (lt_is m n ∙ e)

not_from_lt : (m n : ℕ) → m < n → not (leb n m) ≡ true
not_from_lt m n h = sym (lt_is m n) ∙ lt-ltb m n h

and_grouped : (a b c : Bool) → ((a && b) && c) ≡ (a && (b && c))
and_grouped false b c = refl
and_grouped true b c = refl

-- whether t is strictly above a place, by sums
pub over_is : (t : GridSegment) (q : RationalPoint)
    → is_strictly_above t (as_place q) ≡ (leb (t.a.x * q.w) q.x && (not (leb (t.b.x * q.w) q.x) && ltb (leftward t q) (rightward t q)))
over_is t q = rw (lt_is q.x (t.b.x * q.w), right_is t q) (and_grouped (leb (t.a.x * q.w) q.x) _ _)

-- a column that is not before q is not before p
later : (c : ℕ) (q p : RationalPoint) → 0 < q.w → q.x * p.w ≤ p.x * q.w → c * q.w ≤ q.x → c * p.w ≤ p.x
later c q p wq h k =
    let no : p.x < c * p.w → ⊥ = λ l.
    (let p1 = times p.x (c * p.w) 0 q.w l wq in
    let p2 = times_le (c * q.w) q.x 0 p.w k (omega arith) in
    omega arith) in
    omega (arith, no)

ends_too : (a b w x : ℕ) → a ≤ b → b * w ≤ x → a * w ≤ x
ends_too a b w x h k = let p1 = times_le a b 0 w h (omega arith) in omega arith

-- a segment that has no place on the way is over the one end and not the other where one of its ends, and not the other, is above the way
pub unchanged : (t : GridSegment) (q p : RationalPoint) → IsApart t q p → 0 < q.w → 0 < p.w
    → q.x * p.w ≤ p.x * q.w → t.a.x ≤ t.b.x
    → differ (is_strictly_above t (as_place q)) (is_strictly_above t (as_place p)) ≡ differ (is_above q p t.a) (is_above q p t.b)
unchanged t q p far wq wp h o =
    (λ i. differ (over_is t q i) (over_is t p i))
    ∙ turned (leb (t.a.x * q.w) q.x) (not (leb (t.b.x * q.w) q.x)) (leb (t.a.x * p.w) p.x) (not (leb (t.b.x * p.w) p.x))
    (ltb (leftward t q) (rightward t q)) (ltb (leftward t p) (rightward t p))
    (ltb (rightward_of_way q p t.a) (leftward_of_way q p t.a)) (ltb (rightward_of_way q p t.b) (leftward_of_way q p t.b))
    (λ e. le-leb _ _ (later t.a.x q p wq h (leb-true _ _ e)))
    (λ e. not_from_lt _ _ (before t.b.x (not_true _ _ e)))
    (λ e. le-leb _ _ (ends_too t.a.x t.b.x q.w q.x o (not_false _ _ e)))
    (λ e. not_from_lt _ _ (after (leb-false _ _ e)))
    (λ e f. both_within t q p far wq wp (leb-true _ _ e) (before t.b.x (not_true _ _ f)) (later t.a.x q p wq h (leb-true _ _ e))
    (not_true _ _ f))
    (λ e f g. ends_between t q p far wq wp (wider t.a.x t.b.x q.w q.x (leb-true _ _ e) (not_true _ _ f)) (leb-true _ _ e) (not_true _ _ f)
    (later t.a.x q p wq h (leb-true _ _ e)) (not_false _ _ g))
    (λ e f g. begins_between t q p far wq wp (wider t.a.x t.b.x p.w p.x (leb-true _ _ f) (not_true _ _ g)) (leb-false _ _ e)
    (before t.b.x (not_true _ _ g)) (leb-true _ _ f) (not_true _ _ g))
    (λ e f g. both_between t q p far wq wp o (leb-false _ _ e) (beyond (leb-false _ _ e)) (leb-true _ _ f) (not_false _ _ g))
    ∙ ap (differ (is_above q p t.a)) (flat (leb (t.b.x * q.w) q.x) (leb (t.b.x * p.w) p.x) _)
  where
    before : (c : ℕ) → p.x < c * p.w → q.x < c * q.w
    before c l = let no : c * q.w ≤ q.x → ⊥ = λ k. (let m = later c q p wq h k in omega arith) in omega (arith, no)

    after : p.x < t.a.x * p.w → p.x < t.b.x * p.w
    after l = let no : t.b.x * p.w ≤ p.x → ⊥ = λ k. (let m = ends_too t.a.x t.b.x p.w p.x o k in omega arith) in omega (arith, no)

    beyond : q.x < t.a.x * q.w → q.x < t.b.x * q.w
    beyond l = let no : t.b.x * q.w ≤ q.x → ⊥ = λ k. (let m = ends_too t.a.x t.b.x q.w q.x o k in omega arith) in omega (arith, no)

    flat : (m n c : Bool) → (not m && (not (not n) && c)) ≡ (not m && (n && c))
    flat m false c = refl
    flat m true c = refl

-- ---- a border and one way
-- the segment t is over the one end of the way and not the other where one of its ends is above the way, or where
-- g says so, but not where both do
abbrev pub IsTold : (GridSegment → Bool) → RationalPoint → RationalPoint → GridSegment → Type 0
IsTold g q p t =
    differ (is_strictly_above t (as_place q)) (is_strictly_above t (as_place p))
    ≡ differ (differ (is_above q p t.a) (is_above q p t.b)) (g t)

pub sums : (B : List GridSegment) (g : GridSegment → Bool) (q p : RationalPoint)
    → AllByRecursion (IsTold g q p) B
    → differ (is_odd B (as_place q)) (is_odd B (as_place p))
    ≡ differ (odd_count (λ s. differ (is_above q p s.a) (is_above q p s.b)) B) (odd_count g B)
sums [] g q p h = refl
sums (t ∷ B) g q p h =
    differ-swap (is_strictly_above t (as_place q)) (is_odd B (as_place q)) (is_strictly_above t (as_place p)) (is_odd B (as_place p))
    ∙ (λ i. differ (h.0 i) (sums B g q p h.1 i))
    ∙ differ-swap (differ (is_above q p t.a) (is_above q p t.b)) (g t) (odd_count (λ s. differ (is_above q p s.a) (is_above q p s.b)) B)
    (odd_count g B)

-- along a way the parity changes as often as g says, where the border is even
pub changes : (B : List GridSegment) (g : GridSegment → Bool) (q p : RationalPoint) → AllHaveEnds B → IsEvenBorder B
    → AllByRecursion (IsTold g q p) B
    → differ (is_odd B (as_place q)) (is_odd B (as_place p)) ≡ odd_count g B
changes B g q p ends even h = sums B g q p h ∙ ap (λ b. differ b (odd_count g B)) (even_in_all (is_above q p) B ends even)

pub none : (B : List GridSegment) → odd_count (λ s. false) B ≡ false
none [] = refl
none (t ∷ B) = none B

-- no segment of the list has a place on the way, and each has its lesser end first
abbrev pub IsApartInOrder : RationalPoint → RationalPoint → GridSegment → Type 0
IsApartInOrder q p t = IsApart t q p × (t.a.x ≤ t.b.x)

pub all_told : (B : List GridSegment) (q p : RationalPoint) → AllByRecursion (IsApartInOrder q p) B → 0 < q.w
    → 0 < p.w → q.x * p.w ≤ p.x * q.w
    → AllByRecursion (IsTold (λ s. false) q p) B
all_told [] q p far wq wp h = tt
all_told (t ∷ B) q p far wq wp h = (
  unchanged t q p far.0.0 wq wp h far.0.1
      ∙ sym (differ-false (differ (is_above q p t.a) (is_above q p t.b))),
  all_told B q p far.1 wq wp h,
)

-- the parity is the same at both ends of a straight way that meets no segment of an even border
pub same_along_way : (B : List GridSegment) (q p : RationalPoint) → AllHaveEnds B → IsEvenBorder B
    → AllByRecursion (IsApartInOrder q p) B
    → 0 < q.w → 0 < p.w → q.x * p.w ≤ p.x * q.w → is_odd B (as_place q) ≡ is_odd B (as_place p)
same_along_way B q p ends even far wq wp h = same_by _ _ (changes B (λ s. false) q p ends even (all_told B q p far wq wp h) ∙ none B)
