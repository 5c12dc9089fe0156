-- This file shows that what is counted at the middle of a segment answers for both its sides.
use Rattle.std.proofs.Common.{IsTrue, ◌↔◌, leb, ◌*◌, ◌≡◌, ◌+◌, ◌<◌, ◌≤◌, ◌∙◌, ap, sym, subst, length, take, get_or, List, [], ◌∷◌, ◌++◌, ℕ}
use Rattle.std.proofs.Common.{Bool, true, false, not, ltb, ◌&&◌}
use Rattle.std.proofs.lemmas.List.{take_more, take_all}
use Rattle.std.proofs.lemmas.Bool.{lt-ltb, le-ltb}
use Rattle.std.specs.List.{AllByRecursion}
use Rattle.grid_base.specs.Point.{IsBefore}
use Rattle.grid_base.specs.Segment.{GridSegment}
use Rattle.grid_base.specs.Border.{AreNoded, IsEvenBorder}
use Rattle.grid_base.specs.Sides.{Left, Right}
use Rattle.grid_base.specs.Plane.{Tells}
use Rattle.grid_base.specs.Odd.{Odd, AreSides}
use Rattle.grid_base.proofs.Orders.{is_segment}
use Rattle.std.proofs.Math.Bool.{and-false, and-true}
use Rattle.grid_base.specs.Odd.{is_strictly_above}
use Rattle.grid_base.specs.Plane.{as_place}
use Rattle.grid_base.proofs.Orders.{is_segment-itself, is_segment-same}
use Rattle.side_parity.specs.Middle.{differ, middle}
use Rattle.side_parity.proofs.BothSides.{left_answer, right_answer, same_truth, tells_left, tells_right}
use Rattle.side_parity.proofs.Numbers.{leftward, right_is, rightward}
use Rattle.side_parity.proofs.Parities.{differ-false, odd_count-more}
use Rattle.side_parity.proofs.Pictures.{meet_noded}
use Rattle.side_parity.proofs.Regions.{is_odd, odd_count}
use Rattle.side_parity.proofs.SidesBy.{IsSound}

-- ---- one segment, by its two sums
pub over_from : (t s : GridSegment) (b : Bool) (l r : ℕ)
    → b ≡ (leb (t.a.x * 2) (s.a.x + s.b.x) && ltb (s.a.x + s.b.x) (t.b.x * 2) && ltb l r)
    → l ≡ leftward t (middle s) → r ≡ rightward t (middle s) → b ≡ is_strictly_above t (as_place (middle s))
over_from t s b l r e f g =
    e ∙ (λ i. leb (t.a.x * 2) (s.a.x + s.b.x) && ltb (s.a.x + s.b.x) (t.b.x * 2) && ltb (f i) (g i))
    ∙ ap (λ c. leb (t.a.x * 2) (s.a.x + s.b.x) && ltb (s.a.x + s.b.x) (t.b.x * 2) && c) (sym (right_is t (middle s)))

-- ---- one more segment
pub same_told : (s t : GridSegment) (b : Bool) → IsTrue b ↔ (s ≡ t) → b ≡ is_segment s t
same_told s t b h =
    same_truth b (is_segment s t) (λ e. sym (ap (is_segment s) (h.0 e)) ∙ is_segment-itself s) (λ e. h.1 (is_segment-same s t e))

pub one_more : (f : GridSegment → Bool) (l : List GridSegment) (i : ℕ) (x : GridSegment) (b m n : Bool)
    → i < length l → x ≡ get_or l i x → m ≡ differ b n → b ≡ f x → n ≡ odd_count f (take i l)
    → m ≡ odd_count f (take (i + 1) l)
one_more f l i x b m n h e p q r =
    p ∙ (λ j. differ (q j) (r j)) ∙ ap (λ y. differ (f y) (odd_count f (take i l))) e ∙ sym (odd_count-more f l i x (take_more l i x h))

all_append : {A : Type 0} (P : A → Type 0) (l k : List A) → AllByRecursion P l → AllByRecursion P k
    → AllByRecursion P (l ++ k)
all_append P [] k h g = g
all_append P (x ∷ l) k h g = (h.0, all_append P l k h.1 g)

pub one_more_holds : (P : GridSegment → Type 0) (l : List GridSegment) (i : ℕ) (x : GridSegment) → i < length l
    → x ≡ get_or l i x → P x → AllByRecursion P (take i l) → AllByRecursion P (take (i + 1) l)
one_more_holds P l i x h e p a =
    subst (AllByRecursion P) (sym (take_more l i x h)) (all_append P (take i l) (get_or l i x ∷ []) a (subst P e p, tt))

pub all_of_it : (P : GridSegment → Type 0) (l : List GridSegment) (i : ℕ) → length l ≤ i
    → AllByRecursion P (take i l) → AllByRecursion P l
all_of_it P l i h a = subst (AllByRecursion P) (take_all i l h) a

-- ---- all of them
-- both counts over the list, and the order of the ends
pub record AreCounted (odd own : Bool) (l : List GridSegment) (s : GridSegment) : Type 0 where
  pub odd_number : odd ≡ is_odd l (as_place (middle s))
  pub own_number : own ≡ odd_count (is_segment s) l
  pub ordered : AllByRecursion (λ t. IsBefore t.a t.b) l

pub all_counted : (odd own : Bool) (l : List GridSegment) (s : GridSegment) (i : ℕ) → length l ≤ i
    → AreCounted odd own (take i l) s → AreCounted odd own l s
all_counted odd own l s i h c = subst (λ k. AreCounted odd own k s) (take_all i l h) c

sound_by : (B : List GridSegment) (s : GridSegment) → AreNoded (s ∷ B) → IsEvenBorder B
    → AllByRecursion (λ t. IsBefore t.a t.b) B → IsBefore s.a s.b → IsSound B s
sound_by B s noded even ordered first =
    record { realm = meet_noded (s ∷ B) noded; ordered = ordered; first = first; even = even }

-- ---- the two answers
kept : (a b c d : Bool) → a ≡ b → c ≡ false → a ≡ differ b (d && c)
kept a b c d h k = h ∙ sym (ap (λ z. differ b (d && z)) k ∙ ap (differ b) (and-false d) ∙ differ-false b)

turned : (a b c d e f : Bool) → a ≡ b → f ≡ d → c ≡ true → e ≡ differ a f → e ≡ differ b (d && c)
turned a b c d e f h g k l = l ∙ (λ i. differ (h i) (g i)) ∙ sym (ap (λ z. differ b (d && z)) k ∙ ap (differ b) (and-true d))

answer_by : (B : List GridSegment) (s : GridSegment) (l r : Bool) → IsSound B s → l ≡ left_answer B s → r ≡ right_answer B s
    → AreSides B s (record { left = l; right = r })
answer_by B s l r sound h k = record {
  left = subst (Tells B s Left (Odd B)) (sym h) (tells_left B s sound);
  right = subst (Tells B s Right (Odd B)) (sym k) (tells_right B s sound);
}

-- s itself is above the places on its right, where it isn't vertical
pub slanted_answer : (B : List GridSegment) (s : GridSegment) (odd own other : Bool) → AreNoded (s ∷ B)
    → IsEvenBorder B → IsBefore s.a s.b → AreCounted odd own B s → other ≡ differ odd own
    → s.a.x < s.b.x → AreSides B s (record { left = odd; right = other })
slanted_answer B s odd own other noded even first c r h =
    answer_by B s odd other (sound_by B s noded even c.ordered first)
    (kept _ _ (not (ltb s.a.x s.b.x)) (odd_count (is_segment s) B) c.odd_number (ap not (lt-ltb _ _ h)))
    (turned odd _ (ltb s.a.x s.b.x) (odd_count (is_segment s) B) other own c.odd_number c.own_number (lt-ltb _ _ h) r)

-- and where it is, it counts for those on its left
pub upright_answer : (B : List GridSegment) (s : GridSegment) (odd own other : Bool) → AreNoded (s ∷ B)
    → IsEvenBorder B → IsBefore s.a s.b → AreCounted odd own B s → other ≡ differ odd own
    → s.b.x ≤ s.a.x → AreSides B s (record { left = other; right = odd })
upright_answer B s odd own other noded even first c r h =
    let not_wide : not (ltb s.a.x s.b.x) ≡ true = ap not (le-ltb _ _ h) in
    answer_by B s other odd (sound_by B s noded even c.ordered first)
    (turned odd _ (not (ltb s.a.x s.b.x)) (odd_count (is_segment s) B) other own c.odd_number c.own_number not_wide r)
    (kept _ _ (ltb s.a.x s.b.x) (odd_count (is_segment s) B) c.odd_number (le-ltb _ _ h))
