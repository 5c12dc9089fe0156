-- This file shows that counts are odd where parities are true, and so that the places of one class are all odd or all even.
use Rattle.std.proofs.Common.{◌≡◌, ◌↔◌, ℕ, suc, ◌+◌, ◌*◌, ◌%◌, ◌||◌, Bool, true, false, cond, List, [], ◌∷◌, All, count_by}
use Rattle.std.proofs.Common.{refl, sym, ap₂, ◌∙◌, arith}
use Rattle.std.proofs.lemmas.Bool.Decides.{nat_tests}
use Rattle.std.proofs.lemmas.List.Sums.{sum_by-cons}
use Rattle.std.proofs.lemmas.List.Elements.{All-contains}
use Rattle.grid_base.specs.Point.{GridPoint, IsBefore, is_point}
use Rattle.grid_base.specs.Segment.{GridSegment}
use Rattle.grid_base.specs.Border.{is_end, IsEvenBorder}
use Rattle.grid_base.specs.Plane.{Place}
use Rattle.grid_base.specs.Odd.{Odd}
use Rattle.grid_base.proofs.Orders.{is_point-same}
use Rattle.grid_base.proofs.Ends.{not_before_itself}
use Rattle.plane_classes.specs.Classes.{AreInOneClass}
use Rattle.plane_classes.proofs.Parities.{xor, par, ends_with, HasPairedEnds, par_same}
use Rattle.plane_classes.proofs.Ways.{AreInOrder}
use Rattle.plane_classes.proofs.ClassLemmas.{one_class_back}
use Rattle.plane_classes.proofs.OverTests.{is_over}
use Rattle.plane_classes.proofs.OneParity.{each_of, kept_in_one_class}

one_more : (b c : Bool) (n k : ℕ) → n ≡ 2 * k + cond c 1 0 → (j : ℕ) × (cond b 1 0 + n ≡ 2 * j + cond (xor b c) 1 0)
one_more true true n k h = (suc k, omega arith)
one_more true false n k h = (k, omega arith)
one_more false true n k h = (k, omega arith)
one_more false false n k h = (k, omega arith)

pub halves : {X : Type 0} (f : X → Bool) (xs : List X) → (k : ℕ) × (count_by f xs ≡ 2 * k + cond (par f xs) 1 0)
halves f [] = (0, omega arith)
halves f (x ∷ xs) =
    let h = halves f xs in
    let m = one_more (f x) (par f xs) (count_by f xs) h.0 h.1 in
    (m.0, sum_by-cons (λ y. cond (f y) 1 0) x xs ∙ m.1)

odd_of : (b : Bool) (n k : ℕ) → n ≡ 2 * k + cond b 1 0 → n % 2 ≡ 1 → b ≡ true
odd_of true n k h e = refl
odd_of false n k h e = absurd (omega arith)

of_odd : (b : Bool) (n k : ℕ) → n ≡ 2 * k + cond b 1 0 → b ≡ true → n % 2 ≡ 1
of_odd true n k h e = omega arith
of_odd false n k h e = cc

even_of : (b : Bool) (n k : ℕ) → n ≡ 2 * k + cond b 1 0 → n % 2 ≡ 0 → b ≡ false
even_of true n k h e = absurd (omega arith)
even_of false n k h e = refl

-- odd places
pub odd_is : (B : List GridSegment) (q : Place) → Odd B q → par (is_over q) B ≡ true
odd_is B q h = let e = halves (is_over q) B in odd_of _ _ e.0 e.1 h

pub is_odd : (B : List GridSegment) (q : Place) → par (is_over q) B ≡ true → Odd B q
is_odd B q h = let e = halves (is_over q) B in of_odd _ _ e.0 e.1 h

-- ---- even borders
or_is_xor : (a b : Bool) → (a ≡ true → b ≡ true → ⊥) → (a || b) ≡ xor a b
or_is_xor true true h = absurd (h refl refl)
or_is_xor true false h = refl
or_is_xor false b h = refl

-- a point is one end of a segment at most
two_ends : (v : GridPoint) (s : GridSegment) → IsBefore s.a s.b → is_point v s.a ≡ true → is_point v s.b ≡ true → ⊥
two_ends v s o h k = not_before_itself s.a s.b (sym (is_point-same v s.a h) ∙ is_point-same v s.b k) o

is_point-turned : (v w : GridPoint) → is_point v w ≡ is_point w v
is_point-turned v w = grind (arith, nat_tests)

-- s ends at v where an odd number of its ends is v
pub end_is_odd : (v : GridPoint) (s : GridSegment) → IsBefore s.a s.b → is_end v s ≡ ends_with (is_point v) s
end_is_odd v s o =
    ap₂ (λ a b. a || b) (is_point-turned s.a v) (is_point-turned s.b v) ∙ or_is_xor _ _ (two_ends v s o)

pub even_is : (B : List GridSegment) → AreInOrder B → IsEvenBorder B → HasPairedEnds B
even_is B o h v =
    let e = halves (is_end v) B in
    sym (par_same (is_end v) (ends_with (is_point v)) B
    (each_of (λ s. is_end v s ≡ ends_with (is_point v) s) B (λ s m. end_is_odd v s (o s m))))
    ∙ even_of _ _ e.0 e.1 (h v)

-- ---- the places of one class
-- of two places of one class, the second is odd where the first is
pub odd_in_class : (B : List GridSegment) → AreInOrder B → IsEvenBorder B → (p q : Place) → AreInOneClass B p q → Odd B p → Odd B q
odd_in_class B o e p q one odd = is_odd B q (sym (kept_in_one_class B o (even_is B o e) p q one) ∙ odd_is B p odd)

-- and the first where the second is
pub one_parity : (B : List GridSegment) → All (λ s. IsBefore s.a s.b) B → IsEvenBorder B → (p q : Place) → AreInOneClass B p q
    → Odd B p ↔ Odd B q
one_parity B ordered e p q one = (odd_in_class B o e p q one, odd_in_class B o e q p (one_class_back B p q one))
  where
    o : AreInOrder B
    o s there = All-contains (λ t. IsBefore t.a t.b) B s ordered there
