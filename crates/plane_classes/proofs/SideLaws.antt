-- This file shows what the sides of a segment have in common and in what they differ, in the words of the definitions.
use Rattle.std.proofs.Common.{◌≡◌, ◌≢◌, ◌↔◌, Bool, true, false, ◌&&◌, List, [], ◌∷◌, Contains, AllPairs, refl, sym, ap, ap₂, subst, ◌∙◌}
use Rattle.std.proofs.Common.{suc, ⊎_elim, arith}
use Rattle.grid_base.specs.Segment.{GridSegment, IsSegmentBefore}
use Rattle.grid_base.specs.Point.{IsBefore}
use Rattle.grid_base.specs.Sides.{Side, Left, On, Right}
use Rattle.grid_base.specs.Plane.{Place, IsBeside}
use Rattle.grid_base.specs.Odd.{Odd}
use Rattle.grid_base.specs.Border.{IsEvenBorder}
use Rattle.grid_base.proofs.Orders.{is_segment, is_segment-same, is_segment-itself}
use Rattle.grid_base.proofs.Ends.{segment_before_itself}
use Rattle.grid_base.proofs.Elements.{Contains-here, Contains-later, Contains-cases, Contains-nil}
use Rattle.grid_base.proofs.Booleans.{true_not_false}
use Rattle.plane_classes.specs.Classes.{AreInOneClass, AreAcross}
use Rattle.plane_classes.proofs.Parities.{xor, par}
use Rattle.plane_classes.proofs.Ways.{AreInOrder}
use Rattle.plane_classes.proofs.OverTests.{is_over}
use Rattle.plane_classes.proofs.Counts.{odd_is, is_odd, even_is}
use Rattle.plane_classes.proofs.FewerSegments.{IsPart}
use Rattle.plane_classes.proofs.AlongSegment.{IsAlone}
use Rattle.plane_classes.proofs.TwoSides.{one_answer, is_odd_in, two_sides}
use Rattle.plane_classes.proofs.OneCycle.{one_cycle_only}

-- ---- one side
-- the places beside s on one side are all odd, or all even
pub one_side_parity : (B : List GridSegment) (s : GridSegment) (d : Side) (p q : Place) → AreInOrder B → IsEvenBorder B → IsBefore s.a s.b
    → IsAlone B s → d ≢ On → IsBeside B s d p → IsBeside B s d q → Odd B p ↔ Odd B q
one_side_parity B s d p q o e so alone off h g =
    let same = one_answer B s d p q o (even_is B o e) so alone off h g in (
      λ odd. is_odd B q (sym same ∙ odd_is B p odd),
      λ odd. is_odd B p (same ∙ odd_is B q odd),
    )

-- ---- how often a segment comes in an ascending list
after_first : (t : GridSegment) (B : List GridSegment) (u : GridSegment) → AllPairs IsSegmentBefore (t ∷ B) → Contains B u
    → IsSegmentBefore t u
after_first t B u ascending there =
    subst (IsSegmentBefore t) there.2 (ascending 0 (suc there.0) u (omega arith) (omega (arith, there.1)))

without_first : (t : GridSegment) (B : List GridSegment) → AllPairs IsSegmentBefore (t ∷ B) → AllPairs IsSegmentBefore B
without_first t B ascending i j d before within = ascending (suc i) (suc j) d (omega arith) (omega arith)

other_segment : (s t : GridSegment) → s ≢ t → (is_segment s t && true) ≡ false
other_segment s t other = by (is_segment s t) refl
  where
    by : (b : Bool) → is_segment s t ≡ b → (is_segment s t && true) ≡ false
    by true e = absurd (other (is_segment-same s t e))
    by false e = rw e refl

this_segment : (s t : GridSegment) → t ≡ s → (is_segment s t && true) ≡ true
this_segment s t same = ap (λ u. is_segment s u && true) same ∙ ap (λ b. b && true) (is_segment-itself s)

none_in : (s : GridSegment) (B : List GridSegment) → ((u : GridSegment) → Contains B u → s ≢ u) → is_odd_in B s ≡ false
none_in s [] other = refl
none_in s (t ∷ B) other =
    ap₂ xor (other_segment s t (other t (Contains-here t B))) (none_in s B (λ u there. other u (Contains-later t B u there)))

-- a segment of an ascending list comes once
pub once_in : (s : GridSegment) (B : List GridSegment) → AllPairs IsSegmentBefore B → Contains B s → is_odd_in B s ≡ true
once_in s [] ascending there = absurd (Contains-nil s there)
once_in s (t ∷ B) ascending there = ⊎_elim
    (λ (here : t ≡ s). ap₂ xor (this_segment s t here) (none_in s B (λ u later same. segment_before_itself t
    (subst (IsSegmentBefore t) (sym (here ∙ same)) (after_first t B u ascending later)))))
    (λ (later : Contains B s). ap₂ xor (other_segment s t (λ same. segment_before_itself t
    (subst (IsSegmentBefore t) same (after_first t B s ascending later)))) (once_in s B (without_first t B ascending) later))
    (Contains-cases t B s there)

-- and one that comes an odd number of times is one of the list
found_in : (s : GridSegment) (B : List GridSegment) → is_odd_in B s ≡ true → Contains B s
found_in s [] odd = cc
found_in s (t ∷ B) odd = by (is_segment s t) refl (found_in s B)
  where
    by : (b : Bool) → is_segment s t ≡ b → (is_odd_in B s ≡ true → Contains B s) → Contains (t ∷ B) s
    by true e rest = subst (Contains (t ∷ B)) (sym (is_segment-same s t e)) (Contains-here t B)
    by false e rest = Contains-later t B s (rest (sym (ap (λ b. xor (b && true) (is_odd_in B s)) e) ∙ odd))

-- ---- two sides
-- of two sides that differ exactly one is odd
pub one_is_odd : (B : List GridSegment) (s : GridSegment) (p q : Place) → AreInOrder B → IsEvenBorder B → IsBefore s.a s.b → IsAlone B s
    → is_odd_in B s ≡ true → IsBeside B s Left p → IsBeside B s Right q → Odd B p ↔ (Odd B q → ⊥)
one_is_odd B s p q o e so alone there left right = by (par (is_over p) B) (par (is_over q) B) refl refl
    (two_sides B s p q o (even_is B o e) so alone left right ∙ there)
  where
    by : (a b : Bool) → par (is_over p) B ≡ a → par (is_over q) B ≡ b → xor (par (is_over p) B) (par (is_over q) B) ≡ true
        → Odd B p ↔ (Odd B q → ⊥)
    by true true h k differ = cc
    by true false h k differ = (λ odd other. absurd (true_not_false (odd_is B q other) k), λ none. is_odd B p h)
    by false true h k differ = (λ odd other. absurd (true_not_false (odd_is B p odd) h), λ none. absurd (none (is_odd B q k)))
    by false false h k differ = cc

-- ---- one cycle
pub all_or_none : (C B : List GridSegment) (s t : GridSegment) (p q v w : Place) → IsPart C B → AreInOrder C → IsEvenBorder C
    → AllPairs IsSegmentBefore C → IsBefore s.a s.b → IsBefore t.a t.b → IsAlone B s → IsAlone B t → AreAcross B s p q → AreAcross B t v w
    → AreInOneClass B p v → AreInOneClass B q w → Contains C t → Contains C s
all_or_none C B s t p q v w part o e ascending so to alone_s alone_t a b f g there = by (is_odd_in C s) refl
  where
    by : (b : Bool) → is_odd_in C s ≡ b → Contains C s
    by true h = found_in s C h
    by false h =
        absurd (one_cycle_only C B s t p q v w part o (even_is C o e) so to alone_s alone_t a b f g h (once_in t C ascending there))
