-- This file shows that the segments of which just one side is outer are counted by their numbers in the border.
use Rattle.std.proofs.Common.{◌≡◌, ◌⊎◌, ℕ, zero, suc, ◌+◌, ◌<◌, Bool, true, false, ◌&&◌, if◌then◌else◌, List, [], ◌∷◌, ◌++◌}
use Rattle.std.proofs.Common.{length, take, slice_index_or, refl, sym, ap, subst, ◌∙◌, arith, inl, inr}
use Rattle.std.specs.Prelude.{Contains, AllPairs}
use Rattle.std.proofs.lemmas.List.Kept.{AllPairs-cons}
use Rattle.std.proofs.lemmas.List.{take_more, length-take-le}
use Rattle.grid_base.specs.Segment.{GridSegment, IsSegmentBefore}
use Rattle.grid_base.proofs.Elements.{Contains-here, Contains-later, Contains-cases, same_place}
use Rattle.plane_classes.proofs.Parities.{xor, par, xor_swap}
use Rattle.plane_cells.specs.Numbered.{nowhere, numbered}
use Rattle.plane_cells.specs.Rims.{is_rim, rims}
use Rattle.plane_cells.specs.declared.classes.SideClasses.{SideClasses}
use Rattle.plane_cells.proofs.Parts.{segment_read}
use Rattle.plane_cells.proofs.StatusCounts.{par_below}

-- ---- the first number apart
pub below_first : (g : ℕ → Bool) (n : ℕ) → par_below g (suc n) ≡ xor (g 0) (par_below (λ i. g (suc i)) n)
below_first g zero = refl
below_first g (suc n) = ap (λ (b : Bool). xor (g (suc n)) b) (below_first g n) ∙ xor_swap (g (suc n)) (g 0) (par_below (λ i. g (suc i)) n)

-- ---- the rims
-- of the two numbers of segment i, whether just one is 0
abbrev pub rim_at : List SideClasses → ℕ → Bool
rim_at numbers i = is_rim (slice_index_or numbers i (record { left = 0; right = 0 }))

picked : (h : GridSegment → Bool) (s : GridSegment) (l : List GridSegment) (b : Bool)
    → par h (if b then s ∷ l else l) ≡ xor (b && h s) (par h l)
picked h s l true = refl
picked h s l false = refl

pub rims_counted : (h : GridSegment → Bool) (B : List GridSegment) (numbers : List SideClasses) → length numbers ≡ length B
    → par h (rims B numbers) ≡ par_below (λ i. rim_at numbers i && h (numbered B i)) (length B)
rims_counted h [] numbers e = refl
rims_counted h (s ∷ B) [] e = absurd (omega (arith, e))
rims_counted h (s ∷ B) (n ∷ numbers) e =
    picked h s (rims B numbers) (is_rim n)
    ∙ ap (λ (b : Bool). xor (is_rim n && h s) b) (rims_counted h B numbers (omega (arith, e)))
    ∙ sym (below_first (λ i. rim_at (n ∷ numbers) i && h (numbered (s ∷ B) i)) (length B))

-- ---- rims are segments of the border, in order
in_picked : (s : GridSegment) (l : List GridSegment) (b : Bool) (t : GridSegment) → Contains (if b then s ∷ l else l) t
    → (s ≡ t) ⊎ Contains l t
in_picked s l true t c = Contains-cases s l t c
in_picked s l false t c = inr c

pub rims_part : (B : List GridSegment) (numbers : List SideClasses) (t : GridSegment) → Contains (rims B numbers) t → Contains B t
rims_part [] numbers t c = c
rims_part (s ∷ B) [] t c = absurd (omega (arith, c.1))
rims_part (s ∷ B) (n ∷ numbers) t c = elim (in_picked s (rims B numbers) (is_rim n) t c) [
  | inl e ↦ subst (Contains (s ∷ B)) e (Contains-here s B)
  | inr m ↦ Contains-later s B t (rims_part B numbers t m)
]

pub rest_ascends : (s : GridSegment) (B : List GridSegment) → AllPairs IsSegmentBefore (s ∷ B) → AllPairs IsSegmentBefore B
rest_ascends s B up i j d less within = up (suc i) (suc j) d (omega (arith, less)) (omega (arith, within))

pub first_before : (s : GridSegment) (B : List GridSegment) (t : GridSegment) → AllPairs IsSegmentBefore (s ∷ B) → Contains B t
    → IsSegmentBefore s t
first_before s B t up c = subst (IsSegmentBefore s) c.2 (up 0 (suc c.0) t (omega arith) (omega (arith, c.1)))

picked_ascends : (s : GridSegment) (l : List GridSegment) (b : Bool) → ((t : GridSegment) → Contains l t → IsSegmentBefore s t)
    → AllPairs IsSegmentBefore l → AllPairs IsSegmentBefore (if b then s ∷ l else l)
picked_ascends s l true first up = AllPairs-cons IsSegmentBefore s l
    (λ k d within. first (slice_index_or l k d) (k, within, same k d within)) up
  where
    same : (k : ℕ) (d : GridSegment) → k < length l → slice_index_or l k (slice_index_or l k d) ≡ slice_index_or l k d
    same k d within = same_place l k (slice_index_or l k d) d within
picked_ascends s l false first up = up

pub rims_ascend : (B : List GridSegment) (numbers : List SideClasses) → AllPairs IsSegmentBefore B
    → AllPairs IsSegmentBefore (rims B numbers)
rims_ascend [] numbers up = up
rims_ascend (s ∷ B) [] up = λ i j d less within. absurd (omega (arith, within))
rims_ascend (s ∷ B) (n ∷ numbers) up =
    picked_ascends s (rims B numbers) (is_rim n) (λ t c. first_before s B t up (rims_part B numbers t c))
    (rims_ascend B numbers (rest_ascends s B up))

-- ---- one more
pushed : (s : GridSegment) (l : List GridSegment) (b : Bool) (m : List GridSegment)
    → (if b then s ∷ l else l) ++ m ≡ (if b then s ∷ (l ++ m) else (l ++ m))
pushed s l true m = refl
pushed s l false m = refl

pub rims_pushed : (A : List GridSegment) (M : List SideClasses) (s : GridSegment) (n : SideClasses) → length M ≡ length A
    → rims (A ++ s ∷ []) (M ++ n ∷ []) ≡ rims A M ++ (if is_rim n then s ∷ [] else [])
rims_pushed [] [] s n e = refl
rims_pushed [] (k ∷ M) s n e = absurd (omega (arith, e))
rims_pushed (t ∷ A) [] s n e = absurd (omega (arith, e))
rims_pushed (t ∷ A) (k ∷ M) s n e =
    ap (λ (l : List GridSegment). if is_rim k then t ∷ l else l) (rims_pushed A M s n (omega (arith, e)))
    ∙ sym (pushed t (rims A M) (is_rim k) (if is_rim n then s ∷ [] else []))

append_none : {X : Type 0} (l : List X) → l ++ [] ≡ l
append_none [] = refl
append_none (x ∷ l) = ap (λ m. x ∷ m) (append_none l)

rims_more : (B : List GridSegment) (numbers : List SideClasses) (i : ℕ) → length numbers ≡ length B → i < length B
    → rims (take (i + 1) B) (take (i + 1) numbers)
    ≡ rims (take i B) (take i numbers) ++ (if rim_at numbers i then numbered B i ∷ [] else [])
rims_more B numbers i e short =
    (λ j. rims (take_more B i nowhere short j) (take_more numbers i (record { left = 0; right = 0 }) short_too j))
    ∙ rims_pushed (take i B) (take i numbers) (numbered B i) (slice_index_or numbers i (record { left = 0; right = 0 }))
    (length-take-le i numbers (omega (arith, short_too)) ∙ sym (length-take-le i B (omega (arith, short))))
  where
    short_too : i < length numbers
    short_too = omega (arith, short, e)

-- one more segment is a rim
pub rims_with : (B : List GridSegment) (numbers : List SideClasses) (i : ℕ) (s : GridSegment) (l m : List GridSegment)
    → length numbers ≡ length B → i < length B → s ≡ slice_index_or B i s → rim_at numbers i ≡ true → l ≡ rims (take i B) (take i numbers)
    → m ≡ l ++ s ∷ [] → m ≡ rims (take (i + 1) B) (take (i + 1) numbers)
rims_with B numbers i s l m e short at is_one so_far end =
    end ∙ (λ j. so_far j ++ (sym (segment_read B i s short at) j ∷ []))
    ∙ sym (rims_more B numbers i e short ∙ ap (λ (b : Bool). rims (take i B) (take i numbers) ++ (if b then numbered B i ∷ [] else []))
    is_one)

-- one more is none
pub rims_without : (B : List GridSegment) (numbers : List SideClasses) (i : ℕ) (l : List GridSegment)
    → length numbers ≡ length B → i < length B → rim_at numbers i ≡ false → l ≡ rims (take i B) (take i numbers)
    → l ≡ rims (take (i + 1) B) (take (i + 1) numbers)
rims_without B numbers i l e short is_none so_far =
    so_far ∙ sym (rims_more B numbers i e short
    ∙ ap (λ (b : Bool). rims (take i B) (take i numbers) ++ (if b then numbered B i ∷ [] else [])) is_none
    ∙ append_none (rims (take i B) (take i numbers)))
