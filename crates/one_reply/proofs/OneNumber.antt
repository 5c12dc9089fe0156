-- This file shows that the numbers of a value are one: its area, distances, its width, and how many components it has.
use Rattle.std.proofs.Common.{◌≡◌, ◌⊎◌, ◌↔◌, ℕ, ◌+◌, ◌<◌, ◌≤◌, Bool, true, false, not, cond, IsTrue, List, [], ◌∷◌, length, Contains}
use Rattle.std.proofs.Common.{AllPairs, refl, sym, ap, ap₂, subst, ◌∙◌, inl, inr, arith}
use Rattle.std.proofs.lemmas.List.Elements.{Contains-get_or}
use Rattle.std.proofs.lemmas.List.Sums.{sum_by-cons}
use Rattle.grid_base.specs.Point.{GridPoint}
use Rattle.grid_base.specs.Segment.{GridSegment}
use Rattle.grid_base.specs.Plane.{Place}
use Rattle.grid_base.proofs.Elements.{Contains-here, Contains-later, Contains-nil}
use Rattle.rose_values.specs.declared.geometry.Geometry.{Geometry}
use Rattle.rose_values.specs.declared.geometry.Geometry.TheVariants.{P, L, R}
use Rattle.plane_classes.specs.Classes.{AreInOneClass}
use Rattle.plane_classes.proofs.ClassLemmas.{one_class_joined, one_class_back}
use Rattle.r_blocks.specs.Blocks.{AreBlocks}
use Rattle.r_faces.specs.Faces.{HasOneOfEachFace}
use Rattle.rose_measure.specs.Areas.{area_under, area_under_those, IsTwiceTheArea}
use Rattle.rose_measure.specs.Components.{IsNumberOfComponents}
use Rattle.rose_measure.specs.Numbers.{IsLeastDistance, IsVertex, IsEmpty, IsDiameter}
use Rattle.one_reply.proofs.Partners.{ShareNone, no_longer}

-- ---- areas
-- two answers that tell one claim are one
pub same_answer : (T : Type 0) (a b : Bool) → IsTrue a ↔ T → IsTrue b ↔ T → a ≡ b
same_answer T true true one other = refl
same_answer T true false one other = sym (other.1 (one.0 refl))
same_answer T false true one other = one.1 (other.0 refl)
same_answer T false false one other = refl

-- tests that agree on the segments of the list count the same areas
same_area_under : (f g : GridSegment → Bool) (list : List GridSegment) → ((s : GridSegment) → Contains list s → f s ≡ g s)
    → area_under_those f list ≡ area_under_those g list
same_area_under f g [] agree = refl
same_area_under f g (s ∷ list) agree =
    sum_by-cons (λ t. cond (f t) (area_under t) 0) s list
    ∙ ap₂ (λ (b : Bool) (n : ℕ). cond b (area_under s) 0 + n) (agree s (Contains-here s list))
    (same_area_under f g list (λ t there. agree t (Contains-later s list t there)))
    ∙ sym (sum_by-cons (λ t. cond (g t) (area_under t) 0) s list)

-- each segment has the region below it, or hasn't
pub one_area : (border : List GridSegment) (m n : ℕ) → IsTwiceTheArea border m → IsTwiceTheArea border n → m ≡ n
one_area border m n one other =
    let agree : (s : GridSegment) → Contains border s → one.below s ≡ other.below s = λ s there.
    let told = one.tells s there in
    let also = other.tells s there in
    let (q, beside) = told.one in
    same_answer _ (one.below s) (other.below s) (told.all q beside) (also.all q beside) in
    let for_it = same_area_under one.below other.below border agree in
    let against = same_area_under (λ s. not (one.below s)) (λ s. not (other.below s)) border (λ s there. ap not (agree s there)) in
    omega (arith, one.total, other.total, for_it, against)

-- ---- distances
-- the one is reached, and the other is no greater
pub one_distance : (first second : List GridPoint) (m n : ℕ) → IsLeastDistance first second m → IsLeastDistance first second n → m ≡ n
one_distance first second m n one other =
    let (p, q, of_p, of_q, is) = one.reached in
    let (v, w, of_v, of_w, also) = other.reached in
    omega (arith, is, also, one.least v w of_v of_w, other.least p q of_p of_q)

-- and no less for a width
pub one_width : (value : Geometry) (m n : ℕ) → IsDiameter value m → IsDiameter value n → m ≡ n
one_width value m n one other =
    let (p, q, of_p, of_q, is) = one.reached in
    let (v, w, of_v, of_w, also) = other.reached in
    omega (arith, is, also, one.greatest v w of_v of_w, other.greatest p q of_p of_q)

-- no points have no distance
pub none_reached : (first second : List GridPoint) (n : ℕ) → (first ≡ []) ⊎ (second ≡ []) → IsLeastDistance first second n → ⊥
none_reached first second n none is =
    let (p, q, of_p, of_q, same) = is.reached in
    elim none [
      | inl empty ↦ Contains-nil p (subst (λ (l : List GridPoint). Contains l p) empty of_p)
      | inr empty ↦ Contains-nil q (subst (λ (l : List GridPoint). Contains l q) empty of_q)
    ]

no_vertex : (value : Geometry) (p : GridPoint) → IsEmpty value → IsVertex value p → ⊥
no_vertex (P points) p empty there = Contains-nil p (subst (λ (l : List GridPoint). Contains l p) empty there)
no_vertex (L lines) p empty (k, s, within, is, end) =
    Contains-nil s (subst (λ (l : List GridSegment). Contains l s) empty (k, within, is))
no_vertex (R border) p empty (k, s, within, is, end) =
    Contains-nil s (subst (λ (l : List GridSegment). Contains l s) empty (k, within, is))

-- what has no vertex has no width
pub none_wide : (value : Geometry) (n : ℕ) → IsEmpty value → IsDiameter value n → ⊥
none_wide value n empty is = let (p, q, of_p, of_q, same) = is.reached in no_vertex value p empty of_p

-- ---- components
-- a block of the one list has a segment in common with one of the other list, and with no two
module _ (list : List GridSegment) (some more : List (List GridSegment)) (one : AreBlocks list some) (other : AreBlocks list more) where
  abbrev Meets : List GridSegment → List GridSegment → Type 0
  Meets B C = Contains more C × (s : GridSegment) × Contains B s × Contains C s

  meets_one : (B : List GridSegment) → Contains some B → (C : List GridSegment) × Contains more C × Meets B C
  meets_one B there =
      let (s, in_B) = one.some B there in
      let (k, C, within, is, in_C) = other.each s (one.of_these B s there in_B) in
      (C, (k, within, is), ((k, within, is), s, in_B, in_C))

  meet_apart : AllPairs (ShareNone Meets) some
  meet_apart i j d before within C (there, s, in_B, s_in_C) (too, t, in_D, t_in_C) =
      let inside : i < length some = omega (arith, before, within) in
      let of_i = Contains-get_or some i d inside in
      let of_j = Contains-get_or some j d within in
      let linked = (other.connected C C s t there there s_in_C t_in_C).0 refl in
      one.once i j d before within ((one.connected _ _ s t of_i of_j in_B in_D).1 linked)

  no_more_blocks : length some ≤ length more
  no_more_blocks = no_longer Meets some more meets_one meet_apart

-- the same of places of faces
module _ (border : List GridSegment) (some more : List Place) (one : HasOneOfEachFace border some)
    (other : HasOneOfEachFace border more) where
  in_one_class : (p : Place) → Contains some p → (q : Place) × Contains more q × AreInOneClass border p q
  in_one_class p there = let (k, q, within, is, same) = other.each p (one.interior p there) in (q, (k, within, is), same)

  no_more_faces : length some ≤ length more
  no_more_faces = no_longer (AreInOneClass border) some more in_one_class
      (λ i j d before within r first second.
      one.apart i j d before within (one_class_joined border _ r _ first (one_class_back border _ r second)))

-- neither list is longer than the other
as_many : {m n k l : ℕ} → m ≡ k → n ≡ l → m ≤ n → n ≤ m → k ≡ l
as_many first second up down = omega (arith, first, second, up, down)

pub one_count : (value : Geometry) (m n : ℕ) → IsNumberOfComponents value m → IsNumberOfComponents value n → m ≡ n
one_count (P points) m n one other = one ∙ sym other
one_count (L lines) m n (some, are, is) (more, also, is_too) =
    as_many is is_too (no_more_blocks lines some more are also) (no_more_blocks lines more some also are)
one_count (R border) m n (some, are, is) (more, also, is_too) =
    as_many is is_too (no_more_faces border some more are also) (no_more_faces border more some also are)
