-- This file shows that a look-up tells points or segments apart, by their order as by their equality.
use Rattle.std.proofs.Common.{◌≡◌, ◌≢◌, ◌⊎◌, Bool, true, false, Ordering, Less, Equal, Greater, refl, sym, inl, inr}
use Rattle.std.specs.Cmp.{IsTotalOrder, IsEquivalence}
use Rattle.std.specs.Ordering.{is_eq}
use Rattle.std.proofs.lemmas.Cmp.{tied_itself, on_equiv, and_equiv}
use Rattle.grid_base.specs.Point.{GridPoint, is_point, point_cmp}
use Rattle.grid_base.specs.Segment.{GridSegment, segment_cmp}
use Rattle.grid_base.proofs.Orders.{point_cmp-total, point_cmp-Equal, is_point-equiv, is_point-same}
use Rattle.grid_base.proofs.Orders.{segment_cmp-total, segment_cmp-Equal, is_segment-same}
use Rattle.component_registry.specs.Kept.{is_segment}

-- ---- by an order
module _ {K : Type 0} {R : K → K → Ordering} (total : IsTotalOrder R) (exact : (x y : K) → R x y ≡ Equal → x ≡ y) where
  -- two keys are one or not
  same_or_other : (s t : K) → (t ≡ s) ⊎ (t ≢ s)
  same_or_other s t = by_order (R s t) refl
    where
      by_order : (o : Ordering) → R s t ≡ o → (t ≡ s) ⊎ (t ≢ s)
      by_order Less e = inr (λ same. cc (tied_itself total s))
      by_order Equal e = inl (sym (exact s t e))
      by_order Greater e = inr (λ same. cc (tied_itself total s))

  -- a search for s passes over other keys
  pub passed_over : (s t : K) → t ≢ s → is_eq (R s t) ≡ false
  passed_over s t other = by_order (R s t) refl
    where
      by_order : (o : Ordering) → R s t ≡ o → is_eq o ≡ false
      by_order Less e = refl
      by_order Equal e = absurd (other (sym (exact s t e)))
      by_order Greater e = refl

-- only one point ties with a point
pub point_exact : (p q : GridPoint) → point_cmp p q ≡ Equal → p ≡ q
point_exact p q tie = (point_cmp-Equal p q).0 tie

-- and only one segment with a segment
pub segment_exact : (s t : GridSegment) → segment_cmp s t ≡ Equal → s ≡ t
segment_exact s t tie = (segment_cmp-Equal s t).0 tie

pub this_point_or_other : (p q : GridPoint) → (q ≡ p) ⊎ (q ≢ p)
this_point_or_other = same_or_other point_cmp-total point_exact

pub this_segment_or_other : (s t : GridSegment) → (t ≡ s) ⊎ (t ≢ s)
this_segment_or_other = same_or_other segment_cmp-total segment_exact

pub other_point_passed : (p q : GridPoint) → q ≢ p → is_eq (point_cmp p q) ≡ false
other_point_passed = passed_over point_cmp-total point_exact

pub other_segment_passed : (s t : GridSegment) → t ≢ s → is_eq (segment_cmp s t) ≡ false
other_segment_passed = passed_over segment_cmp-total segment_exact

-- ---- by equality
pub is_segment-equiv : IsEquivalence is_segment
is_segment-equiv = and_equiv (on_equiv (λ s. s.a) is_point-equiv) (on_equiv (λ s. s.b) is_point-equiv)

module _ {K : Type 0} (E : K → K → Bool) (same : (x y : K) → E x y ≡ true → x ≡ y) where
  -- a search for s passes over other keys
  differs : (s t : K) → t ≢ s → E s t ≡ false
  differs s t other = by_test (E s t) refl
    where
      by_test : (b : Bool) → E s t ≡ b → b ≡ false
      by_test true e = absurd (other (sym (same s t e)))
      by_test false e = refl

  -- an order that only ties equal keys ties where they are equal
  ties : {R : K → K → Ordering} → IsTotalOrder R → ((x y : K) → R x y ≡ Equal → x ≡ y) → IsEquivalence E
      → (s t : K) → E s t ≡ is_eq (R s t)
  ties {R} total exact laws s t = by_test (E s t) refl
    where
      by_test : (b : Bool) → E s t ≡ b → b ≡ is_eq (R s t)
      by_test true e = rw (same s t e, tied_itself total t) refl
      by_test false e = sym (passed_over total exact s t (λ (one : t ≡ s). cc (laws.refl s)))

pub other_point : (p q : GridPoint) → q ≢ p → is_point p q ≡ false
other_point = differs is_point is_point-same

pub other_segment : (s t : GridSegment) → t ≢ s → is_segment s t ≡ false
other_segment = differs is_segment is_segment-same

pub is_point-ties : (p q : GridPoint) → is_point p q ≡ is_eq (point_cmp p q)
is_point-ties = ties is_point is_point-same point_cmp-total point_exact is_point-equiv

pub is_segment-ties : (s t : GridSegment) → is_segment s t ≡ is_eq (segment_cmp s t)
is_segment-ties = ties is_segment is_segment-same segment_cmp-total segment_exact is_segment-equiv
