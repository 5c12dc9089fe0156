-- This file shows what stands for a link of a chain once a path is drawn in the place of a piece.
use Rattle.std.proofs.Common.{◌≡◌, ◌≢◌, ◌-◌, ◌≤◌, ◌&&◌, if◌then◌else◌, Bool, true, false}
use Rattle.std.proofs.Common.{List, [], ◌∷◌, length, reverse, refl, sym, ap₂, ◌∙◌, inl, inr, arith}
use Rattle.std.proofs.lemmas.List.{length-reverse}
use Rattle.std.proofs.lemmas.Bool.Decides.{nat_tests}
use Rattle.grid_base.specs.Point.{GridPoint, point_at, is_point}
use Rattle.grid_base.specs.Segment.{GridSegment}
use Rattle.grid_base.specs.Drawing.{IsLink}
use Rattle.hook_chain.specs.Redrawing.{front}
use Rattle.chain_laws.specs.Stretches.{stretch}

-- ---- the three cases
-- two points that the test tells apart
pub apart_by_test : (p q : GridPoint) → is_point p q ≡ false → p ≢ q
apart_by_test p q other same = grind (arith, nat_tests)

are_both : (v w p q : GridPoint) → (is_point v p && is_point w q) ≡ true → (v ≡ p) × (w ≡ q)
are_both v w p q is =
    let same : (v.x ≡ p.x) × (v.y ≡ p.y) × (w.x ≡ q.x) × (w.y ≡ q.y) = grind (arith, nat_tests) in
    (ap₂ point_at same.0 same.1, ap₂ point_at same.2 same.3)

are_not_both : (v w p q : GridPoint) → (is_point v p && is_point w q) ≡ false → (v ≡ p) × (w ≡ q) → ⊥
are_not_both v w p q is same = let first = same.0 in let second = same.1 in grind (arith, nat_tests)

-- way is the path where the link is t, the path back where it is t turned round and not t, and else the link itself
pub data Drawn (t : GridSegment) (path : List GridPoint) (v w : GridPoint) (way : List GridPoint) : Type 0 where
  Forth : v ≡ t.a → w ≡ t.b → way ≡ front path → Drawn t path v w way
  Back : ((v ≡ t.a) × (w ≡ t.b) → ⊥) → v ≡ t.b → w ≡ t.a → way ≡ front (reverse path) → Drawn t path v w way
  Other : (IsLink t v w → ⊥) → way ≡ v ∷ [] → Drawn t path v w way

-- what stands for a link is one of the three
pub drawn : (t : GridSegment) (path : List GridPoint) (v w : GridPoint) → Drawn t path v w (stretch t path v w)
drawn t path v w = by_tests (is_point v t.a && is_point w t.b) (is_point v t.b && is_point w t.a) refl refl
  where
    by_tests : (forth back : Bool) → (is_point v t.a && is_point w t.b) ≡ forth → (is_point v t.b && is_point w t.a) ≡ back
        → Drawn t path v w (if forth then front path else if back then front (reverse path) else v ∷ [])
    by_tests true back is_forth is_back = let same = are_both v w t.a t.b is_forth in Forth same.0 same.1 refl
    by_tests false true is_forth is_back =
        let same = are_both v w t.b t.a is_back in
        Back (are_not_both v w t.a t.b is_forth) same.0 same.1 refl
    by_tests false false is_forth is_back = Other (λ link. elim link [
      | inl forth ↦ are_not_both v w t.a t.b is_forth forth
      | inr back ↦ are_not_both v w t.b t.a is_back back
    ]) refl

-- ---- which case it is
pub forth_stretch : (t : GridSegment) (path : List GridPoint) (v w : GridPoint) → v ≡ t.a → w ≡ t.b
    → stretch t path v w ≡ front path
forth_stretch t path v w at_a at_b = by_case (drawn t path v w)
  where
    by_case : Drawn t path v w (stretch t path v w) → stretch t path v w ≡ front path
    by_case (Forth v_is w_is is) = is
    by_case (Back not_forth v_is w_is is) = absurd (not_forth (at_a, at_b))
    by_case (Other not_link is) = absurd (not_link (inl (at_a, at_b)))

pub back_stretch : (t : GridSegment) (path : List GridPoint) (v w : GridPoint) → t.a ≢ t.b → v ≡ t.b → w ≡ t.a
    → stretch t path v w ≡ front (reverse path)
back_stretch t path v w apart at_b at_a = by_case (drawn t path v w)
  where
    by_case : Drawn t path v w (stretch t path v w) → stretch t path v w ≡ front (reverse path)
    by_case (Forth v_is w_is is) = absurd (apart (sym v_is ∙ at_b))
    by_case (Back not_forth v_is w_is is) = is
    by_case (Other not_link is) = absurd (not_link (inr (at_b, at_a)))

pub other_stretch : (t : GridSegment) (path : List GridPoint) (v w : GridPoint) → (IsLink t v w → ⊥)
    → stretch t path v w ≡ v ∷ []
other_stretch t path v w other = by_case (drawn t path v w)
  where
    by_case : Drawn t path v w (stretch t path v w) → stretch t path v w ≡ v ∷ []
    by_case (Forth v_is w_is is) = absurd (other (inl (v_is, w_is)))
    by_case (Back not_forth v_is w_is is) = absurd (other (inr (v_is, w_is)))
    by_case (Other not_link is) = is

-- ---- how many points stand for a link
length-front : (path : List GridPoint) → length (front path) ≡ length path - 1
length-front [] = refl
length-front (p ∷ []) = refl
length-front (p ∷ q ∷ path) = omega (arith, length-front (q ∷ path))

-- one of them at least
pub stretch_is_some : (t : GridSegment) (path : List GridPoint) (v w : GridPoint) → 2 ≤ length path
    → 1 ≤ length (stretch t path v w)
stretch_is_some t path v w some = by_case (stretch t path v w) (drawn t path v w)
  where
    by_case : (way : List GridPoint) → Drawn t path v w way → 1 ≤ length way
    by_case way (Forth v_is w_is is) = rw is (omega (arith, length-front path))
    by_case way (Back not_forth v_is w_is is) = rw is (omega (arith, length-front (reverse path), length-reverse path))
    by_case way (Other not_link is) = rw is (omega arith)

-- and more for the piece, where the path has a point between its ends
pub stretch_is_long : (t : GridSegment) (path : List GridPoint) (v w : GridPoint) → 3 ≤ length path → IsLink t v w
    → 2 ≤ length (stretch t path v w)
stretch_is_long t path v w long link = by_case (stretch t path v w) (drawn t path v w)
  where
    by_case : (way : List GridPoint) → Drawn t path v w way → 2 ≤ length way
    by_case way (Forth v_is w_is is) = rw is (omega (arith, length-front path))
    by_case way (Back not_forth v_is w_is is) = rw is (omega (arith, length-front (reverse path), length-reverse path))
    by_case way (Other not_link is) = absurd (not_link link)
