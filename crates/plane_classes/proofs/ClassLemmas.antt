-- This file shows that to be in one class is an equivalence of free places.
use Rattle.std.proofs.Common.{ℕ, ◌*◌, List, [], ◌∷◌, ◌++◌, ℤ, pos, ◌<ℤ◌, inl, inr, arith}
use Rattle.std.proofs.lemmas.Int.{ints}
use Rattle.grid_base.specs.Segment.{GridSegment}
use Rattle.grid_base.specs.Plane.{Place, IsFree}
use Rattle.plane_classes.proofs.Ways.{way_back}
use Rattle.plane_classes.proofs.Multiples.{way_to_itself}
use Rattle.plane_classes.specs.Classes.{IsWallBetween, TouchOneCell, Joins, AreInOneClass}

pub turned : (e : ℕ) (p q : Place) → IsWallBetween e q p → IsWallBetween e p q
turned e p q (inl h) = inr h
turned e p q (inr h) = inl h

pub touch_back : (B : List GridSegment) (p q : Place) → TouchOneCell B p q → TouchOneCell B q p
touch_back B p q h = record {
  no_wall_between = λ e w b. h.no_wall_between e w (turned e p q b);
  no_segment_between = way_back B p q h.no_segment_between;
}

-- two ways, one after the other
pub joined : (B : List GridSegment) (p r q : Place) (c d : List Place) → Joins B p c r → Joins B r d q → Joins B p (c ++ r ∷ d) q
joined B p r q [] d h k = (h, k)
joined B p r q (v ∷ c) d h k = (h.0, joined B v r q c d h.1 k)

pub one_class_joined : (B : List GridSegment) (p r q : Place) → AreInOneClass B p r → AreInOneClass B r q → AreInOneClass B p q
one_class_joined B p r q h k = (h.0 ++ r ∷ k.0, joined B p r q h.0 k.0 h.1 k.1)

pub one_class_by_touch : (B : List GridSegment) (p q : Place) → TouchOneCell B p q → AreInOneClass B p q
one_class_by_touch B p q h = ([], h)

joins_back : (B : List GridSegment) (p q : Place) (c : List Place) → Joins B p c q → AreInOneClass B q p
joins_back B p q [] h = ([], touch_back B p q h)
joins_back B p q (v ∷ c) h = one_class_joined B q v p (joins_back B v q c h.1) ([], touch_back B p v h.0)

pub one_class_back : (B : List GridSegment) (p q : Place) → AreInOneClass B p q → AreInOneClass B q p
one_class_back B p q h = joins_back B p q h.0 h.1

-- what doesn't change from a place to one that touches its cell doesn't change within a class
pub kept_in_class : (B : List GridSegment) (P : Place → Type 0) → ((p q : Place) → TouchOneCell B p q → P p → P q)
    → (p q : Place) (c : List Place) → Joins B p c q → P p → P q
kept_in_class B P step p q [] h k = step p q h k
kept_in_class B P step p q (v ∷ c) h k = kept_in_class B P step v q c h.1 (step p v h.0 k)

not_twice : (a b : ℤ) → a <ℤ b → b <ℤ a → ⊥
not_twice a b h k = omega (arith, ints)

-- no wall lies strictly between a place and itself
not_between_itself : (e : ℕ) (p : Place) → IsWallBetween e p p → ⊥
not_between_itself e p (inl (h, k)) = not_twice p.x (pos (e * p.w)) h k
not_between_itself e p (inr (h, k)) = not_twice p.x (pos (e * p.w)) h k

-- a free place is a free way to itself
itself_touches : (B : List GridSegment) (p : Place) → IsFree B p → TouchOneCell B p p
itself_touches B p free = record {
  no_wall_between = λ e wall between. not_between_itself e p between;
  no_segment_between = way_to_itself B p free;
}

pub itself_in_class : (B : List GridSegment) (p : Place) → IsFree B p → AreInOneClass B p p
itself_in_class B p free = one_class_by_touch B p p (itself_touches B p free)
