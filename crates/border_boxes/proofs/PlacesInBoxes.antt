-- This file shows that the places of segments are in a box that holds them, and when a place or a point is in a box.
use Rattle.std.proofs.Common.{◌≡◌, ◌⊎◌, ℕ, ◌*◌, ◌<◌, ◌≤◌, List, ℤ, pos, ◌<ℤ◌, ◌≤ℤ◌, inl, inr, arith}
use Rattle.std.proofs.lemmas.Bool.{cases_lt}
use Rattle.std.proofs.lemmas.Int.{ints}
use Rattle.std.proofs.lemmas.List.Elements.{All-contains}
use Rattle.grid_base.specs.Point.{GridPoint}
use Rattle.grid_base.specs.Segment.{GridSegment}
use Rattle.grid_base.specs.Plane.{Place, IsAmong, IsAtPoint}
use Rattle.grid_base.proofs.Signs.{order, not_both}
use Rattle.rose_values.specs.Areas.{IsOnSome}
use Rattle.plane_classes.proofs.OverTests.{scaled, scaled_less}
use Rattle.plane_classes.proofs.Ways.{AreInOrder}
use Rattle.border_boxes.specs.Boxes.{HasPlace, HasPlaceInside, HasPoint, HoldsAll, IsWithin}
use Rattle.border_boxes.specs.declared.boxes.BorderBox.{BorderBox}

pub in_order : (box : BorderBox) (B : List GridSegment) → HoldsAll box B → AreInOrder B
in_order box B within s there = (All-contains (IsWithin box) B s within there).order

-- ---- places of segments
at_least : (n a w : ℕ) (x : ℤ) → n ≤ a → pos (a * w) ≤ℤ x → pos (n * w) ≤ℤ x
at_least n a w x h k = let s = scaled n a w h in omega (arith, ints)

at_most : (n b w : ℕ) (x : ℤ) → b ≤ n → x ≤ℤ pos (b * w) → x ≤ℤ pos (n * w)
at_most n b w x h k = let s = scaled b n w h in omega (arith, ints)

from_row : (n a b w : ℕ) (y : ℤ) → (n ≤ a) × (n ≤ b) → IsAmong (pos (a * w)) (pos (b * w)) y → pos (n * w) ≤ℤ y
from_row n a b w y h (inl m) = at_least n a w y h.0 m.0
from_row n a b w y h (inr m) = at_least n b w y h.1 m.0

to_row : (n a b w : ℕ) (y : ℤ) → (a ≤ n) × (b ≤ n) → IsAmong (pos (a * w)) (pos (b * w)) y → y ≤ℤ pos (n * w)
to_row n a b w y h (inl m) = at_most n b w y h.1 m.1
to_row n a b w y h (inr m) = at_most n a w y h.0 m.1

pub held_in_box : (box : BorderBox) (B : List GridSegment) (q : Place) → HoldsAll box B → IsOnSome B q → HasPlace box q
held_in_box box B q within (s, there, held) =
    let in_box = All-contains (IsWithin box) B s within there in record {
      from_left = at_least box.left s.a.x q.w q.x in_box.left held.across.from;
      to_right = at_most box.right s.b.x q.w q.x in_box.right held.across.to;
      from_low = from_row box.low s.a.y s.b.y q.w q.y in_box.low held.up;
      to_high = to_row box.high s.a.y s.b.y q.w q.y in_box.high held.up;
    }

-- ---- points of the grid
not_less : (m n w : ℕ) (x : ℤ) → 0 < w → x ≡ pos (n * w) → pos (m * w) ≤ℤ x → m ≤ n
not_less m n w x real at h = elim (cases_lt n m) [
  | inl less ↦ (let s = scaled_less n m w less real in absurd (omega (arith, ints)))
  | inr le ↦ le
]

not_more : (m n w : ℕ) (x : ℤ) → 0 < w → x ≡ pos (n * w) → x ≤ℤ pos (m * w) → n ≤ m
not_more m n w x real at h = elim (cases_lt m n) [
  | inl less ↦ (let s = scaled_less m n w less real in absurd (omega (arith, ints)))
  | inr le ↦ le
]

pub has_point : (box : BorderBox) (p : GridPoint) (q : Place) → 0 < q.w → IsAtPoint q p → HasPlace box q → HasPoint box p
has_point box p q real at h = record {
  from_left = not_less box.left p.x q.w q.x real at.0 h.from_left;
  to_right = not_more box.right p.x q.w q.x real at.0 h.to_right;
  from_low = not_less box.low p.y q.w q.y real at.1 h.from_low;
  to_high = not_more box.high p.y q.w q.y real at.1 h.to_high;
}

-- ---- a place is in a box or isn't
at_most_from : (a b : ℤ) → a <ℤ b → a ≤ℤ b
at_most_from a b h = omega (arith, ints)

pub has_by_inside : (box : BorderBox) (q : Place) → HasPlaceInside box q → HasPlace box q
has_by_inside box q h = record {
  from_left = at_most_from _ _ h.past_left;
  to_right = at_most_from _ _ h.before_right;
  from_low = at_most_from _ _ h.past_low;
  to_high = at_most_from _ _ h.before_high;
}

pub has_or_not : (box : BorderBox) (q : Place) → HasPlace box q ⊎ (HasPlace box q → ⊥)
has_or_not box q = elim (order (pos (box.left * q.w)) q.x) [
  | inr off ↦ inr (λ h. not_both _ _ off h.from_left)
  | inl from_left ↦ elim (order q.x (pos (box.right * q.w))) [
    | inr off ↦ inr (λ h. not_both _ _ off h.to_right)
    | inl to_right ↦ elim (order (pos (box.low * q.w)) q.y) [
      | inr off ↦ inr (λ h. not_both _ _ off h.from_low)
      | inl from_low ↦ elim (order q.y (pos (box.high * q.w))) [
        | inr off ↦ inr (λ h. not_both _ _ off h.to_high)
        | inl to_high ↦ inl (record { from_left = from_left; to_right = to_right; from_low = from_low; to_high = to_high })
      ]
    ]
  ]
]

-- the side on which q isn't strictly inside the box
pub data IsOffSide (box : BorderBox) (q : Place) : Type 0 where
  LeftOf : q.x ≤ℤ pos (box.left * q.w) → IsOffSide box q
  RightOf : pos (box.right * q.w) ≤ℤ q.x → IsOffSide box q
  Below : q.y ≤ℤ pos (box.low * q.w) → IsOffSide box q
  Above : pos (box.high * q.w) ≤ℤ q.y → IsOffSide box q

pub inside_or_off : (box : BorderBox) (q : Place) → HasPlaceInside box q ⊎ IsOffSide box q
inside_or_off box q = elim (order q.x (pos (box.left * q.w))) [
  | inl off ↦ inr (LeftOf off)
  | inr past_left ↦ elim (order (pos (box.right * q.w)) q.x) [
    | inl off ↦ inr (RightOf off)
    | inr before_right ↦ elim (order q.y (pos (box.low * q.w))) [
      | inl off ↦ inr (Below off)
      | inr past_low ↦ elim (order (pos (box.high * q.w)) q.y) [
        | inl off ↦ inr (Above off)
        | inr before_high ↦ inl (record {
          past_left = past_left;
          before_right = before_right;
          past_low = past_low;
          before_high = before_high;
        })
      ]
    ]
  ]
]
