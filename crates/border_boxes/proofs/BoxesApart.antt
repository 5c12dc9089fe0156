-- This file shows that boxes beside each other have no place in common but on their rims, and boxes apart none.
use Rattle.std.proofs.Common.{ℕ, ◌*◌, ◌<◌, ◌≤◌, ℤ, pos, ◌<ℤ◌, ◌≤ℤ◌, inl, inr, arith}
use Rattle.std.proofs.lemmas.Int.{ints}
use Rattle.grid_base.specs.Plane.{Place}
use Rattle.plane_classes.proofs.OverTests.{scaled, scaled_less}
use Rattle.border_boxes.specs.Boxes.{AreApart, AreBeside, HasPlace, HasPlaceInside}
use Rattle.border_boxes.specs.declared.boxes.BorderBox.{BorderBox}

-- from n on, and before m
not_before : (m n w : ℕ) (x : ℤ) → m ≤ n → pos (n * w) ≤ℤ x → x <ℤ pos (m * w) → ⊥
not_before m n w x h k l = let s = scaled m n w h in omega (arith, ints)

-- up to n, and past m
not_past : (m n w : ℕ) (x : ℤ) → n ≤ m → x ≤ℤ pos (n * w) → pos (m * w) <ℤ x → ⊥
not_past m n w x h k l = let s = scaled n m w h in omega (arith, ints)

pub none_inside : (first second : BorderBox) (q : Place) → AreBeside first second → HasPlace first q → HasPlaceInside second q → ⊥
none_inside first second q (inl (inl h)) a b = not_past second.left first.right q.w q.x h a.to_right b.past_left
none_inside first second q (inl (inr h)) a b = not_before second.right first.left q.w q.x h a.from_left b.before_right
none_inside first second q (inr (inl h)) a b = not_past second.low first.high q.w q.y h a.to_high b.past_low
none_inside first second q (inr (inr h)) a b = not_before second.high first.low q.w q.y h a.from_low b.before_high

not_between : (m n w : ℕ) (x : ℤ) → 0 < w → m < n → x ≤ℤ pos (m * w) → pos (n * w) ≤ℤ x → ⊥
not_between m n w x real h k l = let s = scaled_less m n w h real in omega (arith, ints)

pub none_in_both : (first second : BorderBox) (q : Place) → 0 < q.w → AreApart first second → HasPlace first q → HasPlace second q → ⊥
none_in_both first second q real (inl (inl h)) a b = not_between first.right second.left q.w q.x real h a.to_right b.from_left
none_in_both first second q real (inl (inr h)) a b = not_between second.right first.left q.w q.x real h b.to_right a.from_left
none_in_both first second q real (inr (inl h)) a b = not_between first.high second.low q.w q.y real h a.to_high b.from_low
none_in_both first second q real (inr (inr h)) a b = not_between second.high first.low q.w q.y real h b.to_high a.from_low
