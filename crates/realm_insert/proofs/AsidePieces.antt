-- This file shows that a piece whose box lies off the line of another makes no violation with it.
use Rattle.std.proofs.Common.{◌≡◌, refl, sym, ap, ◌∙◌, inl, inr}
use Rattle.grid_base.specs.Point.{GridPoint, InBox}
use Rattle.grid_base.specs.Segment.{GridSegment}
use Rattle.grid_base.specs.Sides.{Side, Left, On, Right, opposite, side}
use Rattle.grid_base.specs.Drawing.{Drawing}
use Rattle.grid_base.proofs.Crossings.{end_on_line}
use Rattle.grid_base.proofs.Signs.{left_off, right_off}
use Rattle.realm_index.specs.Aside.{IsAside}
use Rattle.realm_insert.specs.Clashes.{NoClash}
use Rattle.realm_insert.proofs.CommonBoxes.{end_in_box}

-- a side that isn't on the line isn't its opposite
not_opposite : (one : Side) → (one ≡ On → ⊥) → one ≡ opposite one → ⊥
not_opposite Left off same = cc
not_opposite On off same = off same
not_opposite Right off same = cc

-- all points of the box of t are on the one side, which isn't the line of s
clear_beside : (d : Drawing) (s t : GridSegment) (one : Side) → (one ≡ On → ⊥)
    → ((p : GridPoint) → InBox t.a t.b p → side s.a s.b p ≡ one) → NoClash d s t
clear_beside d s t one off beside = record {
  no_end_of_s = λ p end point inside. off (sym (beside p inside.on.box) ∙ end_on_line s p end);
  no_end_of_t = λ p end point inside. off (sym (beside p (end_in_box t p end)) ∙ inside.on.line);
  no_crossing = λ cross.
      let at_a = beside t.a (end_in_box t t.a (inl refl)) in
      let at_b = beside t.b (end_in_box t t.b (inr refl)) in
      not_opposite one off (sym at_b ∙ cross.first.across ∙ ap opposite at_a);
}

-- whichever side that is
pub aside_is_clear : (d : Drawing) (s t : GridSegment) → IsAside s t → NoClash d s t
aside_is_clear d s t (inl left) = clear_beside d s t Left left_off left
aside_is_clear d s t (inr right) = clear_beside d s t Right right_off right

-- where it can't be that the box doesn't lie off the line, there is no violation either
pub clear_unless_along : (d : Drawing) (s t : GridSegment) → ((IsAside s t → ⊥) → ⊥) → NoClash d s t
clear_unless_along d s t aside = record {
  no_end_of_s = λ p end point inside. aside (λ is. (aside_is_clear d s t is).no_end_of_s p end point inside);
  no_end_of_t = λ p end point inside. aside (λ is. (aside_is_clear d s t is).no_end_of_t p end point inside);
  no_crossing = λ cross. aside (λ is. (aside_is_clear d s t is).no_crossing cross);
}
