-- This file shows that a box that is widened by a segment is the box of one segment more.
use Rattle.std.proofs.Common.{◌≡◌, ℕ, ◌+◌, ◌<◌, List, [], length, get_or, take, Some, subst, sym, inl}
use Rattle.std.proofs.lemmas.List.{take_more}
use Rattle.std.proofs.lemmas.List.Elements.{All-more, All-nil, All-pop, All-weaker}
use Rattle.grid_base.specs.Segment.{GridSegment}
use Rattle.border_boxes.specs.Boxes.{IsBoxOf, IsWithin, LiesIn, empty_box}
use Rattle.border_boxes.specs.declared.boxes.BorderBox.{BorderBox}

pub no_segments : (box : BorderBox) → box ≡ empty_box → IsBoxOf box []
no_segments box empty = record { holds = All-nil (IsWithin box); least = λ other none. inl empty }

-- the box is widened as far as s asks, and no farther
pub record IsWidened (box wider : BorderBox) (s : GridSegment) : Type 0 where
  pub one_more : IsWithin wider s
  pub others : (t : GridSegment) → IsWithin box t → IsWithin wider t
  pub least : (other : BorderBox) → IsWithin other s → LiesIn box other → LiesIn wider other

pub one_segment_more : (box wider : BorderBox) (list : List GridSegment) (k : ℕ) (s : GridSegment) → k < length list
    → s ≡ get_or list k s → IsWidened box wider s → IsBoxOf box (take k list) → IsBoxOf wider (take (k + 1) list)
one_segment_more box wider list k s within is widened h = record {
  holds = All-more (IsWithin wider) list k s within (All-weaker (IsWithin box) (IsWithin wider) widened.others (take k list) h.holds)
      (subst (IsWithin wider) is widened.one_more);
  least = λ other all.
      (let parts = All-pop (IsWithin other) (take (k + 1) list) (take k list) (Some (get_or list k s)) (take_more list k s within) all in
      widened.least other (subst (IsWithin other) (sym is) parts.1) (h.least other parts.0));
}
