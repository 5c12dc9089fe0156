use Rattle.std.proofs.Common.{◌∷◌, sym, ◌∙◌, inl, inr}
use Rattle.side_parity.proofs.Pictures.{meet_noded}
use Rattle.side_parity.proofs.SidesBy.{IsSound}
use Rattle.rose_overlay.proofs.LiesWithin.{by_lies, lies_by}
use Rattle.rose_overlay.proofs.Parted.{left_told}
use Rattle.rose_predicates.proofs.Truths.{never, not_held}
use Rattle.rose_predicates.proofs.of_few.crosses_region.Goals as goal

-- it is on the border
pub returns-then-has_segment : goal.returns-then-has_segment
returns-then-has_segment c = never (λ both. both.1 (c.has_segment.ensures.0 c.if-has_segment.true))

-- a segment off the border lies in the region where it is odd on its left
pub returns : goal.returns
returns c =
    let B = c.args.border.now in
    let s = c.args.s.now in
    let sound : IsSound B s =
    record {
      realm = meet_noded (s ∷ B) c.requires.noded;
      ordered = c.requires.ordered.1;
      first = c.requires.ordered.0;
      even = c.requires.border.even;
    } in
    let told = left_told B s c.sides.result.left sound c.sides.ensures.left in
    let off = not_held c.has_segment.ensures c.if-has_segment.false in (
      λ h. (lies_by B s sound (inr (sym told ∙ h)), off),
      λ both. elim (by_lies B s sound both.0) [ inl there ↦ absurd (off there) | inr odd ↦ told ∙ odd ],
    )
