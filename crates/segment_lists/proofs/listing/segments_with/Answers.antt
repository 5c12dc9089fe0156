use Rattle.std.proofs.Common.{rules, ◌≡◌, ◌∙◌, sym, ap₂, List, [], ◌∷◌, ◌++◌, get_or}
use Rattle.std.proofs.lemmas.List.{map_more}
use Rattle.std.proofs.lemmas.List.Elements.{All-more}
use Rattle.grid_base.specs.Segment.{GridSegment}
use Rattle.segment_lists.specs.Ends.{AreEnds, between_ends}
use Rattle.segment_lists.proofs.listing.segments_with.Goals as goal

-- the next are ends too, and the segment between them is put last
pub loop-ends-preserved : goal.loop-ends-preserved
loop-ends-preserved c =
    let table = c.args.table.now in
    let i = c.loop-ends.ends-index in
    let ends : AreEnds (get_or table i []) = search rules in
    let between : c.in-Some.s ≡ between_ends (get_or table i []) = search rules in (
      All-more AreEnds table i [] c.loop-ends-test.true c.loop-ends.invariant.0 ends,
      c.in_ok-push.ensures.items
          ∙ ap₂ (λ (l : List GridSegment) (s : GridSegment). l ++ s ∷ []) c.loop-ends.invariant.1 between
          ∙ sym (map_more between_ends table i [] c.loop-ends-test.true),
    )
