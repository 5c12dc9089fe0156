-- This file shows what a change makes of a drawing before the first step, and that it is on the grid.
use Rattle.std.proofs.Common.{◌≢◌, ℕ, ◌+◌, ◌≤◌, not, ◌==◌, List, ◌++◌, length, All, AllPairs, refl, sym, ap}
use Rattle.std.proofs.Common.{subst, inl, inr, arith}
use Rattle.std.proofs.lemmas.List.Elements.{All-contains}
use Rattle.std.proofs.lemmas.List.Sums.{length-filter, count_by-le-length}
use Rattle.grid_base.specs.Point.{GridPoint, OnGrid, IsBefore}
use Rattle.grid_base.specs.Drawing.{Drawing}
use Rattle.grid_base.specs.declared.original.Original.{Original}
use Rattle.grid_base.proofs.Ends.{same_or_not}
use Rattle.line_grammar.specs.declared.command.Change.{Change}
use Rattle.line_grammar.specs.declared.command.Change.TheVariants.{Unpoint, Delete}
use Rattle.hook_chain.specs.Changed.{without_id}
use Rattle.rose_overlay.proofs.Picks.{either_append}
use Rattle.rose_predicates.proofs.Truths.{each}
use Rattle.realm_insert.specs.Changes.{IsChangedTo, IsExplicitAfter, placed_all}
use Rattle.realm_insert.specs.Figures.{Figure}
use Rattle.realm_insert.specs.Lines.{grid_point}
use Rattle.one_reply.proofs.Decisions.{not_decided}
use Rattle.one_reply.proofs.Listings.{listed_points, picked_points}
use Rattle.some_answer.proofs.OriginalsInRow.{AreInRow, later, fewer, all_placed, as_many}
use Rattle.some_answer.proofs.SomeFigure.{IsFit}

-- a point is left out, an original goes, or points and originals are added
pub some_changed : (c : Change) (figure : Figure) (d : Drawing) (first : ℕ) → AllPairs IsBefore d.points
    → (changed : Drawing) × IsChangedTo c figure d first changed
some_changed (Unpoint p) figure d first ascend =
    let (list, up, are) = picked_points (λ q. q ≢ grid_point p) d.points (λ q there. not_decided (same_or_not q (grid_point p))) in
    (record { points = list; originals = d.originals }, record { points = are; ascending = up; originals = refl })
some_changed (Delete id) figure d first ascend =
    (without_id d id, record { points = λ q. (λ there. there, λ there. there); ascending = ascend; originals = refl })
some_changed c figure d first ascend =
    let (list, is) = listed_points (figure.points ++ d.points) in (
      record { points = list; originals = (placed_all d first figure.segments).originals },
      record {
        points = λ q. (
          λ there. (either_append figure.points d.points q).0 ((is.exact q).0 there),
          λ one. (is.exact q).1 ((either_append figure.points d.points q).1 one),
        );
        ascending = is.ascending;
        originals = refl;
      },
    )

module _ (figure : Figure) (d : Drawing) (first : ℕ) (changed : Drawing) where
  -- ids go on from the first
  pub row_changed : (c : Change) → 1 ≤ first → IsFit figure → AreInRow first d.originals → IsChangedTo c figure d first changed
      → AreInRow (first + length figure.segments) changed.originals
  row_changed (Unpoint p) least fit row is =
      subst (AreInRow (first + length figure.segments)) (sym is.originals)
      (later first (first + length figure.segments) d.originals (omega arith) row)
  row_changed (Delete id) least fit row is =
      subst (AreInRow (first + length figure.segments)) (sym is.originals)
      (later first (first + length figure.segments) (without_id d id).originals (omega arith)
      (fewer first (λ o. not (o.id == id)) d.originals row))
  row_changed c least fit row is =
      subst (AreInRow (first + length figure.segments)) (sym is.originals)
      (all_placed d first figure.segments least fit.ordered fit.segments row)

  -- no more originals come than segments are drawn
  pub few_changed : (c : Change) → IsChangedTo c figure d first changed
      → length changed.originals ≤ length d.originals + length figure.segments
  few_changed (Unpoint p) is = let same = ap (λ (l : List Original). length l) is.originals in omega (arith, same)
  few_changed (Delete id) is =
      let same = ap (λ (l : List Original). length l) is.originals in
      let left = length-filter (λ (o : Original). not (o.id == id)) d.originals in
      let most = count_by-le-length (λ (o : Original). not (o.id == id)) d.originals in
      omega (arith, same, left, most)
  few_changed c is =
      let same = ap (λ (l : List Original). length l) is.originals in
      omega (arith, same, as_many d first figure.segments)

  explicit_on_grid : (c : Change) (q : GridPoint) → All OnGrid figure.points → All OnGrid d.points
      → IsExplicitAfter c figure d.points q → OnGrid q
  explicit_on_grid (Unpoint p) q drawn on after = All-contains OnGrid d.points q on after.0
  explicit_on_grid (Delete id) q drawn on after = All-contains OnGrid d.points q on after
  explicit_on_grid c q drawn on after = elim after [
    | inl new ↦ All-contains OnGrid figure.points q drawn new
    | inr old ↦ All-contains OnGrid d.points q on old
  ]

  pub points_changed : (c : Change) → IsFit figure → All OnGrid d.points → IsChangedTo c figure d first changed → All OnGrid changed.points
  points_changed c fit on is =
      each OnGrid changed.points (λ q there. explicit_on_grid c q fit.points on ((is.points q).0 there))
