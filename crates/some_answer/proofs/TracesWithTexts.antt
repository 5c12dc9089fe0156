-- This file shows that the steps of each trace have texts, and that they are few where there are few originals.
use Rattle.std.proofs.Common.{ℕ, ◌*◌, ◌-◌, ◌≤◌, ◌^◌, List, [], ◌∷◌, length, All, sym, subst, arith}
use Rattle.std.specs.List.{AllByRecursion, sum_by}
use Rattle.std.proofs.lemmas.List.Elements.{All-head, All-tail}
use Rattle.std.proofs.lemmas.List.Sums.{sum_by-cons}
use Rattle.grid_base.specs.Grid.{grid_side}
use Rattle.grid_base.specs.Point.{GridPoint, OnGrid}
use Rattle.grid_base.specs.Segment.{GridSegment}
use Rattle.grid_base.specs.Drawing.{Drawing, IsPoint, IsPiece}
use Rattle.grid_base.specs.declared.kinds.Step.{Step}
use Rattle.grid_base.specs.declared.kinds.Step.TheVariants.{Split, Meet, Corner}
use Rattle.grid_base.specs.declared.original.Original.{Original}
use Rattle.grid_base.proofs.RealmLaw.{piece_ends}
use Rattle.segment_envelope.proofs.MeetPoints.{meet_point_near}
use Rattle.hook_chain.specs.Steps.{Permitted, Settles}
use Rattle.hook_chain.specs.Measure.{most_links}
use Rattle.hook_chain.specs.Straight.{along}
use Rattle.record_codec.specs.Traces.{IsSegment, IsStep, IsTrace}
use Rattle.drawing_settles.proofs.Settling.{short}
use Rattle.some_answer.proofs.OriginalsInRow.{AreInRow, box_on_grid, drawn_on_grid}
use Rattle.some_answer.proofs.KeptOriginals.{row_stays, points_stay}

-- ---- each step
-- the ends of a piece are points that are drawn
piece_text : (d : Drawing) → ((p : GridPoint) → IsPoint d p → OnGrid p) → (t : GridSegment) → IsPiece d t → IsSegment t
piece_text d grid t piece =
    let ends = piece_ends d t piece in record { from = grid t.a ends.0; to = grid t.b ends.1; ordered = piece.0 }

-- and a meet point is in the box of a piece
step_text : (d e : Drawing) (step : Step) → ((p : GridPoint) → IsPoint d p → OnGrid p) → Permitted d step e → IsStep step
step_text d e (Split p t) grid permitted = (grid p permitted.0, piece_text d grid t permitted.1)
step_text d e (Meet t u x) grid permitted =
    let first = piece_text d grid t permitted.0 in
    let second = piece_text d grid u permitted.1 in
    let near = meet_point_near t u x first.ordered second.ordered (record { cross = permitted.3; at = permitted.4 }) in
    (first, second, permitted.2, box_on_grid t.a t.b x first.from first.to near.0.box)
step_text d e (Corner t u) grid permitted = (piece_text d grid t permitted.0, piece_text d grid u permitted.1)

steps_text : (n : ℕ) (d e : Drawing) (trace : List Step) → AreInRow n d.originals → All OnGrid d.points → Settles d trace e
    → AllByRecursion IsStep trace
steps_text n d e [] row on settles = tt
steps_text n d e (step ∷ trace) row on settles =
    let next = settles.0 in (
      step_text d next step (drawn_on_grid n d row on) settles.1,
      steps_text n next e trace (row_stays n d next step settles.1 row)
          (subst (All OnGrid) (sym (points_stay d next step settles.1)) on) settles.2,
    )

-- ---- how many they are
-- an original has fewer links than the grid has columns and rows
most_few : (originals : List Original) → All (λ o. OnGrid o.a × OnGrid o.b) originals
    → sum_by (λ (o : Original). most_links (along o)) originals ≤ 2 * (grid_side - 1) * length originals
most_few [] on = omega arith
most_few (o ∷ originals) on =
    let rest = most_few originals (All-tail (λ q. OnGrid q.a × OnGrid q.b) o originals on) in
    let ends = All-head (λ q. OnGrid q.a × OnGrid q.b) o originals on in
    let sum = sum_by-cons (λ (q : Original). most_links (along q)) o originals in
    let here = few_links o ends.0 ends.1 in
    omega (arith, rest, sum, here)
  where
    few_links : (o : Original) → OnGrid o.a → OnGrid o.b → most_links (along o) ≤ 2 * (grid_side - 1)
    few_links o first second = omega (arith, first.column, first.row, second.column, second.row)

-- so each trace has a text where there are few originals
pub trace_text : (n : ℕ) (d e : Drawing) (trace : List Step) → AreInRow n d.originals → All OnGrid d.points
    → length d.originals ≤ 2 ^ 26 → Settles d trace e → IsTrace trace
trace_text n d e trace row on few settles =
    let most = most_few d.originals row.ends in
    let long = short d e trace row.valid settles in
    record { few = omega (arith, most, long, few); each = steps_text n d e trace row on settles }
