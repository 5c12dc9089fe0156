-- This file shows that a change of a valid state is refused by a word, or made.
use Rattle.std.proofs.Common.{◌⊎◌, ◌+◌, ◌≤◌, ◌^◌, List, [], ◌∷◌, ◌++◌, length, Some, None, refl, inl, inr, arith}
use Rattle.grid_base.specs.declared.kinds.Step.{Step}
use Rattle.grid_base.proofs.Signs.{natural_order}
use Rattle.line_grammar.specs.declared.command.Change.{Change}
use Rattle.realm_insert.specs.Figures.{Figure, Draws}
use Rattle.realm_insert.specs.Next.{Next}
use Rattle.realm_insert.specs.Refusals.{LacksIds, IsRefusedBy, IsAccepted, before_limits}
use Rattle.realm_insert.specs.Snapshots.{IsValidState}
use Rattle.realm_insert.specs.State.{State, kept_trace, latest}
use Rattle.realm_insert.specs.declared.refusal.Refusal.{Refusal}
use Rattle.realm_insert.specs.declared.refusal.Refusal.TheVariants.{Ids, Changes}
use Rattle.realm_insert.proofs.FirstCauses.{first_within, first_after}
use Rattle.realm_insert.proofs.OneFigure.{ids_suffice}
use Rattle.drawing_settles.proofs.Settling.{some_trace}
use Rattle.one_reply.specs.Answerable.{IsDrawnOnGrid}
use Rattle.one_reply.proofs.Decisions.{Decided}
use Rattle.some_answer.proofs.Causes.{no_change_left, first_or_none, before_or_none}
use Rattle.some_answer.proofs.SomeFigure.{some_figure, fit_figure}
use Rattle.some_answer.proofs.OriginalsInRow.{row_of}
use Rattle.some_answer.proofs.SomeChanged.{some_changed, row_changed}
use Rattle.some_answer.proofs.SomeValues.{some_values}

-- the ids of the figure are left or not
lacks_ids : (c : Change) (s : State) (figure : Figure) → Draws c s figure → s.next_id ≤ 2 ^ 32 → Decided (LacksIds c s)
lacks_ids c s figure draws most = elim (natural_order (s.next_id + length figure.segments) (2 ^ 32)) [
  | inl fits ↦ inr (ids_suffice c s figure draws fits)
  | inr past ↦ inl (record { figure = figure; draws = draws; some = omega (arith, most, past); too_many = past })
]

-- what an accepted change makes, settled by some trace
made : (c : Change) (s : State) (figure : Figure) → IsValidState s → IsDrawnOnGrid s → Draws c s figure → IsAccepted c s
    → (trace : List Step) × (new : State) × Next s c trace new
made c s figure valid grid draws accepted =
    let (changed, is) = some_changed c figure s.drawing s.next_id valid.points_ascend in
    let fit = fit_figure c s figure valid grid accepted.0 accepted.1.1.0 draws in
    let row = row_changed figure s.drawing s.next_id changed c valid.first_id fit (row_of s valid grid) is in
    let (trace, e, settles) = some_trace changed row.valid in
    let (values, after) = some_values c figure s.next_id s.values in (
      trace,
      record {
        drawing = e;
        next_id = s.next_id + length figure.segments;
        values = values;
        changes = s.changes + 1;
        traces = latest (s.traces ++ kept_trace (s.changes + 1) trace ∷ []);
      },
      record {
        accepted = accepted;
        figure = figure;
        draws = draws;
        changed = changed;
        is_changed = is;
        settles = settles;
        next_id = refl;
        values = after;
        changes = refl;
        traces = refl;
      },
    )

-- the causes one after another, the limits last
pub some_change : (c : Change) (s : State) → IsValidState s → IsDrawnOnGrid s
    → ((word : Refusal) × IsRefusedBy c s word) ⊎ ((trace : List Step) × (new : State) × Next s c trace new)
some_change c s valid grid = elim (before_or_none c s) [
  | inl (word, first) ↦ inl (word, first_within before_limits (Ids ∷ Changes ∷ []) c s word first)
  | inr none ↦
      let (figure, draws) = some_figure c s valid grid none in
      elim (first_or_none (Ids ∷ Changes ∷ []) c s (lacks_ids c s figure draws valid.most_ids, (no_change_left s, tt))) [
        | inl (word, first) ↦ inl (word, first_after before_limits (Ids ∷ Changes ∷ []) c s (Some word) none first)
        | inr left ↦
            inr (made c s figure valid grid draws (first_after before_limits (Ids ∷ Changes ∷ []) c s None none left))
      ]
]
