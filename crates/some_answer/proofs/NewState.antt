-- This file shows that a change of a valid state leads to a sound one, which is drawn on the grid.
use Rattle.std.proofs.Common.{◌≡◌, ◌+◌, ◌<◌, ◌≤◌, ◌^◌, List, [], ◌∷◌, length, All, AllPairs, sym, subst, inl, inr, arith}
use Rattle.grid_base.specs.Point.{OnGrid, IsBefore}
use Rattle.grid_base.specs.Drawing.{Drawing, HasViolation}
use Rattle.grid_base.specs.declared.kinds.Step.{Step}
use Rattle.grid_base.proofs.RealmLaw.{drawn_realm_by}
use Rattle.grid_base.proofs.Signs.{natural_order}
use Rattle.line_grammar.specs.Spellable.{IsSpellableChange}
use Rattle.line_grammar.specs.declared.command.Change.{Change}
use Rattle.hook_chain.specs.Steps.{Settles}
use Rattle.chain_laws.proofs.StandingChains.{all_stand}
use Rattle.rose_predicates.proofs.Truths.{each}
use Rattle.record_codec.specs.Traces.{IsTrace}
use Rattle.realm_insert.specs.Next.{Next}
use Rattle.realm_insert.specs.Snapshots.{IsValidState}
use Rattle.realm_insert.specs.State.{State, AreLatest}
use Rattle.realm_insert.proofs.AscendingParts.{ascend_after}
use Rattle.realm_insert.proofs.ChangedValues.{values_changed}
use Rattle.realm_insert.proofs.KeptStates.{latest_fit}
use Rattle.realm_insert.proofs.KeptValues.{values_settled}
use Rattle.realm_insert.proofs.NewValues.{drawn_even, values_after}
use Rattle.realm_insert.proofs.PreparedChanges.{most_drawn}
use Rattle.realm_store.specs.Sound.{IsSound}
use Rattle.one_reply.specs.Answerable.{IsDrawnOnGrid}
use Rattle.some_answer.specs.Answered.{HasFewOriginals}
use Rattle.some_answer.proofs.SomeFigure.{IsFit, fit_figure}
use Rattle.some_answer.proofs.OriginalsInRow.{AreInRow, row_of, drawn_on_grid}
use Rattle.some_answer.proofs.SomeChanged.{row_changed, few_changed, points_changed}
use Rattle.some_answer.proofs.KeptOriginals.{row_settled, points_settled}
use Rattle.some_answer.proofs.TracesWithTexts.{trace_text}
use Rattle.some_answer.proofs.SomeValues.{names_after}
use Rattle.some_answer.proofs.LatestTraces.{latest_after}

-- what is settled has no violation
settled : (d e : Drawing) (trace : List Step) → Settles d trace e → HasViolation e → ⊥
settled d e [] settles violation = settles.1 (subst HasViolation (sym settles.0) violation)
settled d e (step ∷ trace) settles violation = settled settles.0 e trace settles.2 violation

module _ (c : Change) (s new : State) (trace : List Step) (valid : IsValidState s) (grid : IsDrawnOnGrid s)
    (next : Next s c trace new) where
  fits : IsFit next.figure
  fits = fit_figure c s next.figure valid grid next.accepted.0 next.accepted.1.1.0 next.draws

  points_on : All OnGrid s.drawing.points
  points_on = each OnGrid s.drawing.points (λ p there. grid p (inl there))

  -- before the first step
  changed_row : AreInRow (s.next_id + length next.figure.segments) next.changed.originals
  changed_row = row_changed next.figure s.drawing s.next_id next.changed c valid.first_id fits (row_of s valid grid) next.is_changed

  changed_points : All OnGrid next.changed.points
  changed_points = points_changed next.figure s.drawing s.next_id next.changed c fits points_on next.is_changed

  -- and after the last
  new_row : AreInRow (s.next_id + length next.figure.segments) new.drawing.originals
  new_row = row_settled (s.next_id + length next.figure.segments) next.changed new.drawing trace next.settles changed_row

  new_points : All OnGrid new.drawing.points
  new_points = subst (All OnGrid) (sym (points_settled next.changed new.drawing trace next.settles)) changed_points

  pub new_on_grid : IsDrawnOnGrid new
  new_on_grid = drawn_on_grid (s.next_id + length next.figure.segments) new.drawing new_row new_points

  module _ (spellable : IsSpellableChange c) (few : HasFewOriginals c s) where
    has_text : IsTrace trace
    has_text =
        let drawn = few next.figure next.draws in
        let more = few_changed next.figure s.drawing s.next_id next.changed c next.is_changed in
        trace_text (s.next_id + length next.figure.segments) next.changed new.drawing trace changed_row changed_points
        (omega (arith, drawn, more)) next.settles

    new_valid : IsValidState new
    new_valid =
        let figure = next.figure in
        let d = s.drawing in
        let first = s.next_id in
        let changed = next.changed in
        let fit = values_changed d first changed s.values valid.values_fit c figure next.accepted.1.1.1.1.1.1.1.1.0 next.is_changed in
        let even = drawn_even c s figure next.accepted.1.1.0 next.draws in
        let after = values_after d first changed s.values new.values fit c figure spellable even next.is_changed next.values in
        let most = most_drawn c s figure next.draws next.accepted.1.1.1.1.1.1.1.1.1.0 valid.most_ids in
        let left = next.accepted.1.1.1.1.1.1.1.1.1.1.0 in
        let ids = next.next_id in
        record {
          most_changes = bounded left next.changes;
          first_id = omega (arith, ids, valid.first_id);
          most_ids = omega (arith, ids, most);
          points_ascend = subst (AllPairs IsBefore) (sym (points_settled changed new.drawing trace next.settles)) next.is_changed.ascending;
          ids_rise = new_row.rise;
          ids = subst (λ n. All (λ o. (1 ≤ o.id) × (o.id < n)) new.drawing.originals) (sym ids) new_row.below;
          chains = new_row.valid;
          realm = drawn_realm_by new.drawing (settled changed new.drawing trace next.settles);
          distinct = names_after figure first s.values new.values valid.distinct c next.accepted.1.1.1.0 next.values;
          values_fit = values_settled changed new.drawing trace new.values next.settles after;
          parts_ascend = ascend_after figure first s.values new.values valid.parts_ascend c next.values;
          latest = subst (λ n. AreLatest n new.traces) (sym next.changes)
              (latest_after s.changes s.traces trace valid.latest new.traces next.traces);
          traces_fit = latest_fit s.traces new.traces (s.changes + 1) trace valid.traces_fit has_text next.traces;
        }
      where
        bounded : (2 ^ 63 ≤ s.changes → ⊥) → new.changes ≡ s.changes + 1 → new.changes ≤ 2 ^ 63
        bounded left is = elim (natural_order (2 ^ 63) s.changes) [
          | inl past ↦ absurd (left past)
          | inr below ↦ omega (arith, is, below)
        ]

    pub new_sound : IsSound new
    new_sound = record { valid = new_valid; chains = all_stand new.drawing.originals new_row.valid }
