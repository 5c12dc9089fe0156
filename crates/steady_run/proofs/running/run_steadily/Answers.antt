-- This file shows that a run from two empty files begins with the empty state and its gate, and that nothing but memory can be wanting.
use Rattle.std.proofs.Common.{arith, ◌≡◌, ◌≤◌, ◌<◌, ◌⊎◌, [], ℕ, List, length, true, inl, inr, refl, sym, ap, subst, map, string_bytes}
use Rattle.outside_world.specs.Counts.{Rose}
use Rattle.outside_world.specs.View.{View}
use Rattle.outside_world.specs.Steady.{Steady, steady_view, fresh_steady}
use Rattle.outside_world.specs.declared.world.FileName.TheVariants.{A, B}
use Rattle.command_words.specs.Written.{AreWordsOf}
use Rattle.command_words.specs.declared.word.Word.TheVariants.{Run}
use Rattle.realm_insert.specs.State.{empty_state}
use Rattle.realm_files.specs.Keeping.{KnowsGate}
use Rattle.realm_store.specs.Stands.{AreEmpty}
use Rattle.realm_store.specs.Keeping.{Kept, RestsAt}
use Rattle.rose_shell.specs.Running.{HasRun}
use Rattle.rose_shell.specs.Telling.{CanBeDone}
use Rattle.rose_shell.specs.declared.status.Status.{Status}
use Rattle.steady_run.specs.FromNothing.{HasRunFromNothing}
use Rattle.steady_run.proofs.running.run_steadily.Goals as goal

-- a count that stays at 0 hasn't risen
none_rose : Rose 0 0 → ⊥
none_rose (inl less) = absurd (omega arith)
none_rose (inr last) = absurd (omega arith)

-- such a world begins with two empty files
begins_empty : (input : List ℕ) → AreEmpty (steady_view (fresh_steady input [] [])).reads
begins_empty input A = refl
begins_empty input B = refl

-- what is kept where a run begins is known of its files
from_nothing : (old new : View) (status : Status)
    → ((kept : Kept) → RestsAt kept old.reads → KnowsGate kept old.reads
    → (kept.has_gate ≡ true) × (kept.state ≡ empty_state))
    → HasRun old new status → HasRunFromNothing old new status
from_nothing old new status is_kept (inl not_begun) = inl not_begun
from_nothing old new status is_kept (inr begun) =
    let kept = is_kept begun.start begun.rests begun.knows in inr (begun, kept.0, kept.1)

-- the files of the world that was made are empty, so the gate is there
pub returns-clause-told : goal.returns-clause-told
returns-clause-told g c tells =
    let gated = c.empty_files_stand.ensures.stands _ (begins_empty c.args.input.items) in
    let Runs : Steady → Type 0 =
    λ world. HasRun (steady_view world) (steady_view c.run-status.new.world) c.run-status.result in
    let words = subst (λ list. AreWordsOf (map string_bytes list) Run) (sym c.as_slice.ensures.value) c.in_ok-words.ensures in
    from_nothing _ _ _ (λ kept. c.gate_is_kept.ensures _ empty_state kept gated)
    (subst Runs c.in_ok-world.ensures (c.run-status.ensures.told Run words tells))

-- no count rises, and the files stand for a state
pub returns-clause-complete : goal.returns-clause-complete
returns-clause-complete g c tells within =
    let gated = c.empty_files_stand.ensures.stands _ (begins_empty c.args.input.items) in
    let words = subst (λ list. AreWordsOf (map string_bytes list) Run) (sym c.as_slice.ensures.value) c.in_ok-words.ensures in
    let can = subst (λ world. CanBeDone Run (steady_view world)) (sym c.in_ok-world.ensures)
    (within, (empty_state, (gated.0, gated.1.stands))) in
    c.run-status.ensures.complete Run words tells none_rose none_rose none_rose can
