-- This file shows what the items of a sound text tell.
use Rattle.std.proofs.Common.{◌≡◌, ◌⊎◌, ℕ, List, [], ◌∷◌, ◌++◌, All, map, refl, sym, ap, subst, ◌∙◌, inl, inr}
use Rattle.std.specs.List.{AllZip}
use Rattle.grid_base.specs.Point.{IsBefore}
use Rattle.grid_base.specs.Drawing.{Drawing, IsDrawnRealm}
use Rattle.grid_base.specs.declared.kinds.Step.{Step}
use Rattle.grid_base.proofs.RealmLaw.{drawn_realm_by}
use Rattle.hook_chain.specs.Chains.{RunsFrom}
use Rattle.hook_chain.specs.Steps.{Settles}
use Rattle.hook_chain.specs.Straight.{along}
use Rattle.hook_chain.specs.StandingChains.{StaysInEnvelope}
use Rattle.realm_audit.specs.Items.{IsTextOf}
use Rattle.realm_audit.specs.Audits.{Audit, first_audit, TakesPoints, LineHolds, Runs}
use Rattle.realm_audit.specs.Verdicts.{IsVerdict}
use Rattle.realm_audit.specs.Facts.{IsClosing}
use Rattle.realm_audit.specs.SoundLists.{Makes, IsSoundList}
use Rattle.realm_audit.specs.declared.item.Item.{Item}
use Rattle.realm_audit.specs.declared.item.Item.TheVariants.{Point, Unpoint, Original, Change, Remove, Segment, End}
use Rattle.realm_audit.specs.declared.item.Item.TheVariants as items
use Rattle.realm_audit.specs.declared.phase.Phase.{Phase}
use Rattle.realm_audit.specs.declared.phase.Phase.TheVariants.{Opening, Placing, Stepping, Ended}
use Rattle.realm_audit.specs.declared.verdict.Verdict.TheVariants.{Sound}
use Rattle.realm_audit.proofs.ClosedChanges.{closing_settled, steps_come_last, steps_settle}
use Rattle.realm_audit.proofs.ClosedChanges.{run_counts_changes, run_counts_steps}
use Rattle.realm_audit.proofs.Hearings.{accepted_items}
use Rattle.realm_audit.proofs.OneRuns.{one_run}
use Rattle.realm_audit.proofs.RunFacts.{run_leads, run_in_envelope}

-- ---- parts of a run
-- the items of a part hold, and those behind it
split_run : (old new : Audit) (before after : List Item) → Runs old (before ++ after) new
    → (mid : Audit) × Runs old before mid × Runs mid after new
split_run old new [] after run = (old, refl, run)
split_run old new (item ∷ before) after (between, held, rest) =
    let (mid, first, last) = split_run between new before after rest in
    (mid, (between, held, first), last)

-- a list is empty, or it has a last item
by_last : (list : List Item) → (list ≡ []) ⊎ ((before : List Item) × (item : Item) × (list ≡ before ++ item ∷ []))
by_last [] = inl refl
by_last (item ∷ list) = elim (by_last list) [
  | inl none ↦ inr ([], item, ap (λ (l : List Item). item ∷ l) none)
  | inr some ↦ inr (item ∷ some.0, some.1, ap (λ (l : List Item). item ∷ l) some.2)
]

-- ---- the end
still_points : (phase : Phase) → TakesPoints phase → phase ≡ Ended → ⊥
still_points phase (inl opening) ended = cc
still_points phase (inr placing) ended = cc

opens : Opening ≡ Ended → ⊥
opens ended = cc

places : Placing ≡ Ended → ⊥
places ended = cc

steps_on : Stepping ≡ Ended → ⊥
steps_on ended = cc

-- only `end` ends
ended_by_end : (old new : Audit) (item : Item) → LineHolds old item new → new.phase ≡ Ended → item ≡ End
ended_by_end old new (Point p) held ended =
    absurd (still_points old.phase held.0 (sym (ap (λ (a : Audit). a.phase) held.4) ∙ ended))
ended_by_end old new (Unpoint p) held ended =
    absurd (places (sym held.0 ∙ sym (ap (λ (a : Audit). a.phase) held.4) ∙ ended))
ended_by_end old new (Original id chain) held ended =
    absurd (opens (sym held.0 ∙ sym (ap (λ (a : Audit). a.phase) held.4) ∙ ended))
ended_by_end old new Change held ended = absurd (places (sym (ap (λ (a : Audit). a.phase) held.2) ∙ ended))
ended_by_end old new (Remove id) held ended =
    absurd (places (sym held.0 ∙ sym (ap (λ (a : Audit). a.phase) held.2) ∙ ended))
ended_by_end old new (Segment id p q) held ended =
    absurd (places (sym held.0 ∙ sym (ap (λ (a : Audit). a.phase) held.3) ∙ ended))
ended_by_end old new (items.Step step) held ended =
    absurd (steps_on (sym (ap (λ (a : Audit). a.phase) held.3) ∙ ended))
ended_by_end old new End held ended = refl

run_ends : (list : List Item) (audit : Audit) → Runs first_audit list audit → audit.phase ≡ Ended
    → (before : List Item) × (list ≡ before ++ End ∷ [])
run_ends list audit run ended = elim (by_last list) [
  | inl none ↦
      let stays = subst (λ (l : List Item). Runs first_audit l audit) none run in
      absurd (opens (ap (λ (a : Audit). a.phase) stays ∙ ended))
  | inr some ↦
      let (mid, first, (last, held, is)) = split_run first_audit audit some.0 (some.1 ∷ [])
      (subst (λ (l : List Item). Runs first_audit l audit) some.2 run) in
      let end = ended_by_end mid last some.1 held (ap (λ (a : Audit). a.phase) is ∙ ended) in
      (some.0, some.2 ∙ ap (λ (i : Item). some.0 ++ i ∷ []) end)
]

-- ---- drawings along a run
module _ (list : List Item) (audit : Audit) (run : Runs first_audit list audit) where
  -- the run by a part of the list and what is behind it
  parts : (before after : List Item) → list ≡ before ++ after
      → (mid : Audit) × Runs first_audit before mid × Runs mid after audit
  parts before after split =
      split_run first_audit audit before after (subst (λ (l : List Item). Runs first_audit l audit) split run)

  -- what a list makes is the drawing to which it leads
  made_is : (before : List Item) (mid : Audit) (d : Drawing) → Runs first_audit before mid → Makes before d
      → mid.drawing ≡ d
  made_is before mid d to (other, also, is) =
      ap (λ (a : Audit). a.drawing) (one_run first_audit mid other before to also) ∙ sym is

  run_realm : (before after : List Item) (item : Item) (d : Drawing) → list ≡ before ++ item ∷ after → IsClosing item
      → Makes before d → IsDrawnRealm d
  run_realm before after item d split closing made =
      let (mid, to, (next, held, rest)) = parts before (item ∷ after) split in
      let settled = closing_settled mid next item closing held in
      subst IsDrawnRealm (made_is before mid d to made) (drawn_realm_by mid.drawing settled.0)

  run_settles : (before after : List Item) (trace : List Step) (item : Item) (d e : Drawing)
      → list ≡ (before ++ map items.Step trace) ++ item ∷ after → IsClosing item → Makes before d
      → Makes (before ++ map items.Step trace) e → Settles d trace e
  run_settles before after trace item d e split closing made_d made_e =
      let (mid, to, (next, held, rest)) = parts (before ++ map items.Step trace) (item ∷ after) split in
      let (from, first, taken) = split_run first_audit mid before (map items.Step trace) to in
      let settles = steps_settle from mid next trace item closing taken held in
      let stays = sym (closing_settled mid next item closing held).1 in
      let e_is = stays ∙ made_is (before ++ map items.Step trace) mid e to made_e in
      subst (λ (f : Drawing). Settles f trace e) (made_is before from d first made_d)
      (subst (λ (f : Drawing). Settles from.drawing trace f) e_is settles)

  run_is_sound : (changes steps : ℕ) → audit.phase ≡ Ended → changes ≡ audit.changes → steps ≡ audit.steps
      → IsSoundList list changes steps
  run_is_sound changes steps ended changed stepped = record {
    holds = (audit.drawing, (audit, run, refl));
    ends = run_ends list audit run ended;
    realm = run_realm;
    leads = λ before after d split made.
        subst (λ (f : Drawing). All (λ o. IsBefore o.a o.b × RunsFrom o.a o.b o.chain) f.originals) (sym made.2)
        (run_leads before made.0 made.1);
    in_envelope = λ before after d split made.
        subst (λ (f : Drawing). All (λ o. StaysInEnvelope (along o) o.chain) f.originals) (sym made.2)
        (run_in_envelope before made.0 made.1);
    come_last = λ before after step item split.
        let (mid, to, (next, held, rest)) = parts (before ++ items.Step step ∷ []) (item ∷ after) split in
        let (from, first, (between, taken, is)) = split_run first_audit mid before (items.Step step ∷ []) to in
        steps_come_last from between next step item taken (subst (λ (a : Audit). LineHolds a item next) (sym is) held);
    settle = run_settles;
    changes_are = changed ∙ run_counts_changes list audit run;
    steps_are = stepped ∙ run_counts_steps list audit run;
  }

pub sound_text : (texts : List (List ℕ)) (changes steps : ℕ) → IsVerdict texts (Sound changes steps)
    → (list : List Item) × AllZip IsTextOf texts list × IsSoundList list changes steps
sound_text texts changes steps (audit, leads, ended, changed, stepped) =
    let (list, reads, run) = accepted_items first_audit audit texts leads in
    (list, reads, run_is_sound list audit run changes steps ended changed stepped)
