-- This file shows that the lines of a change hold, and lead from the state before it to the one behind it.
use Rattle.std.proofs.Common.{◌≡◌, ◌≢◌, ℕ, ◌+◌, ◌<◌, ◌^◌, min, List, [], ◌∷◌, ◌++◌, length, map, All, AllPairs, Contains}
use Rattle.std.proofs.Common.{get_or, not, refl, sym, ap, subst, ◌∙◌, inl, inr, arith}
use Rattle.std.proofs.lemmas.List.Elements.{Contains-get_or}
use Rattle.std.proofs.lemmas.List.Kept.{AllPairs-filter}
use Rattle.grid_base.specs.Point.{GridPoint, IsBefore}
use Rattle.grid_base.specs.Drawing.{Drawing, HasViolation}
use Rattle.grid_base.specs.declared.kinds.Step.{Step}
use Rattle.grid_base.specs.declared.original.Original.{Original}
use Rattle.hook_chain.specs.Steps.{Settles}
use Rattle.realm_audit.specs.Audits.{Audit, TakesSteps, next_count, Runs}
use Rattle.realm_audit.specs.Outcomes.{audit_of}
use Rattle.realm_audit.specs.declared.item.Item.{Item}
use Rattle.realm_audit.specs.declared.item.Item.TheVariants as items
use Rattle.realm_audit.specs.declared.phase.Phase.{Phase}
use Rattle.realm_audit.specs.declared.phase.Phase.TheVariants.{Placing, Stepping, Ended}
use Rattle.chain_laws.proofs.PointSets.{Contains-filter}
use Rattle.hook_chain.specs.Ids.{IsAscending}
use Rattle.state_check.specs.Drawable.{drawing_with}
use Rattle.line_grammar.specs.declared.command.Change.{Change}
use Rattle.realm_insert.specs.Next.{Next}
use Rattle.realm_insert.specs.State.{State}
use Rattle.realm_insert.proofs.NewPoints.{besides_ascend}
use Rattle.certificate_law.specs.Certificates.{segment_item, change_items}
use Rattle.realm_insert.specs.Differences.{has_id, originals_besides, points_besides}
use Rattle.certificate_law.proofs.PointLines.{points_go, points_come, besides_there, same_left}
use Rattle.certificate_law.proofs.OriginalLines.{without_all, originals_go, both_have, straight_all, greatest_id, greatest_below}
use Rattle.certificate_law.proofs.OriginalLines.{segments_come}
use Rattle.certificate_law.proofs.ChangedOriginals.{AreRedrawn}
use Rattle.certificate_law.proofs.SettledOriginals.{same_items}
use Rattle.certificate_law.proofs.SteadyStates.{IsSteady, redrawn_next}

-- lines that hold one after another, and then others
pub runs_join : (a b c : Audit) (xs ys : List Item) → Runs a xs b → Runs b ys c → Runs a (xs ++ ys) c
runs_join a b c [] ys is more = subst (λ (x : Audit). Runs x ys c) (sym is) more
runs_join a b c (item ∷ xs) ys (between, holds, rest) more = (between, holds, runs_join between b c xs ys rest more)

-- ---- before the first step
gone_there : (old new : List Original) → All (Contains old) (originals_besides old new)
gone_there old new = λ k d within.
    let gone = originals_besides old new in
    ((Contains-filter (λ o. not (has_id new o.id)) old (get_or gone k d)).0 (Contains-get_or gone k d within)).0

-- The lines lead by four drawings: points go, originals go, points come, originals come. What they leave of points and of originals
-- is what both drawings have.
module _ (P Q : List GridPoint) (first_ascend : AllPairs IsBefore P) (second_ascend : AllPairs IsBefore Q) (old new : List Original)
    (rise : IsAscending old) (id count : ℕ) (are : AreRedrawn old new id count) (greatest changes steps : ℕ)
    (below : greatest < id) where
  abbrev placing : List GridPoint → List Original → ℕ → Audit
  placing points originals n = audit_of (drawing_with points originals) n Placing changes steps

  abbrev kept_points : List GridPoint
  kept_points = points_besides P (points_besides P Q)

  abbrev kept_originals : List Original
  kept_originals = without_all old (originals_besides old new)

  -- with the straight originals behind those that stay, they are those of the new drawing
  whole : kept_originals ++ straight_all id are.segments ≡ new
  whole = ap (λ l. l ++ straight_all id are.segments) (both_have old new) ∙ sym are.whole

  come : Runs (placing Q kept_originals greatest) (map segment_item (originals_besides new old))
      (placing Q new (greatest_id greatest id are.segments))
  come =
      let run = segments_come Q changes steps greatest id kept_originals are.segments below are.ordered in
      subst (λ l. Runs (placing Q kept_originals greatest) (map segment_item l) (placing Q new (greatest_id greatest id are.segments)))
      (sym are.added)
      (subst (λ l. Runs (placing Q kept_originals greatest) (map segment_item (straight_all id are.segments))
      (placing Q l (greatest_id greatest id are.segments))) whole run)

  points_are : Runs (placing kept_points kept_originals greatest) (map items.Point (points_besides Q P))
      (placing Q kept_originals greatest)
  points_are =
      subst (λ l. Runs (placing l kept_originals greatest) (map items.Point (points_besides Q P)) (placing Q kept_originals greatest))
      (sym (same_left P Q first_ascend second_ascend))
      (points_come Placing (inr refl) greatest changes steps Q (points_besides Q P) kept_originals second_ascend
      (besides_ascend Q P second_ascend) (besides_there Q P))

  go : Runs (placing P old greatest) (map items.Unpoint (points_besides P Q)) (placing kept_points old greatest)
  go =
      points_go greatest changes steps P (points_besides P Q) old first_ascend (besides_ascend P Q first_ascend) (besides_there P Q)

  originals_are : Runs (placing kept_points old greatest) (map (λ o. items.Remove o.id) (originals_besides old new))
      (placing kept_points kept_originals greatest)
  originals_are =
      originals_go kept_points greatest changes steps old (originals_besides old new)
      (AllPairs-filter (λ o p. o.id < p.id) (λ o. not (has_id new o.id)) old rise) (gone_there old new)

  pub changed_by_lines : (rest : List Item) (end : Audit) → Runs (placing Q new (greatest_id greatest id are.segments)) rest end
      → Runs (placing P old greatest) (map items.Unpoint (points_besides P Q)
      ++ (map (λ o. items.Remove o.id) (originals_besides old new)
      ++ (map items.Point (points_besides Q P)
      ++ (map segment_item (originals_besides new old)
      ++ rest)))) end
  changed_by_lines rest end more =
      let coming = map segment_item (originals_besides new old) in
      let points = map items.Point (points_besides Q P) in
      let going = map (λ (o : Original). items.Remove o.id) (originals_besides old new) in
      let last = runs_join (placing Q kept_originals greatest) (placing Q new (greatest_id greatest id are.segments)) end coming
      rest come more in
      let third = runs_join (placing kept_points kept_originals greatest) (placing Q kept_originals greatest) end points
      (coming ++ rest) points_are last in
      let second = runs_join (placing kept_points old greatest) (placing kept_points kept_originals greatest) end going
      (points ++ (coming ++ rest)) originals_are third in
      runs_join (placing P old greatest) (placing kept_points old greatest) end (map items.Unpoint (points_besides P Q))
      (going ++ (points ++ (coming ++ rest))) go second

-- ---- steps
-- the phase behind them, and how many were taken
abbrev pub phase_after : Phase → List Step → Phase
phase_after phase [] = phase
phase_after phase (step ∷ trace) = phase_after Stepping trace

abbrev pub steps_after : ℕ → List Step → ℕ
steps_after steps [] = steps
steps_after steps (step ∷ trace) = steps_after (next_count steps) trace

steps_hold : (d e : Drawing) (trace : List Step) (greatest : ℕ) (phase : Phase) (changes steps : ℕ) → TakesSteps phase
    → Settles d trace e
    → Runs (audit_of d greatest phase changes steps) (map items.Step trace)
    (audit_of e greatest (phase_after phase trace) changes (steps_after steps trace))
steps_hold d e [] greatest phase changes steps takes settles =
    ap (λ (g : Drawing). audit_of g greatest phase changes steps) settles.0
steps_hold d e (step ∷ trace) greatest phase changes steps takes (between, permitted, rest) = (
  audit_of between greatest Stepping changes (next_count steps),
  (takes, between, permitted, refl),
  steps_hold between e trace greatest Stepping changes (next_count steps) (inr refl) rest,
)

-- a step doesn't end the certificate
goes_on : (phase : Phase) (trace : List Step) → phase ≢ Ended → phase_after phase trace ≢ Ended
goes_on phase [] on = on
goes_on phase (step ∷ trace) on = goes_on Stepping trace (λ same. cc)

-- one more up to 2^63 is counted
count_one : (n : ℕ) → next_count (min n (2 ^ 63)) ≡ min (n + 1) (2 ^ 63)
count_one n = omega arith

steps_counted : (n : ℕ) (trace : List Step) → steps_after (min n (2 ^ 63)) trace ≡ min (n + length trace) (2 ^ 63)
steps_counted n [] = ap (λ m. min m (2 ^ 63)) plus_none
  where
    plus_none : n ≡ n + length {A = Step} []
    plus_none = omega arith
steps_counted n (step ∷ trace) =
    ap (λ m. steps_after m trace) (count_one n) ∙ steps_counted (n + 1) trace ∙ ap (λ m. min m (2 ^ 63)) one_more
  where
    one_more : (n + 1) + length trace ≡ n + length (step ∷ trace)
    one_more = omega arith

-- ---- the whole change
-- nothing is violated
abbrev HasNone : Drawing → Type 0
HasNone d = HasViolation d → ⊥

-- the audit is at the state, behind so many changes and steps
pub record IsAt (a : Audit) (s : State) (changes steps : ℕ) : Type 0 where
  pub drawing : a.drawing ≡ s.drawing
  pub greatest : a.greatest < s.next_id
  pub going : a.phase ≢ Ended
  pub changes_are : a.changes ≡ min changes (2 ^ 63)
  pub steps_are : a.steps ≡ min steps (2 ^ 63)

module _ (c : Change) (old new : State) (trace : List Step) (steady : IsSteady old) (next : Next old c trace new) (a : Audit) (n m : ℕ)
    (at : IsAt a old n m) where
  pub are : AreRedrawn old.drawing.originals next.changed.originals old.next_id (length next.figure.segments)
  are = redrawn_next c old new trace steady next

  abbrev pub behind : Audit
  behind = audit_of new.drawing (greatest_id a.greatest old.next_id are.segments) (phase_after Placing trace) (next_count a.changes)
      (steps_after a.steps trace)

  lines_hold : Runs a (change_items old.drawing trace next.changed) behind
  lines_hold =
      let changed = next.changed in
      let steps = steps_hold changed new.drawing trace (greatest_id a.greatest old.next_id are.segments) Placing (next_count a.changes)
      a.steps (inl refl) next.settles in
      let lines = changed_by_lines old.drawing.points changed.points steady.points_ascend next.is_changed.ascending
      old.drawing.originals changed.originals steady.ids_rise old.next_id (length next.figure.segments) are a.greatest
      (next_count a.changes) a.steps at.greatest (map items.Step trace) behind steps in
      let list = map items.Unpoint (points_besides old.drawing.points changed.points)
      ++ (map (λ (o : Original). items.Remove o.id) (originals_besides old.drawing.originals changed.originals)
      ++ (map items.Point (points_besides changed.points old.drawing.points)
      ++ (map segment_item (originals_besides changed.originals old.drawing.originals)
      ++ map items.Step trace))) in (
        audit_of a.drawing a.greatest Placing (next_count a.changes) a.steps,
        (at.going, subst HasNone (sym at.drawing) steady.settled, refl),
        subst (λ (d : Drawing). Runs (audit_of d a.greatest Placing (next_count a.changes) a.steps) list behind) (sym at.drawing) lines,
      )

  pub change_holds : Runs a (change_items old.drawing trace new.drawing) behind
  change_holds =
      let same = same_items old.drawing new.drawing next.changed trace next.settles in
      subst (λ (l : List Item). Runs a l behind) (sym same) lines_hold

  pub change_leads : IsAt behind new (n + 1) (m + length trace)
  change_leads = record {
    drawing = refl;
    greatest =
        let last = greatest_below a.greatest old.next_id are.segments at.greatest in
        let few = are.few in
        let ids = next.next_id in
        omega (arith, last, few, ids);
    going = goes_on Placing trace (λ same. cc);
    changes_are = ap next_count at.changes_are ∙ count_one n;
    steps_are = ap (λ k. steps_after k trace) at.steps_are ∙ steps_counted m trace;
  }
