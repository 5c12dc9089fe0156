-- This file shows that a certificate holds line by line, up to its end, and that its text is sound.
use Rattle.std.proofs.Common.{◌≡◌, ℕ, ◌+◌, ◌<◌, ◌≤◌, ◌^◌, min, not, List, [], ◌∷◌, ◌++◌, length, map, All}
use Rattle.std.proofs.Common.{refl, sym, ap, subst, ◌∙◌, inl, arith}
use Rattle.std.proofs.lemmas.List.Elements.{All-head, All-tail, All-weaker, All-contains_itself}
use Rattle.grid_base.specs.Point.{GridPoint}
use Rattle.grid_base.specs.Drawing.{Drawing, HasViolation}
use Rattle.grid_base.specs.declared.original.Original.{Original}
use Rattle.record_codec.specs.declared.entry.Entry.{Entry}
use Rattle.record_codec.specs.declared.record.Record.{Record}
use Rattle.record_codec.specs.declared.snapshot.Snapshot.{Snapshot}
use Rattle.realm_audit.specs.Items.{IsLine, text_of}
use Rattle.realm_audit.specs.Audits.{Audit, first_audit, Runs}
use Rattle.realm_audit.specs.Outcomes.{audit_of}
use Rattle.realm_audit.specs.Verdicts.{AllAccepted, IsVerdict}
use Rattle.realm_audit.specs.declared.item.Item.{Item}
use Rattle.realm_audit.specs.declared.item.Item.TheVariants as items
use Rattle.realm_audit.specs.declared.phase.Phase.TheVariants.{Opening, Ended}
use Rattle.realm_audit.specs.declared.verdict.Verdict.TheVariants.{Sound}
use Rattle.state_check.specs.Drawable.{drawing_with}
use Rattle.realm_insert.specs.State.{State}
use Rattle.realm_insert.specs.Snapshots.{state_of, IsValidState}
use Rattle.realm_insert.proofs.NewPoints.{among}
use Rattle.certificate_law.specs.Certificates.{AreChangeItems, IsCertificate, chain_item, change_items}
use Rattle.certificate_law.specs.Certificates.{entries_of, opening_items, step_count}
use Rattle.realm_insert.specs.Differences.{is_among, points_besides}
use Rattle.certificate_law.proofs.ChangeLines.{IsAt, runs_join, behind, change_holds, change_leads}
use Rattle.certificate_law.proofs.Filters.{filter_none}
use Rattle.certificate_law.proofs.OriginalLines.{last_id, last_below, originals_open}
use Rattle.certificate_law.proofs.PointLines.{points_come}
use Rattle.certificate_law.proofs.SteadyStates.{IsSteady, steady_if_valid, steady_next}

-- ---- the beginning
-- behind the lines of the state at the beginning
abbrev opened : Snapshot → Audit
opened base = audit_of (drawing_with base.points base.originals) (last_id 0 base.originals) Opening 0 0

all_left : (points : List GridPoint) → points_besides points points ≡ []
all_left points = filter_none (λ q. not (is_among points q)) points (λ q there. ap not ((among points q).1 there))

opening_holds : (base : Snapshot) → IsValidState (state_of base) → Runs first_audit (opening_items base) (opened base)
opening_holds base valid =
    let points = base.points in
    let mid = audit_of (drawing_with points []) 0 Opening 0 0 in
    let come = points_come Opening (inl refl) 0 0 0 points points [] valid.points_ascend valid.points_ascend
    (All-contains_itself points) in
    let first = subst (λ (l : List GridPoint). Runs (audit_of (drawing_with l []) 0 Opening 0 0) (map items.Point points) mid)
    (all_left points) come in
    let above = All-weaker (λ (o : Original). (1 ≤ o.id) × (o.id < base.next_id)) (λ o. 0 < o.id) (λ o bounds. omega (arith, bounds.0))
    base.originals valid.ids in
    let second = originals_open points 0 0 0 [] base.originals valid.chains valid.ids_rise above in
    runs_join first_audit mid (opened base) (map items.Point points) (map chain_item base.originals) first second

opening_leads : (base : Snapshot) → IsValidState (state_of base) → IsAt (opened base) (state_of base) 0 0
opening_leads base valid = record {
  drawing = refl;
  greatest =
      let first = valid.first_id in
      last_below 0 base.next_id base.originals (omega (arith, first))
      (All-weaker (λ (o : Original). (1 ≤ o.id) × (o.id < base.next_id)) (λ o. o.id < base.next_id) (λ o bounds. bounds.1)
      base.originals valid.ids);
  going = λ same. cc;
  changes_are = omega arith;
  steps_are = omega arith;
}

-- ---- the changes, one after another
-- an audit that is reached by these lines, at the state and behind so many changes and steps
record IsReached (start : Audit) (list : List Item) (end : State) (changes steps : ℕ) : Type 0 where
  audit : Audit
  runs : Runs start list audit
  at : IsAt audit end changes steps
  steady : IsSteady end

changes_hold : (start end : State) (entries : List Entry) (list : List Item) (a : Audit) (n m : ℕ) → IsSteady start
    → AreChangeItems start entries end list → IsAt a start n m
    → IsReached a list end (n + length entries) (m + step_count entries)
changes_hold start end [] list a n m steady (is, none) at = record {
  audit = a;
  runs = subst (λ (l : List Item). Runs a l a) (sym none) refl;
  at = subst (λ (s : State). IsAt a s (n + length {A = Entry} []) (m + 0)) (sym is)
      (subst (λ k. IsAt a start k (m + 0)) same_n (subst (λ k. IsAt a start n k) same_m at));
  steady = subst IsSteady (sym is) steady;
}
  where
    same_n : n ≡ n + length {A = Entry} []
    same_n = omega arith

    same_m : m ≡ m + 0
    same_m = omega arith
changes_hold start end (e ∷ entries) list a n m steady (mid, later, by, rest, is) at =
    let next = by.next in
    let b = behind by.change start mid e.trace steady next a n m at in
    let holds = change_holds by.change start mid e.trace steady next a n m at in
    let leads = change_leads by.change start mid e.trace steady next a n m at in
    let more = changes_hold mid end entries later b (n + 1) (m + length e.trace)
    (steady_next by.change start mid e.trace steady next by.spellable) rest leads in
    record {
      audit = more.audit;
      runs = subst (λ (l : List Item). Runs a l more.audit) (sym is)
          (runs_join a b more.audit (change_items start.drawing e.trace mid.drawing) later holds more.runs);
      at = subst (λ k. IsAt more.audit end k (m + (length e.trace + step_count entries))) same_n
          (subst (λ k. IsAt more.audit end ((n + 1) + length entries) k) same_m more.at);
      steady = more.steady;
    }
  where
    same_n : (n + 1) + length entries ≡ n + length (e ∷ entries)
    same_n = omega arith

    same_m : (m + length e.trace) + step_count entries ≡ m + (length e.trace + step_count entries)
    same_m = omega arith

-- ---- the text
-- lines that hold have texts that are accepted
texts_accepted : (old new : Audit) (list : List Item) → All IsLine list → Runs old list new → AllAccepted old (map text_of list) new
texts_accepted old new [] lines is = is
texts_accepted old new (item ∷ list) lines (between, holds, rest) = (
  between,
  (item, record { line = All-head IsLine item list lines; spelled = refl }, holds),
  texts_accepted between new list (All-tail IsLine item list lines) rest,
)

pub certificate_sound : (base : Snapshot) (records : List Record) (end : State) (list : List Item) → IsValidState (state_of base)
    → IsCertificate base records end list → All IsLine list
    → IsVerdict (map text_of list)
    (Sound (min (length (entries_of records)) (2 ^ 63)) (min (step_count (entries_of records)) (2 ^ 63)))
certificate_sound base records end list valid (changes, are, is) lines =
    let entries = entries_of records in
    let steady = steady_if_valid (state_of base) valid in
    let reached = changes_hold (state_of base) end entries changes (opened base) 0 0 steady are (opening_leads base valid) in
    let a = reached.audit in
    let at = reached.at in
    let last : Audit = record a { phase = Ended } in
    let ends : Runs a (items.End ∷ []) last =
    (last, (at.going, subst (λ (d : Drawing). HasViolation d → ⊥) (sym at.drawing) reached.steady.settled, refl), refl) in
    let whole = runs_join first_audit (opened base) last (opening_items base) (changes ++ items.End ∷ []) (opening_holds base valid)
    (runs_join (opened base) a last changes (items.End ∷ []) reached.runs ends) in
    let run = subst (λ (l : List Item). Runs first_audit l last) (sym is) whole in (
      last,
      texts_accepted first_audit last list lines run,
      refl,
      sym (at.changes_are ∙ ap (λ k. min k (2 ^ 63)) (plus_none (length entries))),
      sym (at.steps_are ∙ ap (λ k. min k (2 ^ 63)) (plus_none (step_count entries))),
    )
  where
    plus_none : (k : ℕ) → 0 + k ≡ k
    plus_none k = omega arith
