-- This file shows when a snapshot keeps a valid state, and that an engine may begin with it.
use Rattle.std.proofs.Common.{◌≡◌, ℕ, ◌+◌, ◌<◌, min, List, [], ◌∷◌, ◌++◌, length, get_or, take, All, sym, ap, subst}
use Rattle.std.proofs.Common.{◌∙◌, inl, inr, arith}
use Rattle.std.proofs.lemmas.Bool.{cases_lt}
use Rattle.std.proofs.lemmas.List.{take_more, get_or-map, length-map, map-append}
use Rattle.grid_base.specs.Drawing.{Drawing}
use Rattle.grid_base.proofs.Elements.{same_place}
use Rattle.realm_drawing.specs.Keyed.{KeyedDrawing}
use Rattle.realm_index.specs.Index.{Entries}
use Rattle.record_codec.specs.Traces.{IsTrace}
use Rattle.record_codec.specs.declared.snapshot.Kept.{Kept}
use Rattle.record_codec.specs.declared.snapshot.Snapshot.{Snapshot}
use Rattle.state_check.specs.Drawable.{drawing_with}
use Rattle.state_check.specs.Numbers.{HaveFitting}
use Rattle.state_check.specs.Tabled.{AreAscending, entries_of}
use Rattle.value_table.specs.Table.{NamedValues}
use Rattle.realm_insert.specs.Kept.{IsSettled}
use Rattle.realm_insert.specs.Snapshots.{state_of, traces_in, IsValidState, HasValidParts, IsRestored}
use Rattle.realm_insert.specs.State.{KeptTrace, HasIdsBelow, AreLatest, kept_trace}
use Rattle.realm_insert.specs.Values.{AreValuesOf}
use Rattle.realm_insert.proofs.PreparedChanges.{state_of as state_with}

-- ---- valid states
pub has_valid_parts : (s : Snapshot) → IsValidState (state_of s) → HasValidParts s
has_valid_parts s valid = record {
  drawable = record { points_ascend = valid.points_ascend; ids_rise = valid.ids_rise; chains = valid.chains };
  realm = valid.realm;
  tabled = record { distinct = valid.distinct; fit = valid.values_fit; ascend = valid.parts_ascend };
}

pub has_fitting_numbers : (s : Snapshot) → IsValidState (state_of s) → HaveFitting s.changes s.next_id s.originals
has_fitting_numbers s valid = ((valid.most_changes, valid.first_id, valid.most_ids), valid.ids)

pub is_valid : (s : Snapshot) → HaveFitting s.changes s.next_id s.originals → HasValidParts s → AreLatest s.changes (traces_in s.traces)
    → All (λ kept. IsTrace kept.steps) (traces_in s.traces) → IsValidState (state_of s)
is_valid s fitting parts latest fit = record {
  most_changes = fitting.0.0;
  first_id = fitting.0.1;
  most_ids = fitting.0.2;
  points_ascend = parts.drawable.points_ascend;
  ids_rise = parts.drawable.ids_rise;
  ids = fitting.1;
  chains = parts.drawable.chains;
  realm = parts.realm;
  distinct = parts.tabled.distinct;
  values_fit = parts.tabled.fit;
  parts_ascend = parts.tabled.ascend;
  latest = latest;
  traces_fit = fit;
}

-- ---- engines
-- an engine may begin with what was restored
pub begins : (s : Snapshot) (d : KeyedDrawing) (index : Entries) (values : NamedValues) (traces : List KeptTrace)
    → IsRestored s d index values → HaveFitting s.changes s.next_id s.originals → traces ≡ traces_in s.traces
    → AreLatest s.changes traces → All (λ kept. IsTrace kept.steps) traces → IsSettled d index values s.next_id s.changes traces
begins s d index values traces restored fitting same latest texts = record {
  rest = restored.rest;
  values_fit = subst (λ (e : Drawing). AreValuesOf e values) (sym restored.drawing)
      (subst (AreValuesOf (drawing_with s.points s.originals)) (sym restored.named) restored.parts.tabled.fit);
  parts_ascend = subst (λ (v : NamedValues). All (λ entry. AreAscending entry.1.parts) v) (sym restored.named)
      restored.parts.tabled.ascend;
  ids = subst (HasIdsBelow s.next_id) (sym restored.drawing) fitting.1;
  first_id = fitting.0.1;
  most_ids = fitting.0.2;
  most_changes = fitting.0.0;
  latest = latest;
  traces_fit = texts;
}

-- and then its state is the one that was kept
pub the_state : (s : Snapshot) (d : Drawing) (values : NamedValues) (traces : List KeptTrace)
    → d ≡ drawing_with s.points s.originals → values ≡ entries_of s.values → traces ≡ traces_in s.traces
    → state_with d s.next_id values s.changes traces ≡ state_of s
the_state s d values traces drawing named kept =
    ap (λ (e : Drawing). state_with e s.next_id values s.changes traces) drawing
    ∙ ap (λ (v : NamedValues). state_with (drawing_with s.points s.originals) s.next_id v s.changes traces) named
    ∙ ap (λ (t : List KeptTrace). state_with (drawing_with s.points s.originals) s.next_id (entries_of s.values) s.changes t) kept

-- ---- traces
-- the first i traces of the list have the numbers behind this one
abbrev pub AreNumbered : ℕ → List Kept → ℕ → Type 0
AreNumbered before list i = (j : ℕ) (other : Kept) → j < i → (get_or list j other).number ≡ before + j + 1

pub one_more_numbered : (before : ℕ) (list : List Kept) (i : ℕ) (kept : Kept) → i < length list → kept ≡ get_or list i kept
    → kept.number ≡ before + i + 1 → AreNumbered before list i → AreNumbered before list (i + 1)
one_more_numbered before list i kept within is number was = λ j other less. elim (cases_lt j i) [
  | inl earlier ↦ was j other earlier
  | inr last ↦
      let here : j ≡ i = omega arith in
      ap (λ (k : ℕ). (get_or list k other).number) here
      ∙ ap (λ (k : Kept). k.number) (same_place list i other kept within ∙ sym is) ∙ number ∙ ap (λ (k : ℕ). before + k + 1) (sym here)
]

pub one_more_trace : (list : List Kept) (i : ℕ) (kept : Kept) (old new : List KeptTrace) → i < length list
    → kept ≡ get_or list i kept → old ≡ traces_in (take i list) → new ≡ old ++ kept_trace kept.number kept.steps ∷ []
    → new ≡ traces_in (take (i + 1) list)
one_more_trace list i kept old new within is was pushed =
    let more : take i list ++ kept ∷ [] ≡ take (i + 1) list =
    ap (λ (k : Kept). take i list ++ k ∷ []) is ∙ sym (take_more list i kept within) in
    pushed ∙ ap (λ (t : List KeptTrace). t ++ kept_trace kept.number kept.steps ∷ []) was
    ∙ sym (map-append (λ (k : Kept). kept_trace k.number k.steps) (take i list) (kept ∷ [])) ∙ ap traces_in more

abbrev kept_of : KeptTrace → Kept
kept_of t = record { number = t.number; steps = t.steps }

-- the number of a trace is that of the one that was kept
number_at : (list : List Kept) (i : ℕ) (other : KeptTrace) → i < length list
    → (get_or (traces_in list) i other).number ≡ (get_or list i (kept_of other)).number
number_at list i other within =
    ap (λ (t : KeptTrace). t.number)
    (get_or-map (λ (k : Kept). kept_trace k.number k.steps) list i (kept_of other) other within)

pub are_latest : (changes before : ℕ) (list : List Kept) → length list ≡ min changes 16 → before + length list ≡ changes
    → AreNumbered before list (length list) → AreLatest changes (traces_in list)
are_latest changes before list count whole numbered =
    let long = length-map list (λ (k : Kept). kept_trace k.number k.steps) in
    record {
      count = long ∙ count;
      numbers = λ i other within.
          let inside : i < length list = omega (arith, long, within) in
          let at = number_at list i other inside in
          let is = numbered i (kept_of other) inside in
          omega (arith, long, at, is, whole);
    }

-- a number that is another
pub not_latest : (changes before : ℕ) (list : List Kept) (i : ℕ) (kept : Kept) → i < length list → kept ≡ get_or list i kept
    → before + length list ≡ changes → (kept.number ≡ before + i + 1 → ⊥) → AreLatest changes (traces_in list) → ⊥
not_latest changes before list i kept within is whole other latest =
    let long = length-map list (λ (k : Kept). kept_trace k.number k.steps) in
    let here = kept_trace kept.number kept.steps in
    let at = number_at list i here within in
    let number = latest.numbers i here (omega (arith, long, within)) in
    let this = ap (λ (k : Kept). k.number) is in
    let place = ap (λ (k : Kept). k.number) (same_place list i (kept_of here) kept within) in
    other (omega (arith, long, at, number, this, place, whole))

pub other_count : (changes : ℕ) (list : List Kept) → (length list ≡ min changes 16 → ⊥) → AreLatest changes (traces_in list) → ⊥
other_count changes list other latest =
    other (sym (length-map list (λ (k : Kept). kept_trace k.number k.steps)) ∙ latest.count)
