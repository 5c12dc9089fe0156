-- This file shows that what an engine keeps is a valid state, and has a text.
use Rattle.std.proofs.Common.{◌≡◌, ℕ, ◌+◌, ◌-◌, ◌<◌, ◌^◌, List, [], ◌∷◌, ◌++◌, length, get_or, take, All, AllPairs, sym, ap, subst}
use Rattle.std.proofs.Common.{◌∙◌, arith}
use Rattle.std.proofs.lemmas.List.{take_more, map-append}
use Rattle.std.proofs.lemmas.List.Elements.{All-nil, All-push, All-drop}
use Rattle.grid_base.specs.Point.{IsBefore}
use Rattle.grid_base.specs.Drawing.{Drawing}
use Rattle.grid_base.specs.declared.kinds.Kind.{Kind}
use Rattle.grid_base.specs.declared.kinds.Kind.TheVariants as kinds
use Rattle.grid_base.specs.declared.kinds.Step.{Step}
use Rattle.grid_base.proofs.RealmLaw.{drawn_realm_by}
use Rattle.line_grammar.specs.Spellable.{IsName}
use Rattle.hook_chain.specs.Ids.{IsAscending}
use Rattle.realm_drawing.specs.Keyed.{KeyedDrawing}
use Rattle.realm_index.specs.Index.{Entries}
use Rattle.record_codec.specs.Payload.{AreOfKind, IsKeptTrace}
use Rattle.record_codec.specs.Traces.{IsTrace}
use Rattle.record_codec.specs.declared.snapshot.Kept.{Kept}
use Rattle.state_check.specs.Tabled.{kept_parts}
use Rattle.value_geometry.specs.Parts.{HasParts}
use Rattle.value_table.specs.Table.{NamedValues, HasDistinctNames}
use Rattle.value_table.specs.declared.value.Parts.{Parts}
use Rattle.value_table.specs.declared.value.Parts.TheVariants as parts
use Rattle.realm_insert.specs.Kept.{IsSettled}
use Rattle.realm_insert.specs.Snapshots.{IsValidState, traces_in, kept_steps}
use Rattle.realm_insert.specs.State.{KeptTrace, kept_trace, latest}
use Rattle.realm_insert.specs.Values.{AreValuesOf}
use Rattle.realm_insert.proofs.PreparedChanges.{state_of as state_with}

-- ---- valid states
pub is_valid_state : (d : KeyedDrawing) (index : Entries) (values : NamedValues) (next_id changes : ℕ) (traces : List KeptTrace)
    → IsSettled d index values next_id changes traces → AllPairs IsBefore d.drawing.points → IsAscending d.drawing.originals
    → HasDistinctNames values → IsValidState (state_with d.drawing next_id values changes traces)
is_valid_state d index values next_id changes traces kept ascend rise apart = record {
  most_changes = kept.most_changes;
  first_id = kept.first_id;
  most_ids = kept.most_ids;
  points_ascend = ascend;
  ids_rise = rise;
  ids = kept.ids;
  chains = kept.rest.valid;
  realm = drawn_realm_by d.drawing kept.rest.settled;
  distinct = apart;
  values_fit = kept.values_fit;
  parts_ascend = kept.parts_ascend;
  latest = kept.latest;
  traces_fit = kept.traces_fit;
}

-- states with the same parts are one
pub same_state : (d e : Drawing) (n m : ℕ) (v w : NamedValues) (k j : ℕ) (t u : List KeptTrace) → d ≡ e → n ≡ m → v ≡ w → k ≡ j
    → t ≡ u → state_with d n v k t ≡ state_with e m w j u
same_state d e n m v w k j t u drawing next named changes traces =
    ap (λ (x : Drawing). state_with x n v k t) drawing ∙ ap (λ (x : ℕ). state_with e x v k t) next
    ∙ ap (λ (x : NamedValues). state_with e m x k t) named ∙ ap (λ (x : ℕ). state_with e m w x t) changes
    ∙ ap (λ (x : List KeptTrace). state_with e m w j x) traces

-- ---- values
-- what a drawing has the parts of is made of what its kind asks for
of_kind : (d : Drawing) (kind : Kind) (made : Parts) → HasParts d kind made → AreOfKind kind (kept_parts made)
of_kind d kinds.Points (parts.Points list) has = tt
of_kind d kinds.Points (parts.Ids ids) has = absurd has
of_kind d kinds.Lines (parts.Points list) has = absurd has
of_kind d kinds.Lines (parts.Ids ids) has = tt
of_kind d kinds.Regions (parts.Points list) has = absurd has
of_kind d kinds.Regions (parts.Ids ids) has = tt

pub values_of_kinds : (d : Drawing) (values : NamedValues) → AreValuesOf d values
    → All (λ entry. IsName entry.0 × AreOfKind entry.1.kind (kept_parts entry.1.parts)) values
values_of_kinds d values fit = λ k entry within.
    let has = fit k entry within in
    (has.0, of_kind d _ _ has.1)

-- ---- traces
-- the latest traces have texts, as those before and the new one do
pub latest_fit : (traces new : List KeptTrace) (number : ℕ) (steps : List Step) → All (λ kept. IsTrace kept.steps) traces
    → IsTrace steps → new ≡ latest (traces ++ kept_trace number steps ∷ []) → All (λ kept. IsTrace kept.steps) new
latest_fit traces new number steps fit text is =
    let Fits = λ (kept : KeptTrace). IsTrace kept.steps in
    let all = traces ++ kept_trace number steps ∷ [] in
    subst (All Fits) (sym is) (All-drop Fits (length all - 16) all (All-push Fits traces (kept_trace number steps) fit text))

-- the copies are the first i of the traces, each with a text
pub record AreCopied (list : List KeptTrace) (i : ℕ) (copies : List Kept) : Type 0 where
  pub are : traces_in copies ≡ take i list
  pub fit : All IsKeptTrace copies

pub none_copied : (list : List KeptTrace) (copies : List Kept) → copies ≡ [] → AreCopied list 0 copies
none_copied list copies is = record {
  are = ap traces_in is;
  fit = subst (All IsKeptTrace) (sym is) (All-nil IsKeptTrace);
}

-- one more
pub one_more_copied : (list : List KeptTrace) (i : ℕ) (kept : KeptTrace) (copies new : List Kept) → i < length list
    → kept ≡ get_or list i kept → kept.number < 2 ^ 64 → IsTrace kept.steps → new ≡ copies ++ kept_steps kept ∷ []
    → AreCopied list i copies → AreCopied list (i + 1) new
one_more_copied list i kept copies new within is small text pushed was = record {
  are = ap traces_in pushed ∙ map-append (λ (k : Kept). kept_trace k.number k.steps) copies (kept_steps kept ∷ [])
      ∙ ap (λ (t : List KeptTrace). t ++ kept ∷ []) was.are ∙ ap (λ (k : KeptTrace). take i list ++ k ∷ []) is
      ∙ sym (take_more list i kept within);
  fit = subst (All IsKeptTrace) (sym pushed) (All-push IsKeptTrace copies (kept_steps kept) was.fit (record {
    number = small;
    steps = (omega (arith, text.few), text.each);
  }));
}
