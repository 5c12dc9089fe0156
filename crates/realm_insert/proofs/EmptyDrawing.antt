-- This file shows that an engine may begin with the empty drawing.
use Rattle.std.proofs.Common.{◌≡◌, ℕ, ◌<◌, ◌≤◌, None, Some, List, [], All, refl, ap, sym, subst, ◌∙◌, arith}
use Rattle.std.specs.FinMap as map
use Rattle.std.specs.Ordering.{nat_cmp}
use Rattle.std.proofs.lemmas.List.Elements.{All-nil}
use Rattle.grid_base.specs.Segment.{GridSegment}
use Rattle.grid_base.specs.Realm.{PointInside, TwoCross}
use Rattle.grid_base.specs.Drawing.{HasViolation, HasLink}
use Rattle.grid_base.specs.declared.original.Original.{Original}
use Rattle.grid_base.proofs.Elements.{Contains-nil}
use Rattle.hook_chain.specs.StandingChains.{HasValidChain}
use Rattle.realm_drawing.specs.Keyed.{KeyedDrawing, empty_drawing, keyed}
use Rattle.chain_laws.proofs.Elements.{Any-nil}
use Rattle.realm_index.specs.Index.{Entries}
use Rattle.record_codec.specs.Traces.{IsTrace}
use Rattle.state_check.specs.Tabled.{AreAscending}
use Rattle.realm_insert.specs.Kept.{IsAtRest, IsSettled}
use Rattle.line_grammar.specs.Spellable.{IsName}
use Rattle.value_table.specs.Table.{NamedValues}
use Rattle.value_geometry.specs.Parts.{HasParts}
use Rattle.realm_insert.specs.Values.{AreValuesOf}
use Rattle.realm_insert.specs.State.{KeptTrace, HasIdsBelow, AreLatest}

-- nothing is drawn, so nothing is violated
empty_settled : HasViolation empty_drawing.drawing → ⊥
empty_settled (PointInside p t point piece inside) = Any-nil (λ (o : Original). HasLink o.chain t) piece.1
empty_settled (TwoCross t u piece_t piece_u cross) = Any-nil (λ (o : Original). HasLink o.chain t) piece_t.1

no_entry : (s : GridSegment) (k : ℕ) (index : Entries) → index ≡ map.empty → map.get index k ≡ Some s → ⊥
no_entry s k index is found =
    let none : map.get index k ≡ None = ap (λ (i : Entries). map.get i k) is ∙ map.get-empty nat_cmp k in
    cc

-- the empty drawing is at rest
empty_at_rest : (index : Entries) → index ≡ map.empty → IsAtRest empty_drawing index
empty_at_rest index is = record {
  settled = empty_settled;
  valid = All-nil HasValidChain;
  keyed = record {
    some_key = λ s piece. absurd (Any-nil (λ (o : Original). HasLink o.chain s) piece.1);
    of_pieces = λ s k has. absurd (Contains-nil (keyed s k) has);
    one_key = λ s k j has also. absurd (Contains-nil (keyed s k) has);
    one_piece = λ s t k has also. absurd (Contains-nil (keyed s k) has);
  };
  indexed = λ s k. (λ found. absurd (no_entry s k index is found), λ has. absurd (Contains-nil (keyed s k) has));
}

-- so an engine may begin with it
pub empty_is_settled : (d : KeyedDrawing) (index : Entries) (values : NamedValues) (traces : List KeptTrace) → d ≡ empty_drawing
    → index ≡ map.empty → values ≡ [] → traces ≡ [] → IsSettled d index values 1 0 traces
empty_is_settled d index values traces is_d is_index is_values is_traces = record {
  rest = subst (λ (e : KeyedDrawing). IsAtRest e index) (sym is_d) (empty_at_rest index is_index);
  values_fit = subst (AreValuesOf d.drawing) (sym is_values)
      (All-nil (λ entry. IsName entry.0 × HasParts d.drawing entry.1.kind entry.1.parts));
  parts_ascend = subst (λ (v : NamedValues). All (λ entry. AreAscending entry.1.parts) v) (sym is_values)
      (All-nil (λ entry. AreAscending entry.1.parts));
  ids = subst (λ (e : KeyedDrawing). HasIdsBelow 1 e.drawing) (sym is_d)
      (All-nil (λ (o : Original). (1 ≤ o.id) × (o.id < 1)));
  first_id = omega arith;
  most_ids = omega arith;
  most_changes = omega arith;
  latest = subst (AreLatest 0) (sym is_traces) (record { count = refl; numbers = λ i other within. absurd (omega (arith, within)) });
  traces_fit = subst (λ (l : List KeptTrace). All (λ kept. IsTrace kept.steps) l) (sym is_traces)
      (All-nil (λ kept. IsTrace kept.steps));
}
