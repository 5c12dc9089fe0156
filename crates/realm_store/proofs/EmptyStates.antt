-- This file shows that a payload without bytes opens the empty state.
use Rattle.std.proofs.Common.{◌≤◌, ◌<◌, [], refl, arith}
use Rattle.std.proofs.lemmas.List.Elements.{All-nil}
use Rattle.grid_base.specs.Drawing.{HasViolation, HasLink}
use Rattle.grid_base.specs.Realm.{PointInside, TwoCross}
use Rattle.grid_base.specs.declared.original.Original.{Original}
use Rattle.grid_base.proofs.RealmLaw.{drawn_realm_by}
use Rattle.line_grammar.specs.Spellable.{IsName}
use Rattle.record_codec.specs.Payload.{IsSnapshot, empty_snapshot as nothing}
use Rattle.record_codec.specs.Traces.{IsTrace}
use Rattle.hook_chain.specs.StandingChains.{HasValidChain}
use Rattle.chain_laws.proofs.Elements.{Any-nil}
use Rattle.value_geometry.specs.Parts.{HasParts}
use Rattle.realm_insert.specs.State.{empty_state}
use Rattle.state_check.specs.Tabled.{AreAscending}
use Rattle.realm_insert.specs.Snapshots.{IsValidState}
use Rattle.realm_store.specs.Stands.{Opens}

-- nothing is drawn, so nothing is violated
unviolated : HasViolation empty_state.drawing → ⊥
unviolated (PointInside p t point piece inside) = Any-nil (λ (o : Original). HasLink o.chain t) piece.1
unviolated (TwoCross t u piece_t piece_u cross) = Any-nil (λ (o : Original). HasLink o.chain t) piece_t.1

empty_valid : IsValidState empty_state
empty_valid = record {
  most_changes = omega arith;
  first_id = omega arith;
  most_ids = omega arith;
  points_ascend = λ i j d lt within. absurd (omega (arith, within));
  ids_rise = λ i j d lt within. absurd (omega (arith, within));
  ids = All-nil (λ (o : Original). (1 ≤ o.id) × (o.id < 1));
  chains = All-nil HasValidChain;
  realm = drawn_realm_by empty_state.drawing unviolated;
  distinct = λ i j d lt within. absurd (omega (arith, within));
  values_fit = All-nil (λ entry. IsName entry.0 × HasParts empty_state.drawing entry.1.kind entry.1.parts);
  parts_ascend = All-nil (λ entry. AreAscending entry.1.parts);
  latest = record { count = refl; numbers = λ i other within. absurd (omega (arith, within)) };
  traces_fit = All-nil (λ kept. IsTrace kept.steps);
}

empty_snapshot : IsSnapshot nothing
empty_snapshot = record {
  changes = omega arith;
  next_id = omega arith;
  points = (omega arith, tt);
  originals = (omega arith, tt);
  values = (omega arith, tt);
  traces = (omega arith, tt);
}

pub opens_empty : Opens [] empty_state
opens_empty = record {
  snapshot = nothing;
  is_snapshot = empty_snapshot;
  is_payload = refl;
  state_is = refl;
  valid = empty_valid;
}
