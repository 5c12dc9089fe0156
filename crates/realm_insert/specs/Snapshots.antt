-- Snapshots of states, and which states are valid.
use Rattle.std.specs.Prelude.{◌≡◌, ◌≤◌, ◌^◌, ℕ, List, map, All, AllPairs}
use Rattle.grid_base.specs.Point.{IsBefore}
use Rattle.grid_base.specs.Drawing.{IsDrawnRealm}
use Rattle.hook_chain.specs.StandingChains.{AllValid}
use Rattle.hook_chain.specs.Ids.{IsAscending}
use Rattle.realm_drawing.specs.Keyed.{KeyedDrawing}
use Rattle.realm_index.specs.Index.{Entries}
use Rattle.record_codec.specs.Payload.{payload}
use Rattle.record_codec.specs.Traces.{IsTrace}
use Rattle.record_codec.specs.declared.snapshot.Kept.{Kept}
use Rattle.record_codec.specs.declared.snapshot.Named.{Named}
use Rattle.record_codec.specs.declared.snapshot.Snapshot.{Snapshot}
use Rattle.state_check.specs.Drawable.{drawing_with, IsDrawable}
use Rattle.state_check.specs.Tabled.{entries_of, kept_parts, AreAscending, AreTabled}
use Rattle.value_table.specs.Table.{NamedValues, HasDistinctNames}
use Rattle.value_table.specs.declared.value.Value.{Value}
use Rattle.realm_insert.specs.Kept.{IsAtRest}
use Rattle.realm_insert.specs.State.{State, KeptTrace, kept_trace, HasIdsBelow, AreLatest}
use Rattle.realm_insert.specs.Values.{AreValuesOf}

-- the traces that a snapshot keeps
abbrev pub traces_in : List Kept → List KeptTrace
traces_in traces = map (λ k. kept_trace k.number k.steps) traces

-- a trace as a snapshot keeps it
abbrev pub kept_steps : KeptTrace → Kept
kept_steps t = record { number = t.number; steps = t.steps }

-- a name with its value, as a snapshot keeps it
abbrev pub kept_entry : List ℕ × Value → Named
kept_entry entry = record { name = entry.0; value = record { kind = entry.1.kind; parts = kept_parts entry.1.parts } }

-- the state that the snapshot keeps
abbrev pub state_of : Snapshot → State
state_of s = record {
  drawing = drawing_with s.points s.originals;
  next_id = s.next_id;
  values = entries_of s.values;
  changes = s.changes;
  traces = traces_in s.traces;
}

-- the snapshot that keeps the state, field by field
abbrev pub snapshot_for : State → Snapshot
snapshot_for s = record {
  changes = s.changes;
  next_id = s.next_id;
  points = s.drawing.points;
  originals = s.drawing.originals;
  values = map kept_entry s.values;
  traces = map kept_steps s.traces;
}

-- the payload that is written for a state
unfoldable pub payload_of : State → List ℕ
payload_of s = payload (snapshot_for s)

-- all that a valid state is
pub record IsValidState (s : State) : Type 0 where
  -- there are no more changes and ids than there may be
  pub most_changes : s.changes ≤ 2 ^ 63
  pub first_id : 1 ≤ s.next_id
  pub most_ids : s.next_id ≤ 2 ^ 32
  -- explicit points ascend and ids rise, from 1 on and below the next one
  pub points_ascend : AllPairs IsBefore s.drawing.points
  pub ids_rise : IsAscending s.drawing.originals
  pub ids : HasIdsBelow s.next_id s.drawing
  -- each chain may stand for its original: from the lesser end to the greater, with no point twice in a row and never back in x
  -- or in y, by links that are close to the original but for the two of a corner
  pub chains : AllValid s.drawing
  pub realm : IsDrawnRealm s.drawing
  -- names are those of lines, no two are equal, and the parts of each value ascend and are there, those of a region even at
  -- each point as they were given
  pub distinct : HasDistinctNames s.values
  pub values_fit : AreValuesOf s.drawing s.values
  pub parts_ascend : All (λ entry. AreAscending entry.1.parts) s.values
  -- the traces are those of the last 16 changes, or of all, in order, and each of their steps has a text
  pub latest : AreLatest s.changes s.traces
  pub traces_fit : All (λ kept. IsTrace kept.steps) s.traces

-- ---- an engine made of a snapshot, for this crate's own proofs
-- the drawing and the values that the snapshot keeps are those of a valid state
pub record HasValidParts (s : Snapshot) : Type 0 where
  pub drawable : IsDrawable (drawing_with s.points s.originals)
  pub realm : IsDrawnRealm (drawing_with s.points s.originals)
  pub tabled : AreTabled (drawing_with s.points s.originals) (entries_of s.values)

-- so they are, and have been made
pub record IsRestored (s : Snapshot) (d : KeyedDrawing) (index : Entries) (values : NamedValues) : Type 0 where
  pub drawing : d.drawing ≡ drawing_with s.points s.originals
  pub named : values ≡ entries_of s.values
  pub rest : IsAtRest d index
  pub parts : HasValidParts s
