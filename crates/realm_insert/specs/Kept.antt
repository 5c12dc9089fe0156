-- What every engine that isn't spent is like.
use Rattle.std.specs.Prelude.{◌≡◌, ◌↔◌, ℕ, ◌≤◌, ◌^◌, Bool, false, Some, List, All}
use Rattle.std.specs.FinMap as map
use Rattle.grid_base.specs.Segment.{GridSegment}
use Rattle.grid_base.specs.Drawing.{HasViolation}
use Rattle.hook_chain.specs.StandingChains.{AllValid}
use Rattle.realm_drawing.specs.Keyed.{KeyedDrawing, HasKey, AreKeyed}
use Rattle.realm_index.specs.Index.{Entries}
use Rattle.record_codec.specs.Traces.{IsTrace}
use Rattle.state_check.specs.Tabled.{AreAscending}
use Rattle.value_table.specs.Table.{NamedValues}
use Rattle.realm_insert.specs.State.{KeptTrace, HasIdsBelow, AreLatest}
use Rattle.realm_insert.specs.Values.{AreValuesOf}

-- the index has each piece under its key, and nothing else
abbrev pub IsIndexed : KeyedDrawing → Entries → Type 0
IsIndexed d index = (s : GridSegment) (k : ℕ) → (map.get index k ≡ Some s) ↔ HasKey d s k

-- the drawing has no violation, each of its chains may stand for its original, and the index has its pieces
pub record IsAtRest (d : KeyedDrawing) (index : Entries) : Type 0 where
  pub settled : HasViolation d.drawing → ⊥
  pub valid : AllValid d.drawing
  pub keyed : AreKeyed d
  pub indexed : IsIndexed d index

-- So it is, the parts of each value ascend, and ids and changes are numbered from 1 on and within their bounds. The traces are the
-- latest, and each of their steps has a text.
pub record IsSettled (d : KeyedDrawing) (index : Entries) (values : NamedValues) (next_id changes : ℕ)
    (traces : List KeptTrace) : Type 0 where
  pub rest : IsAtRest d index
  pub values_fit : AreValuesOf d.drawing values
  pub parts_ascend : All (λ entry. AreAscending entry.1.parts) values
  pub ids : HasIdsBelow next_id d.drawing
  pub first_id : 1 ≤ next_id
  pub most_ids : next_id ≤ 2 ^ 32
  pub most_changes : changes ≤ 2 ^ 63
  pub latest : AreLatest changes traces
  pub traces_fit : All (λ kept. IsTrace kept.steps) traces

-- this holds unless the engine is spent
abbrev pub IsSettledUnlessSpent : Bool → KeyedDrawing → Entries → NamedValues → ℕ → ℕ → List KeptTrace → Type 0
IsSettledUnlessSpent spent d index values next_id changes traces = spent ≡ false → IsSettled d index values next_id changes traces
