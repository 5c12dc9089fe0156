-- This file shows what a change makes of a drawing before the first step.
use Rattle.std.proofs.Common.{◌≡◌, ◌⊎◌, ◌↔◌, ℕ, ◌+◌, ◌<◌, ◌≤◌, ◌^◌, List, [], ◌∷◌, ◌++◌, length, Contains, All}
use Rattle.std.proofs.Common.{inl, inr, refl, sym, ap, subst, ◌∙◌, arith}
use Rattle.std.proofs.lemmas.List.Elements.{All-weaker}
use Rattle.grid_base.specs.Point.{GridPoint}
use Rattle.grid_base.specs.Segment.{GridSegment}
use Rattle.grid_base.specs.Drawing.{Drawing}
use Rattle.grid_base.specs.declared.kinds.Step.{Step}
use Rattle.grid_base.specs.declared.original.Original.{Original}
use Rattle.line_grammar.specs.declared.command.At.{At}
use Rattle.line_grammar.specs.declared.command.Change.{Change}
use Rattle.line_grammar.specs.declared.command.Change.TheVariants.{Unpoint, Delete}
use Rattle.hook_chain.specs.StandingChains.{AllValid}
use Rattle.hook_chain.specs.Changed.{without_id}
use Rattle.realm_drawing.specs.Keyed.{KeyedDrawing, AreKeyed, TakesPoint}
use Rattle.hook_chain.specs.Straight.{straight, placed}
use Rattle.realm_index.specs.Index.{Entries}
use Rattle.value_table.specs.Table.{NamedValues}
use Rattle.realm_insert.specs.Changes.{ChangesTo, IsExplicitAfter, placed_all, redrawn}
use Rattle.realm_insert.specs.Figures.{Figure, Draws}
use Rattle.realm_insert.specs.Kept.{IsIndexed, IsAtRest}
use Rattle.realm_insert.specs.Lines.{grid_point}
use Rattle.realm_insert.specs.Next.{Next, MakesNoViolation}
use Rattle.realm_insert.specs.Refusals.{IsAccepted, LacksIds}
use Rattle.realm_insert.specs.State.{State, KeptTrace, HasIdsBelow}
use Rattle.realm_insert.specs.Work.{IsCoveredBy, AddsPoints, CanBeDrawn, IsPrepared}
use Rattle.realm_insert.proofs.PlacedLists.{nothing_to_cover}
use Rattle.realm_insert.proofs.RemovedOriginals.{ids_left}
use Rattle.realm_insert.proofs.StepsTaken.{untouched}

-- the state of these
abbrev pub state_of : Drawing → ℕ → NamedValues → ℕ → List KeptTrace → State
state_of drawing next_id values changes traces =
    record { drawing = drawing; next_id = next_id; values = values; changes = changes; traces = traces }

-- ---- when a change can be made
-- no id is past the last
pub most_drawn : (c : Change) (s : State) (figure : Figure) → Draws c s figure → (LacksIds c s → ⊥) → s.next_id ≤ 2 ^ 32
    → s.next_id + length figure.segments ≤ 2 ^ 32
most_drawn c s figure draws left most = elim (some (length figure.segments)) [
  | inl none ↦ omega arith
  | inr more ↦ elim (over (s.next_id + length figure.segments)) [
    | inl past ↦ absurd (left (record { figure = figure; draws = draws; some = more; too_many = past }))
    | inr fits ↦ fits
  ]
]
  where
    some : (n : ℕ) → (n ≡ 0) ⊎ (0 < n)
    some n = grind arith

    over : (n : ℕ) → (2 ^ 32 < n) ⊎ (n ≤ 2 ^ 32)
    over n = grind arith

-- so an accepted change can be drawn
pub can_be_drawn : (c : Change) (s : State) (figure : Figure) → IsAccepted c s → Draws c s figure
    → HasIdsBelow s.next_id s.drawing → 1 ≤ s.next_id → s.next_id ≤ 2 ^ 32 → CanBeDrawn c figure s.drawing s.next_id
can_be_drawn c s figure accepted draws ids least most = record {
  on_grid = accepted.0;
  there = accepted.1.1.1.1.1.1.0;
  ids = ids;
  least = least;
  most = most_drawn c s figure draws accepted.1.1.1.1.1.1.1.1.1.0 most;
}

-- ---- what is drawn
-- points stay where originals are placed
pub placed_points : (d : Drawing) (id : ℕ) (list : List GridSegment) → (placed_all d id list).points ≡ d.points
placed_points d id [] = refl
placed_points d id (s ∷ list) = placed_points (placed d id s) (id + 1) list

-- and the originals come to stand behind those that were there, whatever the points are
placed_originals : (d e : Drawing) (id : ℕ) (list : List GridSegment) → d.originals ≡ e.originals
    → (placed_all d id list).originals ≡ (placed_all e id list).originals
placed_originals d e id [] same = same
placed_originals d e id (s ∷ list) same =
    placed_originals (placed d id s) (placed e id s) (id + 1) list (ap (λ (l : List Original). l ++ straight id s ∷ []) same)

-- what a change makes explicit and draws, unless it is to take a point or to delete
module _ (c : Change) (figure : Figure) (no_unpoint : (p : At) → c ≡ Unpoint p → ⊥) (no_delete : (id : ℕ) → c ≡ Delete id → ⊥) where
  marked_unless : (points : List GridPoint) (q : GridPoint)
      → IsExplicitAfter c figure points q ↔ (Contains figure.points q ⊎ Contains points q)
  marked_unless points q = by c no_unpoint no_delete
    where
      by : (c : Change) → ((p : At) → c ≡ Unpoint p → ⊥) → ((id : ℕ) → c ≡ Delete id → ⊥)
          → IsExplicitAfter c figure points q ↔ (Contains figure.points q ⊎ Contains points q)
      by (Unpoint p) no_unpoint no_delete = absurd (no_unpoint p refl)
      by (Delete id) no_unpoint no_delete = absurd (no_delete id refl)
      by c no_unpoint no_delete = (λ h. h, λ h. h)

  redrawn_unless : (d : Drawing) (first : ℕ) → redrawn c figure d first ≡ placed_all d first figure.segments
  redrawn_unless d first = by c no_unpoint no_delete
    where
      by : (c : Change) → ((p : At) → c ≡ Unpoint p → ⊥) → ((id : ℕ) → c ≡ Delete id → ⊥)
          → redrawn c figure d first ≡ placed_all d first figure.segments
      by (Unpoint p) no_unpoint no_delete = absurd (no_unpoint p refl)
      by (Delete id) no_unpoint no_delete = absurd (no_delete id refl)
      by c no_unpoint no_delete = refl

-- ---- each kind of change
-- what is below an id is below those after it
still_below : (figure : Figure) (first : ℕ) (d : Drawing) → HasIdsBelow first d
    → HasIdsBelow (first + length figure.segments) d
still_below figure first d below =
    All-weaker (λ o. (1 ≤ o.id) × (o.id < first)) (λ o. (1 ≤ o.id) × (o.id < first + length figure.segments))
    (λ o bounds. (bounds.0, omega (arith, bounds.1))) d.originals below

-- points and originals are placed
pub prepared_placed : (c : Change) (figure : Figure) (old mid new : KeyedDrawing) (first : ℕ) (index : Entries)
    (fresh : List GridSegment) → ((p : At) → c ≡ Unpoint p → ⊥) → ((id : ℕ) → c ≡ Delete id → ⊥)
    → AddsPoints figure.points old mid → new.drawing ≡ placed_all mid.drawing first figure.segments
    → IsIndexed new index → AreKeyed new → AllValid new.drawing → IsCoveredBy new.drawing fresh
    → HasIdsBelow (first + length figure.segments) new.drawing → IsPrepared c figure old.drawing first new index fresh
prepared_placed c figure old mid new first index fresh no_unpoint no_delete adds placed indexed keyed valid covered ids =
    record {
      points = λ q.
          let same = ap (λ (d : Drawing). d.points) placed ∙ placed_points mid.drawing first figure.segments in
          let unless = marked_unless c figure no_unpoint no_delete old.drawing.points q in (
            λ there. unless.1 ((adds.points q).0 (subst (λ (l : List GridPoint). Contains l q) same there)),
            λ after. subst (λ (l : List GridPoint). Contains l q) (sym same) ((adds.points q).1 (unless.0 after)),
          );
      originals = ap (λ (d : Drawing). d.originals) placed
          ∙ placed_originals mid.drawing old.drawing first figure.segments adds.originals
          ∙ sym (ap (λ (d : Drawing). d.originals) (redrawn_unless c figure no_unpoint no_delete old.drawing first));
      indexed = indexed;
      keyed = keyed;
      valid = valid;
      covered = covered;
      ids = ids;
    }

-- a point is taken
pub prepared_unmarked : (p : At) (figure : Figure) (old new : KeyedDrawing) (first : ℕ) (index : Entries)
    → TakesPoint old new (grid_point p) → IsAtRest new index → HasIdsBelow first old.drawing
    → IsPrepared (Unpoint p) figure old.drawing first new index []
prepared_unmarked p figure old new first index takes rest ids = record {
  points = takes.points;
  originals = takes.originals;
  indexed = rest.indexed;
  keyed = rest.keyed;
  valid = rest.valid;
  covered = nothing_to_cover new.drawing rest.settled;
  ids = still_below figure first new.drawing
      (subst (λ (l : List Original). All (λ o. (1 ≤ o.id) × (o.id < first)) l) (sym takes.originals) ids);
}

-- an original is removed
pub prepared_removed : (id : ℕ) (figure : Figure) (old new : KeyedDrawing) (first : ℕ) (index : Entries)
    → new.drawing ≡ without_id old.drawing id → IsAtRest new index → HasIdsBelow first old.drawing
    → IsPrepared (Delete id) figure old.drawing first new index []
prepared_removed id figure old new first index removed rest ids = record {
  points = λ q.
      let same = ap (λ (d : Drawing). d.points) removed in (
        λ there. subst (λ (l : List GridPoint). Contains l q) same there,
        λ there. subst (λ (l : List GridPoint). Contains l q) (sym same) there,
      );
  originals = ap (λ (d : Drawing). d.originals) removed;
  indexed = rest.indexed;
  keyed = rest.keyed;
  valid = rest.valid;
  covered = nothing_to_cover new.drawing rest.settled;
  ids = still_below figure first new.drawing (subst (HasIdsBelow first) (sym removed) (ids_left old.drawing id first ids));
}

-- ---- the whole change
-- where it makes no violation, no step is permitted
pub untouched_change : (old : State) (c : Change) (trace : List Step) (new : State) → Next old c trace new → MakesNoViolation old c
    → (trace ≡ []) × ChangesTo c old new.drawing
untouched_change old c trace new next none =
    let changes : ChangesTo c old next.changed = (next.figure, next.draws, next.is_changed) in
    let (empty, same) = untouched next.changed new.drawing trace next.settles (none next.changed changes) in
    (empty, subst (λ (d : Drawing). ChangesTo c old d) (sym same) changes)
