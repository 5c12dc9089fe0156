-- This file shows that a change keeps what a certificate needs of a state.
use Rattle.std.proofs.Common.{◌≡◌, ◌+◌, ◌≤◌, List, length, get_or, All, AllPairs, Any, refl, sym, subst, arith}
use Rattle.std.proofs.lemmas.List.Elements.{All-map, Contains-get_or}
use Rattle.grid_base.specs.Point.{IsBefore}
use Rattle.grid_base.specs.Segment.{GridSegment}
use Rattle.grid_base.specs.Drawing.{HasViolation}
use Rattle.grid_base.specs.declared.kinds.Step.{Step}
use Rattle.grid_base.proofs.RealmLaw.{drawn_realm_settled}
use Rattle.line_grammar.specs.Spellable.{IsSpellableChange}
use Rattle.line_grammar.specs.declared.command.At.{At}
use Rattle.line_grammar.specs.declared.command.Change.{Change}
use Rattle.line_grammar.specs.declared.command.Change.TheVariants.{Point, Unpoint, Segment, Points}
use Rattle.line_grammar.specs.declared.command.Change.TheVariants.{Lines, Regions, Let, Drop, Delete}
use Rattle.hook_chain.specs.Ids.{IsAscending}
use Rattle.chain_laws.proofs.PathLinks.{segment_of-between}
use Rattle.realm_insert.specs.Figures.{Figure, figure_written, Draws}
use Rattle.realm_insert.specs.Lines.{HasPlaceOffGrid, IsDrawable, grid_point, drawn_between, segment_between, written_segments}
use Rattle.realm_insert.specs.Next.{Next}
use Rattle.realm_insert.specs.Snapshots.{IsValidState}
use Rattle.realm_insert.specs.State.{State, HasIdsBelow}
use Rattle.realm_insert.specs.Values.{AreValuesOf}
use Rattle.realm_insert.proofs.ChangedValues.{values_changed}
use Rattle.realm_insert.proofs.Drawable.{drawable}
use Rattle.realm_insert.proofs.DrawnAlready.{let_drawn}
use Rattle.realm_insert.proofs.KeptValues.{values_settled}
use Rattle.realm_insert.proofs.NewValues.{drawn_even, values_after}
use Rattle.realm_insert.proofs.StepsTaken.{ids_below, points_kept}
use Rattle.certificate_law.proofs.ChangedOriginals.{AreRedrawn, redrawn_by}
use Rattle.certificate_law.proofs.SettledOriginals.{settled_rise, none_violated}

-- explicit points ascend, ids rise and lie below the next one, nothing is violated, and values are made of what is drawn
pub record IsSteady (s : State) : Type 0 where
  pub first_id : 1 ≤ s.next_id
  pub points_ascend : AllPairs IsBefore s.drawing.points
  pub ids_rise : IsAscending s.drawing.originals
  pub ids : HasIdsBelow s.next_id s.drawing
  pub settled : HasViolation s.drawing → ⊥
  pub values_fit : AreValuesOf s.drawing s.values

pub steady_if_valid : (s : State) → IsValidState s → IsSteady s
steady_if_valid s valid = record {
  first_id = valid.first_id;
  points_ascend = valid.points_ascend;
  ids_rise = valid.ids_rise;
  ids = valid.ids;
  settled = drawn_realm_settled s.drawing valid.realm;
  values_fit = valid.values_fit;
}

-- ---- segments that a change draws
same_places : (p q : At) → grid_point p ≡ grid_point q → p ≡ q
same_places p q same = λ i. record { x = (same i).x; y = (same i).y }

between_ordered : (e : _) → IsDrawable e → IsBefore (segment_between e).a (segment_between e).b
between_ordered e can =
    (segment_of-between (grid_point e.from) (grid_point e.to) (λ same. can.2 (same_places e.from e.to same))).1

written_ordered : (c : Change) → (HasPlaceOffGrid c → ⊥) → (Any (λ e. e.from ≡ e.to) (drawn_between c) → ⊥)
    → All (λ s. IsBefore s.a s.b) (written_segments c)
written_ordered c on apart =
    All-map (λ (s : GridSegment). IsBefore s.a s.b) segment_between (drawn_between c)
    (λ k d within. between_ordered (get_or (drawn_between c) k d) (drawable c on apart k d within))

written_are : (c : Change) → (figure_written c).segments ≡ written_segments c
written_are (Point p) = refl
written_are (Unpoint p) = refl
written_are (Segment p q) = refl
written_are (Points name path) = refl
written_are (Lines name paths) = refl
written_are (Regions name cycles) = refl
written_are (Let name op first second) = refl
written_are (Drop name) = refl
written_are (Delete id) = refl

-- each has its lesser end first: it is between two places that the line writes, or it is a piece
pub drawn_ordered : (c : Change) (s : State) (figure : Figure) → AreValuesOf s.drawing s.values → (HasPlaceOffGrid c → ⊥)
    → (Any (λ e. e.from ≡ e.to) (drawn_between c) → ⊥) → Draws c s figure → All (λ t. IsBefore t.a t.b) figure.segments
drawn_ordered (Let name op first second) s figure fit on apart draws =
    let drawn = let_drawn s fit (Let name op first second) figure tt draws in
    λ k d within. (drawn.pieces (get_or figure.segments k d) (Contains-get_or figure.segments k d within)).0
drawn_ordered c s figure fit on apart draws =
    subst (λ (f : Figure). All (λ t. IsBefore t.a t.b) f.segments) (sym draws)
    (subst (All (λ t. IsBefore t.a t.b)) (sym (written_are c)) (written_ordered c on apart))

-- ---- a change
module _ (c : Change) (old new : State) (trace : List Step) (steady : IsSteady old) (next : Next old c trace new) where
  -- what it makes of the originals before the first step
  pub redrawn_next : AreRedrawn old.drawing.originals next.changed.originals old.next_id (length next.figure.segments)
  redrawn_next =
      redrawn_by c next.figure old.drawing old.next_id next.changed next.is_changed
      (drawn_ordered c old next.figure steady.values_fit next.accepted.0 next.accepted.1.1.0 next.draws) steady.first_id
      steady.ids_rise steady.ids

  pub steady_next : IsSpellableChange c → IsSteady new
  steady_next spellable =
      let figure = next.figure in
      let first = old.next_id in
      let changed = next.changed in
      let ids = next.next_id in
      let fit = values_changed old.drawing first changed old.values steady.values_fit c figure next.accepted.1.1.1.1.1.1.1.1.0
      next.is_changed in
      let even = drawn_even c old figure next.accepted.1.1.0 next.draws in
      let after = values_after old.drawing first changed old.values new.values fit c figure spellable even next.is_changed
      next.values in
      record {
        first_id = omega (arith, ids, steady.first_id);
        points_ascend = subst (AllPairs IsBefore) (sym (points_kept changed new.drawing trace next.settles))
            next.is_changed.ascending;
        ids_rise = settled_rise changed new.drawing trace next.settles redrawn_next.rise;
        ids = subst (λ n. HasIdsBelow n new.drawing) (sym ids)
            (ids_below changed new.drawing trace (first + length figure.segments) next.settles redrawn_next.below);
        settled = none_violated changed new.drawing trace next.settles;
        values_fit = values_settled changed new.drawing trace new.values next.settles after;
      }
