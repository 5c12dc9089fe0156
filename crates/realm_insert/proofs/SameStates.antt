-- This file shows that a change leads to one state by one trace.
use Rattle.std.proofs.Common.{◌≡◌, ℕ, ◌+◌, List, [], ◌∷◌, ◌++◌, length, Contains}
use Rattle.std.proofs.Common.{inl, inr, sym, ap, ap₂, subst, ◌∙◌}
use Rattle.grid_base.specs.Point.{GridPoint}
use Rattle.grid_base.specs.Drawing.{Drawing}
use Rattle.grid_base.specs.declared.kinds.Step.{Step}
use Rattle.grid_base.specs.declared.kinds.Kind.{Kind}
use Rattle.grid_base.specs.declared.kinds.Kind.TheVariants as kinds
use Rattle.grid_base.specs.declared.original.Original.{Original}
use Rattle.line_grammar.specs.declared.command.Change.{Change}
use Rattle.line_grammar.specs.declared.command.Change.TheVariants.{Points, Lines, Regions, Let}
use Rattle.value_table.specs.Table.{NamedValues}
use Rattle.value_table.specs.declared.value.Value.{Value}
use Rattle.value_table.specs.declared.value.Parts.TheVariants as parts
use Rattle.realm_insert.specs.Changes.{IsChangedTo, ChangesTo, IsExplicitAfter, AreValuesAfter, Defines, IsPointsOf, IsValueOfFigure}
use Rattle.hook_chain.specs.Steps.{Settles}
use Rattle.realm_insert.specs.Figures.{Figure}
use Rattle.realm_insert.specs.Misfits.{Misfits, MisfitsAt}
use Rattle.realm_insert.specs.Next.{Next}
use Rattle.realm_insert.specs.Refusals.{HasNoneOf, IsFirstOf, IsRefusedBy, order_of_refusals}
use Rattle.realm_insert.specs.State.{State, KeptTrace}
use Rattle.realm_insert.specs.declared.refusal.Refusal.{Refusal}
use Rattle.rose_operators.proofs.AscendingLists.{same_points}
use Rattle.realm_insert.proofs.OneFigure.{one_figure}
use Rattle.realm_insert.proofs.PreparedChanges.{state_of}
use Rattle.realm_insert.proofs.FailedTraces.{settles_is_one, settled_fits, one_number}

-- ---- what a change makes
-- one drawing, before the first step
changed_is_one : (c : Change) (figure : Figure) (d : Drawing) (first : ℕ) (e f : Drawing) → IsChangedTo c figure d first e
    → IsChangedTo c figure d first f → e ≡ f
changed_is_one c figure d first e f one other =
    ap₂ (λ (points : List GridPoint) (originals : List Original). record { points = points; originals = originals })
    (same_points (IsExplicitAfter c figure d.points) e.points f.points one.ascending other.ascending one.points other.points)
    (one.originals ∙ sym other.originals)

changes_to_one : (c : Change) (s : State) (e f : Drawing) → ChangesTo c s e → ChangesTo c s f → e ≡ f
changes_to_one c s e f (figure, draws, is) (other, also, is_too) =
    let same = one_figure c s other figure also draws in
    changed_is_one c figure s.drawing s.next_id e f is
    (subst (λ (g : Figure). IsChangedTo c g s.drawing s.next_id f) same is_too)

-- one value
points_value_is_one : (points : List GridPoint) (v w : Value) → IsPointsOf points v → IsPointsOf points w → v ≡ w
points_value_is_one points v w one other =
    let same = same_points (Contains points) one.list other.list one.ascending other.ascending one.exact other.exact in
    one.is_points ∙ ap (λ (list : List GridPoint). record { kind = kinds.Points; parts = parts.Points list }) same
    ∙ sym other.is_points

value_is_one : (kind : Kind) (figure : Figure) (first : ℕ) (v w : Value) → IsValueOfFigure kind figure first v
    → IsValueOfFigure kind figure first w → v ≡ w
value_is_one kinds.Points figure first v w one other = points_value_is_one figure.points v w one other
value_is_one kinds.Lines figure first v w one other = one ∙ sym other
value_is_one kinds.Regions figure first v w one other = one ∙ sym other

defined_is_one : (name : List ℕ) (figure : Figure) (first : ℕ) (old new other : NamedValues)
    → Defines name figure first old new → Defines name figure first old other → new ≡ other
defined_is_one name figure first old new other (v, of_v, is_new) (w, of_w, is_other) =
    let same = value_is_one figure.kind figure first v w of_v of_w in
    is_new ∙ ap (λ (u : Value). old ++ (name, u) ∷ []) same ∙ sym is_other

-- and one list of values
values_are_one : (c : Change) (figure : Figure) (first : ℕ) (old new other : NamedValues)
    → AreValuesAfter c figure first old new → AreValuesAfter c figure first old other → new ≡ other
values_are_one (Points name path) figure first old new other one also =
    defined_is_one name figure first old new other one also
values_are_one (Lines name paths) figure first old new other one also =
    defined_is_one name figure first old new other one also
values_are_one (Regions name cycles) figure first old new other one also =
    defined_is_one name figure first old new other one also
values_are_one (Let name op a b) figure first old new other one also =
    defined_is_one name figure first old new other one also
values_are_one c figure first old new other one also = one ∙ sym also

-- ---- the whole change
pub one_state : (old new other : State) (c : Change) (trace : List Step) → Next old c trace new → Next old c trace other
    → new ≡ other
one_state old new other c trace one also =
    let figure : Figure = one.figure in
    let drawn : also.figure ≡ figure = one_figure c old also.figure figure also.draws one.draws in
    let changed = changed_is_one c figure old.drawing old.next_id one.changed also.changed one.is_changed
    (subst (λ (f : Figure). IsChangedTo c f old.drawing old.next_id also.changed) drawn also.is_changed) in
    let drawing = settles_is_one one.changed new.drawing other.drawing trace one.settles
    (subst (λ (d : Drawing). Settles d trace other.drawing) (sym changed) also.settles) in
    let next_id = one.next_id ∙ ap (λ (f : Figure). old.next_id + length f.segments) (sym drawn) ∙ sym also.next_id in
    let values = values_are_one c figure old.next_id old.values new.values other.values one.values
    (subst (λ (f : Figure). AreValuesAfter c f old.next_id old.values other.values) drawn also.values) in
    let changes = one.changes ∙ sym also.changes in
    let traces = one.traces ∙ sym also.traces in
    ap (λ (d : Drawing). state_of d new.next_id new.values new.changes new.traces) drawing
    ∙ ap (λ (n : ℕ). state_of other.drawing n new.values new.changes new.traces) next_id
    ∙ ap (λ (v : NamedValues). state_of other.drawing other.next_id v new.changes new.traces) values
    ∙ ap (λ (n : ℕ). state_of other.drawing other.next_id other.values n new.traces) changes
    ∙ ap (λ (t : List KeptTrace). state_of other.drawing other.next_id other.values other.changes t) traces

-- a trace that settles fails nowhere
pub fits : (old new : State) (c : Change) (trace : List Step) (number : ℕ) → Next old c trace new → MisfitsAt c old trace number
    → ⊥
fits old new c trace number next (changed, is_changed, fails) =
    let same = changes_to_one c old changed next.changed is_changed (next.figure, next.draws, next.is_changed) in
    settled_fits next.changed new.drawing trace number next.settles (subst (λ (d : Drawing). Misfits d trace number) same fails)

pub one_failure : (s : State) (c : Change) (trace : List Step) (m n : ℕ) → MisfitsAt c s trace m → MisfitsAt c s trace n → m ≡ n
one_failure s c trace m n (changed, is_changed, fails) (other, is_other, also) =
    let same = changes_to_one c s other changed is_other is_changed in
    one_number changed trace m n fails (subst (λ (d : Drawing). Misfits d trace n) same also)

-- what has no cause isn't refused
pub none_is_first : (list : List Refusal) (c : Change) (s : State) (word : Refusal) → HasNoneOf list c s → IsFirstOf list c s word → ⊥
none_is_first [] c s word none first = first
none_is_first (r ∷ list) c s word none (inl here) = none.0 here.0
none_is_first (r ∷ list) c s word none (inr later) = none_is_first list c s word none.1 later.1

pub not_refused : (old new : State) (c : Change) (trace : List Step) (word : Refusal) → Next old c trace new
    → IsRefusedBy c old word → ⊥
not_refused old new c trace word next refused = none_is_first order_of_refusals c old word next.accepted refused
