-- This file shows that the value that a change defines is made of what the change draws.
use Rattle.std.proofs.Common.{◌≡◌, ◌≢◌, ℕ, ◌+◌, List, [], ◌∷◌, ◌++◌, length, get_or, Option, Some, None}
use Rattle.std.proofs.Common.{map, All, Any, Contains, inl, refl, sym, ap, subst}
use Rattle.std.proofs.lemmas.List.{get_or_default}
use Rattle.std.proofs.lemmas.List.Elements.{All-filter, All-push, All-nil, All-cons, Contains-get_or, Contains-push}
use Rattle.grid_base.specs.Border.{IsEvenBorder}
use Rattle.grid_base.specs.Point.{GridPoint}
use Rattle.grid_base.specs.Segment.{GridSegment}
use Rattle.grid_base.specs.Drawing.{Drawing}
use Rattle.grid_base.specs.declared.kinds.Kind.{Kind}
use Rattle.grid_base.specs.declared.kinds.Kind.TheVariants as kinds
use Rattle.grid_base.specs.declared.original.Original.{Original}
use Rattle.line_grammar.specs.Spellable.{IsName, IsSpellableChange}
use Rattle.line_grammar.specs.declared.command.Change.{Change}
use Rattle.line_grammar.specs.declared.command.Change.TheVariants.{Points, Lines, Regions, Let, Drop}
use Rattle.hook_chain.specs.Straight.{straight, placed, along}
use Rattle.rose_values.specs.declared.geometry.Geometry.{Geometry}
use Rattle.rose_values.specs.declared.geometry.Geometry.TheVariants.{P, L, R}
use Rattle.rose_values.specs.declared.operators.Op.{Op}
use Rattle.rose_values.specs.declared.operators.Op.TheVariants.{Intersection, Plus, Minus, CommonBorder, Vertices, Contour}
use Rattle.rose_values.specs.Operators.{IsMadeOf, IsMadeOfOne, IsMadeOfTwo}
use Rattle.rose_operators.specs.Results.{IsResultOf}
use Rattle.rose_operators.proofs.Rows.{by_rows}
use Rattle.value_geometry.specs.Parts.{AreOriginals, HasParts}
use Rattle.value_table.specs.Table.{NamedValues}
use Rattle.value_table.specs.declared.value.Value.{Value}
use Rattle.realm_insert.specs.Changes.{IsChangedTo, AreValuesAfter, Defines, IsValueOfFigure, placed_all, ids_from}
use Rattle.realm_insert.specs.Figures.{Figure, figure_of, Draws}
use Rattle.realm_insert.specs.Lines.{drawn_between}
use Rattle.realm_insert.specs.State.{State}
use Rattle.realm_insert.specs.Values.{AreValuesOf}
use Rattle.realm_insert.proofs.EvenCycles.{cycles_even}
use Rattle.realm_insert.proofs.KeptValues.{original_stays}

-- ---- the originals that are placed
-- the straight originals along these segments, the first with this id, and each further one with the next
abbrev straight_all : ℕ → List GridSegment → List Original
straight_all id [] = []
straight_all id (s ∷ list) = straight id s ∷ straight_all (id + 1) list

ids_of_all : (id : ℕ) (list : List GridSegment) → map (λ (o : Original). o.id) (straight_all id list) ≡ ids_from id (length list)
ids_of_all id [] = refl
ids_of_all id (s ∷ list) = ap (λ (ids : List ℕ). id ∷ ids) (ids_of_all (id + 1) list)

along_all : (id : ℕ) (list : List GridSegment) → map along (straight_all id list) ≡ list
along_all id [] = refl
along_all id (s ∷ list) = ap (λ (rest : List GridSegment). s ∷ rest) (along_all (id + 1) list)

all_there : (d : Drawing) (first : ℕ) (list : List GridSegment)
    → All (Contains (placed_all d first list).originals) (straight_all first list)
all_there d first [] = All-nil (Contains d.originals)
all_there d first (s ∷ list) =
    let here = original_stays (placed d first s) (first + 1) list (straight first s) (Contains-push d.originals (straight first s)) in
    All-cons (Contains (placed_all d first (s ∷ list)).originals) (straight first s) (straight_all (first + 1) list) here
    (all_there (placed d first s) (first + 1) list)

-- ---- borders
-- where an operator makes a region its border is even
made_even_of_two : (op : Op) (a b : Geometry) (border : List GridSegment) → IsMadeOfTwo op a b (R border) → IsEvenBorder border
made_even_of_two Intersection (R x) (R y) border is = is.even
made_even_of_two Plus (R x) (R y) border is = is.even
made_even_of_two Minus (R x) (R y) border is = is.even
made_even_of_two Intersection (P x) (P y) border is = absurd is
made_even_of_two Intersection (L x) (L y) border is = absurd is
made_even_of_two Intersection (R x) (L y) border is = absurd is
made_even_of_two Plus (P x) (P y) border is = absurd is
made_even_of_two Plus (L x) (L y) border is = absurd is
made_even_of_two Minus (P x) (P y) border is = absurd is
made_even_of_two Minus (L x) (L y) border is = absurd is
made_even_of_two CommonBorder (R x) (R y) border is = absurd is
made_even_of_two _ _ _ border is = absurd is

made_even_of_one : (op : Op) (a : Geometry) (border : List GridSegment) → IsMadeOfOne op a (R border) → IsEvenBorder border
made_even_of_one Vertices (L x) border is = absurd is
made_even_of_one Vertices (R x) border is = absurd is
made_even_of_one Contour (R x) border is = absurd is
made_even_of_one _ _ border is = absurd is

made_even : (op : Op) (a : Geometry) (b : Option Geometry) (border : List GridSegment) → IsMadeOf op a b (R border)
    → IsEvenBorder border
made_even op a None border is = made_even_of_one op a border is
made_even op a (Some b) border is = made_even_of_two op a b border is

even_figure : (op : Op) (a : Geometry) (b : Option Geometry) (made : Geometry) → IsMadeOf op a b made
    → (figure_of made).kind ≡ kinds.Regions → IsEvenBorder (figure_of made).segments
even_figure op a b (P list) is kind = absurd cc
even_figure op a b (L list) is kind = absurd cc
even_figure op a b (R border) is kind = made_even op a b border is

even_result : (op : Op) (a : Geometry) (b : Option Geometry) (made : Geometry) → IsResultOf op a b made
    → (figure_of made).kind ≡ kinds.Regions → IsEvenBorder (figure_of made).segments
even_result =
    by_rows (λ a b made. (figure_of made).kind ≡ kinds.Regions → IsEvenBorder (figure_of made).segments) even_figure
    (λ lines border shut_in kind. shut_in.even)

-- what a change draws as a region is even
pub drawn_even : (c : Change) (s : State) (figure : Figure) → (Any (λ e. e.from ≡ e.to) (drawn_between c) → ⊥)
    → Draws c s figure → figure.kind ≡ kinds.Regions → IsEvenBorder figure.segments
drawn_even (Regions name cycles) s figure apart draws kind =
    let c = Regions name cycles in
    let apart_each : All (λ e. e.from ≢ e.to) (drawn_between c) = λ k e within same.
    apart (k, get_or (drawn_between c) k e, within, get_or_default (drawn_between c) k _ e within, same) in
    subst (λ (f : Figure). IsEvenBorder f.segments) (sym draws) (λ p. cycles_even p cycles apart_each)
drawn_even (Let name op one second) s figure apart (made, by, draws) kind =
    subst (λ (f : Figure). IsEvenBorder f.segments) (sym draws)
    (even_result op by.a by.b made by.is_made (subst (λ (f : Figure). f.kind ≡ kinds.Regions) draws kind))
drawn_even c s figure apart draws kind =
    let other = subst (λ (f : Figure). f.kind ≡ kinds.Regions) draws kind in absurd cc

-- ---- the values after the change
module _ (d : Drawing) (first : ℕ) (changed : Drawing) (old new : NamedValues) (fit : AreValuesOf changed old) where
  -- one more value
  with_one : (name : List ℕ) (v : Value) → IsName name → HasParts changed v.kind v.parts → new ≡ old ++ (name, v) ∷ []
      → AreValuesOf changed new
  with_one name v is_name fits is =
      subst (λ (values : NamedValues). AreValuesOf changed values) (sym is)
      (All-push (λ entry. IsName entry.0 × HasParts changed entry.1.kind entry.1.parts) old (name, v) fit (is_name, fits))

  -- the originals that are placed are there
  there_for : (figure : Figure) → changed.originals ≡ (placed_all d first figure.segments).originals
      → AreOriginals changed (ids_from first (length figure.segments)) (straight_all first figure.segments)
  there_for figure originals = record {
    there = subst (λ (l : List Original). All (Contains l) (straight_all first figure.segments)) (sym originals)
        (all_there d first figure.segments);
    by_id = ids_of_all first figure.segments;
  }

  -- what the figure makes has its parts
  value_fits : (kind : Kind) (figure : Figure) → (kind ≡ kinds.Regions → IsEvenBorder figure.segments) → (v : Value)
      → IsValueOfFigure kind figure first v → ((p : GridPoint) → Contains figure.points p → Contains changed.points p)
      → changed.originals ≡ (placed_all d first figure.segments).originals → HasParts changed v.kind v.parts
  value_fits kinds.Points figure even v is explicit originals =
      subst (λ (w : Value). HasParts changed w.kind w.parts) (sym is.is_points)
      (λ k p within. explicit (get_or is.list k p) ((is.exact (get_or is.list k p)).0 (Contains-get_or is.list k p within)))
  value_fits kinds.Lines figure even v is explicit originals =
      subst (λ (w : Value). HasParts changed w.kind w.parts) (sym is)
      (straight_all first figure.segments, there_for figure originals)
  value_fits kinds.Regions figure even v is explicit originals =
      subst (λ (w : Value). HasParts changed w.kind w.parts) (sym is) (
        straight_all first figure.segments,
        there_for figure originals,
        subst IsEvenBorder (sym (along_all first figure.segments)) (even refl),
      )

  defined_fits : (name : List ℕ) (figure : Figure) → IsName name
      → (figure.kind ≡ kinds.Regions → IsEvenBorder figure.segments)
      → ((p : GridPoint) → Contains figure.points p → Contains changed.points p)
      → changed.originals ≡ (placed_all d first figure.segments).originals → Defines name figure first old new
      → AreValuesOf changed new
  defined_fits name figure is_name even explicit originals (v, of_v, is) =
      with_one name v is_name (value_fits figure.kind figure even v of_v explicit originals) is

  pub values_after : (c : Change) (figure : Figure) → IsSpellableChange c
      → (figure.kind ≡ kinds.Regions → IsEvenBorder figure.segments)
      → IsChangedTo c figure d first changed → AreValuesAfter c figure first old new → AreValuesOf changed new
  values_after (Points name path) figure spellable even is after =
      defined_fits name figure spellable.0 even (λ p there. (is.points p).1 (inl there)) is.originals after
  values_after (Lines name paths) figure spellable even is after =
      defined_fits name figure spellable.0 even (λ p there. (is.points p).1 (inl there)) is.originals after
  values_after (Regions name cycles) figure spellable even is after =
      defined_fits name figure spellable.0 even (λ p there. (is.points p).1 (inl there)) is.originals after
  values_after (Let name op one second) figure spellable even is after =
      defined_fits name figure spellable.0 even (λ p there. (is.points p).1 (inl there)) is.originals after
  values_after (Drop name) figure spellable even is after =
      subst (λ (values : NamedValues). AreValuesOf changed values) (sym after)
      (All-filter _ (λ entry. IsName entry.0 × HasParts changed entry.1.kind entry.1.parts) old fit)
  values_after c figure spellable even is after = subst (λ (values : NamedValues). AreValuesOf changed values) (sym after) fit
