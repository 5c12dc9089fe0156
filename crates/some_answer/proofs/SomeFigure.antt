-- This file shows that a change without a cause before the limits draws a figure, which is on the grid.
use Rattle.std.proofs.Common.{◌≡◌, ◌↔◌, ℕ, ◌<◌, ◌≤◌, List, [], ◌∷◌, get_or, map, All, Any, Option, None}
use Rattle.std.proofs.Common.{Result, Ok, Err, IfOk, refl, sym, subst, inl, inr}
use Rattle.std.specs.Prelude.{option_map}
use Rattle.std.proofs.lemmas.List.{get_or_default}
use Rattle.std.proofs.lemmas.List.Elements.{All-nil, All-cons, All-map}
use Rattle.grid_base.specs.Grid.{grid_side}
use Rattle.grid_base.specs.Point.{GridPoint, OnGrid, IsBefore}
use Rattle.grid_base.specs.Segment.{GridSegment}
use Rattle.grid_base.proofs.RealmLaw.{piece_ends}
use Rattle.grid_base.proofs.Signs.{natural_order}
use Rattle.line_grammar.specs.declared.command.At.{At}
use Rattle.line_grammar.specs.declared.command.Change.{Change}
use Rattle.line_grammar.specs.declared.command.Change.TheVariants.{Point, Unpoint, Segment, Points}
use Rattle.line_grammar.specs.declared.command.Change.TheVariants.{Lines, Regions, Let, Drop, Delete}
use Rattle.chain_laws.proofs.PathLinks.{segment_of-between}
use Rattle.rose_values.specs.Geometry.{kind_of}
use Rattle.rose_values.specs.Kinds.{result_kind_of}
use Rattle.rose_values.specs.declared.geometry.Geometry.{Geometry}
use Rattle.rose_values.specs.declared.operators.Op.{Op}
use Rattle.rose_values.specs.declared.operators.Op.TheVariants.{Interior}
use Rattle.rose_overlay.specs.declared.evaluating.EvalError.{EvalError}
use Rattle.rose_overlay.specs.declared.evaluating.EvalError.TheVariants.{WrongTypes, NoMemory}
use Rattle.rose_operators.specs.Results.{IsResultOf}
use Rattle.rose_predicates.proofs.Truths.{each}
use Rattle.rose_query.specs.Results.{TellsResult}
use Rattle.realm_insert.specs.Figures.{Figure, figure_of, figure_written, Draws}
use Rattle.realm_insert.specs.Lines.{IsOffGrid, HasPlaceOffGrid, IsDrawable, grid_point, drawn_between, segment_between}
use Rattle.realm_insert.specs.Lines.{written_segments}
use Rattle.realm_insert.specs.Refusals.{TakesOtherKinds, HasNoneOf, before_limits}
use Rattle.realm_insert.specs.Snapshots.{IsValidState}
use Rattle.realm_insert.specs.State.{State}
use Rattle.realm_insert.proofs.DrawnAlready.{IsDrawn, let_drawn}
use Rattle.realm_insert.proofs.Drawable.{drawable}
use Rattle.realm_insert.proofs.NamedOperands.{wrong_kinds}
use Rattle.one_reply.specs.Answerable.{IsDrawnOnGrid}
use Rattle.one_reply.proofs.SomeMade.{MayMake, some_operated}
use Rattle.one_reply.proofs.SomeOperands.{Operands, AreAllOnGrid, some_operands, operands_on_grid}

-- ---- the figure
-- `interior` asks for operands on the grid
may_make : (op : Op) (a : Geometry) (b : Option Geometry) → AreAllOnGrid a b → MayMake op a b
may_make Interior a b grid = grid
may_make op a b grid = tt

-- an operator that takes the values makes something of them
let_figure : (name : List ℕ) (op : Op) (first : List ℕ) (second : Option (List ℕ)) (s : State) → (of : Operands s first second)
    → MayMake op of.a of.b → (TakesOtherKinds (Let name op first second) s.values → ⊥)
    → (figure : Figure) × Draws (Let name op first second) s figure
let_figure name op first second s of may takes =
    let made = some_operated op of.a of.b may of.fit in
    by made.result made.right made.wrong made.reply made.tells
  where
    by : (result : Result Geometry EvalError) → IfOk result (λ g. IsResultOf op of.a of.b g)
        → ((result ≡ Err WrongTypes) ↔ (result_kind_of op (kind_of of.a) (option_map kind_of of.b) ≡ None))
        → (reply : List ℕ) → TellsResult result reply → (figure : Figure) × Draws (Let name op first second) s figure
    by (Ok g) right wrong reply tells =
        (figure_of g, (g, record { a = of.a; b = of.b; are_operands = of.are; is_made = right; ascending = tells.0 }, refl))
    by (Err WrongTypes) right wrong reply tells = absurd (takes ((wrong_kinds op second of.b of.are).1 (wrong.0 refl)))
    by (Err NoMemory) right wrong reply tells = absurd tells

pub some_figure : (c : Change) (s : State) → IsValidState s → IsDrawnOnGrid s → HasNoneOf before_limits c s
    → (figure : Figure) × Draws c s figure
some_figure (Let name op first second) s valid grid none = elim (some_operands s first second valid) [
  | inl lacks ↦ absurd (none.1.1.1.1.0 lacks)
  | inr of ↦ let_figure name op first second s of (may_make op of.a of.b (operands_on_grid s first second valid grid of)) none.1.1.1.1.1.0
]
some_figure c s valid grid none = (figure_written c, refl)

-- ---- on the grid
-- what the figure draws is on the grid, and the ends of each segment are in order
pub record IsFit (figure : Figure) : Type 0 where
  pub points : All OnGrid figure.points
  pub ordered : All (λ s. IsBefore s.a s.b) figure.segments
  pub segments : All (λ s. OnGrid s.a × OnGrid s.b) figure.segments

less_unless : (m n : ℕ) → (n ≤ m → ⊥) → m < n
less_unless m n fails = elim (natural_order n m) [ inl most ↦ absurd (fails most) | inr less ↦ less ]

place_on_grid : (p : At) → (IsOffGrid p → ⊥) → OnGrid (grid_point p)
place_on_grid p on = record {
  column = less_unless p.x grid_side (λ off. on (inl off));
  row = less_unless p.y grid_side (λ off. on (inr off));
}

places_on_grid : (path : List At) → (Any IsOffGrid path → ⊥) → All OnGrid (map grid_point path)
places_on_grid path on = All-map OnGrid grid_point path (λ k d within.
    place_on_grid (get_or path k d) (λ off. on (k, get_or path k d, within, get_or_default path k (get_or path k d) d within, off)))

one_point : (p : GridPoint) → OnGrid p → All OnGrid (p ∷ [])
one_point p on = All-cons OnGrid p [] on (All-nil OnGrid)

-- what has these ends has both on the grid, the lesser first
same_places : (p q : At) → grid_point p ≡ grid_point q → p ≡ q
same_places p q same = λ i. record { x = (same i).x; y = (same i).y }

record IsGood (s : GridSegment) : Type 0 where
  ordered : IsBefore s.a s.b
  on : OnGrid s.a × OnGrid s.b

good_between : (e : _) → IsDrawable e → IsGood (segment_between e)
good_between e can =
    let p = grid_point e.from in
    let q = grid_point e.to in
    let (link, ordered) = segment_of-between p q (λ same. can.2 (same_places e.from e.to same)) in
    let from = place_on_grid e.from can.0 in
    let to = place_on_grid e.to can.1 in
    record {
      ordered = ordered;
      on = elim link [
        | inl (first, second) ↦ (subst OnGrid first from, subst OnGrid second to)
        | inr (first, second) ↦ (subst OnGrid second to, subst OnGrid first from)
      ];
    }

good_written : (c : Change) → (HasPlaceOffGrid c → ⊥) → (Any (λ e. e.from ≡ e.to) (drawn_between c) → ⊥)
    → All IsGood (written_segments c)
good_written c on apart = All-map IsGood segment_between (drawn_between c)
    (λ k d within. good_between (get_or (drawn_between c) k d) (drawable c on apart k d within))

-- segments of a value of any kind that the change writes
written_fit : (c : Change) (figure : Figure) → figure.points ≡ [] → figure.segments ≡ written_segments c → (HasPlaceOffGrid c → ⊥)
    → (Any (λ e. e.from ≡ e.to) (drawn_between c) → ⊥) → IsFit figure
written_fit c figure none same on apart =
    let good = subst (All IsGood) (sym same) (good_written c on apart) in record {
      points = subst (All OnGrid) (sym none) (All-nil OnGrid);
      ordered = λ k d within. (good k d within).ordered;
      segments = λ k d within. (good k d within).on;
    }

points_fit : (figure : Figure) → figure.segments ≡ [] → All OnGrid figure.points → IsFit figure
points_fit figure none on = record {
  points = on;
  ordered = subst (All (λ s. IsBefore s.a s.b)) (sym none) (All-nil (λ s. IsBefore s.a s.b));
  segments = subst (All (λ s. OnGrid s.a × OnGrid s.b)) (sym none) (All-nil (λ s. OnGrid s.a × OnGrid s.b));
}

-- what a line writes
fit_written : (c : Change) → (HasPlaceOffGrid c → ⊥) → (Any (λ e. e.from ≡ e.to) (drawn_between c) → ⊥)
    → IsFit (figure_written c)
fit_written (Point p) on apart = points_fit (figure_written (Point p)) refl (one_point (grid_point p) (place_on_grid p on))
fit_written (Points name path) on apart = points_fit (figure_written (Points name path)) refl (places_on_grid path on)
fit_written (Regions name cycles) on apart =
    written_fit (Regions name cycles) (figure_written (Regions name cycles)) refl refl on apart
fit_written (Unpoint p) on apart = written_fit (Unpoint p) (figure_written (Unpoint p)) refl refl on apart
fit_written (Segment p q) on apart = written_fit (Segment p q) (figure_written (Segment p q)) refl refl on apart
fit_written (Lines name paths) on apart = written_fit (Lines name paths) (figure_written (Lines name paths)) refl refl on apart
fit_written (Let name op first second) on apart =
    written_fit (Let name op first second) (figure_written (Let name op first second)) refl refl on apart
fit_written (Drop name) on apart = written_fit (Drop name) (figure_written (Drop name)) refl refl on apart
fit_written (Delete id) on apart = written_fit (Delete id) (figure_written (Delete id)) refl refl on apart

-- what is drawn already
fit_drawn : (s : State) (figure : Figure) → IsDrawnOnGrid s → IsDrawn s.drawing figure → IsFit figure
fit_drawn s figure grid drawn = record {
  points = each OnGrid figure.points (λ p there. grid p (drawn.points p there));
  ordered = each (λ t. IsBefore t.a t.b) figure.segments (λ t there. (drawn.pieces t there).0);
  segments = each (λ t. OnGrid t.a × OnGrid t.b) figure.segments (λ t there.
      let ends = piece_ends s.drawing t (drawn.pieces t there) in (grid t.a ends.0, grid t.b ends.1));
}

pub fit_figure : (c : Change) (s : State) (figure : Figure) → IsValidState s → IsDrawnOnGrid s → (HasPlaceOffGrid c → ⊥)
    → (Any (λ e. e.from ≡ e.to) (drawn_between c) → ⊥) → Draws c s figure → IsFit figure
fit_figure (Let name op first second) s figure valid grid on apart draws =
    fit_drawn s figure grid (let_drawn s valid.values_fit (Let name op first second) figure tt draws)
fit_figure c s figure valid grid on apart draws = subst IsFit (sym draws) (fit_written c on apart)
