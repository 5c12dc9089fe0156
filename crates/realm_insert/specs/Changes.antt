-- What a change makes of the drawing, before it is settled, and of the values.
use Rattle.std.specs.Prelude.{◌≡◌, ◌≢◌, ◌⊎◌, ◌↔◌, ◌+◌, ℕ, zero, suc, List, [], ◌∷◌, ◌++◌, length, AllPairs, Contains}
use Rattle.std.specs.Prelude.{MatchOption}
use Rattle.grid_base.specs.Point.{GridPoint, IsBefore}
use Rattle.grid_base.specs.Segment.{GridSegment}
use Rattle.grid_base.specs.Drawing.{Drawing}
use Rattle.grid_base.specs.declared.kinds.Kind.{Kind}
use Rattle.grid_base.specs.declared.kinds.Kind.TheVariants as kinds
use Rattle.line_grammar.specs.declared.command.Change.{Change}
use Rattle.line_grammar.specs.declared.command.Change.TheVariants.{Unpoint, Drop, Delete}
use Rattle.hook_chain.specs.Straight.{placed}
use Rattle.hook_chain.specs.Changed.{without_id}
use Rattle.value_table.specs.Table.{NamedValues, without}
use Rattle.value_table.specs.declared.value.Value.{Value}
use Rattle.value_table.specs.declared.value.Parts.TheVariants as parts
use Rattle.realm_insert.specs.Figures.{Figure, Draws}
use Rattle.realm_insert.specs.Lines.{grid_point, name_defined}
use Rattle.realm_insert.specs.State.{State}

-- ---- the drawing

-- q is explicit after the change
abbrev pub IsExplicitAfter : Change → Figure → List GridPoint → GridPoint → Type 0
IsExplicitAfter (Unpoint p) figure points q = Contains points q × (q ≢ grid_point p)
IsExplicitAfter (Delete id) figure points q = Contains points q
IsExplicitAfter c figure points q = Contains figure.points q ⊎ Contains points q

-- d with straight originals along these segments, the first with this id, and each further one with the next
abbrev pub placed_all : Drawing → ℕ → List GridSegment → Drawing
placed_all d id [] = d
placed_all d id (s ∷ more) = placed_all (placed d id s) (id + 1) more

-- d without the original that the change takes away, and with those that it draws, the first with this id
abbrev pub redrawn : Change → Figure → Drawing → ℕ → Drawing
redrawn (Unpoint p) figure d first = d
redrawn (Delete id) figure d first = without_id d id
redrawn c figure d first = placed_all d first figure.segments

-- what the change, which draws the figure, itself makes of the drawing, before the first step
pub record IsChangedTo (c : Change) (figure : Figure) (d : Drawing) (first : ℕ) (changed : Drawing) : Type 0 where
  pub points : (q : GridPoint) → Contains changed.points q ↔ IsExplicitAfter c figure d.points q
  pub ascending : AllPairs IsBefore changed.points
  pub originals : changed.originals ≡ (redrawn c figure d first).originals

-- the same of the drawing of s
abbrev pub ChangesTo : Change → State → Drawing → Type 0
ChangesTo c s changed = (figure : Figure) × Draws c s figure × IsChangedTo c figure s.drawing s.next_id changed

-- ---- the values

-- n ids from this one on
abbrev pub ids_from : ℕ → ℕ → List ℕ
ids_from first zero = []
ids_from first (suc n) = first ∷ ids_from (first + 1) n

-- v has the points of the list, ascending, each once
pub record IsPointsOf (points : List GridPoint) (v : Value) : Type 0 where
  pub list : List GridPoint
  pub is_points : v ≡ record { kind = kinds.Points; parts = parts.Points list }
  pub ascending : AllPairs IsBefore list
  pub exact : (q : GridPoint) → Contains list q ↔ Contains points q

-- v is the value of this kind that the figure makes, whose first original has this id
abbrev pub IsValueOfFigure : Kind → Figure → ℕ → Value → Type 0
IsValueOfFigure kinds.Points figure first v = IsPointsOf figure.points v
IsValueOfFigure kind figure first v =
    v ≡ record { kind = kind; parts = parts.Ids (ids_from first (length figure.segments)) }

-- the values with one more at the end, which the figure makes
abbrev pub Defines : List ℕ → Figure → ℕ → NamedValues → NamedValues → Type 0
Defines name figure first old new =
    (v : Value) × IsValueOfFigure figure.kind figure first v × (new ≡ old ++ (name, v) ∷ [])

-- the values after the change: one fewer where it drops one, and one more where it defines one
abbrev pub AreValuesAfter : Change → Figure → ℕ → NamedValues → NamedValues → Type 0
AreValuesAfter (Drop name) figure first old new = new ≡ without name old
AreValuesAfter c figure first old new =
    MatchOption (name_defined c) (new ≡ old) (λ name. Defines name figure first old new)
