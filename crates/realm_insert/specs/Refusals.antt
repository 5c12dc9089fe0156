-- Why a change is refused: the cause of each refusal, and the order in which they are asked for.
use Rattle.std.specs.Prelude.{◌≡◌, ◌≤◌, ◌<◌, ◌+◌, ◌^◌, List, [], ◌∷◌, ◌++◌, ◌⊎◌, length, Any, Contains}
use Rattle.std.specs.Prelude.{Option, IsSomeAnd, MatchOption}
use Rattle.grid_base.specs.Drawing.{Drawing}
use Rattle.line_grammar.specs.declared.command.Change.{Change}
use Rattle.line_grammar.specs.declared.command.Change.TheVariants.{Unpoint, Let, Drop, Delete}
use Rattle.value_table.specs.Table.{NamedValues, IsNamed, users_of, users_of_point}
use Rattle.hook_chain.specs.Ids.{LacksId}
use Rattle.realm_insert.specs.State.{State}
use Rattle.realm_insert.specs.Figures.{Figure, Draws}
use Rattle.realm_insert.specs.Lines.{grid_point, drawn_between, HasPlaceOffGrid, HasShortList, name_defined}
use Rattle.realm_insert.specs.Operands.{LacksName, LacksOperand, HasWrongKinds}
use Rattle.realm_insert.specs.declared.refusal.Refusal.{Refusal}
use Rattle.realm_insert.specs.declared.refusal.Refusal.TheVariants.{Range, Shape, Degenerate, NameTaken, NoName, Types}
use Rattle.realm_insert.specs.declared.refusal.Refusal.TheVariants.{NoId, NoPoint, InUse, Ids, Changes}

-- the name that is to be defined has a value
abbrev pub DefinesTwice : Change → NamedValues → Type 0
DefinesTwice c values = IsSomeAnd (name_defined c) (λ name. IsNamed name values)

-- a name that is used has no value
abbrev pub UsesNoValue : Change → NamedValues → Type 0
UsesNoValue (Let name op first second) values = LacksOperand first second values
UsesNoValue (Drop name) values = LacksName name values
UsesNoValue _ values = ⊥

-- the operator doesn't take values of these kinds
abbrev pub TakesOtherKinds : Change → NamedValues → Type 0
TakesOtherKinds (Let name op first second) values = HasWrongKinds op first second values
TakesOtherKinds _ values = ⊥

-- no original has the id that is to go
abbrev pub DeletesNothing : Change → Drawing → Type 0
DeletesNothing (Delete id) d = LacksId d.originals id
DeletesNothing _ d = ⊥

-- the point that is to be explicit no longer isn't explicit
abbrev pub TakesNoPoint : Change → Drawing → Type 0
TakesNoPoint (Unpoint p) d = Contains d.points (grid_point p) → ⊥
TakesNoPoint _ d = ⊥

-- what is to go is a part of a value
abbrev pub TakesWhatIsUsed : Change → NamedValues → Type 0
TakesWhatIsUsed (Delete id) values = 0 < users_of values id
TakesWhatIsUsed (Unpoint p) values = 0 < users_of_point values (grid_point p)
TakesWhatIsUsed _ values = ⊥

-- there are new originals, and the last of them would have an id of 2^32 or more
pub record LacksIds (c : Change) (s : State) : Type 0 where
  pub figure : Figure
  pub draws : Draws c s figure
  pub some : 0 < length figure.segments
  pub too_many : 2 ^ 32 < s.next_id + length figure.segments

-- the cause of a refusal
abbrev pub IsCause : Refusal → Change → State → Type 0
IsCause Range c s = HasPlaceOffGrid c
IsCause Shape c s = HasShortList c
IsCause Degenerate c s = Any (λ e. e.from ≡ e.to) (drawn_between c)
IsCause NameTaken c s = DefinesTwice c s.values
IsCause NoName c s = UsesNoValue c s.values
IsCause Types c s = TakesOtherKinds c s.values
IsCause NoId c s = DeletesNothing c s.drawing
IsCause NoPoint c s = TakesNoPoint c s.drawing
IsCause InUse c s = TakesWhatIsUsed c s.values
IsCause Ids c s = LacksIds c s
IsCause Changes c s = 2 ^ 63 ≤ s.changes
IsCause _ c s = ⊥

-- no refusal of the list has its cause
abbrev pub HasNoneOf : List Refusal → Change → State → Type 0
HasNoneOf [] c s = Unit {0}
HasNoneOf (first ∷ more) c s = (IsCause first c s → ⊥) × HasNoneOf more c s

-- the refusal is the first of the list that has its cause
abbrev pub IsFirstOf : List Refusal → Change → State → Refusal → Type 0
IsFirstOf [] c s refusal = ⊥
IsFirstOf (first ∷ more) c s refusal =
    (IsCause first c s × (refusal ≡ first)) ⊎ ((IsCause first c s → ⊥) × IsFirstOf more c s refusal)

-- what is found is the first of the list that has its cause, or nothing where none has it
abbrev pub FindsFirst : List Refusal → Change → State → Option Refusal → Type 0
FindsFirst list c s found = MatchOption found (HasNoneOf list c s) (IsFirstOf list c s)

-- the refusals whose causes are asked for before what is left of ids and changes, in this order
abbrev pub before_limits : List Refusal
before_limits = Range ∷ Shape ∷ Degenerate ∷ NameTaken ∷ NoName ∷ Types ∷ NoId ∷ NoPoint ∷ InUse ∷ []

-- the refusals of changes, in the order in which their causes are asked for
abbrev pub order_of_refusals : List Refusal
order_of_refusals = before_limits ++ Ids ∷ Changes ∷ []

-- the change is refused by this word
abbrev pub IsRefusedBy : Change → State → Refusal → Type 0
IsRefusedBy c s refusal = IsFirstOf order_of_refusals c s refusal

-- no cause holds
abbrev pub IsAccepted : Change → State → Type 0
IsAccepted c s = HasNoneOf order_of_refusals c s
