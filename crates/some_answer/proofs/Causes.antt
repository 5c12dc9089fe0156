-- This file shows that each cause for which a change is refused holds or doesn't.
use Rattle.std.proofs.Common.{◌≡◌, ◌⊎◌, ℕ, ◌<◌, ◌≤◌, ◌^◌, List, [], ◌∷◌, length, Any, Option, Some, None, IsSomeAnd, refl, ap, inl, inr}
use Rattle.std.proofs.Common.{arith}
use Rattle.std.specs.Option.{is_some}
use Rattle.std.proofs.lemmas.Bool.{cases_eq}
use Rattle.grid_base.specs.Grid.{grid_side}
use Rattle.grid_base.specs.declared.original.Original.{Original}
use Rattle.line_grammar.specs.declared.command.At.{At}
use Rattle.line_grammar.specs.declared.command.Change.{Change}
use Rattle.line_grammar.specs.declared.command.Change.TheVariants.{Point, Unpoint, Segment, Points}
use Rattle.line_grammar.specs.declared.command.Change.TheVariants.{Lines, Regions, Let, Drop, Delete}
use Rattle.rose_values.specs.Kinds.{kind_from_one, kind_from_two}
use Rattle.rose_values.specs.declared.operators.Op.{Op}
use Rattle.value_table.specs.Table.{NamedValues, IsNamed, value_named, users_of, users_of_point}
use Rattle.realm_insert.specs.Lines.{IsOffGrid, HasPlaceOffGrid, HasShortList, drawn_between, grid_point, name_defined}
use Rattle.realm_insert.specs.Operands.{LacksName, LacksSecond, HasWrongKinds}
use Rattle.realm_insert.specs.Refusals.{DefinesTwice, UsesNoValue, TakesOtherKinds, DeletesNothing, TakesNoPoint, TakesWhatIsUsed}
use Rattle.realm_insert.specs.Refusals.{IsCause, HasNoneOf, IsFirstOf, before_limits}
use Rattle.realm_insert.specs.State.{State}
use Rattle.realm_insert.specs.declared.refusal.Refusal.{Refusal}
use Rattle.one_reply.proofs.Decisions.{Decided, not_decided, both_decided, either_decided, test_decided, any_decided, all_decided}
use Rattle.one_reply.proofs.Decisions.{point_there}

-- ---- numbers, places and names
at_most : (m n : ℕ) → Decided (m ≤ n)
at_most m n = grind arith

less : (m n : ℕ) → Decided (m < n)
less m n = grind arith

off_or_on : (p : At) → Decided (IsOffGrid p)
off_or_on p = either_decided (at_most grid_side p.x) (at_most grid_side p.y)

some_off : (path : List At) → Decided (Any IsOffGrid path)
some_off path = any_decided IsOffGrid path (λ p there. off_or_on p)

some_path_off : (paths : List (List At)) → Decided (Any (λ path. Any IsOffGrid path) paths)
some_path_off paths = any_decided (λ path. Any IsOffGrid path) paths (λ path there. some_off path)

same_places : (p q : At) → Decided (p ≡ q)
same_places p q = elim (both_decided (cases_eq p.x q.x) (cases_eq p.y q.y)) [
  | inl same ↦ inl (λ i. record { x = same.0 i; y = same.1 i })
  | inr other ↦ inr (λ e. other (ap (λ (r : At). r.x) e, ap (λ (r : At). r.y) e))
]

named_or_not : (name : List ℕ) (values : NamedValues) → Decided (IsNamed name values)
named_or_not name values = test_decided (is_some (value_named name values))

some_and : {X : Type 0} (o : Option X) (P : X → Type 0) → ((x : X) → Decided (P x)) → Decided (IsSomeAnd o P)
some_and None P decide = inr (λ none. none)
some_and (Some x) P decide = decide x

none_or_some : {X : Type 0} (o : Option X) → Decided (o ≡ None)
none_or_some None = inl refl
none_or_some (Some x) = inr (λ e. cc)

-- ---- the causes
off_grid : (c : Change) → Decided (HasPlaceOffGrid c)
off_grid (Point p) = off_or_on p
off_grid (Unpoint p) = off_or_on p
off_grid (Segment p q) = either_decided (off_or_on p) (off_or_on q)
off_grid (Points name path) = some_off path
off_grid (Lines name paths) = some_path_off paths
off_grid (Regions name cycles) = some_path_off cycles
off_grid c = inr (λ none. none)

short_list : (c : Change) → Decided (HasShortList c)
short_list (Lines name paths) = any_decided (λ path. length path < 2) paths (λ path there. less (length path) 2)
short_list (Regions name cycles) = any_decided (λ cycle. length cycle < 3) cycles (λ cycle there. less (length cycle) 3)
short_list c = inr (λ none. none)

one_place : (c : Change) → Decided (Any (λ e. e.from ≡ e.to) (drawn_between c))
one_place c = any_decided (λ e. e.from ≡ e.to) (drawn_between c) (λ e there. same_places e.from e.to)

defines_twice : (c : Change) (values : NamedValues) → Decided (DefinesTwice c values)
defines_twice c values = some_and (name_defined c) (λ name. IsNamed name values) (λ name. named_or_not name values)

lacks_name : (name : List ℕ) (values : NamedValues) → Decided (LacksName name values)
lacks_name name values = not_decided (named_or_not name values)

lacks_second : (second : Option (List ℕ)) (values : NamedValues) → Decided (LacksSecond second values)
lacks_second None values = inr (λ none. none)
lacks_second (Some name) values = lacks_name name values

uses_no_value : (c : Change) (values : NamedValues) → Decided (UsesNoValue c values)
uses_no_value (Let name op first second) values = either_decided (lacks_name first values) (lacks_second second values)
uses_no_value (Drop name) values = lacks_name name values
uses_no_value c values = inr (λ none. none)

wrong_kinds : (op : Op) (first : List ℕ) (second : Option (List ℕ)) (values : NamedValues) → Decided (HasWrongKinds op first second values)
wrong_kinds op first None values = some_and (value_named first values) (λ v. kind_from_one op v.kind ≡ None)
    (λ v. none_or_some (kind_from_one op v.kind))
wrong_kinds op first (Some second) values = some_and (value_named first values)
    (λ v. IsSomeAnd (value_named second values) (λ w. kind_from_two op v.kind w.kind ≡ None))
    (λ v. some_and (value_named second values) (λ w. kind_from_two op v.kind w.kind ≡ None)
    (λ w. none_or_some (kind_from_two op v.kind w.kind)))

takes_other_kinds : (c : Change) (values : NamedValues) → Decided (TakesOtherKinds c values)
takes_other_kinds (Let name op first second) values = wrong_kinds op first second values
takes_other_kinds c values = inr (λ none. none)

deletes_nothing : (c : Change) (s : State) → Decided (DeletesNothing c s.drawing)
deletes_nothing (Delete id) s =
    all_decided (λ (o : Original). o.id ≡ id → ⊥) s.drawing.originals (λ o there. not_decided (cases_eq o.id id))
deletes_nothing c s = inr (λ none. none)

takes_no_point : (c : Change) (s : State) → Decided (TakesNoPoint c s.drawing)
takes_no_point (Unpoint p) s = not_decided (point_there s.drawing.points (grid_point p))
takes_no_point c s = inr (λ none. none)

takes_what_is_used : (c : Change) (values : NamedValues) → Decided (TakesWhatIsUsed c values)
takes_what_is_used (Delete id) values = less 0 (users_of values id)
takes_what_is_used (Unpoint p) values = less 0 (users_of_point values (grid_point p))
takes_what_is_used c values = inr (λ none. none)

pub no_change_left : (s : State) → Decided (2 ^ 63 ≤ s.changes)
no_change_left s = at_most (2 ^ 63) s.changes

-- ---- the first of them
-- the cause of each refusal of the list holds or doesn't
abbrev pub AreDecided : List Refusal → Change → State → Type 0
AreDecided [] c s = Unit {0}
AreDecided (r ∷ list) c s = Decided (IsCause r c s) × AreDecided list c s

-- the first of the list that has its cause, or that none has
pub first_or_none : (list : List Refusal) (c : Change) (s : State) → AreDecided list c s
    → ((word : Refusal) × IsFirstOf list c s word) ⊎ HasNoneOf list c s
first_or_none [] c s decided = inr tt
first_or_none (r ∷ list) c s (inl cause, later) = inl (r, inl (cause, refl))
first_or_none (r ∷ list) c s (inr none, later) = elim (first_or_none list c s later) [
  | inl (word, first) ↦ inl (word, inr (none, first))
  | inr no_later ↦ inr (none, no_later)
]

pub before_or_none : (c : Change) (s : State) → ((word : Refusal) × IsFirstOf before_limits c s word) ⊎ HasNoneOf before_limits c s
before_or_none c s = first_or_none before_limits c s (
  off_grid c,
  (
    short_list c,
    (
      one_place c,
      (
        defines_twice c s.values,
        (
          uses_no_value c s.values,
          (
            takes_other_kinds c s.values,
            (deletes_nothing c s, (takes_no_point c s, (takes_what_is_used c s.values, tt))),
          ),
        ),
      ),
    ),
  ),
)
