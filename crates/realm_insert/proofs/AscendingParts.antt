-- This file shows that the parts of each value ascend once a change is made.
use Rattle.std.proofs.Common.{ℕ, List, length, All, sym, subst}
use Rattle.std.proofs.lemmas.List.Elements.{All-filter, All-push}
use Rattle.grid_base.specs.declared.kinds.Kind.{Kind}
use Rattle.grid_base.specs.declared.kinds.Kind.TheVariants as kinds
use Rattle.line_grammar.specs.declared.command.Change.{Change}
use Rattle.line_grammar.specs.declared.command.Change.TheVariants.{Points, Lines, Regions, Let, Drop}
use Rattle.state_check.specs.Tabled.{AreAscending}
use Rattle.value_table.specs.Table.{NamedValues}
use Rattle.value_table.specs.declared.value.Value.{Value}
use Rattle.realm_insert.specs.Changes.{AreValuesAfter, Defines, IsValueOfFigure}
use Rattle.realm_insert.specs.Figures.{Figure}
use Rattle.realm_insert.proofs.RisingIds.{ids_rise}

-- the parts of each value ascend
abbrev AllAscend : NamedValues → Type 0
AllAscend values = All (λ entry. AreAscending entry.1.parts) values

module _ (figure : Figure) (first : ℕ) where
  -- points ascend as they are kept, and ids in a row rise
  parts_ascend : (kind : Kind) (v : Value) → IsValueOfFigure kind figure first v → AreAscending v.parts
  parts_ascend kinds.Points v is = subst (λ (w : Value). AreAscending w.parts) (sym is.is_points) is.ascending
  parts_ascend kinds.Lines v is =
      subst (λ (w : Value). AreAscending w.parts) (sym is) (ids_rise first (length figure.segments))
  parts_ascend kinds.Regions v is =
      subst (λ (w : Value). AreAscending w.parts) (sym is) (ids_rise first (length figure.segments))

  module _ (old new : NamedValues) (ascend : AllAscend old) where
    -- one more value
    with_one : (name : List ℕ) → Defines name figure first old new → AllAscend new
    with_one name (v, made, is) =
        subst AllAscend (sym is)
        (All-push (λ entry. AreAscending entry.1.parts) old (name, v) ascend (parts_ascend figure.kind v made))

    pub ascend_after : (c : Change) → AreValuesAfter c figure first old new → AllAscend new
    ascend_after (Points name path) after = with_one name after
    ascend_after (Lines name paths) after = with_one name after
    ascend_after (Regions name cycles) after = with_one name after
    ascend_after (Let name op one second) after = with_one name after
    ascend_after (Drop name) after =
        subst AllAscend (sym after) (All-filter _ (λ entry. AreAscending entry.1.parts) old ascend)
    ascend_after c after = subst AllAscend (sym after) ascend
