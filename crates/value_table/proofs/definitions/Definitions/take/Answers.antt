use Rattle.std.proofs.Common.{Some, option_map, sym, ap, ◌∙◌}
use Rattle.std.specs.Map.{values_of, remove_entry}
use Rattle.std.specs.Str.{bytes_eq}
use Rattle.value_table.specs.declared.definitions.Definition.{Definition}
use Rattle.value_table.specs.Table.{value_named, without}
use Rattle.value_table.proofs.Numbering.{distinct_names, found_value, found_there, left_without, not_found}
use Rattle.value_table.proofs.Numbered.{taken_numbered, without-first, without-none}
use Rattle.value_table.proofs.definitions.Definitions.take.Goals as goal

-- no definition has a name without a number
pub returns-in_err-number-clause-value : goal.returns-in_err-number-clause-value
returns-in_err-number-clause-value c =
    c.from_residual.ensures
    ∙ sym (not_found _ _ _ c.self.invariant c.args.name.now (sym c.in_err-number.ensures.value))
    ∙ ap (value_named c.args.name.now) c.self.view_is

pub returns-in_err-number-clause-others : goal.returns-in_err-number-clause-others
returns-in_err-number-clause-others c =
    let none = not_found _ _ _ c.self.invariant c.args.name.now (sym c.in_err-number.ensures.value) in
    sym (without-none c.args.name.now _ none).1 ∙ ap (without c.args.name.now) c.self.view_is

pub returns-in_err-number-clause-taken : goal.returns-in_err-number-clause-taken
returns-in_err-number-clause-taken c =
    let none = not_found _ _ _ c.self.invariant c.args.name.now (sym c.in_err-number.ensures.value) in
    sym (without-none c.args.name.now _ none).0 ∙ ap (remove_entry (bytes_eq c.args.name.now)) c.self.view_is

-- under the number of a name stands its definition
pub unreachable-requires : goal.unreachable-requires
unreachable-requires c =
    found_there _ _ _ c.self.invariant c.args.name.now c.in_ok-number.number (sym c.in_ok-number.ensures.value)
    (sym c.remove.ensures.value ∙ c.in_default.is)

-- name and number go together
pub invariant_of-self-2 : goal.invariant_of-self-2
invariant_of-self-2 c =
    taken_numbered _ _ _ c.self.invariant c.args.name.now c.in_ok-number.number _ _ (sym c.in_ok-number.ensures.value)
    c.swap_remove.ensures.updates c.remove.ensures.updates c.remove.ensures.entries c.remove.ensures.ordered

-- its value is the one with the name
pub returns-clause-value : goal.returns-clause-value
returns-clause-value c =
    ap (λ (d : Definition). Some d.1) c.definition.view_is ∙ ap (option_map (λ (d : Definition). d.1)) c.in-Some.ensures.value
    ∙ found_value _ _ _ c.self.invariant c.args.name.now c.in_ok-number.number (sym c.in_ok-number.ensures.value)
    ∙ ap (value_named c.args.name.now) c.self.view_is

-- the others stay, in the order of their numbers
pub returns-clause-taken : goal.returns-clause-taken
returns-clause-taken c =
    ap values_of c.remove.ensures.entries
    ∙ left_without _ _ _ c.self.invariant c.args.name.now c.in_ok-number.number (sym c.in_ok-number.ensures.value)
    ∙ ap (remove_entry (bytes_eq c.args.name.now)) c.self.view_is

-- and no other has the name
pub returns-clause-others : goal.returns-clause-others
returns-clause-others c =
    ap values_of c.remove.ensures.entries
    ∙ left_without _ _ _ c.self.invariant c.args.name.now c.in_ok-number.number (sym c.in_ok-number.ensures.value)
    ∙ without-first c.args.name.now _ (distinct_names _ _ _ c.self.invariant) ∙ ap (without c.args.name.now) c.self.view_is
