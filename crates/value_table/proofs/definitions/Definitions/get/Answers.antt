use Rattle.std.proofs.Common.{Some, option_map, sym, ap, ◌∙◌}
use Rattle.std.specs.Option.{option_copied}
use Rattle.value_table.specs.Table.{value_named}
use Rattle.value_table.proofs.Numbering.{found_value, not_found}
use Rattle.value_table.proofs.definitions.Definitions.get.Goals as goal

-- no definition has a name without a number
pub returns-in_err-number : goal.returns-in_err-number
returns-in_err-number c =
    let kept = c.self.invariant in
    ap option_copied c.from_residual.ensures ∙ sym (not_found _ _ _ kept c.args.name.now (sym c.in_err-number.ensures.value))
    ∙ ap (value_named c.args.name.now) c.self.view_is

-- what stands under the number of a name has the name
pub returns-in_err-definition : goal.returns-in_err-definition
returns-in_err-definition c =
    let found = found_value _ _ _ c.self.invariant c.args.name.now c.in_ok-number.number.now (sym c.in_ok-number.ensures.value) in
    ap option_copied c.from_residual-in_err-definition.ensures ∙ ap (option_map (λ d. d.1)) c.in_err-definition.ensures.value
    ∙ found ∙ ap (value_named c.args.name.now) c.self.view_is

pub returns : goal.returns
returns c =
    let found = found_value _ _ _ c.self.invariant c.args.name.now c.in_ok-number.number.now (sym c.in_ok-number.ensures.value) in
    ap (λ v. Some v) c.value.ensures ∙ ap (option_map (λ d. d.1)) c.in_ok-definition.ensures.value
    ∙ found ∙ ap (value_named c.args.name.now) c.self.view_is
