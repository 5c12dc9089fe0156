use Rattle.std.proofs.Common.{◌++◌, inl, inr}
use Rattle.std.proofs.lemmas.List.Elements.{Contains-append_cases}
use Rattle.plane_sweep.proofs.Parts.{noded_part}
use Rattle.worked_sides.proofs.noded.are_one_realm.Goals as goal

-- what is of the list is of the border already
pub returns : goal.returns
returns c = λ all.
    (let B = c.args.border.now in
    let list = c.args.list.now in
    noded_part B (B ++ list) (λ s k. elim (Contains-append_cases B list s k) [
      | inl here ↦ here
      | inr there ↦ c.are_all_in.ensures all s there
    ]) c.requires.noded)
