use Rattle.rose_predicates.proofs.OpenSides.{open_side}
use Rattle.rose_predicates.proofs.Truths.{same_told}
use Rattle.rose_predicates.proofs.enclosing.is_open.Goals as goal

-- its sides by the border, and what is told of them
pub returns : goal.returns
returns c = λ border s told. same_told c.both_of_either.ensures (open_side border s c.args.odd.now c.args.outer.now told)
