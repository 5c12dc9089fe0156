use Rattle.rose_predicates.specs.Closing.{NoneIsOpen}
use Rattle.rose_predicates.proofs.enclosing.none_is_open.Given as goal

-- none so far
abbrev pub invariant-loop-i : goal.invariant-loop-i
invariant-loop-i l = NoneIsOpen l.border l.outer l.i
