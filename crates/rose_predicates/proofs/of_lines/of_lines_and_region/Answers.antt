use Rattle.rose_predicates.proofs.of_lines.of_lines_and_region.Goals as goal

-- as it was answered
pub returns-in_ok-are_inside-in-Inside-clause-holds : goal.returns-in_ok-are_inside-in-Inside-clause-holds
returns-in_ok-are_inside-in-Inside-clause-holds c = rw c.in-Inside.is c.in_ok-are_inside-in-Inside.ensures
