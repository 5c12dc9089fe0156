use Rattle.std.proofs.Common.{◌+◌, ◌-◌, ◌≤◌, ◌↔◌, IsTrue, length, drop}
use Rattle.hook_chain.specs.ValidChain.{IsCloseChain}
use Rattle.chain_laws.proofs.courses.is_close_chain.Given as goal

-- whether the links from here on are close is known, and of those from the next place on
abbrev pub invariant-loop-place : goal.invariant-loop-place
invariant-loop-place l = record {
  within : l.place ≤ length l.points - 1;
  from_here : IsTrue l.here ↔ IsCloseChain l.o (drop l.place l.points);
  from_next : IsTrue l.next ↔ IsCloseChain l.o (drop (l.place + 1) l.points);
}

abbrev pub decreases-loop-place : goal.decreases-loop-place
decreases-loop-place l = l.place
