use Rattle.std.proofs.Common.{◌≡◌, length, slice_index}
use Rattle.r_blocks.specs.Places.{AllIndexed}
use Rattle.r_faces.specs.Rounds.{IsRound}
use Rattle.r_faces.proofs.bounds.cycles_of.Given as goal

-- the cycles of the keys so far
abbrev pub invariant-loop-k : goal.invariant-loop-k
invariant-loop-k l = record {
  length_is : length l.cycles.items ≡ l.k;
  rounds : AllIndexed (λ k c. IsRound l.rim l.classes (slice_index l.keys k) c) l.cycles.items;
}
