use Rattle.std.proofs.Common.{◌≡◌, slice_index}
use Rattle.plane_cells.proofs.Pushed.{EachAt}
use Rattle.plane_cells.proofs.numbers.read_all.Given as goal

abbrev pub invariant-loop-k : goal.invariant-loop-k
invariant-loop-k l = EachAt (λ k n. n ≡ slice_index l.labels (slice_index l.list k)) 0 l.k l.numbers.items
