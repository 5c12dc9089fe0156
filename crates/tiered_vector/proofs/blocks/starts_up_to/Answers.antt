-- The starts never fall, so those that are at most index stand first.
use Rattle.std.proofs.Common.{ℕ, rules}
use Rattle.std.proofs.lemmas.List.Sorted.{IsPartitionPoint-from_clause, IsPartitionedBy-leb}
use borrow.Author.Tests.{leb-true, leb-false}
use lib.Dec.{leb}
use Rattle.tiered_vector.proofs.blocks.starts_up_to.Goals as goal

pub returns-clause-parted : goal.returns-clause-parted
returns-clause-parted c =
    let starts = c.args.starts.now in
    let index = c.args.index in
    let point = IsPartitionPoint-from_clause (λ (s : ℕ). leb s index) starts _
    c.partition_point.ensures.partitioned (IsPartitionedBy-leb (λ (s : ℕ). s) starts index c.requires)
    (λ a r q k. search rules) in
    (λ k d low high. leb-true _ _ (point.0 k d low high), λ k d low high. leb-false _ _ (point.1 k d low high))
