-- The next one is one higher too.
use Rattle.std.proofs.Common.{ℕ, ◌+◌, ◌<◌, length, get_or, arith}
use Rattle.std.proofs.lemmas.List.{get_or_default}
use Rattle.std.proofs.lemmas.List.Edits.{map_over_more}
use Rattle.tiered_vector.proofs.blocks.raise.Goals as goal

pub loop-start-preserved : goal.loop-start-preserved
loop-start-preserved c =
    let xs = c.args.starts.now in
    let ys = c.loop-start.start-items in
    let i = c.loop-start.start-index in
    let there : i < length xs = omega arith in
    let there' : i < length ys = omega arith in
    map_over_more (λ (n : ℕ). n + 1) xs ys i (get_or ys i 0) there c.loop-start.invariant (get_or_default ys i 0 (get_or ys i 0) there')
