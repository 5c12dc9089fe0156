use Rattle.std.proofs.Common.{ℕ, ◌%◌, sym, ap, ◌∙◌}
use Rattle.state_check.specs.Pairs.{are_pairs}
use Rattle.state_check.proofs.Evenness.{pairs_are_even, even_in_pairs, sorted_never_falls, as_often}
use Rattle.state_check.proofs.pairs.is_even.Goals as goal

-- the points stand in pairs once they are sorted
pub returns : goal.returns
returns c =
    let list = c.args.points.items in
    let sorted = c.sort_unstable.new.self.items in
    let often = as_often list sorted c.sort_unstable.ensures.permutation in
    let result_is = c.are_pairs.ensures ∙ ap are_pairs c.as_slice.ensures.value in (
      λ yes p. sym (ap (λ (n : ℕ). n % 2) (often p)) ∙ pairs_are_even sorted (sym result_is ∙ yes) p,
      λ even. result_is ∙ even_in_pairs sorted (sorted_never_falls sorted c.sort_unstable.ensures.sorted)
          (λ p. ap (λ (n : ℕ). n % 2) (often p) ∙ even p),
    )
