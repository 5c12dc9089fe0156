-- This file shows that the latest traces are numbered in order once there is one more.
use Rattle.std.proofs.Common.{◌≡◌, ℕ, ◌+◌, ◌-◌, ◌<◌, min, List, [], ◌∷◌, ◌++◌, length, get_or, drop, sym, ap, subst}
use Rattle.std.proofs.Common.{◌∙◌, inl, inr, arith}
use Rattle.std.proofs.Common.{length-append, length-drop}
use Rattle.std.proofs.lemmas.List.{get_or-drop, get_or_append_left}
use Rattle.std.proofs.Math.Seq.{get_or-append_seam}
use Rattle.grid_base.specs.declared.kinds.Step.{Step}
use Rattle.grid_base.proofs.Signs.{natural_order}
use Rattle.realm_insert.specs.State.{KeptTrace, kept_trace, AreLatest, latest}

module _ (changes : ℕ) (traces : List KeptTrace) (steps : List Step) (was : AreLatest changes traces) where
  -- the last number of all
  number_at : (j : ℕ) (other : KeptTrace) → j < length traces + 1
      → (get_or (traces ++ kept_trace (changes + 1) steps ∷ []) j other).number + length traces ≡ changes + j + 1
  number_at j other within = elim (natural_order (length traces) j) [
    | inr before ↦
        let here = get_or_append_left traces (kept_trace (changes + 1) steps ∷ []) other j before in
        ap (λ (t : KeptTrace). t.number + length traces) here ∙ was.numbers j other before
    | inl last ↦
        let at : j ≡ length traces = omega (arith, within, last) in
        let here = get_or-append_seam traces (kept_trace (changes + 1) steps) [] other in
        let number : (get_or (traces ++ kept_trace (changes + 1) steps ∷ []) j other).number ≡ changes + 1 =
        ap (λ n. (get_or (traces ++ kept_trace (changes + 1) steps ∷ []) n other).number) at ∙ ap (λ (t : KeptTrace). t.number) here in
        omega (arith, number, at)
  ]

  pub latest_after : (new : List KeptTrace) → new ≡ latest (traces ++ kept_trace (changes + 1) steps ∷ []) → AreLatest (changes + 1) new
  latest_after new is =
      let all = traces ++ kept_trace (changes + 1) steps ∷ [] in
      let passed = length all - 16 in
      let long : length all ≡ length traces + 1 = length-append traces (kept_trace (changes + 1) steps ∷ []) in
      let left : length (drop passed all) ≡ length all - passed = length-drop passed all in
      subst (AreLatest (changes + 1)) (sym is) (record {
        count = by_count (length traces) (length all) (length (drop passed all)) was.count long left;
        numbers = λ i other within.
            let at = get_or-drop passed all i other in
            let number = number_at (passed + i) other (omega (arith, within, long, left)) in
            let same = ap (λ (t : KeptTrace). t.number) at in
            omega (arith, within, long, left, number, same);
      })
    where
      by_count : (m n k : ℕ) → m ≡ min changes 16 → n ≡ m + 1 → k ≡ n - (n - 16) → k ≡ min (changes + 1) 16
      by_count m n k was_count more left_over = omega (arith, was_count, more, left_over)
