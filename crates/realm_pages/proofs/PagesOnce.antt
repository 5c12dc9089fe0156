-- This file shows that the pages of a file hold one payload, or one of them has one fault.
use Rattle.std.proofs.Common.{◌≡◌, inl, inr, ⊎_elim, ℕ, zero, suc, ◌+◌, ◌*◌, ◌<◌, ◌≤◌, List, ◌++◌, length, take, drop}
use Rattle.std.proofs.Common.{refl, sym, ◌∙◌, ap, subst, arith}
use Rattle.std.proofs.lemmas.Bool.{cases_lt}
use Rattle.std.proofs.lemmas.List.{length-take, length-drop, take_all}
use Rattle.std.proofs.Math.Seq.{take-add}
use Rattle.outside_world.specs.declared.world.FileName.{FileName}
use Rattle.page_codec.specs.Pages.{Fills}
use Rattle.page_codec.proofs.PageLemmas.{digests_agree}
use Rattle.realm_pages.specs.Generations.{page_count, part_behind}
use Rattle.realm_pages.specs.Files.{page_at, HoldsFirst}
use Rattle.realm_pages.specs.Damages.{part_size, IsAltered, IsStrange, IsPageFault, HasPageFault}
use Rattle.realm_pages.specs.declared.damage.Damage.{Damage}
use Rattle.realm_pages.specs.declared.damage.Damage.TheVariants.{Digest}
use Rattle.realm_pages.proofs.Counting.{below}
use Rattle.realm_pages.proofs.Parts.{length_page, same_part}
use Rattle.realm_pages.proofs.PageJudgements.{fills_page}

module _ {file : List ℕ} {size n : ℕ} (few : n ≤ page_count size) where
  -- each part is as long as its page asks for
  length_held : {bytes : List ℕ} → HoldsFirst file size n bytes → (k : ℕ) → k < n → length (part_behind k bytes) ≡ part_size size k
  length_held {bytes} hold k lt =
      omega (
        arith,
        length-take 4054 (drop (4054 * k) bytes),
        length-drop (4054 * k) bytes,
        hold.fills,
        below size k (omega (arith, lt, few)),
      )

  fills_held : {bytes : List ℕ} → HoldsFirst file size n bytes → (k : ℕ) → k < n → Fills (part_behind k bytes)
  fills_held {bytes} hold k lt = fills_page size k (part_behind k bytes) (omega (arith, lt, few)) (length_held hold k lt)

  -- ---- one payload

  module _ {bytes other : List ℕ} (hold : HoldsFirst file size n bytes) (also : HoldsFirst file size n other) where
    same_at : (k : ℕ) → k < n → part_behind k bytes ≡ part_behind k other
    same_at k lt =
        same_part (k + 1) (part_behind k bytes) (part_behind k other) (fills_held hold k lt) (fills_held also k lt)
        (length_held hold k lt ∙ sym (length_held also k lt)) (sym (hold.pages k lt) ∙ also.pages k lt)

    same_front : (k : ℕ) → k ≤ n → take (4054 * k) bytes ≡ take (4054 * k) other
    same_front zero le = refl
    same_front (suc k) le =
        let next : 4054 * suc k ≡ 4054 * k + 4054 = omega arith in
        ap (λ m. take m bytes) next
        ∙ take-add (4054 * k) 4054 bytes
        ∙ ap (λ l. l ++ part_behind k bytes) (same_front k (omega (arith, le)))
        ∙ ap (λ l. take (4054 * k) other ++ l) (same_at k (omega (arith, le)))
        ∙ sym (take-add (4054 * k) 4054 other)
        ∙ ap (λ m. take m other) (sym next)

    pub payload_once : bytes ≡ other
    payload_once =
        sym (take_all (4054 * n) bytes (omega (arith, hold.fills)))
        ∙ same_front n (omega arith)
        ∙ take_all (4054 * n) other (omega (arith, also.fills))

  -- ---- a page that was taken has no fault

  pub no_fault : {bytes : List ℕ} {name : FileName} {damage : Damage} → HoldsFirst file size n bytes → (k : ℕ) → k < n
      → IsPageFault name size k (page_at (k + 1) file) damage → ⊥
  no_fault {bytes} {name} {damage} hold k lt fault =
      let part = part_behind k bytes in
      let is = hold.pages k lt in
      let fills = fills_held hold k lt in
      let long : length (page_at (k + 1) file) ≡ 4096 = ap length is ∙ length_page (k + 1) part fills in
      ⊎_elim
      (λ cut. omega (arith, cut.0, long))
      (λ whole. ⊎_elim
      (λ (altered : IsAltered name (k + 1) (page_at (k + 1) file) damage).
      altered.differ (altered.kept_is ∙ digests_agree (page_at (k + 1) file) (k + 1) part fills is ∙ sym altered.found_is))
      (λ (strange : IsStrange name size k (page_at (k + 1) file) damage). strange.none part (length_held hold k lt) is)
      whole.1)
      fault

-- ---- one fault

-- of one page,
fault_of_page : {name : FileName} {size n : ℕ} {page : List ℕ} {d e : Damage} → IsPageFault name size n page d
    → IsPageFault name size n page e → d ≡ e
fault_of_page (inl one) (inl also) = one.1 ∙ sym also.1
fault_of_page (inl one) (inr also) = absurd (omega (arith, one.0, also.0))
fault_of_page (inr one) (inl also) = absurd (omega (arith, one.0, also.0))
fault_of_page {name} {n = n} (inr (long, inl one)) (inr (long', inl also)) =
    one.is
    ∙ ap (λ k. Digest name (n + 1) k one.found) (one.kept_is ∙ sym also.kept_is)
    ∙ ap (λ f. Digest name (n + 1) also.kept f) (one.found_is ∙ sym also.found_is)
    ∙ sym also.is
fault_of_page (inr (long, inl one)) (inr (long', inr also)) = absurd (one.differ (one.kept_is ∙ also.agree ∙ sym one.found_is))
fault_of_page (inr (long, inr one)) (inr (long', inl also)) = absurd (also.differ (also.kept_is ∙ one.agree ∙ sym also.found_is))
fault_of_page (inr (long, inr one)) (inr (long', inr also)) = one.is ∙ sym also.is

-- and of all pages: one before it would have been at fault
pub fault_once : {name : FileName} {file : List ℕ} {size n : ℕ} {d e : Damage} → n ≤ page_count size → HasPageFault name file size n d
    → HasPageFault name file size n e → d ≡ e
fault_once {name} {file} {size} {n} {d} {e} few one also =
    ⊎_elim
    (λ earlier. absurd (no_fault (omega (arith, also.within, few)) also.hold one.before earlier one.fault))
    (λ from. ⊎_elim
    (λ later. absurd (no_fault (omega (arith, one.within, few)) one.hold also.before later also.fault))
    (λ upto.
    let here : also.before ≡ one.before = omega (arith, from, upto) in
    fault_of_page one.fault (subst (λ k. IsPageFault name size k (page_at (k + 1) file) e) here also.fault))
    (cases_lt also.before one.before))
    (cases_lt one.before also.before)
