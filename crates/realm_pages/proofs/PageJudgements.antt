-- This file shows what is wrong with a page, and what a good one adds to the payload.
use Rattle.std.proofs.Common.{◌≡◌, ◌≢◌, inl, inr, ⊎_elim, ℕ, ◌+◌, ◌-◌, ◌*◌, ◌<◌, List, ◌++◌, length, take, drop}
use Rattle.std.proofs.Common.{refl, sym, ◌∙◌, ap, subst, arith, length-append}
use Rattle.std.proofs.lemmas.Bool.{cases_lt}
use Rattle.std.proofs.lemmas.List.{drop_at, drop-append-le, take-append-le, take_all, length-drop}
use Rattle.outside_world.specs.declared.world.FileName.{FileName}
use Rattle.page_codec.specs.Pages.{Fills, page_of, part_of, digest_kept, digest_found}
use Rattle.page_codec.proofs.PageLemmas.{digests_agree}
use Rattle.realm_pages.specs.Generations.{page_count, part_behind}
use Rattle.realm_pages.specs.Files.{page_at, HoldsFirst}
use Rattle.realm_pages.specs.Damages.{part_size, IsPageFault}
use Rattle.realm_pages.specs.declared.damage.Damage.TheVariants.{BadPage, Digest}
use Rattle.realm_pages.proofs.Counting.{below}

-- a part that belongs to a page fills it
pub fills_page : (size n : ℕ) (part : List ℕ) → n < page_count size → length part ≡ part_size size n → Fills part
fills_page size n part more long = record {
  some = omega (arith, long, below size n more);
  not_more = omega (arith, long);
}

module _ (file : FileName) (size n : ℕ) {page whole : List ℕ} (more : n < page_count size) (long : length page ≡ 4096)
    (same : whole ≡ page) where
  -- the digests differ,
  pub altered : {kept found : List ℕ} → kept ≡ digest_kept whole → found ≡ digest_found whole → (kept ≡ found → ⊥)
      → IsPageFault file size n page (Digest file (n + 1) kept found)
  altered {kept} {found} kept_is found_is differ = inr (
    long,
    inl (record {
      kept = kept;
      found = found;
      kept_is = kept_is ∙ ap digest_kept same;
      found_is = found_is ∙ ap digest_found same;
      differ = differ;
      is = refl;
    }),
  )

  -- or they agree and no part has this page,
  pub strange : digest_kept whole ≡ digest_found whole → ((part : List ℕ) → Fills part → whole ≡ page_of (n + 1) part → ⊥)
      → IsPageFault file size n page (BadPage file (n + 1))
  strange agree none = inr (
    long,
    inr (record {
      agree = ap digest_kept (sym same) ∙ agree ∙ ap digest_found same;
      none = λ part fits is. none part (fills_page size n part more fits) (same ∙ is);
      is = refl;
    }),
  )

  module _ {used : ℕ} (size_is : length (part_of used whole) ≡ used) (fills : Fills (part_of used whole))
      (is : whole ≡ page_of (n + 1) (part_of used whole)) where
    -- or it holds a part that is too long or too short,
    pub misfit : ((part : List ℕ) → Fills part → whole ≡ page_of (n + 1) part → used ≡ length part) → used ≢ part_size size n
        → IsPageFault file size n page (BadPage file (n + 1))
    misfit only differ = inr (
      long,
      inr (record {
        agree = ap digest_kept (sym same) ∙ digests_agree whole (n + 1) (part_of used whole) fills is ∙ ap digest_found same;
        none = λ part fits is_too. differ (only part (fills_page size n part more fits) (same ∙ is_too) ∙ fits);
        is = refl;
      }),
    )

    -- or it is good
    pub good : used ≡ part_size size n
        → (let part = take (10 + used - 10) (drop 10 page) in (length part ≡ part_size size n) × (page ≡ page_of (n + 1) part))
    good fits =
        let count : 10 + used - 10 ≡ used = omega arith in
        let part_is : take (10 + used - 10) (drop 10 page) ≡ part_of used whole =
        ap (λ m. take m (drop 10 page)) count ∙ ap (part_of used) (sym same) in
        (ap length part_is ∙ size_is ∙ fits, sym same ∙ is ∙ ap (page_of (n + 1)) (sym part_is))

-- one page more
pub holds_more : {file : List ℕ} {size n : ℕ} (bytes part : List ℕ) → n < page_count size → HoldsFirst file size n bytes
    → length part ≡ part_size size n → page_at (n + 1) file ≡ page_of (n + 1) part → HoldsFirst file size (n + 1) (bytes ++ part)
holds_more {file} {size} {n} bytes part more hold long is =
    let some = below size n more in
    let all : length bytes ≡ 4054 * n = omega (arith, hold.fills, some) in
    let last : part_behind n (bytes ++ part) ≡ part =
    ap (λ l. take 4054 l) (drop_at bytes part (4054 * n) all) ∙ take_all 4054 part (omega (arith, long)) in
    let earlier : (k : ℕ) → k < n → part_behind k (bytes ++ part) ≡ part_behind k bytes =
    λ k lt. ap (λ l. take 4054 l) (drop-append-le (4054 * k) bytes part (omega (arith, all, lt)))
    ∙ take-append-le 4054 (drop (4054 * k) bytes) part (omega (arith, length-drop (4054 * k) bytes, all, lt)) in
    record {
      fills = omega (arith, length-append bytes part, all, long, some);
      pages = λ k lt. ⊎_elim
          (λ before. hold.pages k before ∙ ap (page_of (k + 1)) (sym (earlier k before)))
          (λ from.
          let here : n ≡ k = omega (arith, from, lt) in
          subst (λ j. page_at (j + 1) file ≡ page_of (j + 1) (part_behind j (bytes ++ part))) here
          (is ∙ ap (page_of (n + 1)) (sym last)))
          (cases_lt k n);
    }
