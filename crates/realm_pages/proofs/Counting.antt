-- This file shows how many pages a payload needs.
use Rattle.std.proofs.Common.{◌≡◌, ℕ, ◌*◌, ◌^◌, ◌<◌, ◌≤◌, arith, ⊎_elim}
use Rattle.std.proofs.lemmas.Bool.{cases_lt}
use Rattle.std.proofs.lemmas.Grind.{div_ceil_times}
use Rattle.record_codec.specs.Heads.{AreFewest, IsGeneration, IsVersion, IsHeader}
use Rattle.realm_pages.specs.Generations.{page_count}

-- they hold it,
pub enough : (size : ℕ) → size ≤ 4054 * page_count size
unfolding page_count
enough size = omega (arith, (div_ceil_times size 4054 (omega arith)).0)

-- and each of them holds some of it
pub below : (size n : ℕ) → n < page_count size → 4054 * n < size
unfolding page_count
below size n lt = omega (arith, lt, (div_ceil_times size 4054 (omega arith)).1)

-- so they are the fewest,
fewest_are : (size : ℕ) → AreFewest size (page_count size)
fewest_are size = record {
  enough = enough size;
  fewest = λ m holds. ⊎_elim
      (λ more. absurd (omega (arith, holds, below size m more)))
      (λ upto. upto)
      (cases_lt m (page_count size));
}

-- and a head may say so,
pub is_head : (version generation size : ℕ) → IsVersion version → IsGeneration generation → size < 2 ^ 63
    → IsHeader (record { version = version; generation = generation; pages = page_count size; length = size })
unfolding page_count
is_head version generation size is_version is_generation small = record {
  version = is_version;
  generation = is_generation;
  length = omega (arith, small);
  pages = (fewest_are size, omega (arith, small, (div_ceil_times size 4054 (omega arith)).1));
}

-- while no other number is
pub fewest_once : (size n : ℕ) → AreFewest size n → n ≡ page_count size
fewest_once size n fewest =
    let upto = fewest.fewest (page_count size) (enough size) in
    ⊎_elim
    (λ less. absurd (omega (arith, fewest.enough, below size n less)))
    (λ from. omega (arith, upto, from))
    (cases_lt n (page_count size))
