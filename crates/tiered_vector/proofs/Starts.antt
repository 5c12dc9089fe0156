-- This file shows how many elements stand before each block, and in which block a place lies.
use Rattle.std.proofs.Common.{◌≡◌, ℕ, zero, suc, ◌+◌, ◌-◌, ◌<◌, ◌≤◌, List, [], ◌∷◌, ◌++◌, Some, All, map, length}
use Rattle.std.proofs.Common.{get_or, slice_get, take, drop, Vec, refl, ap, sym, ◌∙◌, subst, inl, inr, arith}
use Rattle.std.proofs.Common.{length-append, append-nil}
use Rattle.std.specs.List.Sorted.{IsNonDecreasing}
use Rattle.std.proofs.lemmas.Bool.{cases_lt}
use Rattle.std.proofs.lemmas.List.{take_all, take_more, get_or-drop, length-drop}
use Rattle.std.proofs.lemmas.List.Concat.{flat_map-append}
use Rattle.tiered_vector.specs.Blocks.{joined, starts_from, IsPlace}

-- index lies so many elements behind the start of the block: within it where there is such an element, or at its end
pub record IsInBlock {T A : Type 0} (bs : List (Vec T A)) (index block place : ℕ) : Type 0 where
  pub there : block < length bs
  pub behind : length (joined (take block bs)) + place ≡ index
  pub at_most : (d : Vec T A) → index ≤ length (joined bs) → place ≤ length (get_or bs block d).items
  pub below : (d : Vec T A) → index < length (joined bs) → place < length (get_or bs block d).items

module _ {T A : Type 0} where
  pub joined-append : (xs ys : List (Vec T A)) → joined (xs ++ ys) ≡ joined xs ++ joined ys
  joined-append xs ys = flat_map-append (λ (b : Vec T A). b.items) xs ys

  pub length-starts_from : (n : ℕ) (bs : List (Vec T A)) → length (starts_from n bs) ≡ length bs
  length-starts_from n [] = refl
  length-starts_from n (b ∷ bs) = ap suc (length-starts_from (n + length b.items) bs)

  pub starts_from-append : (n : ℕ) (xs ys : List (Vec T A))
      → starts_from n (xs ++ ys) ≡ starts_from n xs ++ starts_from (n + length (joined xs)) ys
  starts_from-append n [] ys =
      let e : n ≡ n + 0 = omega arith in
      ap (λ (m : ℕ). starts_from m ys) e
  starts_from-append n (x ∷ xs) ys =
      let e : (n + length x.items) + length (joined xs) ≡ n + length (x.items ++ joined xs) =
      omega (arith, length-append x.items (joined xs)) in
      ap (λ (l : List ℕ). n ∷ l) (starts_from-append (n + length x.items) xs ys
      ∙ ap (λ (m : ℕ). starts_from (n + length x.items) xs ++ starts_from m ys) e)

  -- one element more before all of them
  pub starts_from-more : (n : ℕ) (bs : List (Vec T A)) → starts_from (n + 1) bs ≡ map (λ k. k + 1) (starts_from n bs)
  starts_from-more n [] = refl
  starts_from-more n (b ∷ bs) =
      let e : (n + 1) + length b.items ≡ (n + length b.items) + 1 = omega arith in
      ap (λ (l : List ℕ). (n + 1) ∷ l)
      (ap (λ (m : ℕ). starts_from m bs) e ∙ starts_from-more (n + length b.items) bs)

  -- one element fewer before all of them
  pub starts_from-less : (n : ℕ) (bs : List (Vec T A)) → starts_from n bs ≡ map (λ k. k - 1) (starts_from (n + 1) bs)
  starts_from-less n [] = refl
  starts_from-less n (b ∷ bs) =
      let first : n ≡ (n + 1) - 1 = omega arith in
      let e : (n + length b.items) + 1 ≡ (n + 1) + length b.items = omega arith in
      ap (λ (m : ℕ). m ∷ starts_from (n + length b.items) bs) first
      ∙ ap (λ (l : List ℕ). ((n + 1) - 1) ∷ l) (starts_from-less (n + length b.items) bs
      ∙ ap (λ (m : ℕ). map (λ (k : ℕ). k - 1) (starts_from m bs)) e)

  pub get_or-starts_from : (n : ℕ) (bs : List (Vec T A)) (k d : ℕ) → k < length bs
      → get_or (starts_from n bs) k d ≡ n + length (joined (take k bs))
  get_or-starts_from n [] k d there = absurd (omega arith)
  get_or-starts_from n (b ∷ bs) zero d there = omega arith
  get_or-starts_from n (b ∷ bs) (suc k) d there =
      get_or-starts_from (n + length b.items) bs k d (omega arith)
      ∙ omega (arith, length-append b.items (joined (take k bs)))

  -- more blocks have no fewer elements
  pub fewer_joined : (bs : List (Vec T A)) (i j : ℕ) → i ≤ j → length (joined (take i bs)) ≤ length (joined (take j bs))
  fewer_joined bs zero j le = omega arith
  fewer_joined bs (suc i) zero le = absurd (omega arith)
  fewer_joined [] (suc i) (suc j) le = omega arith
  fewer_joined (b ∷ bs) (suc i) (suc j) le = omega (
    arith,
    length-append b.items (joined (take i bs)),
    length-append b.items (joined (take j bs)),
    fewer_joined bs i j (omega arith),
  )

  pub joined_next : (bs : List (Vec T A)) (k : ℕ) (d : Vec T A) → k < length bs
      → length (joined (take (k + 1) bs)) ≡ length (joined (take k bs)) + length (get_or bs k d).items
  joined_next bs k d there =
      let b = get_or bs k d in
      let more = ap (λ (xs : List (Vec T A)). length (joined xs)) (take_more bs k d there) in
      let parts = ap length (joined-append (take k bs) (b ∷ [])) in
      omega (
        arith,
        more,
        parts,
        length-append (joined (take k bs)) (b.items ++ []),
        ap length (append-nil b.items),
      )

  pub starts_ascend : (bs : List (Vec T A)) → IsNonDecreasing (starts_from 0 bs)
  starts_ascend bs i j d le there =
      let within : j < length bs = omega (arith, length-starts_from 0 bs) in
      omega (arith, get_or-starts_from 0 bs i d (omega arith), get_or-starts_from 0 bs j d within, fewer_joined bs i j le)

  pub first_start : (bs : List (Vec T A)) → 0 < length bs → slice_get (starts_from 0 bs) 0 ≡ Some 0
  first_start [] some = absurd (omega arith)
  first_start (b ∷ bs) some = refl

  pub some_block : (bs : List (Vec T A)) → 0 < length (joined bs) → 0 < length bs
  some_block [] some = absurd (omega arith)
  some_block (b ∷ bs) some = omega arith

  -- no block starts behind all elements
  pub start_within : (bs : List (Vec T A)) (k d : ℕ) → k < length bs
      → get_or (starts_from 0 bs) k d ≤ length (joined bs)
  start_within bs k d there =
      let all = ap (λ (xs : List (Vec T A)). length (joined xs)) (take_all (length bs) bs (omega arith)) in
      omega (arith, get_or-starts_from 0 bs k d there, fewer_joined bs k (length bs) (omega arith), all)

  -- the starts behind a block are above its own start by at least as many elements as it has
  pub later_start : (bs : List (Vec T A)) (k j d : ℕ) (e : Vec T A) → k < j → j < length bs
      → length (get_or bs k e).items ≤ get_or (starts_from 0 bs) j d
  later_start bs k j d e lt there = omega (
    arith,
    get_or-starts_from 0 bs j d there,
    fewer_joined bs (k + 1) j (omega arith),
    joined_next bs k e (omega arith),
  )

  pub starts_countable : (bs : List (Vec T A)) (n : ℕ) → length (joined bs) < n
      → (from : ℕ) → All (λ k. k + 1 < n + 1) (drop from (starts_from 0 bs))
  starts_countable bs n few from k d there =
      let len = length-drop from (starts_from 0 bs) in
      let there' : from + k < length bs = omega (arith, len, length-starts_from 0 bs) in
      omega (arith, get_or-drop from (starts_from 0 bs) k d, start_within bs (from + k) d there')

  pub starts_positive : (bs : List (Vec T A)) (k : ℕ) (e : Vec T A) → 0 < length (get_or bs k e).items
      → All (λ n. 0 < n) (drop (k + 1) (starts_from 0 bs))
  starts_positive bs k e some i d there =
      let len = length-drop (k + 1) (starts_from 0 bs) in
      let there' : (k + 1) + i < length bs = omega (arith, len, length-starts_from 0 bs) in
      omega (
        arith,
        get_or-drop (k + 1) (starts_from 0 bs) i d,
        later_start bs k ((k + 1) + i) d e (omega arith) there',
      )

  -- a block's start and its elements are no more than all elements
  pub block_within : (bs : List (Vec T A)) (k i : ℕ) (d : Vec T A) → k < length bs
      → get_or (starts_from 0 bs) k i + length (get_or bs k d).items ≤ length (joined bs)
  block_within bs k i d there =
      let all = ap (λ (xs : List (Vec T A)). length (joined xs)) (take_all (length bs) bs (omega arith)) in
      omega (
        arith,
        get_or-starts_from 0 bs k i there,
        joined_next bs k d there,
        fewer_joined bs (k + 1) (length bs) (omega arith),
        all,
      )

  module _ (bs : List (Vec T A)) (starts : List ℕ) (same : starts ≡ starts_from 0 bs) where
    pub ascending : IsNonDecreasing starts
    ascending = subst IsNonDecreasing (sym same) (starts_ascend bs)

    pub from_zero : 0 < length bs → slice_get starts 0 ≡ Some 0
    from_zero some = ap (λ (s : List ℕ). slice_get s 0) same ∙ first_start bs some

    -- where the block is the last that starts at index or before
    module _ (index block place : ℕ) (is : IsPlace starts index block place) where
      found : IsPlace (starts_from 0 bs) index block place
      found = subst (λ (s : List ℕ). IsPlace s index block place) same is

      block_there : block < length bs
      block_there = omega (arith, found.there, length-starts_from 0 bs)

      place_behind : length (joined (take block bs)) + place ≡ index
      place_behind = omega (arith, found.behind, get_or-starts_from 0 bs block 0 block_there)

      -- n is index or more; it is at most all elements, or one more: the block has place for what lies below n
      before_end : (d : Vec T A) (n : ℕ) → index < n → n ≤ length (joined bs) + 1
          → place + 1 ≤ length (get_or bs block d).items + (n - length (joined bs))
      before_end d n before most = elim (cases_lt (block + 1) (length bs)) [
        | inl more ↦ (let next : index < get_or (starts_from 0 bs) (block + 1) 0 =
            found.before_next (omega (arith, length-starts_from 0 bs)) in
            omega (
              arith,
              next,
              get_or-starts_from 0 bs (block + 1) 0 more,
              joined_next bs block d block_there,
              place_behind,
            ))
        | inr last ↦ (let all = ap (λ (xs : List (Vec T A)). length (joined xs)) (take_all (block + 1) bs last) in
            omega (arith, all, joined_next bs block d block_there, place_behind))
      ]

      place_in : (d : Vec T A) → index ≤ length (joined bs) → place ≤ length (get_or bs block d).items
      place_in d le = omega (arith, before_end d (length (joined bs) + 1) (omega arith) (omega arith))

      place_below : (d : Vec T A) → index < length (joined bs) → place < length (get_or bs block d).items
      place_below d lt = omega (arith, before_end d (length (joined bs)) lt (omega arith))

      pub place_found : IsInBlock bs index block place
      place_found = record { there = block_there; behind = place_behind; at_most = place_in; below = place_below }
