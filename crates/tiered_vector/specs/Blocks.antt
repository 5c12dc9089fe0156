-- A list in blocks, and how many elements stand before each block.
use Rattle.std.specs.Prelude.{◌≡◌, ℕ, ◌+◌, ◌<◌, ◌^◌, List, [], ◌∷◌, length, flat_map, slice_index, Vec}

module _ {T A : Type 0} where
  -- the elements of all blocks, in order
  abbrev pub joined : List (Vec T A) → List T
  joined blocks = flat_map (λ b. b.items) blocks

  -- how many elements stand before each block, where n stand before the first
  abbrev pub starts_from : ℕ → List (Vec T A) → List ℕ
  starts_from n [] = []
  starts_from n (b ∷ bs) = n ∷ starts_from (n + length b.items) bs

  -- the starts are those of the blocks, which have so many elements, no more than a `usize` can count
  pub record AreInBlocks (blocks : List (Vec T A)) (starts : List ℕ) (count : ℕ) : Type 0 where
    pub starts_there : starts ≡ starts_from 0 blocks
    pub counted : count ≡ length (joined blocks)
    pub countable : length (joined blocks) < 2 ^ 64

-- the block is the last one that starts at index or before, and the place says how far index lies behind that
pub record IsPlace (starts : List ℕ) (index block place : ℕ) : Type 0 where
  pub there : block < length starts
  pub behind : slice_index starts block + place ≡ index
  pub before_next : block + 1 < length starts → index < slice_index starts (block + 1)
