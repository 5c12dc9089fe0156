-- This file shows what an edit of one block makes of all elements, and of the starts.
use Rattle.std.proofs.Common.{◌≡◌, ℕ, suc, ◌+◌, ◌-◌, ◌<◌, ◌≤◌, List, [], ◌∷◌, ◌++◌, map, length, get_or, take, drop}
use Rattle.std.proofs.Common.{set, insert, remove, Vec, refl, ap, sym, ◌∙◌, arith, length-append, append_assoc}
use Rattle.std.proofs.lemmas.List.{set_split, set-get_or, length-take-le, take_at, drop_at}
use Rattle.std.proofs.lemmas.List.Concat.{get_or-flat_map}
use Rattle.std.proofs.lemmas.List.Edits.{insert-append_left, insert-append_right, remove-append_left, remove-append_right}
use Rattle.tiered_vector.specs.Blocks.{joined, starts_from}
use Rattle.tiered_vector.proofs.Around.{around, insert_behind, remove_there}
use Rattle.tiered_vector.proofs.Starts.{joined-append, length-starts_from, starts_from-append, starts_from-more, starts_from-less}

module _ {T A : Type 0} (bs : List (Vec T A)) (k : ℕ) (d : Vec T A) (there : k < length bs) where
  -- the block at k, the blocks before and behind it, and their elements
  abbrev here : Vec T A
  here = get_or bs k d

  abbrev before : List (Vec T A)
  before = take k bs

  abbrev behind : List (Vec T A)
  behind = drop (suc k) bs

  -- ---- all elements
  pub joined_around : joined bs ≡ joined before ++ (here.items ++ joined behind)
  joined_around = ap joined (around bs k d there) ∙ joined-append before (here ∷ behind)

  pub joined_set : (b : Vec T A) → joined (set bs k b) ≡ joined before ++ (b.items ++ joined behind)
  joined_set b = ap joined (set_split bs k b there) ∙ joined-append before (b ∷ behind)

  module _ (place index : ℕ) (at : length (joined before) + place ≡ index) where
    rest : index - length (joined before) ≡ place
    rest = omega arith

    -- an element put into the block at its place is put in at index
    pub put_in_joined : (b : Vec T A) (x : T) → place ≤ length here.items → b.items ≡ insert here.items place x
        → joined (set bs k b) ≡ insert (joined bs) index x
    put_in_joined b x within e =
        joined_set b ∙ ap (λ (l : List T). joined before ++ (l ++ joined behind)) e
        ∙ sym (ap (λ (l : List T). insert l index x) joined_around
        ∙ insert-append_right (joined before) (here.items ++ joined behind) (length (joined before)) index x refl (omega arith)
        ∙ ap (λ (j : ℕ). joined before ++ insert (here.items ++ joined behind) j x) rest
        ∙ ap (λ (l : List T). joined before ++ l) (insert-append_left here.items (joined behind) place x within))

    -- an element taken out of the block at its place is taken out at index
    pub taken_from_joined : (b : Vec T A) → place < length here.items → b.items ≡ remove here.items place
        → joined (set bs k b) ≡ remove (joined bs) index
    taken_from_joined b within e =
        joined_set b ∙ ap (λ (l : List T). joined before ++ (l ++ joined behind)) e
        ∙ sym (ap (λ (l : List T). remove l index) joined_around
        ∙ remove-append_right (joined before) (here.items ++ joined behind) (length (joined before)) index refl (omega arith)
        ∙ ap (λ (j : ℕ). joined before ++ remove (here.items ++ joined behind) j) rest
        ∙ ap (λ (l : List T). joined before ++ l) (remove-append_left here.items (joined behind) place within))

    pub element_of_joined : (x : T) → place < length here.items → get_or (joined bs) index x ≡ get_or here.items place x
    element_of_joined x within =
        ap (λ (j : ℕ). get_or (joined bs) j x) (sym at)
        ∙ get_or-flat_map (λ (b : Vec T A). b.items) bs k place d x there within

  -- ---- the starts: those up to the block's own stay, and the later ones follow its length
  abbrev start : ℕ
  start = 0 + length (joined before)

  abbrev starts_up_to : List ℕ
  starts_up_to = starts_from 0 before ++ start ∷ []

  pub starts_set : (b : Vec T A) → starts_from 0 (set bs k b) ≡ starts_up_to ++ starts_from (start + length b.items) behind
  starts_set b =
      ap (starts_from 0) (set_split bs k b there) ∙ starts_from-append 0 before (b ∷ behind)
      ∙ sym (append_assoc (starts_from 0 before) (start ∷ []) (starts_from (start + length b.items) behind))

  starts_here : starts_from 0 bs ≡ starts_up_to ++ starts_from (start + length here.items) behind
  starts_here = ap (starts_from 0) (sym (set-get_or bs k d)) ∙ starts_set here

  before_length : length (starts_from 0 before) ≡ k
  before_length = length-starts_from 0 before ∙ length-take-le k bs (omega arith)

  up_to_length : length starts_up_to ≡ k + 1
  up_to_length = omega (arith, length-append (starts_from 0 before) (start ∷ []), before_length)

  first_starts : take (k + 1) (starts_from 0 bs) ≡ starts_up_to
  first_starts = ap (take (k + 1)) starts_here
      ∙ take_at starts_up_to (starts_from (start + length here.items) behind) (k + 1) up_to_length

  later_starts : drop (k + 1) (starts_from 0 bs) ≡ starts_from (start + length here.items) behind
  later_starts = ap (drop (k + 1)) starts_here
      ∙ drop_at starts_up_to (starts_from (start + length here.items) behind) (k + 1) up_to_length

  -- one element more in the block
  pub starts_of_more : (b : Vec T A) → length b.items ≡ length here.items + 1
      → starts_from 0 (set bs k b) ≡ take (k + 1) (starts_from 0 bs) ++ map (λ n. n + 1) (drop (k + 1) (starts_from 0 bs))
  starts_of_more b e =
      let after : start + length b.items ≡ (start + length here.items) + 1 = omega arith in
      starts_set b ∙ ap (λ (m : ℕ). starts_up_to ++ starts_from m behind) after
      ∙ ap (λ (l : List ℕ). starts_up_to ++ l) (starts_from-more (start + length here.items) behind)
      ∙ sym (ap (λ (l : List ℕ). l ++ map (λ (n : ℕ). n + 1) (drop (k + 1) (starts_from 0 bs))) first_starts
      ∙ ap (λ (l : List ℕ). starts_up_to ++ map (λ (n : ℕ). n + 1) l) later_starts)

  -- one element fewer in the block
  pub starts_of_fewer : (b : Vec T A) → length b.items + 1 ≡ length here.items
      → starts_from 0 (set bs k b) ≡ take (k + 1) (starts_from 0 bs) ++ map (λ n. n - 1) (drop (k + 1) (starts_from 0 bs))
  starts_of_fewer b e =
      let after : (start + length b.items) + 1 ≡ start + length here.items = omega arith in
      starts_set b
      ∙ ap (λ (l : List ℕ). starts_up_to ++ l) (starts_from-less (start + length b.items) behind
      ∙ ap (λ (m : ℕ). map (λ (n : ℕ). n - 1) (starts_from m behind)) after)
      ∙ sym (ap (λ (l : List ℕ). l ++ map (λ (n : ℕ). n - 1) (drop (k + 1) (starts_from 0 bs))) first_starts
      ∙ ap (λ (l : List ℕ). starts_up_to ++ map (λ (n : ℕ). n - 1) l) later_starts)

  -- ---- another block with the same elements
  module _ (b : Vec T A) (same : b.items ≡ here.items) where
    pub joined_same : joined (set bs k b) ≡ joined bs
    joined_same = joined_set b ∙ ap (λ (l : List T). joined before ++ (l ++ joined behind)) same ∙ sym joined_around

    pub starts_same : starts_from 0 bs ≡ starts_from 0 (set bs k b)
    starts_same =
        starts_here
        ∙ ap (λ (l : List T). starts_up_to ++ starts_from (start + length l) behind) (sym same)
        ∙ sym (starts_set b)

  -- ---- a block cut in two
  module _ (b c : Vec T A) (cut : here.items ≡ b.items ++ c.items) where
    halves : insert (set bs k b) (k + 1) c ≡ before ++ b ∷ c ∷ behind
    halves = ap (λ (l : List (Vec T A)). insert l (k + 1) c) (set_split bs k b there)
        ∙ insert_behind before behind b c k (length-take-le k bs (omega arith))

    pub joined_halves : joined (insert (set bs k b) (k + 1) c) ≡ joined bs
    joined_halves =
        ap joined halves ∙ joined-append before (b ∷ c ∷ behind)
        ∙ sym (joined_around ∙ ap (λ (l : List T). joined before ++ (l ++ joined behind)) cut
        ∙ ap (λ (l : List T). joined before ++ l) (append_assoc b.items c.items (joined behind)))

    pub starts_halves : (n : ℕ) → n ≡ start + length b.items
        → insert (starts_from 0 bs) (k + 1) n ≡ starts_from 0 (insert (set bs k b) (k + 1) c)
    starts_halves n e =
        let len : start + length here.items ≡ (start + length b.items) + length c.items =
        omega (arith, ap length cut, length-append b.items c.items) in
        let whole = starts_from (start + length here.items) behind in
        ap (λ (l : List ℕ). insert l (k + 1) n)
        (ap (starts_from 0) (around bs k d there) ∙ starts_from-append 0 before (here ∷ behind))
        ∙ insert_behind (starts_from 0 before) whole start n k before_length
        ∙ ap (λ (m : ℕ). starts_from 0 before ++ start ∷ m ∷ whole) e
        ∙ ap (λ (m : ℕ). starts_from 0 before ++ start ∷ (start + length b.items) ∷ starts_from m behind) len
        ∙ sym (ap (starts_from 0) halves ∙ starts_from-append 0 before (b ∷ c ∷ behind))

  -- ---- a block without elements
  module _ (none : here.items ≡ []) where
    pub joined_dropped : joined (remove bs k) ≡ joined bs
    joined_dropped =
        joined-append before behind
        ∙ sym (joined_around ∙ ap (λ (l : List T). joined before ++ (l ++ joined behind)) none)

    pub starts_dropped : remove (starts_from 0 bs) k ≡ starts_from 0 (remove bs k)
    starts_dropped =
        let len : start + length here.items ≡ start = omega (arith, ap length none) in
        ap (λ (l : List ℕ). remove l k)
        (ap (starts_from 0) (around bs k d there) ∙ starts_from-append 0 before (here ∷ behind))
        ∙ remove_there (starts_from 0 before) (starts_from (start + length here.items) behind) start k before_length
        ∙ ap (λ (m : ℕ). starts_from 0 before ++ starts_from m behind) len
        ∙ sym (starts_from-append 0 before behind)
