-- This file shows how a payload stands in its pages.
use Rattle.std.proofs.Common.{◌≡◌, ⊎_elim, ℕ, zero, suc, ◌+◌, ◌-◌, ◌*◌, ◌<◌, ◌≤◌, List, [], ◌++◌, length, take, drop}
use Rattle.std.proofs.Common.{min, refl, sym, ◌∙◌, ap, subst, arith, append_assoc, length-append, length-drop, add-one}
use Rattle.std.proofs.lemmas.Bool.{cases_lt}
use Rattle.std.proofs.lemmas.List.{length-take, take_at, drop_at, drop-drop, drop-take, take-take, take_all}
use Rattle.std.proofs.Math.Seq.{take-add}
use Rattle.sha2.specs.Sha256.{sha256}
use Rattle.sha2.proofs.Facts256.{length-sha256}
use Rattle.page_codec.specs.Pages.{Fills, body_of, page_of, part_of}
use Rattle.page_codec.proofs.PageLemmas.{length_body, as_page, part_is}
use Rattle.realm_pages.specs.Generations.{page_count, part_behind, pages_of}
use Rattle.realm_pages.specs.PreparedFields.{held_in}
use Rattle.realm_pages.proofs.Counting.{enough, below}

-- ---- one page

pub length_page : (k : ℕ) (part : List ℕ) → Fills part → length (page_of k part) ≡ 4096
unfolding page_of
length_page k part fills =
    omega (
      arith,
      length-append (body_of k part) (sha256 (body_of k part)),
      length_body k part fills,
      length-sha256 (body_of k part),
    )

-- a page holds its part
pub part_in : (k : ℕ) (part : List ℕ) → Fills part → part_of (length part) (page_of k part) ≡ part
part_in k part fills = part_is (page_of k part) k part (sha256 (body_of k part)) fills (as_page (page_of k part) k part refl)

-- so it is the page of no other part as long as this
pub same_part : (k : ℕ) (part other : List ℕ) → Fills part → Fills other → length part ≡ length other → page_of k part ≡ page_of k other
    → part ≡ other
same_part k part other fills also long same =
    sym (part_in k part fills) ∙ ap (part_of (length part)) same ∙ ap (λ n. part_of n (page_of k other)) long ∙ part_in k other also

-- the first 4,054 bytes that may hold a part
abbrev pub room_of : List ℕ → List ℕ
room_of page = take 4054 (drop 10 page)

part_in_room : (k : ℕ) (part : List ℕ) → Fills part → take (length part) (room_of (page_of k part)) ≡ part
part_in_room k part fills = take-take (length part) 4054 (drop 10 (page_of k part)) fills.not_more ∙ part_in k part fills

-- ---- all pages

pages_next : (n : ℕ) (payload : List ℕ) → pages_of (n + 1) payload ≡ pages_of n payload ++ page_of (n + 1) (part_behind n payload)
pages_next n payload = ap (λ k. pages_of k payload) (add-one n)

-- one page more
pub pages_more : (front payload : List ℕ) {text page : List ℕ} (n : ℕ) → text ≡ front ++ pages_of n payload
    → page ≡ page_of (n + 1) (part_behind n payload) → text ++ page ≡ front ++ pages_of (n + 1) payload
pages_more front payload {text} {page} n so_far is =
    ap (λ l. l ++ page) so_far
    ∙ ap (λ l. (front ++ pages_of n payload) ++ l) is
    ∙ append_assoc front (pages_of n payload) (page_of (n + 1) (part_behind n payload))
    ∙ ap (λ l. front ++ l) (sym (pages_next n payload))

module _ (payload : List ℕ) where
  abbrev count : ℕ
  count = page_count (length payload)

  pub length_part : (n : ℕ) → length (part_behind n payload) ≡ min 4054 (length payload - 4054 * n)
  length_part n = length-take 4054 (drop (4054 * n) payload) ∙ ap (λ k. min 4054 k) (length-drop (4054 * n) payload)

  pub part_fills : (n : ℕ) → n < count → Fills (part_behind n payload)
  part_fills n lt = record {
    some = omega (arith, length_part n, below (length payload) n lt);
    not_more = omega (arith, length_part n);
  }

  pub length_pages : (n : ℕ) → n ≤ count → length (pages_of n payload) ≡ 4096 * n
  length_pages zero le = refl
  length_pages (suc n) le =
      let lt : n < count = omega (arith, le) in
      omega (
        arith,
        length-append (pages_of n payload) (page_of (n + 1) (part_behind n payload)),
        length_pages n (omega (arith, le)),
        length_page (n + 1) (part_behind n payload) (part_fills n lt),
      )

  -- each page stands in its place
  pub page_stands : (n : ℕ) (rest : List ℕ) → n ≤ count → (k : ℕ) → k < n
      → take 4096 (drop (4096 * k) (pages_of n payload ++ rest)) ≡ page_of (k + 1) (part_behind k payload)
  page_stands zero rest le k lt = absurd (omega (arith, lt))
  page_stands (suc n) rest le k lt =
      let page = page_of (n + 1) (part_behind n payload) in
      let fewer : n ≤ count = omega (arith, le) in
      ap (λ l. take 4096 (drop (4096 * k) l)) (append_assoc (pages_of n payload) page rest)
      ∙ ⊎_elim
      (λ before. page_stands n (page ++ rest) fewer k before)
      (λ from.
      let here : k ≡ n = omega (arith, from, lt) in
      let long : length (pages_of n payload) ≡ 4096 * k = omega (arith, here, length_pages n fewer) in
      ap (λ l. take 4096 l) (drop_at (pages_of n payload) (page ++ rest) (4096 * k) long)
      ∙ take_at page rest 4096 (length_page (n + 1) (part_behind n payload) (part_fills n (omega (arith, le))))
      ∙ ap (λ j. page_of (j + 1) (part_behind j payload)) (sym here))
      (cases_lt k n)

  -- ---- what pages hold is the payload again

  module _ (pages : List ℕ)
      (stand : (k : ℕ) → k < count → take 4096 (drop (4096 * k) pages) ≡ page_of (k + 1) (part_behind k payload)) where
    room_is : (k : ℕ) → k < count → take 4054 (drop (4096 * k + 10) pages) ≡ room_of (page_of (k + 1) (part_behind k payload))
    room_is k lt =
        let page = drop (4096 * k) pages in
        ap (λ l. take 4054 l) (sym (drop-drop 10 (4096 * k) pages))
        ∙ sym (take-take 4054 4086 (drop 10 page) (omega arith))
        ∙ ap (λ l. take 4054 l) (sym (drop-take 10 4086 page))
        ∙ ap room_of (stand k lt)

    next_part : (n : ℕ) → take (4054 * n) payload ++ part_behind n payload ≡ take (4054 * n + 4054) payload
    next_part n = sym (take-add (4054 * n) 4054 payload)

    full : (n : ℕ) → n ≤ count → 4054 * n ≤ length payload → held_in n pages ≡ take (4054 * n) payload
    full zero le fits = refl
    full (suc n) le fits =
        let lt : n < count = omega (arith, le) in
        let part = part_behind n payload in
        let long : length part ≡ 4054 = omega (arith, length_part n, fits) in
        let held : room_of (page_of (n + 1) part) ≡ part =
        subst (λ m. take m (drop 10 (page_of (n + 1) part)) ≡ part) long (part_in (n + 1) part (part_fills n lt)) in
        let next : 4054 * n + 4054 ≡ 4054 * suc n = omega arith in
        ap (λ l. l ++ take 4054 (drop (4096 * n + 10) pages)) (full n (omega (arith, le)) (omega (arith, fits)))
        ∙ ap (λ l. take (4054 * n) payload ++ l) (room_is n lt ∙ held)
        ∙ next_part n
        ∙ ap (λ m. take m payload) next

    held_upto : (n : ℕ) → n ≡ count → take (length payload) (held_in n pages) ≡ payload
    held_upto zero is =
        let none : length payload ≤ 0 = omega (arith, is, enough (length payload)) in
        let nothing : payload ≡ [] = sym (take_all 0 payload none) in
        ap (λ l. take (length l) []) nothing ∙ sym nothing
    held_upto (suc n) is =
        let lt : n < count = omega (arith, is) in
        let part = part_behind n payload in
        let room = take 4054 (drop (4096 * n + 10) pages) in
        let front = held_in n pages in
        let some : 4054 * n < length payload = below (length payload) n lt in
        let most : length payload ≤ 4054 * suc n = subst (λ m. length payload ≤ 4054 * m) (sym is) (enough (length payload)) in
        let front_is : front ≡ take (4054 * n) payload = full n (omega (arith, lt)) (omega (arith, some)) in
        let long : length front ≡ 4054 * n = omega (arith, ap length front_is, length-take (4054 * n) payload, some) in
        let size : length payload ≡ 4054 * n + length part = omega (arith, length_part n, some, most) in
        let split : take (4054 * n + length part) (front ++ room) ≡ front ++ take (length part) room =
        take-add (4054 * n) (length part) (front ++ room)
        ∙ ap (λ l. l ++ take (length part) (drop (4054 * n) (front ++ room))) (take_at front room (4054 * n) long)
        ∙ ap (λ l. front ++ take (length part) l) (drop_at front room (4054 * n) long) in
        ap (λ m. take m (front ++ room)) size
        ∙ split
        ∙ ap (λ l. front ++ l) (ap (λ l. take (length part) l) (room_is n lt) ∙ part_in_room (n + 1) part (part_fills n lt))
        ∙ ap (λ l. l ++ part) front_is
        ∙ next_part n
        ∙ take_all (4054 * n + 4054) payload (omega (arith, most))

    pub held_is : take (length payload) (held_in count pages) ≡ payload
    held_is = held_upto count refl
