-- This file shows what an image was before its last range was torn.
use Rattle.std.proofs.Common.{◌≡◌, ◌⊎◌, inl, inr, ⊎_elim, ℕ, ◌+◌, ◌<◌, ◌≤◌, Bool, true, false, ◌&&◌, cond}
use Rattle.std.proofs.Common.{List, [], ◌∷◌, length, take, drop, get_or, map, min, max, nat_le, nat_lt}
use Rattle.std.proofs.Common.{sym, ◌∙◌, ap, arith, length-drop}
use Rattle.std.proofs.lemmas.Bool.{cases_lt}
use Rattle.std.proofs.lemmas.Bool.Decides.{nat_tests}
use Rattle.std.proofs.lemmas.List.{get_or-take, get_or-drop, ext_get_or, length-take}
use Rattle.std.proofs.lemmas.List.FromFn.{get_or-map-range_with_len, length-map-range_with_len}
use Rattle.std.specs.List.{range_with_len}
use Rattle.outside_world.specs.Calls.{Torn}
use Rattle.outside_world.specs.Disk.{Range, IsPending, IsImageOf}
use Rattle.outside_world.specs.Files.{greatest_length, disk_of}
use Rattle.outside_world.specs.TornImages.{IsOutside}

-- two files that have the same bytes outside a range are torn from one another
torn_from_bytes : (at n : ℕ) (old new : List ℕ) → ((i : ℕ) → IsOutside at n i → i < length new → get_or new i 0 ≡ get_or old i 0)
    → length old ≤ length new → length new ≤ max (length old) (at + n) → min at (length new) ≡ min at (length old) → Torn at n old new
torn_from_bytes at n old new same no_shorter no_longer fronts = record {
  before = ext_get_or 0 (take at new) (take at old)
      (length-take at new ∙ fronts ∙ sym (length-take at old))
      (λ i within.
      let front : i < min at (length new) = omega (arith, within, length-take at new) in
      get_or-take at new i 0 (omega (arith, front)) ∙ same i (inl (omega (arith, front))) (omega (arith, front))
      ∙ sym (get_or-take at old i 0 (omega (arith, front))));
  after = ext_get_or 0 (drop (at + n) new) (drop (at + n) old)
      (omega (arith, length-drop (at + n) new, length-drop (at + n) old, no_shorter, no_longer))
      (λ i within.
      get_or-drop (at + n) new i 0
      ∙ same (at + n + i) (inr (omega arith)) (omega (arith, within, length-drop (at + n) new))
      ∙ sym (get_or-drop (at + n) old i 0));
  no_shorter = no_shorter;
  no_longer = no_longer;
}

-- a file was at least so long as at its last sync
pub reaches : (base : List ℕ) (pending : List Range) → length base ≤ greatest_length base pending
reaches base [] = omega arith
reaches base (range ∷ older) = omega (arith, reaches base older)

is_within : Range → ℕ → Bool
is_within range i = nat_le range.from i && nat_lt i (range.from + range.size)

-- a place is in a range or outside it
within_or_outside : (range : Range) (i : ℕ)
    → (is_within range i ≡ true) ⊎ ((is_within range i ≡ false) × IsOutside range.from range.size i)
unfolding is_within
within_or_outside range i =
    ⊎_elim
    (λ before. inr (grind (arith, nat_tests, before), inl before))
    (λ from. ⊎_elim
    (λ to. inl (grind (arith, nat_tests, from, to)))
    (λ behind. inr (grind (arith, nat_tests, behind), inr behind))
    (cases_lt i (range.from + range.size)))
    (cases_lt i range.from)

outside_range : (range : Range) (i : ℕ) → IsOutside range.from range.size i → is_within range i ≡ false
unfolding is_within
outside_range range i (inl before) = grind (arith, nat_tests, before)
outside_range range i (inr behind) = grind (arith, nat_tests, behind)

-- nor is it pending in it
pending_before : (range : Range) (older : List Range) (i : ℕ) → IsOutside range.from range.size i
    → ((range.from ≤ i) × (i < range.from + range.size)) ⊎ IsPending i older → IsPending i older
pending_before range older i (inl before) pending = ⊎_elim (λ here. absurd (omega (arith, here.0, before))) (λ p. p) pending
pending_before range older i (inr behind) pending = ⊎_elim (λ here. absurd (omega (arith, here.1, behind))) (λ p. p) pending

module _ (base : List ℕ) (range : Range) (older : List Range) (c : List ℕ) where
  -- the file before: in that range it held what it held at the last sync
  abbrev byte_before : ℕ → ℕ
  byte_before i = cond (is_within range i) (get_or base i 0) (get_or c i 0)

  abbrev length_before : ℕ
  length_before = min (length c) (greatest_length base older)

  before : List ℕ
  before = map byte_before (range_with_len 0 length_before)

  length-before : length before ≡ length_before
  unfolding before
  length-before = length-map-range_with_len byte_before 0 length_before

  get_or-before : (i : ℕ) → i < length_before → get_or before i 0 ≡ byte_before i
  unfolding before
  get_or-before i within = get_or-map-range_with_len byte_before 0 length_before i i 0 within (omega arith)

  inside_before : (i : ℕ) → i < length_before → is_within range i ≡ true → get_or before i 0 ≡ get_or base i 0
  inside_before i within inside = get_or-before i within ∙ ap (λ b. cond b (get_or base i 0) (get_or c i 0)) inside

  outside_before : (i : ℕ) → i < length_before → is_within range i ≡ false → get_or before i 0 ≡ get_or c i 0
  outside_before i within outside = get_or-before i within ∙ ap (λ b. cond b (get_or base i 0) (get_or c i 0)) outside

  module _ (begins : range.from ≤ greatest_length base older) (image : IsImageOf (disk_of base (range ∷ older)) c) where
    before_is_image : IsImageOf (disk_of base older) before
    before_is_image = record {
      no_shorter = omega (arith, length-before, image.no_shorter, reaches base older);
      no_longer = omega (arith, length-before);
      kept = λ i within.
          let there : i < length_before = omega (arith, within, image.no_shorter, reaches base older) in
          ⊎_elim
          (λ inside. inr (inside_before i there inside))
          (λ outside. ⊎_elim
          (λ pending. inl (pending_before range older i outside.1 pending))
          (λ same. inr (outside_before i there outside.0 ∙ same))
          (image.kept i within))
          (within_or_outside range i);
    }

    torn_from_before : Torn range.from range.size before c
    torn_from_before =
        torn_from_bytes range.from range.size before c
        (λ i outside within.
        let there : i < length_before = ⊎_elim
        (λ front. omega (arith, front, within, begins))
        (λ behind. omega (arith, behind, within, image.no_longer))
        outside in
        sym (outside_before i there (outside_range range i outside)))
        (omega (arith, length-before))
        (omega (arith, length-before, image.no_longer))
        (omega (arith, length-before, begins))

    -- each image comes of one before, where the range began within what the file had reached
    pub image_before : (d : List ℕ) × IsImageOf (disk_of base older) d × Torn range.from range.size d c
    image_before = (before, before_is_image, torn_from_before)

-- of a file that was synced a crash leaves just what it holds
pub synced_image : (base c : List ℕ) → IsImageOf (disk_of base []) c → c ≡ base
synced_image base c image =
    ext_get_or 0 c base (omega (arith, image.no_shorter, image.no_longer)) (λ i within.
    ⊎_elim (λ pending. absurd pending) (λ same. same) (image.kept i (omega (arith, within, image.no_longer))))
