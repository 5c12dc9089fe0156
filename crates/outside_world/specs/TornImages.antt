-- Torn ranges and images, in the form in which a world owes its laws.
use Rattle.std.specs.Prelude.{◌≡◌, ◌⊎◌, ◌+◌, ◌-◌, ◌<◌, ◌≤◌, ℕ, List, [], ◌∷◌, ◌++◌, length, take, drop}
use Rattle.std.specs.Prelude.{max, slice_index_or, refl}
use Rattle.std.proofs.Common.{inl, inr, ⊎_elim, sym, subst, ap, ◌∙◌, append_assoc, length-append, length-drop}
use Rattle.std.proofs.Math.Nat.{le_refl, le_trans, add_assoc, add_comm, sub-add-eq-max, add-sub_of_le}
use Rattle.std.proofs.Math.Nat.{le-max_left, le-max_right, max-le}
use Rattle.std.proofs.lemmas.Bool.{cases_lt}
use Rattle.std.proofs.lemmas.List.{get_or-take, get_or-drop, take_at, drop_at, length-take-le}
use Rattle.outside_world.specs.Calls.{Torn, overwritten}
use Rattle.outside_world.specs.Disk.{Range, IsPending, IsImageOf}
use Rattle.outside_world.specs.Files.{disk_of}

-- how long a file is that was written to
pub length-overwritten : (at : ℕ) (bytes file : List ℕ) → at ≤ length file
    → length (overwritten at bytes file) ≡ max (length file) (at + length bytes)
length-overwritten at bytes file within =
    let rest = drop (at + length bytes) file in
    length-append (take at file) (bytes ++ rest)
    ∙ ap (λ k. k + length (bytes ++ rest)) (length-take-le at file within)
    ∙ ap (λ k. at + k) (length-append bytes rest)
    ∙ sym (add_assoc at (length bytes) (length rest))
    ∙ add_comm (at + length bytes) (length rest)
    ∙ ap (λ k. k + (at + length bytes)) (length-drop (at + length bytes) file)
    ∙ sub-add-eq-max (length file) (at + length bytes)

-- what was written is one of the things that a crash may leave
pub torn_overwritten : (at : ℕ) (bytes file : List ℕ) → at ≤ length file
    → Torn at (length bytes) file (overwritten at bytes file)
torn_overwritten at bytes file within =
    let front : length (take at file) ≡ at = length-take-le at file within in
    let rest = drop (at + length bytes) file in
    let size = length-overwritten at bytes file within in
    let most = max (length file) (at + length bytes) in
    let written : length (take at file ++ bytes) ≡ at + length bytes =
    length-append (take at file) bytes ∙ ap (λ k. k + length bytes) front in
    record {
      before = take_at (take at file) (bytes ++ rest) at front;
      after = ap (λ (l : List ℕ). drop (at + length bytes) l) (sym (append_assoc (take at file) bytes rest))
          ∙ drop_at (take at file ++ bytes) rest (at + length bytes) written;
      no_shorter = subst (λ k. length file ≤ k) (sym size) (le-max_left (length file) (at + length bytes));
      no_longer = subst (λ k. k ≤ most) (sym size) (le_refl most);
    }

-- and so is what was there before
pub torn_unwritten : (at n : ℕ) (file : List ℕ) → Torn at n file file
torn_unwritten at n file = record {
  before = refl;
  after = refl;
  no_shorter = le_refl (length file);
  no_longer = le-max_left (length file) (at + n);
}

-- a place outside a range
abbrev pub IsOutside : (at n i : ℕ) → Type 0
IsOutside at n i = (i < at) ⊎ (at + n ≤ i)

-- a torn range leaves the bytes outside it
pub torn_outside : {at n : ℕ} {old new : List ℕ} → Torn at n old new → (i : ℕ) → IsOutside at n i
    → slice_index_or new i 0 ≡ slice_index_or old i 0
torn_outside {at} {n} {old} {new} torn i (inl before) =
    sym (get_or-take at new i 0 before)
    ∙ ap (λ (l : List ℕ). slice_index_or l i 0) torn.before
    ∙ get_or-take at old i 0 before
torn_outside {at} {n} {old} {new} torn i (inr behind) =
    let k = i - (at + n) in
    let same : slice_index_or new (at + n + k) 0 ≡ slice_index_or old (at + n + k) 0 =
    sym (get_or-drop (at + n) new k 0)
    ∙ ap (λ (l : List ℕ). slice_index_or l k 0) torn.after
    ∙ get_or-drop (at + n) old k 0 in
    subst (λ j. slice_index_or new j 0 ≡ slice_index_or old j 0) (add-sub_of_le behind) same

-- at this place a byte is free, or as it was at the last sync
abbrev IsFreeOrSame : List ℕ → List Range → List ℕ → ℕ → Type 0
IsFreeOrSame base pending c i = IsPending i pending ⊎ (slice_index_or c i 0 ≡ slice_index_or base i 0)

-- where an image is torn once more, an image comes of it
pub torn_image : (base : List ℕ) (pending : List Range) (range : Range) (old new : List ℕ)
    → IsImageOf (disk_of base pending) old → Torn range.from range.size old new
    → IsImageOf (disk_of base (range ∷ pending)) new
torn_image base pending range old new image torn =
    let before = (disk_of base pending).greatest in
    let end = range.from + range.size in
    let earlier = le_trans image.no_longer (le-max_left before end) in
    let outside : (i : ℕ) → i < length base → IsOutside range.from range.size i
    → IsFreeOrSame base (range ∷ pending) new i =
    λ i within out.
    ⊎_elim (λ free. inl (inr free)) (λ same. inr (torn_outside torn i out ∙ same)) (image.kept i within) in
    record {
      no_shorter = le_trans image.no_shorter torn.no_shorter;
      no_longer = le_trans torn.no_longer (max-le earlier (le-max_right before end));
      kept = λ i within. ⊎_elim
          (λ front. outside i within (inl front))
          (λ from. ⊎_elim
          (λ to. inl (inl (from, to)))
          (λ behind. outside i within (inr behind))
          (cases_lt i end))
          (cases_lt i range.from);
    }

-- of a file that was synced a crash leaves what it holds
pub whole_image : (base : List ℕ) → IsImageOf (disk_of base []) base
whole_image base = record {
  no_shorter = le_refl (length base);
  no_longer = le_refl (length base);
  kept = λ i within. inr refl;
}
