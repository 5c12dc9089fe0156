-- This file shows which files are images because others are.
use Rattle.std.proofs.Common.{◌≡◌, ◌≢◌, ◌⊎◌, inl, inr, ⊎_elim, ℕ, ◌+◌, ◌<◌, ◌≤◌, List, length, get_or, Result}
use Rattle.std.proofs.Common.{sym, ◌∙◌, ap, subst, arith}
use Rattle.std.proofs.lemmas.Bool.{cases_lt, cases_eq}
use Rattle.outside_world.specs.declared.world.FileName.{FileName}
use Rattle.outside_world.specs.declared.world.Failed.{Failed}
use Rattle.outside_world.specs.View.{View}
use Rattle.outside_world.specs.Calls.{Torn, Wrote}
use Rattle.outside_world.specs.TornImages.{IsOutside, torn_outside}
use Rattle.outside_world.specs.Disk.{Disk, IsImageOf, IsByteByByte, IsMixture}

-- what two images of a disk have in common holds of each mixture too
mixture_of_disk : {disk : Disk} {c d e : List ℕ} → IsImageOf disk c → IsImageOf disk d → IsMixture c d e → IsImageOf disk e
mixture_of_disk one other mixed = record {
  no_shorter = omega (arith, one.no_shorter, other.no_shorter, mixed.no_shorter);
  no_longer = omega (arith, one.no_longer, other.no_longer, mixed.no_longer);
  kept = λ i within. ⊎_elim
      (λ same. ⊎_elim (λ free. inl free) (λ is. inr (same.1 ∙ is)) (one.kept i within))
      (λ same. ⊎_elim (λ free. inl free) (λ is. inr (same.1 ∙ is)) (other.kept i within))
      (mixed.bytes i (omega (arith, within, one.no_shorter, other.no_shorter, mixed.no_shorter)));
}

-- any mixture of two images is an image
pub mixture_is_image : (v : View) (f : FileName) (c d e : List ℕ) → IsByteByByte v → v.image f c → v.image f d → IsMixture c d e
    → v.image f e
mixture_is_image v f c d e by_bytes one other mixed =
    let images = (by_bytes f).1 in
    (images e).1 (mixture_of_disk ((images c).0 one) ((images d).0 other) mixed)

module _ {disk : Disk} {at byte : ℕ} {reads d c : List ℕ} where
  -- a disk's image whose one byte was torn to what is read there, or to any byte behind what is read, is one of its images
  torn_byte_of_disk : IsImageOf disk reads → (get_or reads at 0 ≡ byte) ⊎ (length reads ≤ at) → IsImageOf disk d → Torn at 1 d c
      → at + 1 < length c → get_or c at 0 ≡ byte → IsImageOf disk c
  torn_byte_of_disk read stands was torn longer has = record {
    no_shorter = omega (arith, was.no_shorter, torn.no_shorter);
    no_longer = omega (arith, was.no_longer, torn.no_longer, longer);
    kept = λ i within.
        let outside = λ (out : IsOutside at 1 i).
        ⊎_elim (λ free. inl free) (λ same. inr (torn_outside torn i out ∙ same)) (was.kept i within) in
        ⊎_elim
        (λ front. outside (inl front))
        (λ from. ⊎_elim
        (λ to.
        let here : i ≡ at = omega (arith, from, to) in
        ⊎_elim
        (λ free. inl free)
        (λ same. ⊎_elim
        (λ there. inr (ap (λ k. get_or c k 0) here ∙ has ∙ sym there ∙ sym (ap (λ k. get_or reads k 0) here) ∙ same))
        (λ behind. absurd (omega (arith, behind, here, within, read.no_shorter)))
        stands)
        (read.kept i within))
        (λ behind. outside (inr behind))
        (cases_lt i (at + 1)))
        (cases_lt i at);
  }

-- After a write of one byte at a place where the file reads so already, or behind its end, each image has another byte
-- there, or ends with that byte or before it, or was an image before.
pub written_byte : (old : View) {new : View} {file : FileName} {at : ℕ} {bytes : List ℕ} {result : Result Unit Failed} (byte : ℕ)
    → IsByteByByte old → old.image file (old.reads file) → (get_or (old.reads file) at 0 ≡ byte) ⊎ (length (old.reads file) ≤ at)
    → length bytes ≡ 1 → Wrote old new file at bytes result
    → (c : List ℕ) → new.image file c → (get_or c at 0 ≢ byte) ⊎ ((length c ≤ at + 1) ⊎ old.image file c)
written_byte old {file = file} {at = at} byte by_bytes read stands one wrote c image =
    let images = (by_bytes file).1 in
    let was = wrote.images c image in
    let torn : Torn at 1 was.0 c = subst (λ n. Torn at n was.0 c) one was.2 in
    ⊎_elim
    (λ longer. ⊎_elim
    (λ has. inr (inr ((images c).1
    (torn_byte_of_disk ((images (old.reads file)).0 read) stands ((images was.0).0 was.1) torn longer has))))
    (λ other. inl other)
    (cases_eq (get_or c at 0) byte))
    (λ short. inr (inl short))
    (cases_lt (at + 1) (length c))
