-- This file shows what pages hold that are read one after another.
use Rattle.std.proofs.Common.{◌≡◌, ℕ, ◌+◌, ◌-◌, ◌*◌, ◌<◌, ◌≤◌, List, take, drop, ◌∙◌, ap, subst, arith}
use Rattle.std.proofs.lemmas.List.{drop-drop, drop-take, take-take}
use Rattle.outside_world.specs.declared.world.FileName.{FileName}
use Rattle.realm_pages.specs.Files.{page_at, HoldsFirst}
use Rattle.realm_pages.specs.Damages.{IsPageFault, HasPageFault}
use Rattle.realm_pages.specs.ReadingPages.{IsPieceOf}
use Rattle.realm_pages.specs.declared.damage.Damage.{Damage}

-- the pages of a piece are those of the file
pub page_of_piece : (whole piece : List ℕ) (before count k : ℕ) → IsPieceOf whole before count piece → k < count
    → take 4096 (drop (4096 * k) piece) ≡ page_at (before + k + 1) whole
page_of_piece whole piece before count k is lt =
    let rest = drop (4096 * (before + 1)) whole in
    let more = 4096 * (count - k) in
    let split : 4096 * count ≡ 4096 * k + more = omega (arith, lt) in
    let place : 4096 * (before + 1) + 4096 * k ≡ 4096 * (before + k + 1) = omega arith in
    ap (λ l. take 4096 (drop (4096 * k) l)) (is ∙ ap (λ m. take m rest) split)
    ∙ ap (λ l. take 4096 l) (drop-take (4096 * k) more rest)
    ∙ take-take 4096 more (drop (4096 * k) rest) (omega (arith, lt))
    ∙ ap (λ l. take 4096 l) (drop-drop (4096 * k) (4096 * (before + 1)) whole ∙ ap (λ m. drop m whole) place)

-- the page behind those that were taken is at fault
pub fault_at : (file : FileName) (whole piece page bytes : List ℕ) (size before count k : ℕ) (damage : Damage)
    → IsPieceOf whole before count piece → k < count → page ≡ take 4096 (drop (4096 * k) piece)
    → HoldsFirst whole size (before + k) bytes → IsPageFault file size (before + k) page damage
    → HasPageFault file whole size (before + count) damage
fault_at file whole piece page bytes size before count k damage is lt page_is hold fault = record {
  before = before + k;
  within = omega (arith, lt);
  bytes = bytes;
  hold = hold;
  fault = subst (λ (l : List ℕ). IsPageFault file size (before + k) l damage)
      (page_is ∙ page_of_piece whole piece before count k is lt) fault;
}

-- and so it is one of more pages
pub fault_upto : {file : FileName} {whole : List ℕ} {size n m : ℕ} {damage : Damage} → n ≤ m → HasPageFault file whole size n damage
    → HasPageFault file whole size m damage
fault_upto le fault = record {
  before = fault.before;
  within = omega (arith, fault.within, le);
  bytes = fault.bytes;
  hold = fault.hold;
  fault = fault.fault;
}
