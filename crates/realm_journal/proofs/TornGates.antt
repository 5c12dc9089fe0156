-- This file shows what torn writes leave of a file with a gate.
use Rattle.std.proofs.Common.{◌≡◌, ◌⊎◌, inl, inr, ℕ, ◌+◌, ◌-◌, ◌<◌, List, [], ◌∷◌, ◌++◌, length, take, drop, get_or}
use Rattle.std.proofs.Common.{sym, ◌∙◌, ap, arith, append_assoc, length-append, length-drop}
use Rattle.std.proofs.lemmas.Bool.{cases_eq}
use Rattle.std.proofs.lemmas.List.{get_or-take, take-take, take_all, drop_at, drop_more, length-take-le}
use Rattle.outside_world.specs.declared.world.FileName.{FileName}
use Rattle.outside_world.specs.View.{View}
use Rattle.outside_world.specs.Calls.{Torn, overwritten}
use Rattle.realm_journal.specs.Gates.{open_gate, closed_gate, HasClosedAt, IsWholeAt}
use Rattle.realm_journal.specs.Appending.{IsShut, IsPart}

-- a text with a closed gate after it
abbrev pub block_of : List ℕ → List ℕ
block_of text = text ++ closed_gate ∷ []

-- what stands up to a place, the place's byte too, decides the gate
same_gate : (at : ℕ) (c d : List ℕ) → take (at + 1) c ≡ take (at + 1) d → get_or c at 0 ≡ get_or d at 0
same_gate at c d same =
    sym (get_or-take (at + 1) c at 0 (omega arith)) ∙ ap (λ (l : List ℕ). get_or l at 0) same ∙ get_or-take (at + 1) d at 0 (omega arith)

same_front : (at : ℕ) (c d : List ℕ) → take (at + 1) c ≡ take (at + 1) d → take at c ≡ take at d
same_front at c d same =
    sym (take-take at (at + 1) c (omega arith)) ∙ ap (λ (l : List ℕ). take at l) same ∙ take-take at (at + 1) d (omega arith)

-- the text is written behind the gate, which stays closed
pub torn_behind : (old : View) (file : FileName) (at n : ℕ) (text c : List ℕ) → IsShut old file at
    → (d : List ℕ) × old.image file d × Torn (at + 1) n d c → IsPart old file at text c
torn_behind old file at n text c shut (d, could, torn) =
    let (within, closed) = shut d could in
    record {
      was = d;
      could = could;
      front = same_front at c d torn.before;
      gate = inl (omega (arith, within, torn.no_shorter), λ is_open. closed (sym (same_gate at c d torn.before) ∙ is_open));
    }

-- what was written whole stands behind the gate,
pub behind : (at : ℕ) (block old : List ℕ) → at < length old
    → drop (at + 1) (overwritten (at + 1) block old) ≡ block ++ drop (at + 1 + length block) old
behind at block old within =
    drop_at (take (at + 1) old) (block ++ drop (at + 1 + length block) old) (at + 1) (length-take-le (at + 1) old (omega arith))

-- and the gate is within the file
pub reaches : (at : ℕ) (block old : List ℕ) → at < length old → at < length (overwritten (at + 1) block old)
reaches at block old within =
    omega (arith, length-append (take (at + 1) old) (block ++ drop (at + 1 + length block) old), length-take-le (at + 1) old (omega arith))

-- a text and a closed gate behind an open one
pub whole : (at : ℕ) (text rest c : List ℕ) → drop at c ≡ open_gate ∷ (block_of text ++ rest) → IsWholeAt at text c
whole at text rest c is = (rest, is ∙ ap (λ (l : List ℕ). open_gate ∷ l) (append_assoc text (closed_gate ∷ []) rest))

either_way : (at : ℕ) (text rest c : List ℕ) → at < length c → drop (at + 1) c ≡ block_of text ++ rest
    → HasClosedAt at c ⊎ IsWholeAt at text c
either_way at text rest c within after = elim (cases_eq (get_or c at 0) open_gate) [
  | inl is ↦ inr (whole at text rest c
      (drop_more c at 0 within ∙ ap (λ (b : ℕ). b ∷ drop (at + 1) c) is ∙ ap (λ (l : List ℕ). open_gate ∷ l) after))
  | inr other ↦ inl (within, other)
]

-- the gate is opened: it is closed, or the text behind it counts
pub torn_gate : (old mid : View) (file : FileName) (at : ℕ) (text rest c r : List ℕ)
    → ((d : List ℕ) → mid.image file d → IsPart old file at text d) → ((d : List ℕ) → mid.image file d → d ≡ r)
    → at < length r → drop (at + 1) r ≡ block_of text ++ rest → (d : List ℕ) × mid.image file d × Torn at 1 d c
    → IsPart old file at text c
torn_gate old mid file at text rest c r part only within after (d, could, torn) =
    let before = part d could in
    let same : d ≡ r = only d could in
    let size : length d ≡ length r = ap length same in
    record {
      was = before.was;
      could = before.could;
      front = torn.before ∙ before.front;
      gate = either_way at text rest c (omega (arith, size, torn.no_shorter, within))
          (torn.after ∙ ap (λ (l : List ℕ). drop (at + 1) l) same ∙ after);
    }

pub open_whole : (at : ℕ) (text rest r : List ℕ) → at < length r → drop (at + 1) r ≡ block_of text ++ rest
    → IsWholeAt at text (overwritten at (open_gate ∷ []) r)
open_whole at text rest r within after =
    whole at text rest (overwritten at (open_gate ∷ []) r)
    (drop_at (take at r) ((open_gate ∷ []) ++ drop (at + 1) r) at (length-take-le at r (omega arith))
    ∙ ap (λ (l : List ℕ). open_gate ∷ l) after)

-- the two parts of a block
pub block_behind : (whole text : List ℕ) → whole ≡ open_gate ∷ block_of text → take (length whole - 1) (drop 1 whole) ≡ block_of text
block_behind whole text is =
    let rest : drop 1 whole ≡ block_of text = ap (λ l. drop 1 l) is in
    take_all (length whole - 1) (drop 1 whole) (omega (arith, length-drop 1 whole)) ∙ rest

pub block_front : (whole text : List ℕ) → whole ≡ open_gate ∷ block_of text → take 1 whole ≡ open_gate ∷ []
block_front whole text is = ap (λ l. take 1 l) is
