-- This file shows that records depend on what stands before the next gate, and on that gate.
use Rattle.std.proofs.Common.{◌≡◌, ℕ, ◌+◌, ◌<◌, ◌≤◌, List, [], ◌∷◌, ◌++◌, length, take, drop, get_or}
use Rattle.std.proofs.Common.{refl, sym, ◌∙◌, ap, subst, arith, length-append, length-drop}
use Rattle.std.proofs.lemmas.List.{take-take, drop-take, take_at, get_or-drop, get_or_at}
use Rattle.record_codec.specs.declared.record.Record.{Record}
use Rattle.record_codec.specs.Fitting.{IsRecord}
use Rattle.record_codec.specs.Spelling.{record_text}
use Rattle.realm_journal.specs.Gates.{open_gate, closed_gate, IsWrittenAt, IsClosedAt, IsWholeAt}
use Rattle.realm_files.specs.Meaning.{Meaning}
use Rattle.realm_files.specs.Rows.{AreLed}

-- what stands between two places is decided by what stands up to the second
between : (at n : ℕ) (c : List ℕ) (end : ℕ) → at + n ≤ end → take n (drop at c) ≡ drop at (take (at + n) (take end c))
between at n c end upto = sym (drop-take at n c) ∙ ap (λ l. drop at l) (sym (take-take (at + n) end c upto))

pub same_between : (at n : ℕ) (c d : List ℕ) (end : ℕ) → at + n ≤ end → take end d ≡ take end c
    → take n (drop at d) ≡ take n (drop at c)
same_between at n c d end upto same =
    between at n d end upto ∙ ap (λ l. drop at (take (at + n) l)) same ∙ sym (between at n c end upto)

pub written_front : (at : ℕ) (bytes c d : List ℕ) (end : ℕ) → at + length bytes ≤ end → take end d ≡ take end c
    → IsWrittenAt at bytes c → IsWrittenAt at bytes d
written_front at bytes c d end upto same written = same_between at (length bytes) c d end upto same ∙ written

-- a text that stands whole is written there, and the gate behind it is closed
pub whole_written : (at : ℕ) (text c : List ℕ) → IsWholeAt at text c → IsWrittenAt at (open_gate ∷ text) c
whole_written at text c (rest, is) =
    ap (λ l. take (length (open_gate ∷ text)) l) is ∙ take_at (open_gate ∷ text) (closed_gate ∷ rest) (length (open_gate ∷ text)) refl

pub whole_closed : (at : ℕ) (text c : List ℕ) → IsWholeAt at text c → IsClosedAt (at + 1 + length text) c
whole_closed at text c (rest, is) =
    let place : at + 1 + length text ≡ at + (1 + length text) = omega arith in
    let gate : get_or c (at + 1 + length text) 0 ≡ closed_gate =
    ap (λ k. get_or c k 0) place ∙ sym (get_or-drop at c (1 + length text) 0) ∙ ap (λ l. get_or l (1 + length text) 0) is
    ∙ get_or_at (open_gate ∷ text) closed_gate rest 0 (1 + length text) (omega arith) in
    λ is_open. cc

-- the closed gate behind a whole text is within the file
pub whole_within : (at : ℕ) (text c : List ℕ) → IsWholeAt at text c → at + 1 + length text < length c
whole_within at text c (rest, is) = omega (arith, ap length is, length-drop at c, length-append text (closed_gate ∷ rest))

module _ {S : Type 0} (m : Meaning S) where
  pub led_reach : (start : S) (rs : List Record) (at : ℕ) (c : List ℕ) (end : S) (next : ℕ)
      → AreLed m start rs at c end next → at ≤ next
  led_reach start [] at c end next is = omega (arith, is.1)
  led_reach start (r ∷ rs) at c end next (mid, is, leads, written, later) =
      omega (arith, led_reach mid rs (at + 1 + length (record_text r)) c end next later)

  -- another file with the same front has the same records before the next gate
  pub led_front : (start : S) (rs : List Record) (at : ℕ) (c d : List ℕ) (end : S) (next : ℕ)
      → AreLed m start rs at c end next → take next d ≡ take next c → AreLed m start rs at d end next
  led_front start [] at c d end next led front = led
  led_front start (r ∷ rs) at c d end next (mid, is, leads, written, later) front =
      let reach = led_reach mid rs (at + 1 + length (record_text r)) c end next later in (
        mid,
        is,
        leads,
        written_front at (open_gate ∷ record_text r) c d next (omega (arith, reach)) front written,
        led_front mid rs (at + 1 + length (record_text r)) c d end next later front,
      )

  -- and one with a record more behind it has one more
  pub led_more : (start : S) (rs : List Record) (at : ℕ) (c d : List ℕ) (end : S) (next : ℕ) (r : Record) (last : S)
      → AreLed m start rs at c end next → take next d ≡ take next c → IsRecord r → m.leads end r last → IsWholeAt next (record_text r) d
      → AreLed m start (rs ++ r ∷ []) at d last (next + 1 + length (record_text r))
  led_more start [] at c d end next r last (same, is) front is_record leads_on whole =
      let text = record_text r in (
        last,
        is_record,
        subst (λ s. m.leads s r last) same leads_on,
        subst (λ k. IsWrittenAt k (open_gate ∷ text) d) is (whole_written next text d whole),
        (refl, ap (λ k. k + 1 + length text) is),
      )
  led_more start (q ∷ rs) at c d end next r last (mid, is, leads, written, later) front is_record leads_on whole =
      let reach = led_reach mid rs (at + 1 + length (record_text q)) c end next later in (
        mid,
        is,
        leads,
        written_front at (open_gate ∷ record_text q) c d next (omega (arith, reach)) front written,
        led_more mid rs (at + 1 + length (record_text q)) c d end next r last later front is_record leads_on whole,
      )
