-- This file shows that from a gate on a file has one row of records that lead on.
use Rattle.std.proofs.Common.{◌≡◌, ℕ, ◌+◌, suc, List, [], ◌∷◌, ◌++◌, length, drop, get_or}
use Rattle.std.proofs.Common.{refl, sym, ◌∙◌, ap, subst, add-zero}
use Rattle.std.proofs.lemmas.List.{take-append-drop, get_or-drop}
use Rattle.record_codec.specs.declared.record.Record.{Record}
use Rattle.record_codec.specs.Fitting.{IsRecord}
use Rattle.record_codec.specs.Spelling.{record_text}
use Rattle.record_codec.proofs.RecordLemmas.{one_record}
use Rattle.realm_journal.specs.Gates.{open_gate, IsWrittenAt, IsOpenAt, IsClosedAt}
use Rattle.realm_files.specs.Meaning.{Meaning}
use Rattle.realm_files.specs.Rows.{AreLed, LacksRecord}

-- what stands behind bytes that are written at a place
pub behind_written : (at : ℕ) (bytes file : List ℕ) → IsWrittenAt at bytes file
    → drop at file ≡ bytes ++ drop (length bytes) (drop at file)
behind_written at bytes file written =
    let rest = drop (length bytes) (drop at file) in
    sym (take-append-drop (length bytes) (drop at file)) ∙ ap (λ l. l ++ rest) written

-- the gate before a record is open
pub opens : (at : ℕ) (text file : List ℕ) → IsWrittenAt at (open_gate ∷ text) file → IsOpenAt at file
opens at text file written =
    ap (λ k. get_or file k 0) (sym (add-zero at)) ∙ sym (get_or-drop at file 0 0)
    ∙ ap (λ l. get_or l 0 0) (behind_written at (open_gate ∷ text) file written)

-- one record stands behind a gate
pub same_record : (at : ℕ) (r q : Record) (file : List ℕ) → IsRecord r → IsRecord q → IsWrittenAt at (open_gate ∷ record_text r) file
    → IsWrittenAt at (open_gate ∷ record_text q) file → r ≡ q
same_record at r q file is_r is_q one also =
    let x = drop (length (open_gate ∷ record_text r)) (drop at file) in
    let y = drop (length (open_gate ∷ record_text q)) (drop at file) in
    let both = sym (behind_written at (open_gate ∷ record_text r) file one) ∙ behind_written at (open_gate ∷ record_text q) file also in
    (one_record r q x y is_r is_q (ap (λ l. drop 1 l) both)).0

module _ {S : Type 0} (m : Meaning S) where
  -- behind a closed gate no record stands
  pub closed_lacks : (state : S) (at : ℕ) (file : List ℕ) → IsClosedAt at file → LacksRecord m state at file
  closed_lacks state at file closed = λ r after is leads written. closed (opens at (record_text r) file written)

  -- Where no record more leads on, the row of records ends. So two rows from one place on are one, where a record leads from
  -- a state to one.
  module _ (leads_once : (s a b : S) (r : Record) → m.leads s r a → m.leads s r b → a ≡ b) (file : List ℕ) where
    -- a row that has ended goes no further
    ended : {P : Type 0} (start s : S) (at n : ℕ) (r : Record) (mid : S) → s ≡ start → n ≡ at → LacksRecord m s n file
        → IsRecord r → m.leads start r mid → IsWrittenAt at (open_gate ∷ record_text r) file → P
    ended start s at n r mid same place lacks is leads written =
        absurd (lacks r mid is (subst (λ x. m.leads x r mid) (sym same) leads)
        (subst (λ k. IsWrittenAt k (open_gate ∷ record_text r) file) (sym place) written))

    pub one_row : (rs qs : List Record) (start s t : S) (at j k : ℕ) → AreLed m start rs at file s j → LacksRecord m s j file
        → AreLed m start qs at file t k → LacksRecord m t k file → (s ≡ t) × (j ≡ k) × (length rs ≡ length qs)
    one_row [] [] start s t at j k one lacks also lacks_too = (one.0 ∙ sym also.0, one.1 ∙ sym also.1, refl)
    one_row [] (q ∷ qs) start s t at j k one lacks (mid, is, leads, written, later) lacks_too =
        ended start s at j q mid one.0 one.1 lacks is leads written
    one_row (r ∷ rs) [] start s t at j k (mid, is, leads, written, later) lacks also lacks_too =
        ended start t at k r mid also.0 also.1 lacks_too is leads written
    one_row (r ∷ rs) (q ∷ qs) start s t at j k (mid, is, leads, written, later) lacks (mid', is', leads', written', later') lacks_too =
        let same : q ≡ r = sym (same_record at r q file is is' written written') in
        let at_one : mid' ≡ mid = leads_once start mid' mid r (subst (λ x. m.leads start x mid') same leads') leads in
        let on : AreLed m mid qs (at + 1 + length (record_text r)) file t k =
        subst (λ x. AreLed m mid qs (at + 1 + length (record_text x)) file t k) same
        (subst (λ x. AreLed m x qs (at + 1 + length (record_text q)) file t k) at_one later') in
        let (state, place, size) = one_row rs qs mid s t (at + 1 + length (record_text r)) j k later lacks on lacks_too in
        (state, place, ap (λ n. suc n) size)
