-- This file shows how records are read one after another.
use Rattle.std.proofs.Common.{◌≡◌, ℕ, ◌+◌, ◌-◌, ◌^◌, ◌<◌, ◌≤◌, min, Bool, true, false, List, [], ◌∷◌, ◌++◌, length, take, drop, get_or}
use Rattle.std.proofs.Common.{refl, sym, ◌∙◌, ap, subst, arith, length-drop, length-append, ⊎_elim}
use Rattle.std.specs.Prelude.{IsTrue, Option, Some, None, IfSome}
use Rattle.std.proofs.lemmas.Bool.{cases_lt}
use Rattle.std.proofs.lemmas.List.{drop-drop, drop_more, get_or-drop, get_or_past, take_at, take_all}
use Rattle.record_codec.specs.declared.record.Record.{Record}
use Rattle.record_codec.specs.Fitting.{IsRecord, BeginsWith}
use Rattle.record_codec.specs.Spelling.{record_text}
use Rattle.realm_journal.specs.Gates.{open_gate, IsWrittenAt, IsOpenAt, IsClosedAt}
use Rattle.realm_journal.specs.Scanning.{IsScan, BeginsWithNone, IsRecordAt, Scans}

-- an open gate and a text behind it
gate_and_text : (at : ℕ) (text file : List ℕ) → at < length file → IsOpenAt at file → BeginsWith (drop (at + 1) file) text
    → IsWrittenAt at (open_gate ∷ text) file
gate_and_text at text file within opened (rest, is) =
    ap (λ l. take (length (open_gate ∷ text)) l)
    (drop_more file at 0 within ∙ ap (λ b. b ∷ drop (at + 1) file) opened ∙ ap (λ l. open_gate ∷ l) is)
    ∙ take_at (open_gate ∷ text) rest (length (open_gate ∷ text)) refl

-- one record more
scan_more : (file : List ℕ) (at : ℕ) (rs : List Record) (end : ℕ) (r : Record) → IsScan file at rs end → IsRecord r
    → IsWrittenAt end (open_gate ∷ record_text r) file → IsScan file at (rs ++ r ∷ []) (end + 1 + length (record_text r))
scan_more file at [] end r is is_record written =
    (is_record, subst (λ k. IsWrittenAt k (open_gate ∷ record_text r) file) is written, ap (λ k. k + 1 + length (record_text r)) is)
scan_more file at (q ∷ rs) end r (is_first, written_first, later) is_record written =
    (is_first, written_first, scan_more file (at + 1 + length (record_text q)) rs end r later is_record written)

-- a record behind an open gate is within the bytes
pub next_stands : (bytes : List ℕ) (at : ℕ) (r : Record) (size : ℕ) → at < length bytes → IsOpenAt at bytes → IsRecord r
    → size ≡ length (record_text r) → BeginsWith (drop (at + 1) bytes) (record_text r) → IsRecordAt bytes at r (at + 1 + size)
next_stands bytes at r size within opened is_record size_is (rest, is) = record {
  is_record = is_record;
  written = gate_and_text at (record_text r) bytes within opened (rest, is);
  end_is = ap (λ n. at + 1 + n) size_is;
  within = omega (arith, within, size_is, ap length is, length-drop (at + 1) bytes, length-append (record_text r) rest);
}

-- and is one more of a scan
pub scan_next : (bytes : List ℕ) (rs : List Record) (at : ℕ) (r : Record) (end : ℕ) → IsScan bytes 0 rs at → IsRecordAt bytes at r end
    → IsScan bytes 0 (rs ++ r ∷ []) end
scan_next bytes rs at r end so_far next =
    subst (λ k. IsScan bytes 0 (rs ++ r ∷ []) k) (sym next.end_is) (scan_more bytes 0 rs at r so_far next.is_record next.written)

-- the bytes of a file from a place on
written_behind : (file : List ℕ) (at k : ℕ) (bytes : List ℕ) → IsWrittenAt k bytes (drop at file) → IsWrittenAt (at + k) bytes file
written_behind file at k bytes written = ap (λ l. take (length bytes) l) (sym (drop-drop k at file)) ∙ written

scan_behind : (file : List ℕ) (at k : ℕ) (rs : List Record) (end : ℕ) → IsScan (drop at file) k rs end
    → IsScan file (at + k) rs (at + end)
scan_behind file at k [] end is = ap (λ j. at + j) is
scan_behind file at k (r ∷ rs) end (is_record, written, later) =
    let place : at + (k + 1 + length (record_text r)) ≡ at + k + 1 + length (record_text r) = omega arith in (
      is_record,
      written_behind file at k (open_gate ∷ record_text r) written,
      subst (λ j. IsScan file j rs (at + end)) place (scan_behind file at (k + 1 + length (record_text r)) rs end later),
    )

from_zero : (file bytes : List ℕ) (at : ℕ) (rs : List Record) (end : ℕ) → bytes ≡ drop at file → IsScan bytes 0 rs end
    → IsScan file at rs (at + end)
from_zero file bytes at rs end is so_far =
    let place : at + 0 ≡ at = omega arith in
    subst (λ j. IsScan file j rs (at + end)) place
    (scan_behind file at 0 rs end (subst (λ l. IsScan l 0 rs end) is so_far))

gate_behind : (file bytes : List ℕ) (at end : ℕ) → bytes ≡ drop at file → get_or file (at + end) 0 ≡ get_or bytes end 0
gate_behind file bytes at end is = sym (ap (λ l. get_or l end 0) is ∙ get_or-drop at file end 0)

-- the gate behind the records is closed,
pub scans_closed : (file bytes : List ℕ) (at : ℕ) (rs : List Record) (end : ℕ) → bytes ≡ drop at file → IsScan bytes 0 rs end
    → IsClosedAt end bytes → Scans file at rs (at + end) false
scans_closed file bytes at rs end is so_far closed = record {
  records = from_zero file bytes at rs end is so_far;
  ends = record {
    closed = λ _ opened. closed (sym (gate_behind file bytes at end is) ∙ opened);
    is_bad = λ no. absurd (cc);
  };
}

-- or it is open and no record stands behind it
pub scans_bad : (file bytes : List ℕ) (at : ℕ) (rs : List Record) (end : ℕ) → bytes ≡ drop at file → IsScan bytes 0 rs end
    → IsOpenAt end bytes → BeginsWithNone (drop (end + 1) bytes) → Scans file at rs (at + end) true
scans_bad file bytes at rs end is so_far opened none =
    let place : at + (end + 1) ≡ at + end + 1 = omega arith in
    let behind : drop (end + 1) bytes ≡ drop (at + end + 1) file =
    ap (λ l. drop (end + 1) l) is ∙ drop-drop (end + 1) at file ∙ ap (λ k. drop k file) place in
    record {
      records = from_zero file bytes at rs end is so_far;
      ends = record {
        closed = λ no. absurd (cc);
        is_bad = λ _. (gate_behind file bytes at end is ∙ opened, subst (λ l. BeginsWithNone l) behind none);
      };
    }

-- a place within the bytes of a file is told in 64 bits
pub place_told : (file bytes : List ℕ) (at end told : ℕ) → at < 2 ^ 64 → length file < 2 ^ 64 → bytes ≡ drop at file
    → end ≤ length bytes → told ≡ min (at + end) (2 ^ 64 - 1) → at + end ≡ told
place_told file bytes at end told fits short is within saturated =
    omega (arith, fits, short, within, saturated, ap length is, length-drop at file)

-- what is told of records and of their end is what was found
pub scans_as : {file : List ℕ} {at : ℕ} {list rs : List Record} {told end : ℕ} {bad : Bool} → list ≡ rs → end ≡ told
    → Scans file at rs end bad → Scans file at list told bad
scans_as {file} {at} {list} {end = end} {bad} same place scans =
    subst (λ k. Scans file at list k bad) place (subst (λ l. Scans file at l end bad) (sym same) scans)

-- a gate that isn't open within the bytes is closed
pub closed_unless : (bytes : List ℕ) (end : ℕ) (test : Bool) → ((end < length bytes) × IsOpenAt end bytes → IsTrue test)
    → test ≡ false → IsClosedAt end bytes
closed_unless bytes end test told is opened =
    ⊎_elim
    (λ within. let shown : IsTrue test = told (within, opened) in cc)
    (λ past. let none : get_or bytes end 0 ≡ 0 = get_or_past bytes end 0 past in cc)
    (cases_lt end (length bytes))

-- all that stands behind a gate
pub rest_of : (bytes : List ℕ) (k : ℕ) → take (length bytes - k) (drop k bytes) ≡ drop k bytes
rest_of bytes k = take_all (length bytes - k) (drop k bytes) (omega (arith, length-drop k bytes))

-- where none is found, none stands there
pub none_begins : (bytes rest : List ℕ) → rest ≡ bytes → (o : Option (Record × ℕ)) → o ≡ None
    → ((r : Record) → IsRecord r → BeginsWith rest (record_text r) → o ≡ Some (r, length (record_text r))) → BeginsWithNone bytes
none_begins bytes rest is o none only r is_record begins =
    let found : o ≡ Some (r, length (record_text r)) = only r is_record (subst (λ l. BeginsWith l (record_text r)) (sym is) begins) in
    cc

-- and what is found stands there
pub found_begins : (bytes rest : List ℕ) → rest ≡ bytes → (o : Option (Record × ℕ)) (r : Record) (size : ℕ) → o ≡ Some (r, size)
    → IfSome o (λ f. IsRecord f.0 × (f.1 ≡ length (record_text f.0)) × BeginsWith rest (record_text f.0))
    → IsRecord r × (size ≡ length (record_text r)) × BeginsWith bytes (record_text r)
found_begins bytes rest is o r size some found =
    subst (λ x. IfSome x (λ f. IsRecord f.0 × (f.1 ≡ length (record_text f.0)) × BeginsWith bytes (record_text f.0))) some
    (subst (λ l. IfSome o (λ f. IsRecord f.0 × (f.1 ≡ length (record_text f.0)) × BeginsWith l (record_text f.0))) is found)
