-- This file shows which records bytes hold from a gate on.
use Rattle.std.proofs.Common.{◌≡◌, ℕ, zero, suc, ◌+◌, ◌<◌, ◌≤◌, Bool, true, false, List, [], ◌∷◌, ◌++◌, length, drop, get_or}
use Rattle.std.proofs.Common.{refl, sym, ◌∙◌, ap, subst, arith, length-drop, length-append, ⊎_elim}
use Rattle.std.specs.Prelude.{◌&&◌, ◌==◌, if◌then◌else◌, Option, Some, None, Result, Ok, Err}
use Rattle.std.specs.List.{AllByRecursion}
use Rattle.std.proofs.lemmas.Bool.{cases_lt, eqb-true}
use Rattle.std.proofs.lemmas.List.{drop-drop, drop_more, get_or-drop, get_or_past, take-append-drop, length-take}
use Rattle.line_grammar.specs.declared.command.Command.{Command}
use Rattle.line_grammar.specs.declared.command.Command.TheVariants as commands
use Rattle.line_grammar.specs.Forms.{command_at}
use Rattle.line_grammar.proofs.Refusals.{stops, spelled, no_command}
use Rattle.record_codec.specs.declared.entry.Entry.{Entry}
use Rattle.record_codec.specs.declared.record.Record.{Record}
use Rattle.record_codec.specs.Fitting.{IsChange, IsRecord}
use Rattle.record_codec.specs.Spelling.{record_text}
use Rattle.record_codec.specs.Reading.{record_at}
use Rattle.record_codec.proofs.Bytes.{IsBytes, IsBytes-drop, IsBytes-rest}
use Rattle.record_codec.proofs.ChangeLines.{asked}
use Rattle.record_codec.proofs.Codecs.{bind_some, passed}
use Rattle.record_codec.proofs.RecordLemmas.{record_codec, lines_of, found, read_again}
use Rattle.realm_journal.specs.Gates.{open_gate, IsOpenAt, IsClosedAt}
use Rattle.realm_journal.specs.Scanning.{IsScan, BeginsWithNone, IsRecordAt, IsNextAt, IsEnd}
use Rattle.realm_journal.specs.declared.records.NextRecord.{NextRecord}
use Rattle.realm_journal.specs.declared.records.NextRecord.TheVariants as next
use Rattle.realm_journal.specs.Handing.{is_asked, are_changes, next_at, and_then, held_within, held}

-- ---- the lines of a record

-- a line whose command asks for a change is the text of one,
change_read : (line : List ℕ) (read : Result Command ℕ) → command_at line ≡ read → is_asked read ≡ true → IsChange line
change_read line (Ok c) is asks =
    let told = spelled line c is in
    (asked line c told.spelled (λ d says. sym (told.alone d says))).0 asks
change_read line (Err left) is asks = absurd cc

-- and of the text of a change such a command is read
read_change : (line : List ℕ) (read : Result Command ℕ) → command_at line ≡ read → IsChange line → is_asked read ≡ true
read_change line (Ok c) is change =
    let told = spelled line c is in
    (asked line c told.spelled (λ d says. sym (told.alone d says))).1 change
read_change line (Err left) is change =
    absurd (no_command line left (stops line left is) (commands.Change change.0) (change.1, change.2))

both_hold : (a b : Bool) → (a && b) ≡ true → (a ≡ true) × (b ≡ true)
both_hold true b is = (refl, is)
both_hold false b is = absurd cc

lines_told : (entries : List Entry) → are_changes entries ≡ true → AllByRecursion (λ e. IsChange e.line) entries
lines_told [] are = tt
lines_told (e ∷ entries) are =
    let (first, later) = both_hold (is_asked (command_at e.line)) (are_changes entries) are in
    (change_read e.line (command_at e.line) refl first, lines_told entries later)

tell_lines : (entries : List Entry) → AllByRecursion (λ e. IsChange e.line) entries → are_changes entries ≡ true
tell_lines [] all = refl
tell_lines (e ∷ entries) all =
    ap (λ b. b && are_changes entries) (read_change e.line (command_at e.line) refl all.0) ∙ tell_lines entries all.1

-- ---- the record at the front

-- a record whose text is there is read,
next_again : (text rest : List ℕ) (r : Record) → IsRecord r → text ≡ record_text r → next_at (text ++ rest) ≡ Some (r, rest)
next_again text rest r is says =
    rw (read_again (text ++ rest) r is (rest, ap (λ t. t ++ rest) says), tell_lines r.entries (lines_of r.entries is.entries.1)) refl

-- what is read, and what is left
next_parts : (bytes : List ℕ) (r : Record) (rest : List ℕ) → next_at bytes ≡ Some (r, rest)
    → (record_at bytes ≡ Some (r, rest)) × (are_changes r.entries ≡ true)
next_parts bytes r rest e =
    let x = bind_some (record_at bytes) (λ a. if are_changes a.0.entries then Some a else None) (r, rest) e in
    let p = passed (are_changes x.0.0.entries) x.0 (r, rest) x.2 in (
      x.1 ∙ ap (λ (y : Record × List ℕ). Some y) p.1,
      subst (λ (y : Record × List ℕ). are_changes y.0.entries ≡ true) p.1 p.0,
    )

-- and none where no record's text is there
none_unless : (o : Option (Record × List ℕ)) → ((r : Record) (rest : List ℕ) → o ≡ Some (r, rest) → ⊥) → o ≡ None
none_unless None never = refl
none_unless (Some (r, rest)) never = absurd (never r rest refl)

next_none : (bytes : List ℕ) → IsBytes bytes → BeginsWithNone bytes → next_at bytes ≡ None
next_none bytes is_bytes none = none_unless (next_at bytes) (λ r rest e.
    let (read, are) = next_parts bytes r rest e in
    let told = found bytes r rest is_bytes read (lines_told r.entries are) in
    none r told.0 told.2)

-- ---- the bound

same_behind : (o : Option (Record × List ℕ)) (f g : List ℕ → List Record)
    → ((r : Record) (rest : List ℕ) → o ≡ Some (r, rest) → f rest ≡ g rest) → and_then o f ≡ and_then o g
same_behind None f g same = refl
same_behind (Some (r, rest)) f g same = ap (λ l. r ∷ l) (same r rest refl)

-- any bound will do that is no less than the length
held_enough : (n m : ℕ) (bytes : List ℕ) → IsBytes bytes → length bytes ≤ n → length bytes ≤ m → held_within n bytes ≡ held_within m bytes
held_enough zero zero bytes is_bytes below within = refl
held_enough zero (suc m) [] is_bytes below within = refl
held_enough (suc n) zero [] is_bytes below within = refl
held_enough (suc n) (suc m) [] is_bytes below within = refl
held_enough zero (suc m) (b ∷ bytes) is_bytes below within = absurd (omega (arith, below))
held_enough (suc n) zero (b ∷ bytes) is_bytes below within = absurd (omega (arith, within))
held_enough (suc n) (suc m) (b ∷ bytes) is_bytes below within =
    ap (λ l. if b == open_gate then l else []) (same_behind (next_at bytes) (held_within n) (held_within m) (λ r rest e.
    let taken = (record_codec.takes bytes r rest (IsBytes-rest b bytes is_bytes) (next_parts bytes r rest e).0).1 in
    let shorter = ap length taken.parts in
    held_enough n m rest taken.rest_is_bytes (omega (arith, below, shorter, length-append (record_text r) rest))
    (omega (arith, within, shorter, length-append (record_text r) rest))))

-- ---- gates

unless_open : (test : Bool) (l : List Record) → (test ≡ true → ⊥) → (if test then l else []) ≡ []
unless_open true l never = absurd (never refl)
unless_open false l never = refl

none_in_front : (n : ℕ) (bytes : List ℕ) → (get_or bytes 0 0 ≡ open_gate → ⊥) → held_within n bytes ≡ []
none_in_front zero bytes closed = refl
none_in_front (suc n) [] closed = refl
none_in_front (suc n) (b ∷ bytes) closed =
    unless_open (b == open_gate) (and_then (next_at bytes) (held_within n)) (λ is. closed (eqb-true b open_gate is))

open_within : (bytes : List ℕ) (at : ℕ) → IsOpenAt at bytes → at < length bytes
open_within bytes at opened =
    ⊎_elim
    (λ within. within)
    (λ past. let none : get_or bytes at 0 ≡ 0 = get_or_past bytes at 0 past in absurd cc)
    (cases_lt at (length bytes))

-- none is held at a closed gate,
pub held_closed : (bytes : List ℕ) (at : ℕ) → IsClosedAt at bytes → held (drop at bytes) ≡ []
unfolding held
held_closed bytes at closed =
    let place : at + 0 ≡ at = omega arith in
    none_in_front (length (drop at bytes)) (drop at bytes)
    (λ is. closed (sym (get_or-drop at bytes 0 0 ∙ ap (λ k. get_or bytes k 0) place) ∙ is))

-- nor at an open one without a record,
held_open : (n : ℕ) (bytes : List ℕ) (at : ℕ) → IsOpenAt at bytes
    → held_within (suc n) (drop at bytes) ≡ and_then (next_at (drop (at + 1) bytes)) (held_within n)
held_open n bytes at opened =
    ap (λ l. held_within (suc n) l) (drop_more bytes at 0 (open_within bytes at opened) ∙ ap (λ b. b ∷ drop (at + 1) bytes) opened)

bad_within : (n : ℕ) (bytes : List ℕ) (at : ℕ) → IsBytes bytes → IsOpenAt at bytes → BeginsWithNone (drop (at + 1) bytes)
    → held_within n (drop at bytes) ≡ []
bad_within zero bytes at is_bytes opened none = refl
bad_within (suc n) bytes at is_bytes opened none =
    held_open n bytes at opened
    ∙ ap (λ o. and_then o (held_within n)) (next_none (drop (at + 1) bytes) (IsBytes-drop (at + 1) bytes is_bytes) none)

pub held_bad : (bytes : List ℕ) (at : ℕ) → IsBytes bytes → IsOpenAt at bytes → BeginsWithNone (drop (at + 1) bytes)
    → held (drop at bytes) ≡ []
unfolding held
held_bad bytes at is_bytes opened none = bad_within (length (drop at bytes)) bytes at is_bytes opened none

-- and a record that stands there is the first of those that are held
record_within : (n : ℕ) (bytes : List ℕ) (at : ℕ) (r : Record) (end : ℕ) → IsRecordAt bytes at r end
    → held_within (suc n) (drop at bytes) ≡ r ∷ held_within n (drop end bytes)
record_within n bytes at r end there =
    let size = length (open_gate ∷ record_text r) in
    let rest = drop size (drop at bytes) in
    let front : drop at bytes ≡ open_gate ∷ (record_text r ++ rest) =
    sym (take-append-drop size (drop at bytes)) ∙ ap (λ t. t ++ rest) there.written in
    let place : at + size ≡ end = omega (arith, there.end_is) in
    let rest_is : rest ≡ drop end bytes = drop-drop size at bytes ∙ ap (λ k. drop k bytes) place in
    ap (λ l. held_within (suc n) l) front
    ∙ ap (λ o. and_then o (held_within n)) (next_again (record_text r) rest r there.is_record refl)
    ∙ ap (λ l. r ∷ held_within n l) rest_is

pub held_first : (bytes : List ℕ) (at : ℕ) (r : Record) (end : ℕ) → IsBytes bytes → IsRecordAt bytes at r end
    → held (drop at bytes) ≡ r ∷ held (drop end bytes)
unfolding held
held_first bytes at r end is_bytes there =
    let here = drop at bytes in
    let behind = drop end bytes in
    held_enough (length here) (suc (length bytes)) here (IsBytes-drop at bytes is_bytes) (omega arith)
    (omega (arith, length-drop at bytes))
    ∙ record_within (length bytes) bytes at r end there
    ∙ ap (λ l. r ∷ l) (held_enough (length bytes) (length behind) behind (IsBytes-drop end bytes is_bytes)
    (omega (arith, length-drop end bytes)) (omega arith))

-- ---- all of them

held_end : (bytes : List ℕ) (end : ℕ) (bad : Bool) → IsBytes bytes → IsEnd bytes end bad → held (drop end bytes) ≡ []
held_end bytes end false is_bytes ends = held_closed bytes end (ends.closed refl)
held_end bytes end true is_bytes ends =
    let (opened, none) = ends.is_bad refl in
    held_bad bytes end is_bytes opened none

-- those that are held are those of a scan
pub held_scan : (bytes : List ℕ) (at : ℕ) (list : List Record) (end : ℕ) (bad : Bool) → IsBytes bytes → IsScan bytes at list end
    → IsEnd bytes end bad → held (drop at bytes) ≡ list
held_scan bytes at [] end bad is_bytes is ends =
    subst (λ k. held (drop k bytes) ≡ []) is (held_end bytes end bad is_bytes ends)
held_scan bytes at (r ∷ more) end bad is_bytes (is_record, written, later) ends =
    let text = open_gate ∷ record_text r in
    let place = at + 1 + length (record_text r) in
    let there : IsRecordAt bytes at r place = record {
      is_record = is_record;
      written = written;
      end_is = refl;
      within = omega (arith, ap length written, length-take (length text) (drop at bytes), length-drop at bytes);
    } in
    held_first bytes at r place is_bytes there ∙ ap (λ l. r ∷ l) (held_scan bytes place more end bad is_bytes later ends)

-- ---- what is handed out

-- what stands at the next gate is what was found there
next_found : (bytes shown : List ℕ) (end : ℕ) (n m : NextRecord) → IsNextAt shown end n → n ≡ m → shown ≡ bytes → IsNextAt bytes end m
next_found bytes shown end n m stands is same =
    subst (λ l. IsNextAt l end m) same (subst (λ x. IsNextAt shown end x) is stands)

module _ (bytes shown : List ℕ) (self : List Record) (end : ℕ) (n : NextRecord) (stands : IsNextAt shown end n)
    (same : shown ≡ bytes) (seen : held (drop end bytes) ≡ self) where
  -- none is left,
  pub closed_handed : n ≡ next.Closed → self ≡ []
  closed_handed is = sym seen ∙ held_closed bytes end (next_found bytes shown end n next.Closed stands is same)

  pub bad_handed : IsBytes shown → n ≡ next.Bad → self ≡ []
  bad_handed are is =
      let there = next_found bytes shown end n next.Bad stands is same in
      sym seen ∙ held_bad bytes end (subst IsBytes same are) there.0 there.1

  -- or one was the first
  pub record_handed : (r : Record) (place : ℕ) → IsBytes shown → n ≡ next.Record r place → self ≡ r ∷ held (drop place bytes)
  record_handed r place are is =
      let there = next_found bytes shown end n (next.Record r place) stands is same in
      sym seen ∙ held_first bytes end r place (subst IsBytes same are) there
