-- This file shows that entries are read exactly where their texts stand, and that lists of them fit in a record.
use Rattle.std.proofs.Common.{◌≡◌, ℕ, ◌+◌, ◌<◌, ◌≤◌, ◌^◌, List, [], ◌∷◌, ◌++◌, length, ap, sym, ◌∙◌, arith}
use Rattle.std.specs.List.{AllByRecursion, flat_map, sum_by}
use Rattle.std.proofs.lemmas.List.{length-append}
use Rattle.std.proofs.lemmas.List.Sums.{sum_by-cons, sum_by_push}
use Rattle.record_codec.specs.declared.entry.Entry.{Entry}
use Rattle.record_codec.specs.Spelling.{step, string, list, entry, entries_text}
use Rattle.record_codec.specs.Entries.{room_for, IsShort, AreEntries, HaveRoom}
use Rattle.record_codec.specs.Fitting.{IsChange, IsEntry}
use Rattle.record_codec.proofs.TraceLemmas.{steps_are_short}

-- ---- room

each-push : (entries : List Entry) (e : Entry) → AllByRecursion IsShort entries → IsShort e → AllByRecursion IsShort (entries ++ e ∷ [])
each-push [] e each is = (is, tt)
each-push (first ∷ entries) e each is = (each.0, each-push entries e each.1 is)

-- one entry more takes the room for its text
pub room-push : (entries : List Entry) (e : Entry) (room : ℕ) → HaveRoom entries room → IsShort e → room + room_for e < 2 ^ 63
    → HaveRoom (entries ++ e ∷ []) (room + room_for e)
room-push entries e room have short below =
    let all : sum_by room_for (entries ++ e ∷ []) ≡ room + room_for e =
    sum_by_push room_for entries e ∙ ap (λ (n : ℕ). n + room_for e) (sym have.room_is) in
    record {
      are = record { each = each-push entries e have.are.each short; fit = rw all below };
      room_is = sym all;
    }

-- an entry has room for its text, which is some
entry_has_room : (e : Entry) → (0 < length (entry e)) × (length (entry e) ≤ room_for e)
unfolding entry string list
entry_has_room e =
    let parts = length-append e.line (list step e.trace) in
    (omega (arith, parts), omega (arith, parts, steps_are_short e.trace))

-- so there is room for all their texts
entries_have_room : (entries : List Entry) → (length entries ≤ sum_by room_for entries)
    × (length (flat_map entry entries) ≤ sum_by room_for entries)
entries_have_room [] = (omega arith, omega arith)
entries_have_room (e ∷ entries) =
    let sum = sum_by-cons room_for e entries in
    let one = entry_has_room e in
    let more = entries_have_room entries in (
      omega (arith, sum, one.0, one.1, more.0),
      omega (arith, sum, one.1, more.1, length-append (entry e) (flat_map entry entries)),
    )

-- ---- entries of a record

are_short : (entries : List Entry) → AllByRecursion IsShort entries → AllByRecursion (λ e. IsChange e.line) entries
    → AllByRecursion IsEntry entries
are_short [] short changes = tt
are_short (e ∷ entries) short changes = (
  record {
    change = changes.0;
    line = short.0.line;
    steps = (omega (arith, short.0.trace.few), short.0.trace.each);
  },
  are_short entries short.1 changes.1,
)

-- an entry or more fit behind a number
pub text_fits : (number : ℕ) (entries : List Entry) → AreEntries entries → length (entries_text number entries) < 2 ^ 64
unfolding list
text_fits number [] are = omega arith
text_fits number (e ∷ []) are =
    omega (arith, (entry_has_room e).1, sum_by-cons room_for e [], are.fit)
text_fits number (e ∷ f ∷ entries) are = omega (arith, (entries_have_room (e ∷ f ∷ entries)).1, are.fit)

-- changes that fit are entries of a record
pub are_entries : (entries : List Entry) → AreEntries entries → AllByRecursion (λ e. IsChange e.line) entries
    → (length entries < 2 ^ 64) × AllByRecursion IsEntry entries
are_entries entries are changes =
    (omega (arith, (entries_have_room entries).0, are.fit), are_short entries are.each changes)
