-- This file shows that bodies of records are read exactly where their texts stand.
use Rattle.std.proofs.Common.{◌≡◌, ℕ, ◌<◌, ◌≤◌, ◌^◌, Bool, true, false, cond, eqb, nat_lt, nat_le, List, [], ◌∷◌, ◌++◌, length, Some, refl}
use Rattle.std.proofs.Common.{ap, subst, ◌∙◌, append_assoc, arith}
use Rattle.std.specs.Int.{w32, w64, to_be_bytes}
use Rattle.std.specs.List.{AllByRecursion}
use Rattle.std.proofs.lemmas.Grind.{common_steps}
use Rattle.std.proofs.lemmas.Bool.{eqb-true}
use Rattle.grid_base.specs.declared.kinds.Step.{Step}
use Rattle.record_codec.specs.declared.entry.Entry.{Entry}
use Rattle.record_codec.specs.declared.record.Record.{Record}
use Rattle.record_codec.specs.Spelling.{string, list, entry, entries_text, body}
use Rattle.record_codec.specs.Traces.{IsStep}
use Rattle.record_codec.specs.Fitting.{IsList}
use Rattle.record_codec.specs.Reading.{number_at, line_at, entry_at, group_at, single_at, body_at}
use Rattle.record_codec.proofs.Bytes.{IsBytes, Takes, Takes-then, four_bytes, eight_bytes}
use Rattle.record_codec.proofs.Codecs.{IsCodec, bind_some, some_is, both_codec, made_codec, tested_codec, renamed_codec}
use Rattle.record_codec.proofs.Codecs.{number_codec, string_codec, list_codec}
use Rattle.record_codec.proofs.StepLemmas.{step_codec}

-- ---- entries

pub line_codec : IsCodec (λ line. length line ≤ 1048576) (string w32) line_at
unfolding line_at
line_codec = renamed_codec (λ line. length line ≤ 1048576) (λ line has. grind (arith, common_steps, has.1))
    (λ line short. (omega (arith, short), grind (arith, common_steps, short)))
    (tested_codec (λ line. nat_le (length line) 1048576) (string_codec w32 (2 ^ 32) four_bytes))

-- an entry whose line may be no change
pub record IsFramedEntry (e : Entry) : Type 0 where
  pub line : length e.line ≤ 1048576
  pub steps : IsList IsStep e.trace

pub entry_codec : IsCodec IsFramedEntry entry entry_at
unfolding entry entry_at
entry_codec = renamed_codec IsFramedEntry (λ e has. record { line = has.0; steps = has.1 }) (λ e is. (is.line, is.steps))
    (made_codec (λ (x : List ℕ × List Step). record { line = x.0; trace = x.1 }) (λ e. (e.line, e.trace)) (λ e. refl) (λ x. refl)
    (both_codec line_codec (list_codec step_codec)))

pub short_lines : (entries : List Entry) → AllByRecursion IsFramedEntry entries → AllByRecursion (λ e. length e.line ≤ 1048576) entries
short_lines [] framed = tt
short_lines (e ∷ entries) framed = (framed.0.line, short_lines entries framed.1)

-- ---- groups

-- a record whose lines may be no changes, and whose length may not fit
pub record IsBody (r : Record) : Type 0 where
  pub from_one : 0 < r.number
  pub number : r.number < 2 ^ 64
  pub some : 0 < length r.entries
  pub entries : IsList IsFramedEntry r.entries

-- the body of a group behind its 0
group_text : Record → List ℕ
group_text r = to_be_bytes w64 r.number ++ list entry r.entries

group_codec : IsCodec (λ r. IsBody r × (1 < length r.entries)) group_text group_at
unfolding group_text group_at
group_codec =
    renamed_codec (λ r. IsBody r × (1 < length r.entries))
    (λ r has.
    let several : 1 < length r.entries = grind (arith, common_steps, has.1) in (
      record {
        from_one = grind (arith, common_steps, has.0.0.1);
        number = has.0.0.0;
        some = omega (arith, several);
        entries = has.0.1;
      },
      several,
    ))
    (λ r is. (((is.0.number, grind (arith, common_steps, is.0.from_one)), is.0.entries), grind (arith, common_steps, is.1)))
    (tested_codec (λ r. nat_lt 1 (length r.entries))
    (made_codec (λ (x : ℕ × List Entry). record { number = x.0; entries = x.1 }) (λ r. (r.number, r.entries)) (λ r. refl) (λ x. refl)
    (both_codec (tested_codec (nat_lt 0) (number_codec w64 (2 ^ 64) eight_bytes)) (list_codec entry_codec))))

-- two entries or more stand behind a 0
pub group_spelled : (number : ℕ) (entries : List Entry) → 1 < length entries
    → to_be_bytes w64 0 ++ (to_be_bytes w64 number ++ list entry entries) ≡ entries_text number entries
group_spelled number [] several = absurd (grind (arith, several))
group_spelled number (e ∷ []) several = absurd (grind (arith, several))
group_spelled number (e ∷ f ∷ entries) several = refl

-- ---- bodies

-- what stands behind the first number: a group, or one change
by_number : (bytes : List ℕ) (n : ℕ × List ℕ) (is_zero : Bool) (r : Record) (rest : List ℕ) → eqb n.0 0 ≡ is_zero
    → (n.0 < 2 ^ 64) × Takes bytes (to_be_bytes w64 n.0) n.1
    → cond is_zero (group_at n.1) (single_at n.0 n.1) ≡ Some (r, rest) → IsBody r × Takes bytes (body r) rest
unfolding body group_text
by_number bytes n true r rest is front e =
    let zero_is : n.0 ≡ 0 = eqb-true n.0 0 is in
    let t = group_codec.takes n.1 r rest front.1.rest_is_bytes e in
    let all = Takes-then bytes (to_be_bytes w64 n.0) n.1 (group_text r) rest front.1 t.1 in (
      t.0.0,
      subst (λ (text : List ℕ). Takes bytes text rest) (group_spelled r.number r.entries t.0.1)
          (subst (λ (k : ℕ). Takes bytes (to_be_bytes w64 k ++ group_text r) rest) zero_is all),
    )
by_number bytes n false r rest is front e =
    let a = bind_some (entry_at n.1) (λ a. Some (record { number = n.0; entries = a.0 ∷ [] }, a.1)) (r, rest) e in
    let t = entry_codec.takes n.1 a.0.0 a.0.1 front.1.rest_is_bytes a.1 in
    let all = Takes-then bytes (to_be_bytes w64 n.0) n.1 (entry a.0.0) a.0.1 front.1 t.1 in
    let read : IsBody (record { number = n.0; entries = a.0.0 ∷ [] }) = record {
      from_one = grind (arith, common_steps, is);
      number = front.0;
      some = omega arith;
      entries = (omega arith, (t.0, tt));
    } in
    subst (λ (y : Record × List ℕ). IsBody y.0 × Takes bytes (body y.0) y.1)
    (some_is (record { number = n.0; entries = a.0.0 ∷ [] }, a.0.1) (r, rest) a.2) (read, all)

body_takes : (bytes : List ℕ) (r : Record) (rest : List ℕ) → IsBytes bytes → body_at bytes ≡ Some (r, rest)
    → IsBody r × Takes bytes (body r) rest
unfolding body_at
body_takes bytes r rest is_bytes e =
    let n = bind_some (number_at w64 bytes) (λ n. cond (eqb n.0 0) (group_at n.1) (single_at n.0 n.1)) (r, rest) e in
    by_number bytes n.0 (eqb n.0.0 0) r rest refl ((number_codec w64 (2 ^ 64) eight_bytes).takes bytes n.0.0 n.0.1 is_bytes n.1) n.2

-- what is written is read: one change behind its number, and a group behind a 0
again_by_entries : (number : ℕ) (entries : List Entry) (rest : List ℕ) → IsBody (record { number = number; entries = entries })
    → body_at (entries_text number entries ++ rest) ≡ Some (record { number = number; entries = entries }, rest)
unfolding body_at group_text
again_by_entries number [] rest is = absurd (grind (arith, is.some))
again_by_entries number (e ∷ []) rest is =
    let some : eqb number 0 ≡ false = grind (arith, common_steps, is.from_one) in
    ap body_at (append_assoc (to_be_bytes w64 number) (entry e) rest)
    ∙ rw (
      (number_codec w64 (2 ^ 64) eight_bytes).again number (entry e ++ rest) is.number,
      some,
      entry_codec.again e rest is.entries.1.0,
    ) refl
again_by_entries number (e ∷ f ∷ entries) rest is =
    let r : Record = record { number = number; entries = e ∷ f ∷ entries } in
    ap body_at (append_assoc (to_be_bytes w64 0) (group_text r) rest)
    ∙ rw (
      (number_codec w64 (2 ^ 64) eight_bytes).again 0 (group_text r ++ rest) (omega arith),
      group_codec.again r rest (is, omega arith),
    ) refl

body_again : (r : Record) (rest : List ℕ) → IsBody r → body_at (body r ++ rest) ≡ Some (r, rest)
unfolding body
body_again r rest is = again_by_entries r.number r.entries rest is

pub body_codec : IsCodec IsBody body body_at
body_codec = record { takes = body_takes; again = body_again }
