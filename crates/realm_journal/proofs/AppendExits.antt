-- This file shows where an append may end, and what holds there.
use Rattle.std.proofs.Common.{◌≡◌, ℕ, ◌+◌, ◌<◌, List, [], ◌∷◌, ◌++◌, length, drop, inl, refl, sym, ◌∙◌, ap, subst, Result, Ok, Err}
use Rattle.std.specs.Prelude.{IsErr}
use Rattle.outside_world.specs.declared.world.FileName.{FileName}
use Rattle.outside_world.specs.declared.world.Failed.{Failed}
use Rattle.outside_world.specs.View.{View, IsStable}
use Rattle.outside_world.specs.Calls.{overwritten, Wrote, Synced}
use Rattle.outside_world.specs.Since.{WritesOnly}
use Rattle.outside_world.proofs.FileRuns.{writes_none, writes_write, writes_sync}
use Rattle.realm_journal.specs.Gates.{open_gate, IsWholeAt}
use Rattle.realm_journal.specs.declared.error.JournalError.{JournalError}
use Rattle.realm_journal.specs.Appending.{IsShut, IsPart, Appended}
use Rattle.realm_journal.proofs.StableFiles.{synced_stable}
use Rattle.realm_journal.proofs.TornGates.{block_of, torn_behind, behind, reaches, torn_gate, open_whole}

-- what is written is known in other words
pub wrote_as : {a b : View} {file : FileName} {at : ℕ} {bytes : List ℕ} {r : Result Unit Failed} (other : List ℕ)
    → bytes ≡ other → Wrote a b file at bytes r → Wrote a b file at other r
wrote_as {a} {b} {file} {at} {r = r} other is call = subst (λ (l : List ℕ). Wrote a b file at l r) is call

-- it ends with a fault of the disk,
not_ok : (n : ℕ) → IsErr {T = ℕ} {E = JournalError} (Ok n) → ⊥
not_ok n is = cc

pub appended_part : {old new : View} {file : FileName} {at : ℕ} {text : List ℕ} (r : Result ℕ JournalError) → IsErr r
    → WritesOnly old new file (IsPart old file at text) → Appended old new file at text r
appended_part (Ok n) no_error writes = absurd (not_ok n no_error)
appended_part (Err e) is_error writes = record { writes = writes; whole = tt; stable = tt }

-- or with the text whole
pub appended_whole : {old new : View} {file : FileName} {at : ℕ} {text : List ℕ} (n : ℕ)
    → WritesOnly old new file (IsPart old file at text) → ((c : List ℕ) → new.image file c → IsWholeAt at text c)
    → IsStable new file → Appended old new file at text (Ok n)
appended_whole n writes whole lasts = record { writes = writes; whole = whole; stable = lasts }

module _ (a b : View) (file : FileName) (at : ℕ) (text : List ℕ) (shut : IsShut a file at) where
  abbrev block : List ℕ
  block = block_of text

  abbrev Part : View → Type 0
  Part now = WritesOnly a now file (IsPart a file at text)

  -- nothing stands there yet
  at_start : Part a
  at_start = writes_none (λ c i. record { was = c; could = i; front = refl; gate = inl (shut c i) })

  -- the text is written
  pub behind_gate : (r : Result Unit Failed) → Wrote a b file (at + 1) block r → Part b
  behind_gate r call =
      writes_write at_start call (λ c i. torn_behind a file at (length block) text c shut (call.images c i))

  -- and synced
  pub behind_synced : (c : View) (r s : Result Unit Failed) → Wrote a b file (at + 1) block r → Synced b c file s → Part c
  behind_synced c r s call next = writes_sync (behind_gate r call) next

  module _ (current : a.image file (a.reads file)) (c d : View) (x y : Unit {0}) (call : Wrote a b file (at + 1) block (Ok x))
      (next : Synced b c file (Ok y)) where
    within : at < length (a.reads file)
    within = (shut (a.reads file) current).0

    abbrev rest : List ℕ
    rest = drop (at + 1 + length block) (a.reads file)

    stands : c.reads file ≡ overwritten (at + 1) block (a.reads file)
    stands = next.leaves.files.reads file ∙ call.written

    reach : at < length (c.reads file)
    reach = subst (λ (l : List ℕ). at < length l) (sym stands) (reaches at block (a.reads file) within)

    after : drop (at + 1) (c.reads file) ≡ block ++ rest
    after = ap (λ (l : List ℕ). drop (at + 1) l) stands ∙ behind at block (a.reads file) within

    -- the gate is opened
    pub gate_opened : (s : Result Unit Failed) → Wrote c d file at (open_gate ∷ []) s → Part d
    gate_opened s third =
        let so_far : Part c = behind_synced c (Ok x) (Ok y) call next in
        writes_write so_far third (λ e i. torn_gate a c file at text rest e (c.reads file) so_far.named (synced_stable next) reach after (third.images e i))

    -- and synced
    pub gate_synced : (e : View) (s t : Result Unit Failed) → Wrote c d file at (open_gate ∷ []) s → Synced d e file t → Part e
    gate_synced e s t third fourth = writes_sync (gate_opened s third) fourth

    pub gate_whole : (e : View) (s t : Unit {0}) → Wrote c d file at (open_gate ∷ []) (Ok s) → Synced d e file (Ok t)
        → (f : List ℕ) → e.image file f → IsWholeAt at text f
    gate_whole e s t third fourth f i =
        subst (λ (l : List ℕ). IsWholeAt at text l) (sym (fourth.stable f i ∙ third.written))
        (open_whole at text rest (c.reads file) reach after)
