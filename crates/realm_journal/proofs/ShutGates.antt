-- This file shows how a gate is shut.
use Rattle.std.proofs.Common.{◌≡◌, ◌⊎◌, inl, inr, ⊎_elim, ℕ, ◌+◌, ◌<◌, ◌≤◌, List, [], ◌∷◌, ◌++◌, length, take, drop, get_or}
use Rattle.std.proofs.Common.{refl, sym, ◌∙◌, ap, subst, arith, append_assoc, length-append}
use Rattle.std.proofs.lemmas.List.{length-take-le, take_at, drop_at, get_or_at}
use Rattle.std.specs.Prelude.{Result, Ok, Err, IsErr}
use Rattle.outside_world.specs.declared.world.FileName.{FileName}
use Rattle.outside_world.specs.declared.world.Failed.{Failed}
use Rattle.outside_world.specs.View.{View, IsStable}
use Rattle.outside_world.specs.Disk.{IsByteByByte}
use Rattle.outside_world.specs.Calls.{overwritten, Wrote, Synced}
use Rattle.outside_world.specs.Since.{WritesOnly}
use Rattle.outside_world.proofs.Mixtures.{written_byte}
use Rattle.outside_world.proofs.FileRuns.{writes_none, writes_write, writes_sync}
use Rattle.realm_journal.specs.declared.error.JournalError.{JournalError}
use Rattle.realm_journal.specs.Gates.{open_gate, closed_gate}
use Rattle.realm_journal.specs.Shutting.{NeedsShutting, IsShutting, Shut}
use Rattle.realm_journal.proofs.StableFiles.{synced_stable}

-- it ends with a fault of the disk
not_ok : (x : Unit {0}) → IsErr {T = Unit {0}} {E = JournalError} (Ok x) → ⊥
not_ok x is = cc

pub shut_part : {old new : View} {file : FileName} {at : ℕ} (r : Result Unit JournalError) → IsErr r
    → WritesOnly old new file (IsShutting old file at) → Shut old new file at r
shut_part (Ok x) no_error writes = absurd (not_ok x no_error)
shut_part (Err e) is_error writes = record { writes = writes; shut = tt; stable = tt; front = tt; behind = tt }

-- a closed gate that was written is the gate of the file,
gate_of : (at : ℕ) (file : List ℕ) → at ≤ length file → get_or (overwritten at (closed_gate ∷ []) file) at 0 ≡ closed_gate
gate_of at file within = get_or_at (take at file) closed_gate (drop (at + 1) file) 0 at (length-take-le at file within)

-- which reaches past it,
reach_of : (at : ℕ) (file : List ℕ) → at ≤ length file → at < length (overwritten at (closed_gate ∷ []) file)
reach_of at file within =
    omega (arith, length-append (take at file) ((closed_gate ∷ []) ++ drop (at + 1) file), length-take-le at file within)

-- and is as it was beside it
front_of : (at : ℕ) (file : List ℕ) → at ≤ length file → take at (overwritten at (closed_gate ∷ []) file) ≡ take at file
front_of at file within =
    take_at (take at file) ((closed_gate ∷ []) ++ drop (at + 1) file) at (length-take-le at file within)

behind_of : (at : ℕ) (file : List ℕ) → at ≤ length file
    → drop (at + 1) (overwritten at (closed_gate ∷ []) file) ≡ drop (at + 1) file
behind_of at file within =
    let front = take at file ++ closed_gate ∷ [] in
    let size : length front ≡ at + 1 = omega (arith, length-append (take at file) (closed_gate ∷ []), length-take-le at file within) in
    ap (λ l. drop (at + 1) l) (sym (append_assoc (take at file) (closed_gate ∷ []) (drop (at + 1) file)))
    ∙ drop_at front (drop (at + 1) file) (at + 1) size

-- nothing was written yet
nothing : {a : View} {file : FileName} {at : ℕ} → WritesOnly a a file (IsShutting a file at)
nothing = writes_none (λ c i. inl i)

-- an open gate stands there, or the file ends before it
may_open : (at : ℕ) (file : List ℕ) → NeedsShutting at file → (get_or file at 0 ≡ open_gate) ⊎ (length file ≤ at)
may_open at file (inl missing) = inr (omega (arith, missing))
may_open at file (inr opened) = inl opened

module _ {a b : View} {file : FileName} {at : ℕ} (by_bytes : IsByteByByte a) (current : a.image file (a.reads file))
    (needed : NeedsShutting at (a.reads file)) where
  -- the gate lets nothing count that couldn't before
  shutting : {r : Result Unit Failed} → Wrote a b file at (closed_gate ∷ []) r → (c : List ℕ) → b.image file c → IsShutting a file at c
  shutting call c i =
      let (was, could, torn) = call.images c i in
      ⊎_elim
      (λ closed. inr (record { was = was; could = could; front = torn.before; gate = inl closed }))
      (λ other. ⊎_elim
      (λ short. inr (record { was = was; could = could; front = torn.before; gate = inr (omega (arith, short)) }))
      (λ before. inl before)
      other)
      (written_byte a open_gate by_bytes current (may_open at (a.reads file) needed) refl call c i)

  -- the gate is written,
  pub shut_written : {r : Result Unit Failed} → Wrote a b file at (closed_gate ∷ []) r → WritesOnly a b file (IsShutting a file at)
  shut_written call = writes_write nothing call (shutting call)

  -- and synced
  pub shut_synced : {c : View} {r s : Result Unit Failed} → Wrote a b file at (closed_gate ∷ []) r → Synced b c file s
      → WritesOnly a c file (IsShutting a file at)
  shut_synced call next = writes_sync (shut_written call) next

  pub shut_whole : {c : View} {x y z : Unit {0}} → at ≤ length (a.reads file) → Wrote a b file at (closed_gate ∷ []) (Ok x)
      → Synced b c file (Ok y) → Shut a c file at (Ok z)
  shut_whole {c} within call next =
      let reads : c.reads file ≡ overwritten at (closed_gate ∷ []) (a.reads file) = next.leaves.files.reads file ∙ call.written in
      let lasts : IsStable c file = synced_stable next in
      record {
        writes = shut_synced call next;
        shut = λ e i.
            let is : e ≡ overwritten at (closed_gate ∷ []) (a.reads file) = lasts e i ∙ reads in (
              subst (λ (l : List ℕ). at < length l) (sym is) (reach_of at (a.reads file) within),
              λ is_open.
                  let gate : get_or e at 0 ≡ closed_gate = ap (λ l. get_or l at 0) is ∙ gate_of at (a.reads file) within in
                  cc,
            );
        stable = lasts;
        front = ap (λ l. take at l) reads ∙ front_of at (a.reads file) within;
        behind = ap (λ l. drop (at + 1) l) reads ∙ behind_of at (a.reads file) within;
      }
