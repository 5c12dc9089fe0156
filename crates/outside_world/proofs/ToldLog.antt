-- This file shows what a log that has noted one call more tells of it.
use Rattle.std.proofs.Common.{◌≡◌, ℕ, ◌≤◌, List, length, take, drop, min, Ok}
use Rattle.std.proofs.Common.{sym, ap, ◌∙◌, subst, arith}
use Rattle.std.proofs.lemmas.List.{take_min, take_all}
use Rattle.outside_world.specs.declared.world.FileName.{FileName}
use Rattle.outside_world.specs.Calls.{LeavesAll, Took, Gave, Sized, Read, Wrote, Synced}
use Rattle.outside_world.specs.Events.{Taken, Given, Written, Flushed, Looked}
use Rattle.outside_world.specs.Log.{Log, first_of, now_of, with_event, log_view}
use Rattle.outside_world.proofs.ToldCalls as told

-- as much as is there and the buffer holds
pub take_both : (n : ℕ) (buf list : List ℕ) → n ≡ min (length buf) (length list) → take n list ≡ take (length buf) list
take_both n buf list size = ap (λ k. take k list) size ∙ take_min (length buf) list

module _ (old new : Log) where
  pub took_log : (n : ℕ) (buf : List ℕ) → n ≡ min (length buf) (length (log_view old).left) → take n buf ≡ take n (log_view old).left
      → new ≡ with_event old (Taken n) → Took (log_view old) (log_view new) buf (Ok n)
  took_log n buf size bytes noted =
      subst (λ l. Took (log_view old) (log_view l) buf (Ok n)) (sym noted)
      (told.took old.input (first_of old) old.calls n buf (λ none room. omega arith) bytes)

  pub gave_log : (bytes : List ℕ) → new ≡ with_event old (Given bytes) → Gave (log_view old) (log_view new) bytes (Ok (length bytes))
  gave_log bytes noted =
      subst (λ l. Gave (log_view old) (log_view l) bytes (Ok (length bytes))) (sym noted)
      (told.gave old.input (first_of old) old.calls (length bytes) bytes bytes (sym (take_all (length bytes) bytes (omega arith))))

  pub looked_log : new ≡ with_event old Looked → LeavesAll (log_view old) (log_view new)
  looked_log noted = subst (λ l. LeavesAll (log_view old) (log_view l)) (sym noted) (told.looked old.input (first_of old) old.calls)

  pub wrote_log : (file : FileName) (at : ℕ) (bytes : List ℕ) → at ≤ length (now_of old file)
      → new ≡ with_event old (Written file at bytes) → Wrote (log_view old) (log_view new) file at bytes (Ok tt)
  wrote_log file at bytes within noted =
      subst (λ l. Wrote (log_view old) (log_view l) file at bytes (Ok tt)) (sym noted)
      (told.wrote old.input (first_of old) old.calls file at bytes within)

  pub synced_log : (file : FileName) → new ≡ with_event old (Flushed file) → Synced (log_view old) (log_view new) file (Ok tt)
  synced_log file noted =
      subst (λ l. Synced (log_view old) (log_view l) file (Ok tt)) (sym noted) (told.synced old.input (first_of old) old.calls file)

  -- what is read after the note is what was there before
  pub sized_log : (file : FileName) (now : List ℕ) → now ≡ now_of new file → new ≡ with_event old Looked
      → Sized (log_view old) (log_view new) file (Ok (length now))
  sized_log file now is noted =
      let leaves = looked_log noted in
      record { leaves = leaves; size = ap length (is ∙ leaves.files.reads file) }

  pub read_log : (file : FileName) (at n : ℕ) (buf rest now : List ℕ) → rest ≡ drop at now → now ≡ now_of new file
      → n ≡ min (length buf) (length rest) → take n buf ≡ take n rest → new ≡ with_event old Looked
      → Read (log_view old) (log_view new) file at buf (Ok n)
  read_log file at n buf rest now behind is size bytes noted =
      let leaves = looked_log noted in
      let there = behind ∙ ap (λ l. drop at l) (is ∙ leaves.files.reads file) in
      record { leaves = leaves; bytes = bytes ∙ take_both n buf rest size ∙ ap (λ l. take (length buf) l) there }
