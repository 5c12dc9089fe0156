-- This file shows how a chunk of the input is fed line by line.
use Rattle.std.proofs.Common.{◌≡◌, ℕ, ◌+◌, ◌<◌, List, [], ◌∷◌, ◌++◌, length, take, drop, get_or}
use Rattle.std.proofs.Common.{sym, ◌∙◌, ap, subst, append_assoc}
use Rattle.std.proofs.lemmas.List.{append-nil}
use Rattle.outside_world.specs.View.{View}
use Rattle.rose_shell.specs.declared.fault.Fault.{Fault}
use Rattle.rose_shell.specs.declared.fault.Fault.TheVariants as faults
use Rattle.rose_shell.specs.declared.waiting.Waiting.{Waiting}
use Rattle.rose_shell.specs.Lines.{lines_from, part_from}
use Rattle.rose_shell.specs.Desk.{Terms, AllRestBy}
use Rattle.rose_shell.specs.Loop.{IsWaiting, Went, Stopped}
use Rattle.rose_shell.proofs.Cuts.{HasNoFeed, lines_from-append, part_from-append, lines_from-no_feed, part_from-no_feed}
use Rattle.rose_shell.proofs.Cuts.{lines_from-line, split_at_feed}
use Rattle.rose_shell.proofs.Runs.{went_none, went_then, stopped_behind, stopped_more, stopped_then}

-- the chunk, cut behind the next line feed
pub cut_at_feed : {chunk behind : List ℕ} (done rest : List ℕ) (n : ℕ) → chunk ≡ done ++ rest → n < length rest
    → get_or rest n 0 ≡ 10 → behind ≡ drop (n + 1) rest → chunk ≡ (done ++ (take n rest ++ 10 ∷ [])) ++ behind
cut_at_feed {behind = behind} done rest n split lt is rest_is =
    let line = take n rest ++ 10 ∷ [] in
    split ∙ ap (λ (l : List ℕ). done ++ l) (split_at_feed rest n lt is ∙ ap (λ (l : List ℕ). line ++ l) (sym rest_is))
    ∙ sym (append_assoc done line behind)

-- nothing of what is left ends a line
pub lines_at_end : {chunk : List ℕ} (part done rest : List ℕ) → chunk ≡ done ++ rest → HasNoFeed rest
    → lines_from part chunk ≡ lines_from part done
lines_at_end part done rest split none =
    ap (λ (l : List ℕ). lines_from part l) split ∙ lines_from-append part done rest
    ∙ ap (λ (ls : List (List ℕ)). lines_from part done ++ ls) (lines_from-no_feed (part_from part done) rest none)
    ∙ append-nil (lines_from part done)

pub part_at_end : {chunk : List ℕ} (part done rest : List ℕ) → chunk ≡ done ++ rest → HasNoFeed rest
    → part_from part chunk ≡ part_from part done ++ rest
part_at_end part done rest split none =
    ap (λ (l : List ℕ). part_from part l) split ∙ part_from-append part done rest
    ∙ part_from-no_feed (part_from part done) rest none

module _ {S : Type 0} {terms : Terms S} (held : List (List ℕ)) where
  -- before the first line
  pub nothing_heard : {v : View} {s : S} {waiting : Waiting} (part : List ℕ) → AllRestBy terms v s → IsWaiting waiting held
      → Went terms ⊥ v v s s (held ++ lines_from part []) waiting
  nothing_heard {v} {s} {waiting} part rest waits =
      subst (λ (ls : List (List ℕ)). Went terms ⊥ v v s s ls waiting) (sym (append-nil held)) (went_none rest waits)

  -- one line more is heard
  pub went_line : {old mid new : View} {start between end : S} {before after : Waiting} (part done line : List ℕ) → HasNoFeed line
      → (first : Went terms ⊥ old mid start between (held ++ lines_from part done) before)
      → Went terms ⊥ mid new between end (first.held ++ (part_from part done ++ line) ∷ []) after
      → Went terms ⊥ old new start end (held ++ lines_from part (done ++ (line ++ 10 ∷ []))) after
  went_line {old} {new = new} {start} {end = end} {after = after} part done line none first second =
      let one = (part_from part done ++ line) ∷ [] in
      let lines : (held ++ lines_from part done) ++ one ≡ held ++ lines_from part (done ++ (line ++ 10 ∷ [])) =
      append_assoc held (lines_from part done) one
      ∙ ap (λ (ls : List (List ℕ)). held ++ ls) (sym (lines_from-line part done line none)) in
      subst (λ (ls : List (List ℕ)). Went terms ⊥ old new start end ls after) lines (went_then one first second)

  -- or halts the run, and what is left isn't read
  pub stopped_line : {old mid new : View} {start between end : S} {before : Waiting} {chunk : List ℕ} {fault : Fault}
      (part done line rest : List ℕ) → HasNoFeed line → chunk ≡ (done ++ (line ++ 10 ∷ [])) ++ rest
      → (first : Went terms ⊥ old mid start between (held ++ lines_from part done) before)
      → Stopped terms ⊥ mid new between end (first.held ++ (part_from part done ++ line) ∷ []) fault
      → Stopped terms ⊥ old new start end (held ++ lines_from part chunk) fault
  stopped_line {old} {new = new} {start} {end = end} {chunk = chunk} {fault} part done line rest none split first second =
      let some = done ++ (line ++ 10 ∷ []) in
      let one = (part_from part done ++ line) ∷ [] in
      let more = lines_from (part_from part some) rest in
      let here : (lines_from part done ++ one) ++ more ≡ lines_from part chunk =
      ap (λ (ls : List (List ℕ)). ls ++ more) (sym (lines_from-line part done line none))
      ∙ sym (ap (λ (l : List ℕ). lines_from part l) split ∙ lines_from-append part some rest) in
      let lines : ((held ++ lines_from part done) ++ one) ++ more ≡ held ++ lines_from part chunk =
      ap (λ (ls : List (List ℕ)). ls ++ more) (append_assoc held (lines_from part done) one)
      ∙ append_assoc held (lines_from part done ++ one) more ∙ ap (λ (ls : List (List ℕ)). held ++ ls) here in
      subst (λ (ls : List (List ℕ)). Stopped terms ⊥ old new start end ls fault) lines
      (stopped_more more (stopped_then one first second))

  -- no line more ends in the chunk
  pub went_end : {old new : View} {start end : S} {after : Waiting} {chunk : List ℕ} (part done rest : List ℕ) → chunk ≡ done ++ rest
      → HasNoFeed rest → Went terms ⊥ old new start end (held ++ lines_from part done) after
      → Went terms ⊥ old new start end (held ++ lines_from part chunk) after
  went_end {old} {new} {start} {end} {after} {chunk} part done rest split none went =
      subst (λ (ls : List (List ℕ)). Went terms ⊥ old new start end (held ++ ls) after)
      (sym (lines_at_end part done rest split none)) went

  -- and memory runs out for what is left
  pub stopped_end : {old new : View} {start end : S} {after : Waiting} {chunk : List ℕ} (part done rest : List ℕ) → chunk ≡ done ++ rest
      → HasNoFeed rest → Went terms ⊥ old new start end (held ++ lines_from part done) after
      → Stopped terms ⊥ old new start end (held ++ lines_from part chunk) faults.NoMemory
  stopped_end part done rest split none went = stopped_behind (went_end part done rest split none went)
