-- This file shows how a line is treated by its length, and its reply given.
use Rattle.std.proofs.Common.{◌≡◌, inl, ℕ, ◌<◌, ◌≤◌, Bool, true, false, List, [], ◌∷◌, length, refl, sym, subst, arith}
use Rattle.std.proofs.lemmas.Bool.Decides.{nat_tests}
use Rattle.std.specs.Prelude.{Result, Ok, Err, nat_lt, MatchBool, MatchResult}
use Rattle.grid_base.specs.declared.memory.NoMemory.{NoMemory}
use Rattle.outside_world.specs.View.{View}
use Rattle.realm_files.specs.Stands.{Files}
use Rattle.query_batch.specs.Replies.{too_long_reply}
use Rattle.rose_shell.specs.declared.fault.Fault.{Fault}
use Rattle.rose_shell.specs.declared.fault.Fault.TheVariants as faults
use Rattle.rose_shell.specs.declared.waiting.Waiting.{Waiting}
use Rattle.rose_shell.specs.Lines.{longest_line, IsFrontOf}
use Rattle.rose_shell.specs.Batches.{OpensNone}
use Rattle.rose_shell.specs.Giving.{GaveSome, GaveAll}
use Rattle.rose_shell.specs.Desk.{Rule, Terms, AllRestBy, Settled, Answered}
use Rattle.rose_shell.specs.Turns.{Turn, Treats}
use Rattle.rose_shell.specs.Loop.{IsWaiting, Went, Stopped}
use Rattle.outside_world.proofs.Moments.{only_nothing, none_taken}
use Rattle.rose_shell.proofs.Keeps.{kept_is_line, kept_is_long}
use Rattle.rose_shell.proofs.OneTurn.{left_at_rest, went_one, stopped_one, stopped_before}

-- the test of a line's length, for any bound
pub is_short : (k n : ℕ) → n ≤ k → nat_lt k n ≡ false
is_short k n le = grind (arith, nat_tests)

pub is_long : (k n : ℕ) → k < n → nat_lt k n ≡ true
is_long k n lt = grind (arith, nat_tests)

pub gave_reply : {mid new : View} {bytes reply unsent : List ℕ} → bytes ≡ reply
    → GaveSome mid new bytes unsent → GaveSome mid new reply unsent
gave_reply {mid} {new} {unsent = unsent} is gave = subst (λ (l : List ℕ). GaveSome mid new l unsent) is gave

-- all was given, where the sink took it
pub gave_whole : {mid new : View} {bytes : List ℕ} {done : Unit} → GaveAll mid new bytes (Ok done) → GaveSome mid new bytes []
gave_whole {mid} {new} {bytes} gave = subst (λ (l : List ℕ). GaveSome mid new bytes l) gave.whole gave.some

-- a line that is too long begins no batch
long_opens_none : (line : List ℕ) → longest_line < length line → OpensNone line
long_opens_none line long size opens = omega (arith, long, opens.short)

module _ {S : Type 0} (answers : Rule S) where
  treats_short : {start end : S} {line reply : List ℕ} → length line ≤ longest_line → answers start line reply end
      → Treats answers start line reply end
  treats_short {start} {end} {line} {reply} short answer =
      subst (λ (b : Bool). MatchBool b ((reply ≡ too_long_reply) × (end ≡ start)) (answers start line reply end))
      (sym (is_short longest_line (length line) short)) answer

  treats_long : (start : S) (line : List ℕ) → longest_line < length line → Treats answers start line too_long_reply start
  treats_long start line long =
      subst (λ (b : Bool). MatchBool b ((too_long_reply ≡ too_long_reply) × (start ≡ start))
      (answers start line too_long_reply start))
      (sym (is_long longest_line (length line) long)) (refl, refl)

-- what calls no file leaves the files as they were, as a refusal does, which leaves the desk too
module _ {S : Type 0} {terms : Terms S} where
  pub settled_beside : {v : View} {start end : S} → AllRestBy terms v start → AllRestBy terms v end → Settled terms v v start end
  settled_beside {v} {start} rest after = record {
    leaves = record {
      takes = none_taken;
      given = refl;
      crash = only_nothing;
      now = λ files may.
          let left = left_at_rest rest files may in
          (inl (subst (λ (f : Files). terms.stands start f) (sym left) (terms.rest_stands start v.reads rest.rests)), λ _. left);
    };
    still = λ _. refl;
    rest = after;
  }

  pub settled_still : {v : View} {s : S} → AllRestBy terms v s → Settled terms v v s s
  settled_still rest = settled_beside rest rest

-- and so does want of memory before there is a reply
module _ {S : Type 0} (terms : Terms S) (v : View) (start end : S) (line : List ℕ) where
  pub answered_nothing : (told : Result (List ℕ) Fault) → told ≡ Err faults.NoMemory → AllRestBy terms v start
      → Answered terms v v start end line told
  answered_nothing told is rest =
      subst (λ (r : Result (List ℕ) Fault). Answered terms v v start end line r) (sym is) (settled_still rest)

-- and so does a reply that is made of the state alone, or isn't made
module _ {S : Type 0} (terms : Terms S) (v : View) (s : S) (line : List ℕ) where
  pub answered_still : (done : Result (List ℕ) NoMemory) (told : Result (List ℕ) Fault)
      → MatchResult done (λ reply. told ≡ Ok reply) (λ _. told ≡ Err faults.NoMemory) → AllRestBy terms v s
      → Answered terms v v s s line told
  answered_still (Ok reply) told is rest =
      subst (λ (r : Result (List ℕ) Fault). Answered terms v v s s line r) (sym is) (settled_still rest)
  answered_still (Err e) told is rest = answered_nothing terms v s s line told is rest

-- a line by itself, and both files after it
abbrev pub single : {S : Type 0} → List ℕ → List ℕ → S → Files → Turn S
single line reply after files = record { line = line; batch = []; reply = reply; after = after; files = files }

module _ {S : Type 0} {terms : Terms S} where
  -- a line that isn't too long is answered by the desk
  pub went_short : {old mid new : View} {start end : S} {line reply bytes : List ℕ} {waiting : Waiting}
      → length line ≤ longest_line → OpensNone line → terms.answers start line reply end
      → Settled terms old mid start end → bytes ≡ reply → GaveSome mid new bytes [] → IsWaiting waiting []
      → Went terms ⊥ old new start end (line ∷ []) waiting
  went_short {mid = mid} {end = end} {line} {reply} short none answer settled is gave waits =
      went_one (single line reply end mid.reads) refl
      (inl record { opens_none = none; alone = refl; treats = treats_short terms.answers short answer })
      (inl (inl none)) waits settled (gave_reply is gave)

  pub stopped_short : {old mid new : View} {start end : S} {line reply bytes unsent : List ℕ}
      → length line ≤ longest_line → OpensNone line → terms.answers start line reply end
      → Settled terms old mid start end → bytes ≡ reply → GaveSome mid new bytes unsent
      → Stopped terms ⊥ old new start end (line ∷ []) faults.Sink
  stopped_short {mid = mid} {end = end} {line} {reply} short none answer settled is gave =
      stopped_one (single line reply end mid.reads) refl
      (inl record { opens_none = none; alone = refl; treats = treats_short terms.answers short answer })
      (inl (inl none)) settled (gave_reply is gave)

  -- or not at all
  pub stopped_unanswered : {old new : View} {start end : S} {line : List ℕ} (fault : Fault)
      → length line ≤ longest_line → OpensNone line → Answered terms old new start end line (Err fault)
      → Stopped terms ⊥ old new start end (line ∷ []) fault
  stopped_unanswered fault short none answered =
      stopped_before fault none (λ reply after answer. treats_short terms.answers short answer) answered

  -- what was kept of it is the line
  pub went_kept : {old new : View} {start end : S} {kept line : List ℕ} {waiting : Waiting} → length kept ≤ longest_line
      → IsFrontOf kept line → Went terms ⊥ old new start end (kept ∷ []) waiting → Went terms ⊥ old new start end (line ∷ []) waiting
  went_kept {old} {new} {start} {end} {waiting = waiting} short is went =
      subst (λ (l : List ℕ). Went terms ⊥ old new start end (l ∷ []) waiting) (kept_is_line short is) went

  pub stopped_kept : {old new : View} {start end : S} {kept line : List ℕ} {fault : Fault} → length kept ≤ longest_line
      → IsFrontOf kept line → Stopped terms ⊥ old new start end (kept ∷ []) fault → Stopped terms ⊥ old new start end (line ∷ []) fault
  stopped_kept {old} {new} {start} {end} {fault = fault} short is stopped =
      subst (λ (l : List ℕ). Stopped terms ⊥ old new start end (l ∷ []) fault) (kept_is_line short is) stopped

  -- a line that is too long is refused
  pub went_long : {old new : View} {s : S} {kept : List ℕ} {waiting : Waiting} (line : List ℕ) → longest_line < length kept
      → IsFrontOf kept line → AllRestBy terms old s → GaveSome old new too_long_reply [] → IsWaiting waiting []
      → Went terms ⊥ old new s s (line ∷ []) waiting
  went_long {old} {s = s} line long is rest gave waits =
      let none = long_opens_none line (kept_is_long line long is) in
      went_one (single line too_long_reply s old.reads) refl
      (inl record { opens_none = none; alone = refl; treats = treats_long terms.answers s line (kept_is_long line long is) })
      (inl (inl none)) waits (settled_still rest) gave

  pub stopped_long : {old new : View} {s : S} {kept unsent : List ℕ} (line : List ℕ) → longest_line < length kept
      → IsFrontOf kept line → AllRestBy terms old s → GaveSome old new too_long_reply unsent
      → Stopped terms ⊥ old new s s (line ∷ []) faults.Sink
  stopped_long {old} {s = s} line long is rest gave =
      let none = long_opens_none line (kept_is_long line long is) in
      stopped_one (single line too_long_reply s old.reads) refl
      (inl record { opens_none = none; alone = refl; treats = treats_long terms.answers s line (kept_is_long line long is) })
      (inl (inl none)) (settled_still rest) gave
