-- This file shows how the lines of a batch wait, and are answered together.
use Rattle.std.proofs.Common.{◌≡◌, ◌⊎◌, inl, inr, ⊎_elim, ℕ, ◌+◌, ◌<◌, ◌≤◌, List, [], ◌∷◌, ◌++◌, length, map}
use Rattle.std.proofs.Common.{refl, sym, ◌∙◌, ap, subst, arith, length-append}
use Rattle.std.proofs.lemmas.List.{append-nil}
use Rattle.std.specs.Prelude.{MatchOption, Option, Some, None, Bool, if◌then◌else◌}
use Rattle.outside_world.specs.View.{View}
use Rattle.line_grammar.specs.Lines.{Says, IsRefusal}
use Rattle.line_grammar.specs.declared.fault.LineError.{LineError}
use Rattle.line_grammar.specs.declared.fault.LineError.TheVariants.{Bad}
use Rattle.line_grammar.specs.declared.command.Command.{Command}
use Rattle.line_grammar.specs.declared.command.Command.TheVariants.{Batch}
use Rattle.realm_insert.specs.State.{State}
use Rattle.query_batch.specs.Joined.{AreJoined}
use Rattle.query_batch.specs.Answers.{TellsLine}
use Rattle.rose_shell.specs.declared.fault.Fault.{Fault}
use Rattle.rose_shell.specs.declared.fault.Fault.TheVariants as faults
use Rattle.rose_shell.specs.declared.waiting.Waiting.{Waiting}
use Rattle.rose_shell.specs.declared.waiting.LineAsks.{LineAsks}
use Rattle.rose_shell.specs.Lines.{longest_line, last_line, IsFrontOf}
use Rattle.rose_shell.specs.Batches.{IsInRange, OpensBatch, OpensNone, AreHeld, heard}
use Rattle.rose_shell.specs.Giving.{GaveSome}
use Rattle.rose_shell.specs.Desk.{Terms, AllRestBy}
use Rattle.rose_shell.specs.Turns.{Turn, IsBatch, IsComplete}
use Rattle.rose_shell.specs.Loop.{Asks, IsWaiting, Went, Stopped, ToldBatch, IsUntold}
use Rattle.rose_shell.proofs.Keeps.{kept_is_line, kept_is_long, last_line-empty, last_line-some}
use Rattle.rose_shell.proofs.Runs.{stopped_none}
use Rattle.rose_shell.proofs.OneTurn.{went_one, stopped_one}
use Rattle.rose_shell.proofs.Treatments.{is_short, is_long, gave_reply, settled_still}

-- ---- what begins a batch

-- the command of the line tells whether it begins a batch
pub opens_by : (o : Option ℕ) (line : List ℕ) (command : Command) → length line ≤ longest_line → Says line command
    → ((c : Command) → Says line c → command ≡ c)
    → MatchOption o ((size : ℕ) → command ≡ Batch size → ¬ IsInRange size) (λ size. IsInRange size × (command ≡ Batch size))
    → MatchOption o (OpensNone line) (λ size. (0 < size) × OpensBatch line size)
opens_by None line command short says only none = λ size opens. none size (only (Batch size) opens.says) opens.in_range
opens_by (Some size) line command short says only is = (
  is.0.0,
  record { short = short; says = subst (λ (c : Command). Says line c) is.1 says; in_range = is.0 },
)

-- what was asked for
pub asked_by : {kept seen : List ℕ} {some one : LineAsks} → seen ≡ kept → some ≡ one → Asks seen some → Asks kept one
asked_by {kept} {some = some} same is asked =
    subst (λ (a : LineAsks). Asks kept a) is (subst (λ (k : List ℕ). Asks k some) same asked)

-- a line that is no command's text begins none
pub bad_opens_none : {line : List ℕ} {at : ℕ} {e : LineError} → e ≡ Bad at → IsRefusal line e → OpensNone line
bad_opens_none {line} is refusal size opens = (subst (λ (x : LineError). IsRefusal line x) is refusal).0 (Batch size) opens.says

-- ---- what waits

-- where no line is missing, none waits
pub none_waits : (waiting : Waiting) (held : List (List ℕ)) → IsWaiting waiting held → waiting.missing ≡ 0
    → (held ≡ []) × (waiting.lines.items ≡ [])
none_waits waiting [] is none = (refl, is.1)
none_waits waiting (line ∷ batch) is none = absurd (omega (arith, is.0, none))

-- what waits is a batch that lacks lines still
pub are_held : (waiting : Waiting) (held : List (List ℕ)) → IsWaiting waiting held → AreHeld held
are_held waiting [] is = tt
are_held waiting (line ∷ batch) is = (waiting.missing + length batch, is.1, omega (arith, is.0))

-- what is kept of a line in a batch
pub heard_short : {kept : List ℕ} (line : List ℕ) → length kept ≤ longest_line → IsFrontOf kept line → Some kept ≡ heard line
heard_short {kept} line short is =
    let same = kept_is_line short is in
    let le : length line ≤ longest_line = subst (λ (l : List ℕ). length l ≤ longest_line) same short in
    ap (λ (l : List ℕ). Some l) same
    ∙ sym (ap (λ (b : Bool). if b then None else Some line) (is_short longest_line (length line) le))

pub heard_long : {kept : List ℕ} (line : List ℕ) → longest_line < length kept → IsFrontOf kept line → None ≡ heard line
heard_long {kept} line long is =
    sym (ap (λ (b : Bool). if b then None else Some line) (is_long longest_line (length line) (kept_is_long line long is)))

map_one_more : (batch : List (List ℕ)) (line : List ℕ) → map heard (batch ++ line ∷ []) ≡ map heard batch ++ heard line ∷ []
map_one_more [] line = refl
map_one_more (l ∷ batch) line = ap (λ (os : List (Option (List ℕ))). heard l ∷ os) (map_one_more batch line)

-- the first line of a batch waits
pub waits_first : (waiting : Waiting) {kept line : List ℕ} → length kept ≤ longest_line → IsFrontOf kept line → 0 < waiting.missing
    → OpensBatch kept waiting.missing → waiting.lines.items ≡ [] → IsWaiting waiting (line ∷ [])
waits_first waiting {line = line} short is some opens none = (
  some,
  subst (λ (n : ℕ). OpensBatch line n) (omega arith) (subst (λ (l : List ℕ). OpensBatch l waiting.missing) (kept_is_line short is) opens),
  none,
)

-- one line more waits
pub waits_more : (before after : Waiting) (held : List (List ℕ)) (line : List ℕ) → IsWaiting before held → 0 < before.missing
    → before.missing ≡ after.missing + 1 → after.lines.items ≡ before.lines.items ++ heard line ∷ [] → 0 < after.missing
    → IsWaiting after (held ++ line ∷ [])
waits_more before after [] line is some one lines more = absurd (omega (arith, is.0, some))
waits_more before after (first ∷ batch) line is some one lines more = (
  more,
  subst (λ (n : ℕ). OpensBatch first n) (omega (arith, one, length-append batch (line ∷ []))) is.1,
  lines ∙ ap (λ (os : List (Option (List ℕ))). os ++ heard line ∷ []) is.2 ∙ sym (map_one_more batch line),
)

-- ---- answers

joined_heard : (has_text : Option (List ℕ) → List ℕ → Type 0) (batch : List (List ℕ)) (reply : List ℕ)
    → AreJoined has_text (map heard batch) reply → AreJoined (λ (line : List ℕ) (r : List ℕ). has_text (heard line) r) batch reply
joined_heard has_text [] reply joined = joined
joined_heard has_text (line ∷ batch) reply (first, rest, told, split, more) =
    (first, rest, told, split, joined_heard has_text batch rest more)

-- a batch with as many lines as it asks for is complete
batch_complete : {S none_left : Type 0} (turn : Turn S) (size : ℕ) → OpensBatch turn.line size → (size ≡ length turn.batch) ⊎ none_left
    → IsComplete turn ⊎ none_left
batch_complete {none_left = none_left} turn size opens full =
    ⊎_elim (λ (is : size ≡ length turn.batch). inl (inr (subst (λ (n : ℕ). OpensBatch turn.line n) is opens)))
    (λ (none : none_left). inr none) full

joined_wider : {A : Type 0} (P Q : A → List ℕ → Type 0) → ((x : A) (r : List ℕ) → P x r → Q x r) → (xs : List A) (reply : List ℕ)
    → AreJoined P xs reply → AreJoined Q xs reply
joined_wider P Q wider [] reply joined = joined
joined_wider P Q wider (x ∷ xs) reply (first, rest, told, split, more) =
    (first, rest, wider x first told, split, joined_wider P Q wider xs rest more)

-- nothing was kept of a last line, so there is none
no_last : {kept : List ℕ} (held : List (List ℕ)) (line : List ℕ) → length kept ≡ 0 → IsFrontOf kept line → held ++ last_line line ≡ held
no_last held line none is =
    ap (λ (ls : List (List ℕ)). held ++ ls) (last_line-empty longest_line line none is) ∙ append-nil held

-- memory ran out before there was a reply
module _ {S : Type 0} (terms : Terms S) (old new : View) (s : S) (lines : List (Option (List ℕ))) where
  pub untold_memory : (fault : Fault) → fault ≡ faults.NoMemory → IsUntold terms old new s lines fault
  untold_memory fault is = subst (λ (h : Fault). IsUntold terms old new s lines h) (sym is) tt

module _ {S : Type 0} {terms : Terms S} where
  -- the turn of a batch
  batch_turn : {old new : View} {s : S} {lines : List (Option (List ℕ))} {unsent : List ℕ} → List ℕ → List (List ℕ)
      → ToldBatch terms old new s lines unsent → Turn S
  batch_turn {old} {s = s} first batch told =
      record { line = first; batch = batch; reply = told.reply; after = s; files = old.reads }

  is_batch : {old new : View} {s : S} {lines : List (Option (List ℕ))} {unsent : List ℕ} (first : List ℕ) (batch : List (List ℕ))
      (size : ℕ) → OpensBatch first size → length batch ≤ size → lines ≡ map heard batch
      → (told : ToldBatch terms old new s lines unsent) → IsBatch terms.tells s (batch_turn first batch told)
  unfolding batch_turn
  is_batch {s = s} first batch size opens within lines told = record {
    size = size;
    opens = opens;
    within = within;
    joined = joined_heard (terms.tells s) batch told.reply
        (subst (λ (os : List (Option (List ℕ))). AreJoined (terms.tells s) os told.reply) lines told.joined);
    stays = refl;
  }

  -- a batch is answered, and its reply given whole
  went_batch : {old new : View} {s : S} {lines : List (Option (List ℕ))} {waiting : Waiting} {none_left : Type 0}
      (first : List ℕ) (batch : List (List ℕ)) (size : ℕ) → OpensBatch first size → length batch ≤ size
      → (size ≡ length batch) ⊎ none_left → lines ≡ map heard batch → AllRestBy terms old s → IsWaiting waiting []
      → ToldBatch terms old new s lines [] → Went terms none_left old new s s (first ∷ batch) waiting
  unfolding batch_turn
  went_batch first batch size opens within full lines rest waits told =
      went_one (batch_turn first batch told) refl (inr (is_batch first batch size opens within lines told))
      (batch_complete (batch_turn first batch told) size opens full) waits (settled_still rest) told.gave

  -- or in part
  stopped_batch : {old new : View} {s : S} {lines : List (Option (List ℕ))} {unsent : List ℕ} {none_left : Type 0}
      (first : List ℕ) (batch : List (List ℕ)) (size : ℕ) → OpensBatch first size → length batch ≤ size
      → (size ≡ length batch) ⊎ none_left → lines ≡ map heard batch → AllRestBy terms old s
      → ToldBatch terms old new s lines unsent → Stopped terms none_left old new s s (first ∷ batch) faults.Sink
  unfolding batch_turn
  stopped_batch first batch size opens within full lines rest told =
      stopped_one (batch_turn first batch told) refl (inr (is_batch first batch size opens within lines told))
      (batch_complete (batch_turn first batch told) size opens full) (settled_still rest) told.gave

  -- with its last line a batch is full
  module _ (before after : Waiting) (line : List ℕ) (some : 0 < before.missing) (one : before.missing ≡ after.missing + 1)
      (lines : after.lines.items ≡ before.lines.items ++ heard line ∷ []) (last : after.missing ≡ 0) where
    pub went_full : {old new : View} {s : S} {waiting : Waiting} (held : List (List ℕ)) → IsWaiting before held → AllRestBy terms old s
        → IsWaiting waiting [] → ToldBatch terms old new s after.lines.items []
        → Went terms ⊥ old new s s (held ++ line ∷ []) waiting
    went_full [] is rest waits told = absurd (omega (arith, is.0, some))
    went_full (first ∷ batch) is rest waits told =
        went_batch first (batch ++ line ∷ []) (before.missing + length batch) is.1
        (omega (arith, one, last, length-append batch (line ∷ [])))
        (inl (omega (arith, one, last, length-append batch (line ∷ []))))
        (lines ∙ ap (λ (os : List (Option (List ℕ))). os ++ heard line ∷ []) is.2 ∙ sym (map_one_more batch line))
        rest waits told

    stopped_full : {old new : View} {s : S} {unsent : List ℕ} (held : List (List ℕ)) → IsWaiting before held → AllRestBy terms old s
        → ToldBatch terms old new s after.lines.items unsent
        → Stopped terms ⊥ old new s s (held ++ line ∷ []) faults.Sink
    stopped_full [] is rest told = absurd (omega (arith, is.0, some))
    stopped_full (first ∷ batch) is rest told =
        stopped_batch first (batch ++ line ∷ []) (before.missing + length batch) is.1
        (omega (arith, one, last, length-append batch (line ∷ [])))
        (inl (omega (arith, one, last, length-append batch (line ∷ []))))
        (lines ∙ ap (λ (os : List (Option (List ℕ))). os ++ heard line ∷ []) is.2 ∙ sym (map_one_more batch line))
        rest told

  -- at the end of the input it is answered as it is
  pub went_held : {old new : View} {s : S} {none_left : Type 0} (before after : Waiting) (held : List (List ℕ))
      → none_left → IsWaiting before held → 0 < before.missing → AllRestBy terms old s → IsWaiting after []
      → ToldBatch terms old new s before.lines.items [] → Went terms none_left old new s s held after
  went_held before after [] end is some rest waits told = absurd (omega (arith, some, is.0))
  went_held before after (first ∷ batch) end is some rest waits told =
      went_batch first batch (before.missing + length batch) is.1 (omega arith) (inr end) is.2 rest waits told

  stopped_held : {old new : View} {s : S} {unsent : List ℕ} {none_left : Type 0} (before : Waiting) (held : List (List ℕ))
      → none_left → IsWaiting before held → 0 < before.missing → AllRestBy terms old s
      → ToldBatch terms old new s before.lines.items unsent → Stopped terms none_left old new s s held faults.Sink
  stopped_held before [] end is some rest told = absurd (omega (arith, some, is.0))
  stopped_held before (first ∷ batch) end is some rest told =
      stopped_batch first batch (before.missing + length batch) is.1 (omega arith) (inr end) is.2 rest told

  -- and whichever fault comes
  pub held_stops : {old new : View} {s : S} {none_left : Type 0} (before : Waiting) (fault : Fault) (held : List (List ℕ))
      → none_left → IsWaiting before held → 0 < before.missing → AllRestBy terms old s
      → IsUntold terms old new s before.lines.items fault → (fault ≡ faults.NoMemory → old ≡ new)
      → Stopped terms none_left old new s s held fault
  held_stops before faults.Source held end is some rest untold same = absurd untold
  held_stops before faults.Sink held end is some rest untold same = stopped_held before held end is some rest untold.1
  held_stops before faults.Disk held end is some rest untold same = absurd untold
  held_stops {old} {s = s} {none_left} before faults.NoMemory held end is some rest untold same =
      subst (λ (v : View). Stopped terms none_left old v s s held faults.NoMemory) (same refl) (stopped_none held rest)

  pub full_stops : {old new : View} {s : S} (before after : Waiting) (line : List ℕ) (fault : Fault) → 0 < before.missing
      → before.missing ≡ after.missing + 1 → after.lines.items ≡ before.lines.items ++ heard line ∷ [] → after.missing ≡ 0
      → (held : List (List ℕ)) → IsWaiting before held → AllRestBy terms old s → IsUntold terms old new s after.lines.items fault
      → (fault ≡ faults.NoMemory → old ≡ new) → Stopped terms ⊥ old new s s (held ++ line ∷ []) fault
  full_stops before after line faults.Source some one lines last held waits rest untold same = absurd untold
  full_stops before after line faults.Sink some one lines last held waits rest untold same =
      stopped_full before after line some one lines last held waits rest untold.1
  full_stops before after line faults.Disk some one lines last held waits rest untold same = absurd untold
  full_stops {old} {s = s} before after line faults.NoMemory some one lines last held waits rest untold same =
      subst (λ (v : View). Stopped terms ⊥ old v s s (held ++ line ∷ []) faults.NoMemory) (same refl)
      (stopped_none (held ++ line ∷ []) rest)

  -- what the desk has answered is given
  pub told_by : {old new : View} {s : S} {shown lines : List (Option (List ℕ))} {reply bytes unsent : List ℕ} (state : State)
      → ((line : Option (List ℕ)) (r : List ℕ) → TellsLine state line r → terms.tells s line r) → shown ≡ lines → bytes ≡ reply
      → AreJoined (TellsLine state) shown reply → GaveSome old new bytes unsent → ToldBatch terms old new s lines unsent
  told_by {s = s} {lines = lines} {reply} state tells same is joined gave = record {
    reply = reply;
    joined = joined_wider (TellsLine state) (terms.tells s) tells lines reply
        (subst (λ (os : List (Option (List ℕ))). AreJoined (TellsLine state) os reply) same joined);
    gave = gave_reply is gave;
  }

  pub untold_at : {old new : View} {s : S} {lines : List (Option (List ℕ))} {fault : Fault} → fault ≡ faults.Sink
      → (unsent : List ℕ) × ToldBatch terms old new s lines unsent → IsUntold terms old new s lines fault
  untold_at {old} {new} {s} {lines} is told = subst (λ (h : Fault). IsUntold terms old new s lines h) (sym is) told

  -- ---- a line before which none waits

  pub went_first : {old new : View} {start end : S} {line : List ℕ} {after : Waiting} (before : Waiting) (held : List (List ℕ))
      → IsWaiting before held → before.missing ≤ 0 → (IsWaiting before [] → Went terms ⊥ old new start end (line ∷ []) after)
      → Went terms ⊥ old new start end (held ++ line ∷ []) after
  went_first before [] waits none went = went waits
  went_first before (first ∷ batch) waits none went = absurd (omega (arith, none, waits.0))

  pub stopped_first : {old new : View} {start end : S} {line : List ℕ} {fault : Fault} (before : Waiting) (held : List (List ℕ))
      → IsWaiting before held → before.missing ≤ 0 → Stopped terms ⊥ old new start end (line ∷ []) fault
      → Stopped terms ⊥ old new start end (held ++ line ∷ []) fault
  stopped_first before [] waits none stopped = stopped
  stopped_first before (first ∷ batch) waits none stopped = absurd (omega (arith, none, waits.0))

  -- ---- the last line

  -- it is none where nothing was kept, and else is a line as any other
  pub went_empty : {old new : View} {start end : S} {kept : List ℕ} {waiting : Waiting} {none_left : Type 0} (held : List (List ℕ))
      (line : List ℕ) → length kept ≡ 0 → IsFrontOf kept line → Went terms none_left old new start end held waiting
      → Went terms none_left old new start end (held ++ last_line line) waiting
  went_empty {old} {new} {start} {end} {waiting = waiting} {none_left} held line none is went =
      subst (λ (ls : List (List ℕ)). Went terms none_left old new start end ls waiting) (sym (no_last held line none is)) went

  pub went_last : {old new : View} {start end : S} {kept : List ℕ} {waiting : Waiting} {none_left : Type 0} (held : List (List ℕ))
      (line : List ℕ) → 0 < length kept → IsFrontOf kept line → Went terms none_left old new start end (held ++ line ∷ []) waiting
      → Went terms none_left old new start end (held ++ last_line line) waiting
  went_last {old} {new} {start} {end} {waiting = waiting} {none_left} held line some is went =
      subst (λ (ls : List (List ℕ)). Went terms none_left old new start end (held ++ ls) waiting)
      (sym (last_line-some longest_line line some is)) went

  pub stopped_last : {old new : View} {start end : S} {kept : List ℕ} {fault : Fault} {none_left : Type 0} (held : List (List ℕ))
      (line : List ℕ) → 0 < length kept → IsFrontOf kept line → Stopped terms none_left old new start end (held ++ line ∷ []) fault
      → Stopped terms none_left old new start end (held ++ last_line line) fault
  stopped_last {old} {new} {start} {end} {fault = fault} {none_left} held line some is stopped =
      subst (λ (ls : List (List ℕ)). Stopped terms none_left old new start end (held ++ ls) fault)
      (sym (last_line-some longest_line line some is)) stopped
