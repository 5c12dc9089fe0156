-- This file shows what the loop has done where it ends.
use Rattle.std.proofs.Common.{◌≡◌, ◌⊎◌, inl, inr, ⊎_elim, ℕ, ◌<◌, ◌≤◌, List, [], ◌++◌, length, take}
use Rattle.std.proofs.Common.{refl, sym, ◌∙◌, ap, subst, arith, append_assoc, length-append}
use Rattle.std.proofs.lemmas.List.{append-nil, length-take}
use Rattle.std.specs.Prelude.{◌≢◌, Result, Ok, Err}
use Rattle.std.specs.Result.{IsErrAnd}
use Rattle.outside_world.specs.declared.world.Failed.{Failed}
use Rattle.outside_world.specs.View.{View}
use Rattle.outside_world.specs.Calls.{Took}
use Rattle.rose_shell.specs.declared.fault.Fault.{Fault}
use Rattle.rose_shell.specs.declared.fault.Fault.TheVariants as faults
use Rattle.rose_shell.specs.declared.status.Status.{Status}
use Rattle.rose_shell.specs.declared.status.Status.TheVariants.{Done, SourceFault, DiskFault, NoMemory, InputLimit}
use Rattle.rose_shell.specs.Faults.{status_of, status_at}
use Rattle.rose_shell.specs.Lines.{lines_from, part_from, whole_lines, last_line, all_lines, IsFrontOf}
use Rattle.rose_shell.specs.declared.waiting.Waiting.{Waiting}
use Rattle.rose_shell.specs.Desk.{Terms}
use Rattle.rose_shell.specs.Turns.{Turn, end_of, lines_of}
use Rattle.rose_shell.specs.Session.{Work, EndsBy, Served}
use Rattle.rose_shell.specs.Loop.{IsWaiting, Went, StopsBy, Stopped}
use Rattle.rose_shell.proofs.Turns.{complete_wider, complete-append}
use Rattle.rose_shell.proofs.Cuts.{lines_from-append}
use Rattle.rose_shell.proofs.Runs.{follows_if, run_then, ends_then, replies_then, stops_behind, files_then}
use Rattle.rose_shell.proofs.Batches.{none_waits}
use Rattle.rose_shell.proofs.Takes.{Ahead, Keeping, within_budget, took, took_some, took_none, took_empty}
use Rattle.rose_shell.proofs.Takes.{asked_then, left_then, lines_then}

-- a take of no byte into a buffer with room finds the input at its end
pub input_ended : {mid between : View} {buf : List ℕ} {n : ℕ} → Took mid between buf (Ok n) → n ≡ 0 → 0 < length buf
    → between.left ≡ []
input_ended {between = between} {buf} call none wide =
    ap (λ (k : ℕ). take k buf ++ between.left) (sym none) ∙ sym call.moved.left ∙ call.ended none wide

-- how the lines stopped is how the run ended, with the state at the end where the sink failed
module _ {S : Type 0} (terms : Terms S) (old new : View) (start end : S) where
  ended_so : (w : Work S) (budget : ℕ) (fault : Fault)
      → StopsBy terms old new start end w.turns w.unsent fault → EndsBy terms old new start w budget (status_of fault)
  ended_so w budget faults.Source stops = absurd stops
  ended_so w budget faults.Sink stops = stops.1
  ended_so w budget faults.Disk stops = stops
  ended_so w budget faults.NoMemory stops = stops

  state_so : (turns : List (Turn S)) (unsent : List ℕ) (fault : Fault)
      → StopsBy terms old new start end turns unsent fault → status_of fault ≢ NoMemory → status_of fault ≢ DiskFault
      → end ≡ end_of start turns
  state_so turns unsent faults.Source stops memory disk = absurd stops
  state_so turns unsent faults.Sink stops memory disk = stops.0
  state_so turns unsent faults.Disk stops memory disk = absurd (disk refl)
  state_so turns unsent faults.NoMemory stops memory disk = absurd (memory refl)

module _ {S : Type 0} {terms : Terms S} where
  -- the source fails when all whole lines were answered
  source_failed : {old new : View} {start end : S} {bytes : List ℕ} {budget : ℕ} → Ahead terms old new start end budget bytes []
      → length bytes ≤ budget → Served terms old new start end budget SourceFault
  source_failed {old} {new} {bytes = bytes} ahead within =
      let part = last_line (part_from [] bytes) in
      record {
        work = record { bytes = bytes; turns = ahead.turns; unread = ahead.answered.held ++ part; unsent = [] };
        input = record {
          later = ahead.made.later;
          left = ahead.left;
          taken = ahead.taken ∙ ap (λ (l : List ℕ). old.taken ++ l) (append-nil bytes);
          of_lines = sym (append_assoc (lines_of ahead.turns) ahead.answered.held part)
              ∙ ap (λ (l : List (List ℕ)). l ++ part) ahead.answered.lines;
          full = complete_wider (λ never. absurd never) ahead.turns ahead.answered.full;
          whole = inr (ahead.answered.held, ahead.answered.lines);
          within = λ _. within;
        };
        given = append-nil new.given ∙ ahead.made.given;
        state = record { is_run = ahead.is_run; ends = λ _ _. ahead.made.ends };
        asked = ahead.asked;
        files = follows_if (λ _. tt) ahead.made.files;
        ended = (ahead.answered, refl);
      }

  -- more comes after the budget, and isn't read
  limited : {old new : View} {start end : S} {bytes more : List ℕ} {budget : ℕ} → Ahead terms old new start end budget bytes more
      → length bytes ≡ budget → 0 < length more → Served terms old new start end budget InputLimit
  limited {old} {new} {bytes = bytes} {more} ahead all some =
      let rest = lines_from (part_from [] bytes) more in
      let part = last_line (part_from [] (bytes ++ more)) in
      record {
        work = record { bytes = bytes ++ more; turns = ahead.turns; unread = ahead.answered.held ++ (rest ++ part); unsent = [] };
        input = record {
          later = ahead.made.later;
          left = ahead.left ∙ sym (append_assoc bytes more new.left);
          taken = ahead.taken;
          of_lines = sym (append_assoc (lines_of ahead.turns) ahead.answered.held (rest ++ part))
              ∙ ap (λ (l : List (List ℕ)). l ++ (rest ++ part)) ahead.answered.lines
              ∙ sym (append_assoc (whole_lines bytes) rest part)
              ∙ ap (λ (l : List (List ℕ)). l ++ part) (sym (lines_from-append [] bytes more));
          full = complete_wider (λ never. absurd never) ahead.turns ahead.answered.full;
          whole = inr (
            ahead.answered.held ++ rest,
            sym (append_assoc (lines_of ahead.turns) ahead.answered.held rest)
                ∙ ap (λ (l : List (List ℕ)). l ++ rest) ahead.answered.lines ∙ sym (lines_from-append [] bytes more),
          );
          within = λ other. absurd (other refl);
        };
        given = append-nil new.given ∙ ahead.made.given;
        state = record { is_run = ahead.is_run; ends = λ _ _. ahead.made.ends };
        asked = ahead.asked;
        files = follows_if (λ _. tt) ahead.made.files;
        ended = (bytes, more, refl, all, some, ahead.answered, refl);
      }

  -- the input has ended, and what had come of a line and of a batch is answered
  ended : {old mid new : View} {start between end : S} {bytes : List ℕ} {budget : ℕ} {waiting : Waiting}
      (ahead : Ahead terms old mid start between budget bytes []) → mid.left ≡ [] → length bytes ≤ budget
      → Went terms Unit mid new between end (ahead.answered.held ++ last_line (part_from [] bytes)) waiting
      → waiting.missing ≡ 0 → Served terms old new start end budget Done
  ended {old} {mid} {new} {bytes = bytes} {waiting = waiting} ahead none within went no_more =
      let us = went.turns in
      let over : new.left ≡ [] = went.takes.left ∙ none in
      let nothing : went.held ≡ [] = (none_waits waiting went.held went.waits no_more).0 in
      let lines : lines_of us ++ [] ≡ ahead.answered.held ++ last_line (part_from [] bytes) =
      ap (λ (l : List (List ℕ)). lines_of us ++ l) (sym nothing) ∙ went.of_lines in
      record {
        work = record { bytes = bytes; turns = ahead.turns ++ us; unread = []; unsent = [] };
        input = record {
          later = omega (arith, ahead.made.later, went.takes.later);
          left = left_then ahead went.takes ∙ ap (λ (l : List ℕ). l ++ new.left) (append-nil bytes);
          taken = went.takes.taken ∙ ahead.taken ∙ ap (λ (l : List ℕ). old.taken ++ l) (append-nil bytes);
          of_lines = lines_then ahead went.takes us [] (last_line (part_from [] bytes)) lines;
          full = complete-append ((new.left ≡ []) × ([] ≡ [])) ahead.turns us ahead.answered.full
              (complete_wider (λ _. (over, refl)) us went.full);
          whole = inl over;
          within = λ _. within;
        };
        given = append-nil new.given ∙ went.given ∙ replies_then ahead.made us;
        state = record {
          is_run = run_then ahead.made us ahead.is_run went.is_run;
          ends = λ _ _. went.ends ∙ ends_then ahead.made us;
        };
        asked = asked_then ahead went.takes us;
        files = files_then ahead.made us (follows_if (λ _. tt) went.files);
        ended = (over, refl, refl);
      }

  -- the lines stop at one among those that end in the bytes ahead, or at the last one where the input has ended
  stopped_at_line : {old mid new : View} {start between end : S} {bytes more : List ℕ} {budget : ℕ} {none_left : Type 0}
      (fault : Fault) (lines rest : List (List ℕ)) (ahead : Ahead terms old mid start between budget bytes more)
      → Stopped terms none_left mid new between end (ahead.answered.held ++ lines) fault
      → whole_lines bytes ++ (lines ++ rest) ≡ all_lines (bytes ++ more)
      → (mid.left ≡ []) ⊎ (whole_lines bytes ++ lines ≡ whole_lines (bytes ++ more))
      → (none_left → (mid.left ≡ []) × (rest ≡ []))
      → length (bytes ++ more) ≤ budget → Served terms old new start end budget (status_of fault)
  stopped_at_line {old} {new = new} {start} {end = end} {bytes} {more} {budget} {none_left} fault lines rest ahead stopped all whole
      over within =
      let us = stopped.turns in
      let stops = stops_behind ahead.made us new end stopped.unsent fault stopped.ended in
      let first : lines_of (ahead.turns ++ us) ++ stopped.unread ≡ whole_lines bytes ++ lines =
      lines_then ahead stopped.takes us stopped.unread lines stopped.of_lines in
      let last : none_left × (stopped.unread ≡ []) → (new.left ≡ []) × (stopped.unread ++ rest ≡ []) =
      λ ended. (
        stopped.takes.left ∙ (over ended.0).0,
        ap (λ (l : List (List ℕ)). l ++ rest) ended.1 ∙ (over ended.0).1,
      ) in
      let work : Work S = record {
        bytes = bytes ++ more;
        turns = ahead.turns ++ us;
        unread = stopped.unread ++ rest;
        unsent = stopped.unsent;
      } in
      record {
        work = work;
        input = record {
          later = omega (arith, ahead.made.later, stopped.takes.later);
          left = left_then ahead stopped.takes;
          taken = stopped.takes.taken ∙ ahead.taken;
          of_lines = sym (append_assoc (lines_of (ahead.turns ++ us)) stopped.unread rest)
              ∙ ap (λ (l : List (List ℕ)). l ++ rest) first ∙ append_assoc (whole_lines bytes) lines rest ∙ all;
          full = complete-append ((new.left ≡ []) × (stopped.unread ++ rest ≡ [])) ahead.turns us ahead.answered.full
              (complete_wider last us stopped.full);
          whole = ⊎_elim
              (λ none. inl (stopped.takes.left ∙ none))
              (λ (same : whole_lines bytes ++ lines ≡ whole_lines (bytes ++ more)). inr (stopped.unread, first ∙ same)) whole;
          within = λ _. within;
        };
        given = stopped.given ∙ replies_then ahead.made us;
        state = record {
          is_run = run_then ahead.made us ahead.is_run stopped.is_run;
          ends = state_so terms old new start end work.turns stopped.unsent fault stops;
        };
        asked = asked_then ahead stopped.takes us;
        files = files_then ahead.made us (follows_if (λ other is. other (ap status_of is)) stopped.files);
        ended = ended_so terms old new start end work budget fault stops;
      }

  -- the take fails
  pub served_source : {old mid new : View} {start end : S} {waiting : Waiting} {kept buf : List ℕ} {e : Failed} {room budget : ℕ}
      → Keeping terms old mid start end waiting kept room budget → Took mid new buf (Err e)
      → Served terms old new start end budget SourceFault
  served_source keeping call =
      let within = within_budget keeping in
      source_failed (took_none keeping.ahead within call) within

  -- it gives more than is left of the budget
  pub served_limit : {old mid new : View} {start end : S} {waiting : Waiting} {kept buf : List ℕ} {n room budget : ℕ}
      → Keeping terms old mid start end waiting kept room budget → Took mid new buf (Ok n) → room ≡ 0 → 0 < n
      → n ≤ length buf → Served terms old new start end budget InputLimit
  served_limit {buf = buf} {n} keeping call none some in_buf =
      limited (took_some keeping.ahead (within_budget keeping) call) (omega (arith, keeping.spent)) (omega (arith, length-take n buf))

  -- the lines stop at one that ends in its bytes
  pub served_stop : {old mid between new : View} {start before end : S} {waiting : Waiting} {kept buf : List ℕ} {n room budget : ℕ}
      (fault : Fault) → Keeping terms old mid start before waiting kept room budget
      → Took mid between buf (Ok n) → n ≤ length buf → n ≤ room
      → ((part : List ℕ) (held : List (List ℕ)) → IsFrontOf kept part → IsWaiting waiting held
      → Stopped terms ⊥ between new before end (held ++ lines_from part (take n buf)) fault)
      → Served terms old new start end budget (status_of fault)
  unfolding took took_some
  served_stop {buf = buf} {n} fault keeping call in_buf in_room stopped =
      let bytes = keeping.bytes in
      let more = take n buf in
      let rest = last_line (part_from [] (bytes ++ more)) in
      let all : whole_lines bytes ++ (lines_from (part_from [] bytes) more ++ rest) ≡ all_lines (bytes ++ more) =
      sym (append_assoc (whole_lines bytes) (lines_from (part_from [] bytes) more) rest)
      ∙ ap (λ (l : List (List ℕ)). l ++ rest) (sym (lines_from-append [] bytes more)) in
      stopped_at_line fault (lines_from (part_from [] bytes) more) rest (took_some keeping.ahead (within_budget keeping) call)
      (stopped (part_from [] bytes) keeping.ahead.answered.held keeping.part keeping.waits) all
      (inr (sym (lines_from-append [] bytes more))) (λ never. absurd never)
      (omega (arith, keeping.spent, length-append bytes more, length-take n buf, in_buf, in_room))

  -- it gives nothing, since the input has ended, and what had come of a line and of a batch is answered
  pub served_all : {old mid between new : View} {start before end : S} {waiting after : Waiting} {kept buf : List ℕ} {n room budget : ℕ}
      → Keeping terms old mid start before waiting kept room budget → Took mid between buf (Ok n) → n ≡ 0 → 0 < length buf
      → ((line : List ℕ) (held : List (List ℕ)) → IsFrontOf kept line → IsWaiting waiting held
      → Went terms Unit between new before end (held ++ last_line line) after) → after.missing ≡ 0
      → Served terms old new start end budget Done
  unfolding took took_empty
  served_all keeping call none wide went none_waits =
      let within = within_budget keeping in
      let ahead = took_empty keeping.ahead within call none in
      ended ahead (input_ended call none wide) within (went (part_from [] keeping.bytes) ahead.answered.held keeping.part keeping.waits)
      none_waits

  -- or the lines stop there
  pub served_last : {old mid between new : View} {start before end : S} {waiting : Waiting} {kept buf : List ℕ} {n room budget : ℕ}
      (fault : Fault) → Keeping terms old mid start before waiting kept room budget
      → Took mid between buf (Ok n) → n ≡ 0 → 0 < length buf
      → ((line : List ℕ) (held : List (List ℕ)) → IsFrontOf kept line → IsWaiting waiting held
      → Stopped terms Unit between new before end (held ++ last_line line) fault)
      → Served terms old new start end budget (status_of fault)
  unfolding took took_empty
  served_last {budget = budget} fault keeping call none wide stopped =
      let bytes = keeping.bytes in
      let last = last_line (part_from [] bytes) in
      let within = within_budget keeping in
      let ahead = took_empty keeping.ahead within call none in
      let no_more : bytes ≡ bytes ++ [] = sym (append-nil bytes) in
      let all : whole_lines bytes ++ (last ++ []) ≡ all_lines (bytes ++ []) =
      ap (λ (l : List (List ℕ)). whole_lines bytes ++ l) (append-nil last) ∙ ap (λ (l : List ℕ). all_lines l) no_more in
      stopped_at_line fault last [] ahead
      (stopped (part_from [] bytes) ahead.answered.held keeping.part keeping.waits) all
      (inl (input_ended call none wide)) (λ _. (input_ended call none wide, refl))
      (subst (λ (l : List ℕ). length l ≤ budget) no_more within)

  -- the fault goes on as it is
  pub served_err : {old new : View} {start end : S} {budget : ℕ} (fault : Fault) (r : Result Status Fault)
      → IsErrAnd r (λ (e : Fault). e ≡ fault) → Served terms old new start end budget (status_of fault)
      → Served terms old new start end budget (status_at r)
  served_err fault (Ok status) never served = absurd never
  served_err {old} {new} {start} {end} {budget} fault (Err e) same served =
      subst (λ (f : Fault). Served terms old new start end budget (status_of f)) (sym same) served
