-- This file shows how lines are answered one after another.
use Rattle.std.proofs.Common.{◌≡◌, ℕ, ◌≤◌, List, [], ◌++◌, refl, sym, ◌∙◌, ap, subst, append_assoc}
use Rattle.std.proofs.lemmas.List.{append-nil}
use Rattle.outside_world.specs.View.{View, Moment}
use Rattle.rose_shell.specs.declared.fault.Fault.{Fault}
use Rattle.rose_shell.specs.declared.fault.Fault.TheVariants as faults
use Rattle.rose_shell.specs.declared.waiting.Waiting.{Waiting}
use Rattle.realm_files.specs.Stands.{Files}
use Rattle.rose_shell.specs.Desk.{Terms, AllRestBy}
use Rattle.rose_shell.specs.Turns.{Turn, IsRun, end_of, files_after, replies, lines_of}
use Rattle.rose_shell.specs.Moments.{IsMoment, AreLeft, FollowsTurns}
use Rattle.rose_shell.specs.Session.{IsCutOff}
use Rattle.rose_shell.specs.Loop.{IsWaiting, Went, StopsBy, Stopped}
use Rattle.outside_world.proofs.Moments.{only_nothing, only_wider, only_then, none_taken, none_taken_then}
use Rattle.rose_shell.proofs.Turns.{end_of-append, files_after-append, left-append, replies-append, lines_behind}
use Rattle.rose_shell.proofs.Turns.{complete_wider, complete-append, run-append}
use Rattle.rose_shell.proofs.Turns.{given_in_part_behind, cut_off_behind, moment_before, moment_behind}

-- these turns lead from state to state, their replies were given whole, and the files follow them
pub record Made {S : Type 0} (terms : Terms S) (old new : View) (start end : S)
    (turns : List (Turn S)) : Type 0 where
  pub ends : end ≡ end_of start turns
  pub given : new.given ≡ old.given ++ replies turns
  pub later : old.moment ≤ new.moment
  pub files : FollowsTurns terms Unit old new start turns

-- the files follow, whatever is said of their rest
pub follows_if : {S : Type 0} {terms : Terms S} {P Q : Type 0} {old new : View} {start : S} {turns : List (Turn S)} → (Q → P)
    → FollowsTurns terms P old new start turns → FollowsTurns terms Q old new start turns
follows_if weaker files =
    record { crash = files.crash; still = files.still; reads = files.reads; rest = λ q. files.rest (weaker q) }

-- no turn was made
pub follows_none : {S : Type 0} {terms : Terms S} {P : Type 0} {v : View} {s : S} → AllRestBy terms v s
    → FollowsTurns terms P v v s []
follows_none rest = record { crash = only_nothing; still = tt; reads = refl; rest = λ _. rest }

-- more turns behind these
module _ {S : Type 0} {terms : Terms S} {old mid : View} {start between : S} {ts : List (Turn S)}
    (made : Made terms old mid start between ts) (us : List (Turn S)) where
  pub run_then : IsRun terms start ts → IsRun terms between us → IsRun terms start (ts ++ us)
  run_then first second = run-append terms start ts us first (subst (λ (s : S). IsRun terms s us) made.ends second)

  pub ends_then : end_of between us ≡ end_of start (ts ++ us)
  ends_then = ap (λ (s : S). end_of s us) made.ends ∙ sym (end_of-append start ts us)

  pub replies_then : mid.given ++ replies us ≡ old.given ++ replies (ts ++ us)
  replies_then =
      ap (λ (l : List ℕ). l ++ replies us) made.given ∙ append_assoc old.given (replies ts) (replies us)
      ∙ ap (λ (l : List ℕ). old.given ++ l) (sym (replies-append ts us))

  -- however these stop
  pub stops_behind : (new : View) (end : S) (unsent : List ℕ) (fault : Fault) → StopsBy terms mid new between end us unsent fault
      → StopsBy terms old new start end (ts ++ us) unsent fault
  stops_behind new end unsent faults.Source stops = stops
  stops_behind new end unsent faults.Sink stops = (stops.0 ∙ ends_then, given_in_part_behind ts stops.1)
  stops_behind new end unsent faults.Disk stops =
      cut_off_behind start ts made.given made.files.reads (subst (λ (s : S). IsCutOff terms mid new s us unsent) made.ends stops)
  stops_behind new end unsent faults.NoMemory stops = stops

  -- a moment of theirs, from the state, the files and the bytes at which these ended
  moment_then : (m : Moment) → IsMoment terms.same terms.stands between mid.reads us mid.given m
      → IsMoment terms.same terms.stands start old.reads (ts ++ us) old.given m
  moment_then m is =
      moment_behind terms.same terms.stands start old.reads ts us old.given m
      (subst (λ (s : S). IsMoment terms.same terms.stands s (files_after old.reads ts) us (old.given ++ replies ts) m) made.ends
      (subst (λ (f : Files). IsMoment terms.same terms.stands between f us (old.given ++ replies ts) m) made.files.reads
      (subst (λ (g : List ℕ). IsMoment terms.same terms.stands between mid.reads us g m) made.given is)))

  pub files_then : {P : Type 0} {new : View} → FollowsTurns terms P mid new between us → FollowsTurns terms P old new start (ts ++ us)
  files_then {new = new} more = record {
    crash = only_then (only_wider made.files.crash (moment_before terms.same terms.stands start old.reads ts us old.given)) made.later
        (only_wider more.crash moment_then);
    still = left-append terms.same start old.reads ts us made.files.still
        (subst (λ (s : S). AreLeft terms.same s (files_after old.reads ts) us) made.ends
        (subst (λ (f : Files). AreLeft terms.same between f us) made.files.reads more.still));
    reads = more.reads ∙ ap (λ (f : Files). files_after f us) made.files.reads ∙ sym (files_after-append old.reads ts us);
    rest = λ p. subst (λ (s : S). AllRestBy terms new s) ends_then (more.rest p);
  }

module _ {S : Type 0} {terms : Terms S} where
  -- no line is answered, and all wait
  pub went_none : {v : View} {s : S} {lines : List (List ℕ)} {waiting : Waiting} {none_left : Type 0} → AllRestBy terms v s
      → IsWaiting waiting lines → Went terms none_left v v s s lines waiting
  went_none {v} {lines = lines} rest waits = record {
    turns = [];
    held = lines;
    is_run = tt;
    full = tt;
    waits = waits;
    of_lines = refl;
    ends = refl;
    given = sym (append-nil v.given);
    takes = none_taken;
    files = follows_none rest;
  }

  -- where the input has ended the last batch may have fewer lines than it asks for
  pub went_to_end : {old new : View} {start end : S} {lines : List (List ℕ)} {waiting : Waiting} {none_left : Type 0}
      → Went terms ⊥ old new start end lines waiting → Went terms none_left old new start end lines waiting
  went_to_end went = record {
    turns = went.turns;
    held = went.held;
    is_run = went.is_run;
    full = complete_wider (λ never. absurd never) went.turns went.full;
    waits = went.waits;
    of_lines = went.of_lines;
    ends = went.ends;
    given = went.given;
    takes = went.takes;
    files = went.files;
  }

  -- and the files are at rest
  pub rest_behind : {old new : View} {start end : S} {lines : List (List ℕ)} {waiting : Waiting} {none_left : Type 0}
      → Went terms none_left old new start end lines waiting → AllRestBy terms new end
  rest_behind {new = new} went = subst (λ (s : S). AllRestBy terms new s) (sym went.ends) (went.files.rest tt)

  -- memory runs out before any line is answered
  pub stopped_none : {v : View} {s : S} {none_left : Type 0} (lines : List (List ℕ)) → AllRestBy terms v s
      → Stopped terms none_left v v s s lines faults.NoMemory
  stopped_none lines rest = record {
    turns = [];
    unread = lines;
    unsent = [];
    is_run = tt;
    full = tt;
    of_lines = refl;
    given = refl;
    takes = none_taken;
    files = follows_none rest;
    ended = refl;
  }

  -- the sink fails
  pub stopped_at : {old new : View} {start end : S} {lines : List (List ℕ)} {fault at : Fault} {none_left : Type 0} → fault ≡ at
      → Stopped terms none_left old new start end lines at → Stopped terms none_left old new start end lines fault
  stopped_at {old} {new} {start} {end} {lines} {none_left = none_left} is stopped =
      subst (λ (h : Fault). Stopped terms none_left old new start end lines h) (sym is) stopped

  -- memory runs out when these lines are answered, but for those that wait
  pub stopped_behind : {old new : View} {start end : S} {lines : List (List ℕ)} {waiting : Waiting} {none_left : Type 0}
      → Went terms ⊥ old new start end lines waiting → Stopped terms none_left old new start end lines faults.NoMemory
  stopped_behind {new = new} went = record {
    turns = went.turns;
    unread = went.held;
    unsent = [];
    is_run = went.is_run;
    full = complete_wider (λ never. absurd never) went.turns went.full;
    of_lines = went.of_lines;
    given = append-nil new.given ∙ went.given;
    takes = went.takes;
    files = follows_if (λ _. tt) went.files;
    ended = refl;
  }

  -- more lines that aren't read
  pub stopped_more : {old new : View} {start end : S} {lines : List (List ℕ)} {fault : Fault} {none_left : Type 0}
      (more : List (List ℕ)) → Stopped terms ⊥ old new start end lines fault
      → Stopped terms none_left old new start end (lines ++ more) fault
  stopped_more more stopped = record {
    turns = stopped.turns;
    unread = stopped.unread ++ more;
    unsent = stopped.unsent;
    is_run = stopped.is_run;
    full = complete_wider (λ never. absurd never.0) stopped.turns stopped.full;
    of_lines = sym (append_assoc (lines_of stopped.turns) stopped.unread more) ∙ ap (λ (l : List (List ℕ)). l ++ more) stopped.of_lines;
    given = stopped.given;
    takes = stopped.takes;
    files = stopped.files;
    ended = stopped.ended;
  }

  pub stopped_to_end : {old new : View} {start end : S} {lines : List (List ℕ)} {fault : Fault} {none_left : Type 0}
      → Stopped terms ⊥ old new start end lines fault → Stopped terms none_left old new start end lines fault
  stopped_to_end {old} {new} {start} {end} {lines} {fault} {none_left} stopped =
      subst (λ (ls : List (List ℕ)). Stopped terms none_left old new start end ls fault) (append-nil lines) (stopped_more [] stopped)

  made_by : {old new : View} {start end : S} {lines : List (List ℕ)} {waiting : Waiting} {none_left : Type 0}
      (went : Went terms none_left old new start end lines waiting) → Made terms old new start end went.turns
  made_by went = record {
    ends = went.ends;
    given = went.given;
    later = went.takes.later;
    files = went.files;
  }

  -- lines after others
  pub went_then : {old mid new : View} {start between end : S} {lines : List (List ℕ)} {before after : Waiting}
      {none_left : Type 0} (more : List (List ℕ)) (first : Went terms ⊥ old mid start between lines before)
      → Went terms none_left mid new between end (first.held ++ more) after
      → Went terms none_left old new start end (lines ++ more) after
  went_then {none_left = none_left} more first second =
      let made = made_by first in
      let us = second.turns in
      record {
        turns = first.turns ++ us;
        held = second.held;
        is_run = run_then made us first.is_run second.is_run;
        full = complete-append none_left first.turns us first.full second.full;
        waits = second.waits;
        of_lines = lines_behind first.turns us first.held second.held more first.of_lines second.of_lines;
        ends = second.ends ∙ ends_then made us;
        given = second.given ∙ replies_then made us;
        takes = none_taken_then first.takes second.takes;
        files = files_then made us second.files;
      }

  pub stopped_then : {old mid new : View} {start between end : S} {lines : List (List ℕ)} {before : Waiting} {fault : Fault}
      {none_left : Type 0} (more : List (List ℕ)) (first : Went terms ⊥ old mid start between lines before)
      → Stopped terms none_left mid new between end (first.held ++ more) fault
      → Stopped terms none_left old new start end (lines ++ more) fault
  stopped_then {new = new} {end = end} {fault = fault} {none_left} more first second =
      let made = made_by first in
      let us = second.turns in
      record {
        turns = first.turns ++ us;
        unread = second.unread;
        unsent = second.unsent;
        is_run = run_then made us first.is_run second.is_run;
        full = complete-append (none_left × (second.unread ≡ [])) first.turns us first.full second.full;
        of_lines = lines_behind first.turns us first.held second.unread more first.of_lines second.of_lines;
        given = second.given ∙ replies_then made us;
        takes = none_taken_then first.takes second.takes;
        files = files_then made us second.files;
        ended = stops_behind made us new end second.unsent fault second.ended;
      }

  -- the lines that waited behind others
  pub went_all : {old mid new : View} {start between end : S} {lines : List (List ℕ)} {before after : Waiting} {none_left : Type 0}
      (first : Went terms ⊥ old mid start between lines before) → Went terms none_left mid new between end first.held after
      → Went terms none_left old new start end lines after
  went_all {old} {mid} {new} {start} {between} {end} {lines} {after = after} {none_left} first last =
      subst (λ (ls : List (List ℕ)). Went terms none_left old new start end ls after) (append-nil lines)
      (went_then [] first
      (subst (λ (ls : List (List ℕ)). Went terms none_left mid new between end ls after) (sym (append-nil first.held)) last))

  pub stopped_all : {old mid new : View} {start between end : S} {lines : List (List ℕ)} {before : Waiting} {fault : Fault}
      {none_left : Type 0} (first : Went terms ⊥ old mid start between lines before)
      → Stopped terms none_left mid new between end first.held fault → Stopped terms none_left old new start end lines fault
  stopped_all {old} {mid} {new} {start} {between} {end} {lines} {fault = fault} {none_left} first last =
      subst (λ (ls : List (List ℕ)). Stopped terms none_left old new start end ls fault) (append-nil lines)
      (stopped_then [] first
      (subst (λ (ls : List (List ℕ)). Stopped terms none_left mid new between end ls fault) (sym (append-nil first.held)) last))
