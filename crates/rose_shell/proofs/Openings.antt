-- This file shows that a session that begins after the files were read is one from before.
use Rattle.std.proofs.Common.{◌≡◌, inl, inr, ⊎_elim, ℕ, ◌≤◌, false, List, ◌++◌, sym, ◌∙◌, ap, subst, arith}
use Rattle.std.specs.Prelude.{◌^◌, None}
use Rattle.outside_world.specs.View.{View, Asked, Moment, MayLeave}
use Rattle.outside_world.specs.Since.{LeavesOnly}
use Rattle.outside_world.proofs.Moments.{only_wider, only_then}
use Rattle.realm_journal.specs.Reading.{OnlyAsks}
use Rattle.realm_files.specs.Stands.{Files}
use Rattle.realm_files.specs.Keeping.{KnowsGate}
use Rattle.realm_files.specs.Syncing.{IsOpened}
use Rattle.realm_files.proofs.Pairs.{same_files}
use Rattle.realm_files.proofs.Rests.{stands_gated}
use Rattle.realm_store.specs.Stands.{meaning}
use Rattle.realm_store.specs.Keeping.{Kept, SpendableKept, RestsAt, StandsGated}
use Rattle.rose_shell.specs.declared.status.Status.{Status}
use Rattle.rose_shell.specs.declared.status.Status.TheVariants.{Done, Usage, SourceFault, SinkFault}
use Rattle.rose_shell.specs.declared.status.Status.TheVariants.{DiskFault, Damaged, NoMemory, InputLimit}
use Rattle.rose_shell.specs.Desk.{Terms, StandsBetween}
use Rattle.rose_shell.specs.Turns.{Turn, end_of, files_after, replies}
use Rattle.rose_shell.specs.Moments.{IsMoment, AreLeft, FollowsTurns}
use Rattle.rose_shell.specs.Session.{IsAnswered, IsCutOff, Work, EndsBy, Served}
use Rattle.rose_shell.specs.Running.{state_in, is_commit, StandForState, IsCrashOf, AreUntouched, HasServed, HasBegun, ready_store}
use Rattle.rose_shell.proofs.Prefixes.{start_is_prefix}

-- what a crash could leave at the call counts as left before it
module _ {old mid : View} (now : (t : ℕ) (m : Moment) → t ≤ old.moment → MayLeave old m → old.left_since t m)
    (only_now : (m : Moment) → old.left_since old.moment m → MayLeave old m)
    (none_asked : (a : Asked) → old.asked_since old.moment a → ⊥) (asks : OnlyAsks old mid) where
  -- the files read as they did
  pub same_reads : mid.reads ≡ old.reads
  same_reads = same_files asks.files.reads

  pub crash_behind : (new : View) (P : List ℕ → Moment → Type 0) → LeavesOnly mid new (P mid.given) → LeavesOnly old new (P old.given)
  crash_behind new P crash =
      only_then
      (record {
        nothing_else = λ t m early since.
            ⊎_elim (λ past. inl past) (λ may. inl (now t m early may)) (asks.crash.nothing_else t m early since);
      })
      asks.takes.later
      (only_wider crash (λ m is. subst (λ (g : List ℕ). P g m) asks.given is))

  -- each take is one from before
  answered_from : {S : Type 0} {budget : ℕ} {turns : List (Turn S)} (a : Asked) → IsAnswered mid budget turns a
      → IsAnswered old budget turns a
  answered_from a is = record {
    bytes = is.bytes;
    done = is.done;
    others = is.others;
    some = is.some;
    taken = is.taken ∙ ap (λ (l : List ℕ). l ++ is.bytes) asks.takes.taken;
    in_budget = is.in_budget;
    answered = is.answered;
    given = is.given ∙ ap (λ (l : List ℕ). l ++ replies is.done) asks.given;
  }

  module _ {S : Type 0} {terms : Terms S} {new : View} {start : S} where
    pub cut_off_from : {turns : List (Turn S)} {unsent : List ℕ} → IsCutOff terms mid new start turns unsent
        → IsCutOff terms old new start turns unsent
    cut_off_from cut = record {
      before = cut.before;
      last = cut.last;
      in_order = cut.in_order;
      none_given = cut.none_given;
      given_before = cut.given_before ∙ ap (λ (l : List ℕ). l ++ replies cut.before) asks.given;
      may_write = cut.may_write;
      now = λ files image.
          subst
          (λ (f : Files). StandsBetween terms.same terms.stands (end_of start cut.before) cut.last.after (files_after f cut.before) files)
          same_reads (cut.now files image);
    }

    -- and the files follow the same turns
    pub files_from : {P : Type 0} {turns : List (Turn S)} → FollowsTurns terms P mid new start turns
        → FollowsTurns terms P old new start turns
    files_from {turns = turns} files = record {
      crash = crash_behind new (λ given m. IsMoment terms.same terms.stands start old.reads turns given m)
          (only_wider files.crash (λ m is.
          subst (λ (f : Files). IsMoment terms.same terms.stands start f turns mid.given m) same_reads is));
      still = subst (λ (f : Files). AreLeft terms.same start f turns) same_reads files.still;
      reads = files.reads ∙ ap (λ (f : Files). files_after f turns) same_reads;
      rest = files.rest;
    }

  -- however it ended
  module _ {S : Type 0} (terms : Terms S) (new : View) (start : S) where
    ended_from : (w : Work S) (budget : ℕ) (status : Status) → EndsBy terms mid new start w budget status
        → EndsBy terms old new start w budget status
    ended_from w budget Done is = is
    ended_from w budget Usage is = is
    ended_from w budget SourceFault is = is
    ended_from w budget SinkFault is = is
    ended_from w budget DiskFault is = cut_off_from is
    ended_from w budget (Damaged d) is = is
    ended_from w budget NoMemory is = is
    ended_from w budget InputLimit is = is

  module _ {S : Type 0} {terms : Terms S} {new : View} {start : S} where
    -- the bytes are the same, and so is the rest
    served_from : {end : S} {budget : ℕ} {status : Status} → Served terms mid new start end budget status
        → Served terms old new start end budget status
    served_from {budget = budget} {status} served =
        let work = served.work in
        let input = served.input in
        record {
          work = work;
          input = record {
            later = omega (arith, asks.takes.later, input.later);
            left = sym asks.takes.left ∙ input.left;
            taken = input.taken ∙ ap (λ (l : List ℕ). l ++ work.bytes) asks.takes.taken;
            of_lines = input.of_lines;
            full = input.full;
            whole = input.whole;
            within = input.within;
          };
          given = served.given ∙ ap (λ (l : List ℕ). l ++ replies work.turns) asks.given;
          state = served.state;
          asked = only_then (only_wider asks.takes.asked (λ a none. absurd none)) asks.takes.later
              (only_wider served.asked answered_from);
          files = files_from served.files;
          ended = ended_from terms new start work budget status served.ended;
        }

  module _ {new : View} {start : Kept} {end : SpendableKept} {status : Status} (opened : IsOpened old mid)
      (rests : RestsAt start old.reads) (knows : KnowsGate start old.reads) where
    -- from the moment on from which a crash leaves the files as they were read, each crash is one of the session
    has_begun : HasServed mid new (ready_store start) end (2 ^ 40) status → HasBegun old new status
    unfolding served_from
    has_begun served =
        let first = ready_store start in
        let turns = served.session.work.turns in
        record {
          start = start;
          rests = rests;
          knows = knows;
          end = end;
          served = record {
            last = served.last;
            session = served_from served.session;
            given_up = served.given_up;
            sound = served.sound;
            grouped = subst (λ (f : Files). AreUntouched first f turns) same_reads served.grouped;
            counted = served.counted;
            prefix = λ has. crash_behind new (λ given m. IsCrashOf first turns given m) (served.prefix has);
            rest = served.rest;
          };
          since = opened.since;
          begun = opened.begun;
          by_now = omega (arith, opened.by_now, served.session.input.later);
          before = λ m left.
              ⊎_elim (λ past. inl (only_now m past)) (λ is. inr is)
              ((files_from served.session.files).crash.nothing_else old.moment m (omega arith) left);
          settled = λ has m since.
              ⊎_elim
              (λ before. let is = opened.settled m before in
              start_is_prefix state_in is_commit StandForState first turns old.given m is.0
              (subst (λ (files : Files). StandsGated files start.state) (sym (same_files is.1)) (stands_gated meaning has rests)))
              (λ during. subst (λ (g : List ℕ). IsCrashOf first turns g m) asks.given during)
              ((served.prefix has).nothing_else opened.since m opened.by_now since);
          first_asked = λ a asked.
              ⊎_elim
              (λ past. absurd (none_asked a (⊎_elim (λ was. was) (λ never. absurd never)
              (asks.takes.asked.nothing_else old.moment a (omega arith) past))))
              (λ is. answered_from a is)
              (served.session.asked.nothing_else old.moment a asks.takes.later asked);
        }

  -- the store that was started isn't spent, and has no group
  pub begun_by : {new : View} {first end : SpendableKept} {status : Status} → first.spent ≡ false → first.group ≡ None → IsOpened old mid
      → RestsAt first.kept old.reads → KnowsGate first.kept old.reads → HasServed mid new first end (2 ^ 40) status
      → HasBegun old new status
  begun_by {new} {first} {end} {status} ready alone opened rests knows served =
      has_begun opened rests knows
      (subst (λ (s : SpendableKept). HasServed mid new s end (2 ^ 40) status)
      (λ i. record { kept = first.kept; group = alone i; spent = ready i }) served)
