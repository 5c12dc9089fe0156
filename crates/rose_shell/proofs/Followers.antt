-- This file shows that each answer of a follower is one step, so its states are sound, the frames that it applies are counted, and
-- each crash leaves what the first of them made; and that a session which begins after the files were read is one from before.
use Rattle.std.proofs.Common.{◌≡◌, ◌⊎◌, inl, inr, ⊎_elim, ℕ, ◌<◌, ◌≤◌, true, false, List, [], ◌∷◌, ◌++◌, length, codes, All}
use Rattle.std.proofs.Common.{refl, sym, ◌∙◌, ap, subst, arith, length-append}
use Rattle.std.specs.Prelude.{◌≢◌, None, Err}
use Rattle.std.specs.Fmt.{decimal}
use Rattle.std.proofs.lemmas.List.Elements.{All-nil, All-cons}
use Rattle.outside_world.specs.View.{View, Asked, Moment, MayLeave}
use Rattle.outside_world.specs.GoesOn.{GoesOn}
use Rattle.outside_world.specs.declared.world.Outside.{Ghosts}
use Rattle.outside_world.proofs.Moments.{only_wider, only_then}
use Rattle.standby_core.specs.declared.frame.Frame.{Frame}
use Rattle.standby_core.specs.declared.frame.Frame.TheVariants.{Rec, Snap}
use Rattle.standby_core.specs.Frames.{IsLineOf}
use Rattle.pair_law.specs.Following as law
use Rattle.pair_law.specs.Following.{Outcome, Treats, Takes, reply_of}
use Rattle.pair_law.specs.Following.Outcome.{NoFrame, PassedOver, NoRoom, NoGeneration, NoRecord, Applied}
use Rattle.realm_insert.specs.State.{State}
use Rattle.realm_journal.specs.Reading.{OnlyAsks}
use Rattle.realm_pages.specs.declared.damage.Damage.{Damage}
use Rattle.realm_files.specs.Stands.{Files}
use Rattle.realm_files.specs.Keeping.{KnowsGate}
use Rattle.realm_files.specs.Syncing.{IsOpened}
use Rattle.realm_files.proofs.Pairs.{same_files}
use Rattle.realm_files.proofs.Rests.{stands_gated}
use Rattle.realm_store.specs.Stands.{meaning}
use Rattle.realm_store.specs.Keeping.{Kept, SpendableKept, RestsAt, AllRest, StandsGated}
use Rattle.realm_store.specs.Sound.{IsSound}
use Rattle.rose_shell.specs.declared.fault.Fault.{Fault}
use Rattle.rose_shell.specs.declared.status.Status.{Status}
use Rattle.rose_shell.specs.declared.status.Status.TheVariants as ends
use Rattle.rose_shell.specs.Faults.{IsCaused, HasCause, TellsFault, status_of}
use Rattle.rose_shell.specs.Desk.{Terms, AllRestBy}
use Rattle.rose_shell.specs.Turns.{Turn, end_of, replies, lines_of}
use Rattle.rose_shell.specs.Session.{Work}
use Rattle.rose_shell.specs.Prefixes.{IsCounted}
use Rattle.rose_shell.specs.Running.{ready_store, state_in, is_commit, StandForState, IsCrashOf}
use Rattle.rose_shell.specs.OneByOne.{IsRunAlone, IsAnsweredAlone, EndsAloneBy, ServedAlone}
use Rattle.rose_shell.specs.Progress.{HasReason}
use Rattle.rose_shell.specs.Following.{AnswersFrame, FollowTerms, AreTakenAs, HasBegunFollowing}
use Rattle.rose_shell.proofs.Steps.{IsCommit, StaysAt, stays_by, changes_led}
use Rattle.rose_shell.proofs.Sessions.{KeepGates, step_counted, run_prefix}
use Rattle.rose_shell.proofs.Prefixes.{start_is_prefix}
use Rattle.rose_shell.proofs.Openings.{crash_behind, cut_off_from, files_from}
use Rattle.rose_shell.proofs.Ends.{never_usage, cause_of, intact_if}
use Rattle.rose_shell.proofs.Rises.{rose_behind}

-- ---- one step

-- the reply to a frame that was applied begins with a word
ack_has_bytes : (changes : ℕ) → 0 < length (reply_of Applied changes)
ack_has_bytes changes =
    let word : length (codes "ack ") ≡ 4 = refl in
    omega (arith, length-append (codes "ack ") (decimal changes ++ 10 ∷ []), word)

-- a frame that was applied has raised the number of changes
applied_step : (old new : Kept) (f : Frame) (line : List ℕ) → IsLineOf f line → Treats old f Applied new
    → IsCommit old (reply_of Applied new.state.changes) new
applied_step old new (Rec r) line is treats = record {
  changes = omega (arith, changes_led old.state r.entries new.state treats.1.0.entries, is.is_frame.has_text.some);
  has_reply = ack_has_bytes new.state.changes;
  has_gate = treats.1.2;
}
applied_step old new (Snap s) line is treats = record {
  changes = omega (arith, treats.0.is_next.comes_next, ap (λ (t : State). t.changes) treats.1.0);
  has_reply = ack_has_bytes new.state.changes;
  has_gate = treats.1.2;
}

-- any other outcome leaves the state
treated_step : (old new : Kept) (f : Frame) (line : List ℕ) (outcome : Outcome) → IsLineOf f line
    → (old.has_gate ≡ true → new.has_gate ≡ true) → Treats old f outcome new
    → StaysAt old new ⊎ IsCommit old (reply_of outcome new.state.changes) new
treated_step old new f line NoFrame is gate treats = inl (stays_by treats.1)
treated_step old new f line PassedOver is gate treats = inl (stays_by treats.2)
treated_step old new f line NoRoom is gate treats = inl (stays_by treats.2)
treated_step old new f line NoGeneration is gate treats = inl (stays_by treats.3)
treated_step old new f line NoRecord is gate treats = inl record { state = treats.2.state; has_gate = gate }
treated_step old new f line Applied is gate treats = inr (applied_step old new f line is treats)

taken_step : (old new : Kept) (line : List ℕ) (outcome : Outcome) → (old.has_gate ≡ true → new.has_gate ≡ true)
    → Takes old line outcome new → StaysAt old new ⊎ IsCommit old (reply_of outcome new.state.changes) new
taken_step old new line outcome gate (inl none) = inl (stays_by none.2)
taken_step old new line outcome gate (inr taken) = treated_step old new taken.0 line outcome taken.1 gate taken.2

answer_step : (old : SpendableKept) (line reply : List ℕ) (new : SpendableKept) → AnswersFrame old line reply new
    → StaysAt old.kept new.kept ⊎ IsCommit old.kept reply new.kept
answer_step old line reply new answer =
    subst (λ (l : List ℕ). StaysAt old.kept new.kept ⊎ IsCommit old.kept l new.kept) (sym answer.follows.2)
    (taken_step old.kept new.kept line answer.follows.0 answer.has_gate answer.follows.1)

-- ---- runs

-- so each state is sound,
run_sound : (start : SpendableKept) (turns : List (Turn SpendableKept)) → IsRunAlone AnswersFrame start turns
    → All (λ turn. IsSound turn.after.kept.state) turns
run_sound start [] run = All-nil (λ turn. IsSound turn.after.kept.state)
run_sound start (turn ∷ turns) run =
    All-cons (λ t. IsSound t.after.kept.state) turn turns run.0.answer.sound (run_sound turn.after turns run.1)

-- the frames that were applied are counted,
run_counted : (start : SpendableKept) (turns : List (Turn SpendableKept)) → IsRunAlone AnswersFrame start turns
    → IsCounted state_in is_commit start turns
run_counted start [] run = tt
run_counted start (turn ∷ turns) run = (
  step_counted start.kept turn.reply turn.after.kept (answer_step start turn.line turn.reply turn.after run.0.answer),
  run_counted turn.after turns run.1,
)

-- and a gate that is there stays there
run_gates : (start : SpendableKept) (turns : List (Turn SpendableKept)) → IsRunAlone AnswersFrame start turns
    → KeepGates start turns
run_gates start [] run = tt
run_gates start (turn ∷ turns) run = (run.0.answer.has_gate, run_gates turn.after turns run.1)

-- and the turns are those of the laws
taken_of : (start : SpendableKept) (turns : List (Turn SpendableKept)) → IsRunAlone AnswersFrame start turns
    → (taken : List law.Turn) × AreTakenAs start.kept turns (end_of start turns).kept taken
taken_of start [] run = ([], record { run = refl; lines = refl; replies_are = refl })
taken_of start (turn ∷ turns) run =
    let more = taken_of turn.after turns run.1 in
    let follows = run.0.answer.follows in (
      record { line = turn.line; outcome = follows.0; after = turn.after.kept } ∷ more.0,
      record {
        run = (follows.1, more.1.run);
        lines = ap (λ (ls : List (List ℕ)). turn.line ∷ ls)
            (more.1.lines ∙ ap (λ (batch : List (List ℕ)). batch ++ lines_of turns) (sym run.0.alone));
        replies_are = ap (λ (l : List ℕ). l ++ law.replies more.0) (sym follows.2)
            ∙ ap (λ (l : List ℕ). turn.reply ++ l) more.1.replies_are;
      },
    )

-- what the store keeps of the files is what a follower asks of them, and back
pub rests_for_follower : {v : View} {s : SpendableKept} → AllRest s.kept v → AllRestBy FollowTerms v s
rests_for_follower rest = record { stable = rest.stable; rests = rest.rests }

pub rests_of_follower : {v : View} {s : SpendableKept} → AllRestBy FollowTerms v s → AllRest s.kept v
rests_of_follower rest = record { stable = rest.stable; rests = rest.rests }

-- ---- sessions

-- a session from the moment at which the files had been read is one from before
module _ {old mid : View} (now : (t : ℕ) (m : Moment) → t ≤ old.moment → MayLeave old m → old.left_since t m)
    (only_now : (m : Moment) → old.left_since old.moment m → MayLeave old m)
    (none_asked : (a : Asked) → old.asked_since old.moment a → ⊥) (asks : OnlyAsks old mid) where
  -- so is each take
  answered_from : {S : Type 0} {budget : ℕ} {turns : List (Turn S)} (a : Asked) → IsAnsweredAlone mid budget turns a
      → IsAnsweredAlone old budget turns a
  answered_from a is = record {
    bytes = is.bytes;
    done = is.done;
    others = is.others;
    some = is.some;
    taken = is.taken ∙ ap (λ (l : List ℕ). l ++ is.bytes) asks.takes.taken;
    in_budget = is.in_budget;
    answered = is.answered;
    given = is.given ∙ ap (λ (l : List ℕ). l ++ replies is.done) asks.given;
  }

  -- and its end
  module _ {S : Type 0} (terms : Terms S) (new : View) (start : S) where
    ended_from : (w : Work S) (budget : ℕ) (status : Status) → EndsAloneBy terms mid new start w budget status
        → EndsAloneBy terms old new start w budget status
    ended_from w budget ends.Done is = is
    ended_from w budget ends.Usage is = is
    ended_from w budget ends.SourceFault is = is
    ended_from w budget ends.SinkFault is = is
    ended_from w budget ends.DiskFault is = cut_off_from now only_now none_asked asks is
    ended_from w budget (ends.Damaged d) is = is
    ended_from w budget ends.NoMemory is = is
    ended_from w budget ends.InputLimit is = is

  module _ {S : Type 0} {terms : Terms S} {new : View} {start : S} where
    alone_from : {budget : ℕ} {status : Status} → ServedAlone terms mid new start budget status
        → ServedAlone terms old new start budget status
    alone_from {budget} {status} served =
        let work = served.work in
        let input = served.input in
        record {
          work = work;
          input = record {
            later = omega (arith, asks.takes.later, input.later);
            left = sym asks.takes.left ∙ input.left;
            taken = input.taken ∙ ap (λ (l : List ℕ). l ++ work.bytes) asks.takes.taken;
            of_lines = input.of_lines;
            whole = input.whole;
            within = input.within;
          };
          given = served.given ∙ ap (λ (l : List ℕ). l ++ replies work.turns) asks.given;
          is_run = served.is_run;
          asked = only_then (only_wider asks.takes.asked (λ a none. absurd none)) asks.takes.later
              (only_wider served.asked answered_from);
          files = files_from now only_now none_asked asks served.files;
          ended = ended_from terms new start work budget status served.ended;
        }

  -- from the moment on from which a crash leaves the files as they were read, each crash is one of the session
  module _ {new : View} {start : Kept} {budget : ℕ} {status : Status} (opened : IsOpened old mid)
      (rests : RestsAt start old.reads) (knows : KnowsGate start old.reads) (sound : IsSound start.state) where
    has_begun : ServedAlone FollowTerms mid new (ready_store start) budget status → HasBegunFollowing old new budget status
    unfolding alone_from
    has_begun served =
        let first = ready_store start in
        let turns = served.work.turns in
        let run = served.is_run in
        let counted = run_counted first turns run in
        let taken = taken_of first turns run in
        let prefix = run_prefix FollowTerms.same mid new first turns (run_gates first turns run) counted served.files.crash in
        record {
          start = start;
          rests = rests;
          knows = knows;
          session = alone_from served;
          taken = taken.0;
          are_taken = taken.1;
          sound = (sound, run_sound first turns run);
          counted = counted;
          prefix = λ has.
              crash_behind now only_now none_asked asks new (λ given m. IsCrashOf first turns given m) (prefix has);
          rest = λ no_fault. rests_of_follower (served.files.rest no_fault);
          since = opened.since;
          begun = opened.begun;
          by_now = omega (arith, opened.by_now, served.input.later);
          before = λ m left.
              ⊎_elim (λ past. inl (only_now m past)) (λ is. inr is)
              ((files_from now only_now none_asked asks served.files).crash.nothing_else old.moment m (omega arith) left);
          settled = λ has m since.
              ⊎_elim
              (λ before. let is = opened.settled m before in
              start_is_prefix state_in is_commit StandForState first turns old.given m is.0
              (subst (λ (files : Files). StandsGated files start.state) (sym (same_files is.1)) (stands_gated meaning has rests)))
              (λ during. subst (λ (g : List ℕ). IsCrashOf first turns g m) asks.given during)
              ((prefix has).nothing_else opened.since m opened.by_now since);
          first_asked = λ a asked.
              ⊎_elim
              (λ past. absurd (none_asked a (⊎_elim (λ was. was) (λ never. absurd never)
              (asks.takes.asked.nothing_else old.moment a (omega arith) past))))
              (λ is. answered_from a is)
              (served.asked.nothing_else old.moment a asks.takes.later asked);
        }

  -- the store that was started isn't spent, and has no group
  pub following_by : {new : View} {first : SpendableKept} {budget : ℕ} {status : Status} → first.spent ≡ false
      → first.group ≡ None → IsOpened old mid → RestsAt first.kept old.reads → KnowsGate first.kept old.reads
      → IsSound first.kept.state → ServedAlone FollowTerms mid new first budget status
      → HasBegunFollowing old new budget status
  following_by {new} {first} {budget} {status} ready alone opened rests knows sound served =
      has_begun opened rests knows sound
      (subst (λ (s : SpendableKept). ServedAlone FollowTerms mid new s budget status)
      (λ i. record { kept = first.kept; group = alone i; spent = ready i }) served)

-- ---- statuses

-- a session that tells of no fault takes its input to the end where this is within the budget, unless memory runs out
pub alone_to_end : {S : Type 0} {terms : Terms S} {old new : View} {start : S} {budget : ℕ} (status : Status)
    → ServedAlone terms old new start budget status → status ≢ ends.SourceFault → status ≢ ends.SinkFault
    → status ≢ ends.DiskFault → length old.left ≤ budget → (status ≡ ends.Done) ⊎ (status ≡ ends.NoMemory)
alone_to_end ends.Done served source sink disk within = inl refl
alone_to_end ends.Usage served source sink disk within = absurd served.ended
alone_to_end ends.SourceFault served source sink disk within = absurd (source refl)
alone_to_end ends.SinkFault served source sink disk within = absurd (sink refl)
alone_to_end ends.DiskFault served source sink disk within = absurd (disk refl)
alone_to_end (ends.Damaged d) served source sink disk within = absurd served.ended
alone_to_end ends.NoMemory served source sink disk within = inr refl
alone_to_end {new = new} ends.InputLimit served source sink disk within =
    let over = served.ended in
    let input = served.input in
    absurd (omega (
      arith,
      within,
      ap (λ (l : List ℕ). length l) input.left,
      length-append served.work.bytes new.left,
      ap (λ (l : List ℕ). length l) over.2,
      length-append over.0 over.1,
      over.3,
      over.4,
    ))

-- and it never ends with a damage
pub alone_undamaged : {S : Type 0} {terms : Terms S} {old new : View} {start : S} {budget : ℕ} {d : Damage} (status : Status)
    → ServedAlone terms old new start budget status → status ≡ ends.Damaged d → ⊥
alone_undamaged {terms = terms} {old} {new} {start} {budget} status served is =
    (subst (λ (s : Status). ServedAlone terms old new start budget s) is served).ended

module _ {World : Type 0} {outside : Ghosts World} where
  -- what came about after other calls has the same reason
  pub reason_behind : {old mid new : World} {status : Status} → GoesOn outside old mid → HasReason outside mid new status
      → HasReason outside old new status
  reason_behind went reason = record {
    never_usage = reason.never_usage;
    cause = record {
      source = λ is. rose_behind went.source_faults (reason.cause.source is);
      sink = λ is. rose_behind went.sink_faults (reason.cause.sink is);
      disk = λ is. rose_behind went.disk_faults (reason.cause.disk is);
    };
    intact = reason.intact;
  }

  -- a status that tells of no fault
  pub reason_quiet : {old new : World} (status : Status) → status ≢ ends.Usage → ¬ (TellsFault status)
      → outside.failed new ≡ false → HasReason outside old new status
  reason_quiet status never none intact = record {
    never_usage = never;
    cause = record {
      source = λ is. absurd (none (subst TellsFault (sym is) tt));
      sink = λ is. absurd (none (subst TellsFault (sym is) tt));
      disk = λ is. absurd (none (subst TellsFault (sym is) tt));
    };
    intact = λ _. intact;
  }

  -- memory has run out behind other calls
  pub reason_memory : {old new : World} {status : Status} → status ≡ ends.NoMemory → outside.failed new ≡ false
      → HasReason outside old new status
  reason_memory {old} {new} is intact =
      subst (λ (s : Status). HasReason outside old new s) (sym is) (reason_quiet ends.NoMemory (λ other. cc) (λ never. never) intact)

  -- or that of a fault
  pub reason_fault : {old new : World} {status : Status} (fault : Fault) → status ≡ status_of fault → IsCaused outside old new fault
      → HasReason outside old new status
  reason_fault {old} {new} fault is caused =
      subst (λ (s : Status). HasReason outside old new s) (sym is)
      (record {
        never_usage = never_usage (Err fault) tt;
        cause = cause_of (Err fault) tt caused;
        intact = λ none. intact_if outside old new (Err fault) tt caused none;
      })

  -- or that which an answer ended with
  pub reason_answer : {old new : World} (status : Status)
      → (status ≡ ends.DiskFault) ⊎ ((status ≡ ends.NoMemory) ⊎ ((d : Damage) × (status ≡ ends.Damaged d)))
      → HasCause outside old new status → ((status ≡ ends.DiskFault → ⊥) → outside.failed new ≡ false)
      → HasReason outside old new status
  reason_answer status (inl disk) cause intact = record {
    never_usage = λ other. let both = sym disk ∙ other in cc;
    cause = cause;
    intact = λ none. absurd (none (subst TellsFault (sym disk) tt));
  }
  reason_answer status (inr (inl memory)) cause intact = record {
    never_usage = λ other. let both = sym memory ∙ other in cc;
    cause = cause;
    intact = λ _. intact (λ other. let both = sym memory ∙ other in cc);
  }
  reason_answer status (inr (inr damaged)) cause intact = record {
    never_usage = λ other. let both = sym damaged.1 ∙ other in cc;
    cause = cause;
    intact = λ _. intact (λ other. let both = sym damaged.1 ∙ other in cc);
  }
