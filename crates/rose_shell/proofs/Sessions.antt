-- This file shows that each turn of a session is one step, so each state on the way is sound, its commits are counted, no file
-- is touched within a group, and each crash leaves what a prefix of the commits made.
use Rattle.std.proofs.Common.{◌≡◌, ◌⊎◌, inl, inr, nat_lt, ℕ, ◌<◌, Bool, true, false, MatchBool, List, [], ◌∷◌, ◌++◌, length, All}
use Rattle.std.proofs.Common.{sym, ap, subst, arith}
use Rattle.std.specs.Prelude.{◌≢◌}
use Rattle.std.proofs.lemmas.Bool.Decides.{nat_tests}
use Rattle.std.proofs.lemmas.List.Elements.{All-nil, All-cons}
use Rattle.outside_world.specs.View.{View, Moment}
use Rattle.outside_world.specs.Since.{LeavesOnly}
use Rattle.outside_world.proofs.Moments.{only_wider}
use Rattle.realm_insert.specs.State.{State}
use Rattle.realm_files.specs.Stands.{Files}
use Rattle.realm_files.proofs.Rests.{stands_gated_from}
use Rattle.realm_store.specs.Stands.{meaning}
use Rattle.realm_store.specs.Keeping.{Kept, SpendableKept, AllRest, StandsGated, without_group}
use Rattle.rose_shell.specs.declared.status.Status.{Status}
use Rattle.rose_shell.specs.declared.status.Status.TheVariants.{DiskFault, NoMemory}
use Rattle.rose_shell.specs.Lines.{longest_line}
use Rattle.rose_shell.specs.Desk.{FilesRule}
use Rattle.rose_shell.specs.Turns.{Turn, Treats, IsSingle, IsBatch, IsRun}
use Rattle.rose_shell.specs.Moments.{IsMoment, AreLeft}
use Rattle.rose_shell.specs.Session.{Served}
use Rattle.rose_shell.specs.Prefixes.{IsCounted}
use Rattle.rose_shell.specs.Running.{StoreTerms, state_in, is_commit, IsSoundStore, StandForState, IsCrashOf, AreUntouched}
use Rattle.rose_shell.specs.Running.{HasServed}
use Rattle.rose_shell.proofs.Steps.{StaysAt, IsCommit, IsOneStep, stays_whole, line_steps}
use Rattle.rose_shell.proofs.Prefixes.{moment_is_prefix}
use Rattle.rose_shell.proofs.Stores.{rests_in_store}

-- whichever of two answers a test chooses
either : (test : Bool) (P Q R : Type 0) → (P → R) → (Q → R) → MatchBool test P Q → R
either true P Q R first second chosen = first chosen
either false P Q R first second chosen = second chosen

-- each turn is one step: a batch changes nothing
treated_steps : (old : SpendableKept) (line reply : List ℕ) (new : SpendableKept) → Treats StoreTerms.answers old line reply new
    → IsOneStep old reply new
treated_steps old line reply new treated =
    either (nat_lt longest_line (length line)) _ _ (IsOneStep old reply new)
    (λ refused. stays_whole refused.1)
    (λ answered. line_steps old line reply new answered.outcome)
    treated

turn_steps : (old : SpendableKept) (turn : Turn SpendableKept)
    → IsSingle StoreTerms.answers old turn ⊎ IsBatch StoreTerms.tells old turn → IsOneStep old turn.reply turn.after
turn_steps old turn (inl single) = treated_steps old turn.line turn.reply turn.after single.treats
turn_steps old turn (inr batch) = stays_whole batch.stays

-- so each leads from sound states to sound states
run_sound : (start : SpendableKept) (turns : List (Turn SpendableKept)) → IsRun StoreTerms start turns
    → IsSoundStore start → All (λ turn. IsSoundStore turn.after) turns
run_sound start [] run sound = All-nil (λ turn. IsSoundStore turn.after)
run_sound start (turn ∷ turns) run sound =
    let after = (turn_steps start turn run.0).sound sound in
    All-cons (λ t. IsSoundStore t.after) turn turns after (run_sound turn.after turns run.1 after)

-- and within a group the files keep the same, so they are left
run_grouped : (start : SpendableKept) (files : Files) (turns : List (Turn SpendableKept)) → IsRun StoreTerms start turns
    → AreLeft StoreTerms.same start files turns → AreUntouched start files turns
run_grouped start files [] run left = tt
run_grouped start files (turn ∷ turns) run left = (
  λ before after. left.0 (sym ((turn_steps start turn run.0).grouped before after)),
  run_grouped turn.after turn.files turns run.1 left.1,
)

-- the test of the numbers of changes
is_same : (m n : ℕ) → n ≡ m → nat_lt m n ≡ false
is_same m n same = grind (arith, nat_tests)

is_more : (m n : ℕ) → m < n → nat_lt m n ≡ true
is_more m n more = grind (arith, nat_tests)

-- and tells whether a step was a commit
pub step_counted : (old : Kept) (reply : List ℕ) (new : Kept) → StaysAt old new ⊎ IsCommit old reply new
    → MatchBool (nat_lt old.state.changes new.state.changes) (0 < length reply) (new.state ≡ old.state)
step_counted old reply new (inl stays) =
    subst (λ (b : Bool). MatchBool b (0 < length reply) (new.state ≡ old.state))
    (sym (is_same old.state.changes new.state.changes (ap (λ (s : State). s.changes) stays.state))) stays.state
step_counted old reply new (inr commit) =
    subst (λ (b : Bool). MatchBool b (0 < length reply) (new.state ≡ old.state))
    (sym (is_more old.state.changes new.state.changes commit.changes)) commit.has_reply

run_counted : (start : SpendableKept) (turns : List (Turn SpendableKept)) → IsRun StoreTerms start turns
    → IsCounted state_in is_commit start turns
run_counted start [] run = tt
run_counted start (turn ∷ turns) run = (
  step_counted start.kept turn.reply turn.after.kept (turn_steps start turn run.0).kept,
  run_counted turn.after turns run.1,
)

-- a gate that is there stays there
pub step_gate : (old : Kept) (reply : List ℕ) (new : Kept) → StaysAt old new ⊎ IsCommit old reply new → old.has_gate ≡ true
    → new.has_gate ≡ true
step_gate old reply new (inl stays) has = stays.has_gate has
step_gate old reply new (inr commit) has = commit.has_gate

turn_gate : (start : SpendableKept) (turn : Turn SpendableKept)
    → IsSingle StoreTerms.answers start turn ⊎ IsBatch StoreTerms.tells start turn → start.kept.has_gate ≡ true
    → turn.after.kept.has_gate ≡ true
turn_gate start turn is has = step_gate start.kept turn.reply turn.after.kept (turn_steps start turn is).kept has

abbrev pub KeepGates : SpendableKept → List (Turn SpendableKept) → Type 0
KeepGates start [] = Unit {0}
KeepGates start (turn ∷ turns) =
    (start.kept.has_gate ≡ true → turn.after.kept.has_gate ≡ true) × KeepGates turn.after turns

run_gates : (start : SpendableKept) (turns : List (Turn SpendableKept)) → IsRun StoreTerms start turns → KeepGates start turns
run_gates start [] run = tt
run_gates start (turn ∷ turns) run = (turn_gate start turn run.0, run_gates turn.after turns run.1)

-- so the files stand for the state, with their next gate, at each moment of the run
abbrev StandForTheirs : FilesRule SpendableKept
StandForTheirs s files = StandsGated files s.kept.state

stand_gated : (s : SpendableKept) (files : Files) → s.kept.has_gate ≡ true → StoreTerms.stands s files → StandForTheirs s files
stand_gated s files has stands = stands_gated_from meaning has (stands has)

module _ (same : SpendableKept → SpendableKept → Type 0) where
  moment_stands : (start : SpendableKept) (files : Files) (turns : List (Turn SpendableKept)) (given : List ℕ) (m : Moment)
      → KeepGates start turns → start.kept.has_gate ≡ true
      → IsMoment same StoreTerms.stands start files turns given m → IsMoment same StandForTheirs start files turns given m
  moment_stands start files [] given m gates has is = (is.0, stand_gated start m.files has is.1, is.2)
  moment_stands start files (turn ∷ turns) given m gates has (inl (is, (inl before, still))) =
      inl (is, (inl (stand_gated start m.files has before), still))
  moment_stands start files (turn ∷ turns) given m gates has (inl (is, (inr after, still))) =
      inl (is, (inr (stand_gated turn.after m.files (gates.0 has) after), still))
  moment_stands start files (turn ∷ turns) given m gates has (inr (inl (sent, unsent, split, is, stand, still))) =
      inr (inl (sent, unsent, split, is, stand_gated turn.after m.files (gates.0 has) stand, still))
  moment_stands start files (turn ∷ turns) given m gates has (inr (inr later)) =
      inr (inr (moment_stands turn.after turn.files turns (given ++ turn.reply) m gates.1 (gates.0 has) later))

  -- and each crash leaves what a prefix of the commits made
  pub run_prefix : (old new : View) (start : SpendableKept) (turns : List (Turn SpendableKept)) → KeepGates start turns
      → IsCounted state_in is_commit start turns
      → LeavesOnly old new (IsMoment same StoreTerms.stands start old.reads turns old.given) → start.kept.has_gate ≡ true
      → LeavesOnly old new (IsCrashOf start turns old.given)
  run_prefix old new start turns gates counted crash has =
      only_wider crash (λ m is. moment_is_prefix state_in is_commit StandForState same StandForTheirs
      (λ s files stands. stands) start old.reads turns old.given m (moment_stands start old.reads turns old.given m gates has is)
      counted)

-- what a store has served that begins with sound states, and what is left of it once a group that was open is given up
pub has_served : (old new : View) (start last end : SpendableKept) (budget : ℕ) (status : Status) → IsSoundStore start
    → (status ≢ NoMemory → status ≢ DiskFault → end ≡ without_group last.kept)
    → Served StoreTerms old new start last budget status → HasServed old new start end budget status
has_served old new start last end budget status sound given_up served =
    let turns = served.work.turns in
    let run = served.state.is_run in
    let counted = run_counted start turns run in
    record {
      last = last;
      session = served;
      given_up = given_up;
      sound = (sound, run_sound start turns run sound);
      grouped = run_grouped start old.reads turns run served.files.still;
      counted = counted;
      prefix = run_prefix StoreTerms.same old new start turns (run_gates start turns run) counted served.files.crash;
      rest = λ no_fault. rests_in_store (served.files.rest no_fault);
    }

-- a store that can go on is at rest
pub rests_in_the_end : {old new : View} {start last end : SpendableKept} {budget : ℕ} {status : Status}
    → (status ≢ NoMemory → status ≢ DiskFault → end ≡ without_group last.kept)
    → Served StoreTerms old new start last budget status → status ≢ NoMemory → status ≢ DiskFault → AllRest end.kept new
rests_in_the_end {new = new} given_up served no_memory no_fault =
    subst (λ (s : SpendableKept). AllRest s.kept new) (sym (given_up no_memory no_fault))
    (subst (λ (s : SpendableKept). AllRest s.kept new) (sym (served.state.ends no_memory no_fault))
    (rests_in_store (served.files.rest no_fault)))
