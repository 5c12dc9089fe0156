-- This file shows what each outcome of a line is to a follower.
use Rattle.std.proofs.Common.{◌≡◌, ◌⊎◌, inl, inr, ⊎_elim, ℕ, ◌+◌, ◌<◌, ◌≤◌, true, false, List, [], ◌∷◌, ◌++◌, refl, sym, ◌∙◌, ap, subst}
use Rattle.std.proofs.Common.{arith}
use Rattle.std.specs.Prelude.{◌≢◌, ◌^◌, Bool, Option, Some, None, MatchResult, Result, Ok, Err, IfOk, IfSome}
use Rattle.grid_base.specs.declared.memory.NoMemory.{NoMemory as Shortage}
use Rattle.outside_world.specs.View.{View}
use Rattle.outside_world.specs.declared.world.FileName.{FileName}
use Rattle.outside_world.specs.declared.world.Outside.{Ghosts}
use Rattle.outside_world.specs.Counts.{Rose}
use Rattle.outside_world.proofs.Moments.{only_wider}
use Rattle.record_codec.specs.declared.entry.Entry.{Entry}
use Rattle.record_codec.specs.declared.record.Record.{Record}
use Rattle.record_codec.specs.declared.snapshot.Snapshot.{Snapshot}
use Rattle.record_codec.specs.Fitting.{IsRecord}
use Rattle.standby_core.specs.declared.frame.Frame.{Frame}
use Rattle.standby_core.specs.declared.frame.Frame.TheVariants.{Rec, Snap}
use Rattle.standby_core.specs.Frames.{IsLineOf}
use Rattle.standby_core.specs.Shipping.{last_number}
use Rattle.pair_law.specs.Following.{Outcome, Treats, Takes, IsNoFrame, IsNext, IsTaken, IsMisfit, IsStartedAgain, reply_of}
use Rattle.pair_law.specs.Following.Outcome.{NoFrame, PassedOver, NoRoom, NoGeneration, NoRecord, Applied}
use Rattle.realm_insert.specs.State.{State}
use Rattle.realm_insert.specs.Snapshots.{state_of, IsValidState}
use Rattle.realm_journal.specs.Reading.{OnlyAsks}
use Rattle.realm_pages.specs.declared.error.PagesError.{PagesError as StartError}
use Rattle.realm_pages.specs.declared.error.PagesError.TheVariants as starts
use Rattle.realm_files.specs.Stands.{Files}
use Rattle.realm_files.specs.Writing.{RestsBetween, LeavesFiles}
use Rattle.realm_files.proofs.Pairs.{same_files}
use Rattle.realm_files.proofs.Runs.{leaves_wider}
use Rattle.realm_store.specs.Stands.{meaning}
use Rattle.realm_store.specs.Keeping.{Kept, kept_at, SpendableKept, RestsAt, AllRest}
use Rattle.realm_store.specs.Leading.{LeadsBy, LeadOnBy, Leads}
use Rattle.realm_store.specs.Making.{HasRoom, IsFull, LacksGeneration}
use Rattle.realm_store.specs.Renewing.{HasLastGeneration}
use Rattle.realm_store.specs.Committing.{IsWritten, IsReplaced}
use Rattle.realm_store.specs.Accepting.{Accepts, FailsAt}
use Rattle.realm_store.specs.Adopting.{Adopts}
use Rattle.realm_store.specs.Sound.{IsSound}
use Rattle.realm_store.specs.Starting.{Started}
use Rattle.realm_store.proofs.LedOnce.{leads_by_once}
use Rattle.realm_store.proofs.OneReading.{one_reading, stands_once, gate_is_kept}
use Rattle.rose_shell.specs.declared.status.Status.{Status}
use Rattle.rose_shell.specs.declared.status.Status.TheVariants.{SourceFault, SinkFault, DiskFault, Damaged, NoMemory}
use Rattle.rose_shell.specs.Desk.{AllRestBy, StandsBetween, Settled, CutShort}
use Rattle.rose_shell.specs.Faults.{HasCause, status_unstarted}
use Rattle.rose_shell.specs.Running.{ready_store}
use Rattle.rose_shell.specs.Following.{IsNextFrame, KeepTheSame, FollowTerms}
use Rattle.rose_shell.specs.AtFollower.{IsLeftAs, AtFollower}
use Rattle.rose_shell.proofs.OneTurn.{left_at_rest, still_rest}
use Rattle.rose_shell.proofs.Steps.{changes_led}
use Rattle.rose_shell.proofs.Stores.{either_stands}
use Rattle.rose_shell.proofs.Treatments.{settled_still}

-- what the store keeps of the files is what a follower asks of them
at_rest : {v : View} {s : SpendableKept} → AllRest s.kept v → AllRestBy FollowTerms v s
at_rest rest = record { stable = rest.stable; rests = rest.rests }

-- ---- what a frame makes of the number of changes

-- a record has one change or more, and the last of them has the number of changes then
record_moves : {start end : SpendableKept} {r : Record} → IsRecord r → Leads start.kept.state r end.kept.state
    → KeepTheSame start end → ⊥
record_moves {start} {end} {r} text leads same =
    omega (
      arith,
      text.some,
      changes_led start.kept.state r.entries end.kept.state leads.entries,
      ap (λ (s : State). s.changes) same.state,
    )

last_changes : {old new : State} {r : Record} → IsRecord r → Leads old r new → last_number r ≡ new.changes
last_changes {old} {new} {r} text leads = omega (arith, text.some, leads.number, changes_led old r.entries new leads.entries)

-- a state that is taken over has more
state_moves : {start end : SpendableKept} {s : Snapshot} → Adopts start.kept s end.kept → KeepTheSame start end → ⊥
state_moves adopts same =
    omega (arith, adopts.may.newer, ap (λ (t : State). t.changes) (same.state ∙ adopts.state))

-- ---- what a frame does to the files

-- while a record is written, or a state, the files stand for the state before it or after it
while_written : (start end : SpendableKept) (were files : Files) → (KeepTheSame start end → ⊥)
    → RestsBetween meaning start.kept end.kept files → StandsBetween FollowTerms.same FollowTerms.stands start end were files
while_written start end were files moves rests = (
  either_stands start.kept.has_gate _ _ _ (λ has. ⊎_elim (λ from. inl from) (λ at. inr (inl at)) (rests has)),
  λ same. absurd (moves same),
)

while_replaced : (start end : SpendableKept) (were files : Files) → (KeepTheSame start end → ⊥)
    → RestsAt start.kept files ⊎ RestsAt end.kept files → StandsBetween FollowTerms.same FollowTerms.stands start end were files
while_replaced start end were files moves rests =
    (⊎_elim (λ at. inl (λ _. inl at)) (λ at. inr (λ _. inl at)) rests, λ same. absurd (moves same))

-- it is stable then
module _ {old new : View} {start end : SpendableKept} (moves : KeepTheSame start end → ⊥) where
  moved : LeavesFiles old new (StandsBetween FollowTerms.same FollowTerms.stands start end old.reads) → AllRest end.kept new
      → Settled FollowTerms old new start end
  moved leaves rest = record { leaves = leaves; still = λ same. absurd (moves same); rest = at_rest rest }

  cut_off : {line reply : List ℕ} → FollowTerms.answers start line reply end → IsNextFrame start line
      → LeavesFiles old new (StandsBetween FollowTerms.same FollowTerms.stands start end old.reads)
      → CutShort FollowTerms old new start line
  cut_off {reply = reply} answer may leaves =
      record { reply = reply; after = end; answer = answer; may_write = may; leaves = leaves; still = λ same. absurd (moves same) }

  by_record : IsWritten old new start.kept end.kept
      → LeavesFiles old new (StandsBetween FollowTerms.same FollowTerms.stands start end old.reads)
  by_record written = leaves_wider written (λ files. while_written start end old.reads files moves)

  by_state : IsReplaced old new start.kept end.kept
      → LeavesFiles old new (StandsBetween FollowTerms.same FollowTerms.stands start end old.reads)
  by_state replaced = leaves_wider replaced (λ files. while_replaced start end old.reads files moves)

-- where nothing but questions is asked of the files, they stay as they were
module _ {old new : View} {start : SpendableKept} (asks : OnlyAsks old new) (rest : AllRest start.kept old) where
  as_they_were : (end : SpendableKept) (files : Files) → ((f : FileName) → old.image f (files f))
      → StandsBetween FollowTerms.same FollowTerms.stands start end old.reads files
  as_they_were end files may =
      let left = left_at_rest (at_rest {s = start} rest) files may in
      (inl (subst (λ (f : Files). FollowTerms.stands start f) (sym left) (λ has. inl rest.rests)), λ _. left)

  asked_leaves : (end : SpendableKept) → LeavesFiles old new (StandsBetween FollowTerms.same FollowTerms.stands start end old.reads)
  asked_leaves end = record {
    takes = asks.takes;
    given = asks.given;
    crash = only_wider asks.crash (λ m may. (may.0, as_they_were end m.files may.1));
    now = λ files may. as_they_were end files (λ f. asks.files.images f (files f) (may f));
  }

  asked_settled : (end : SpendableKept) → AllRestBy FollowTerms new end → Settled FollowTerms old new start end
  asked_settled end after = record { leaves = asked_leaves end; still = λ _. same_files asks.files.reads; rest = after }

  asked_cut_off : {line reply : List ℕ} → FollowTerms.answers start line reply start → IsNextFrame start line
      → CutShort FollowTerms old new start line
  asked_cut_off {reply = reply} answer may = record {
    reply = reply;
    after = start;
    answer = answer;
    may_write = may;
    leaves = asked_leaves start;
    still = λ _. same_files asks.files.reads;
  }

-- ---- what becomes of a frame

-- a record that has the next number, and room
next_record : {kept : Kept} (r : Record) → r.number ≡ kept.state.changes + 1 → IsNext kept (Rec r)
next_record r number = record { sound = λ never. never; comes_next = number }

pub taken_record : {kept : Kept} (r : Record) → HasRoom kept → r.number ≡ kept.state.changes + 1 → IsTaken kept (Rec r)
taken_record {kept} r room number = record {
  is_next = next_record {kept = kept} r number;
  room = λ full. omega (arith, room.gate, full);
  generation = room.generation;
}

accepted : {old new : Kept} {r : Record} → Accepts old r new → Treats old (Rec r) Applied new
accepted {old} {r = r} accepts =
    (taken_record {kept = old} r accepts.room accepts.leads.number, (accepts.leads, accepts.place, accepts.has_gate))

-- a state that may take the place of what is kept
adopted : {old new : Kept} {s : Snapshot} → Adopts old s new → Treats old (Snap s) Applied new
adopted adopts = (
  record {
    is_next = record { sound = λ unsound. unsound adopts.may.valid; comes_next = adopts.may.newer };
    room = λ never. never;
    generation = adopts.may.greater;
  },
  (adopts.state, adopts.place, adopts.has_gate),
)

-- a record is passed over that doesn't have the next number,
pub passed_record : {kept : Kept} {line : List ℕ} {have : ℕ} (r : Record) → IsLineOf (Rec r) line → have ≡ kept.state.changes
    → r.number ≢ have + 1 → Takes kept line PassedOver kept
passed_record {kept} r is same other =
    inr (Rec r, is, ((λ never. never), (λ next. other (next ∙ ap (λ (n : ℕ). n + 1) (sym same))), refl))

-- and a state that has no more changes
pub passed_state : {kept : Kept} {line : List ℕ} {have : ℕ} (s : Snapshot) → IsLineOf (Snap s) line → IsValidState (state_of s)
    → have ≡ kept.state.changes → s.changes ≤ have → Takes kept line PassedOver kept
passed_state {kept} s is valid same older =
    inr (Snap s, is, ((λ unsound. unsound valid), (λ newer. omega (arith, newer, older, same)), refl))

-- there is no room for a record, or no generation for it or for a state
pub no_room : {kept : Kept} {line : List ℕ} (r : Record) → IsLineOf (Rec r) line → r.number ≡ kept.state.changes + 1 → IsFull kept
    → Takes kept line NoRoom kept
no_room {kept} r is number full = inr (Rec r, is, (next_record {kept = kept} r number, full, refl))

pub no_generation : {kept : Kept} {line : List ℕ} (r : Record) → IsLineOf (Rec r) line → r.number ≡ kept.state.changes + 1
    → (IsFull kept → ⊥) × LacksGeneration kept → Takes kept line NoGeneration kept
no_generation {kept} r is number lacks = inr (Rec r, is, (next_record {kept = kept} r number, lacks.0, lacks.1, refl))

pub no_generation_for_state : {kept : Kept} {line : List ℕ} (s : Snapshot) → IsLineOf (Snap s) line → IsValidState (state_of s)
    → kept.state.changes < s.changes → HasLastGeneration kept → Takes kept line NoGeneration kept
no_generation_for_state s is valid newer last =
    inr (Snap s, is, (record { sound = λ unsound. unsound valid; comes_next = newer }, (λ never. never), last, refl))

-- a state isn't valid, or the line is that of no frame
pub unsound_state : {kept : Kept} {line : List ℕ} (s : Snapshot) → IsLineOf (Snap s) line → (IsValidState (state_of s) → ⊥)
    → Takes kept line NoFrame kept
unsound_state s is unsound = inr (Snap s, is, (unsound, refl))

pub no_frame : {kept : Kept} {line : List ℕ} → IsNoFrame line → Takes kept line NoFrame kept
no_frame none = inl (none, refl, refl)

-- the line is that of the frame that was read
pub line_read : {line : List ℕ} (o : Option Frame) {f g : Frame} → o ≡ Some f → f ≡ g → IfSome o (λ h. IsLineOf h line) → IsLineOf g line
line_read {line} o is same found =
    subst (λ (h : Frame). IsLineOf h line) same (subst (λ (p : Option Frame). IfSome p (λ h. IsLineOf h line)) is found)

-- no frame was read
pub none_read : {line : List ℕ} (o : Option Frame) → o ≡ None → ((f : Frame) → IsLineOf f line → o ≡ Some f) → IsNoFrame line
none_read o none only f is = let some = sym none ∙ only f is in cc

-- the entries up to one that leads nowhere lead no further
lead_no_further : (state : State) (before : List Entry) (e : Entry) (more : List Entry) (mid after : State) → LeadOnBy state before mid
    → ((next : State) → LeadsBy mid e next → ⊥) → LeadOnBy state (before ++ e ∷ more) after → ⊥
lead_no_further state [] e more mid after is nowhere (next, leads, then) =
    nowhere next (subst (λ (s : State). LeadsBy s e next) (sym is) leads)
lead_no_further state (b ∷ before) e more mid after (one, first, later) nowhere (other, also, then) =
    let same = leads_by_once state other one b also first in
    lead_no_further one before e more mid after later nowhere (subst (λ (s : State). LeadOnBy s (before ++ e ∷ more) after) same then)

pub misfit : {state : State} {r : Record} {number : ℕ} → FailsAt state r number → (after : State) → Leads state r after → ⊥
misfit {state} fails after leads =
    lead_no_further state fails.before fails.e fails.more fails.mid after fails.lead fails.nowhere
    (subst (λ (l : List Entry). LeadOnBy state l after) fails.in_order leads.entries)

-- a reply that was made before the record was written tells the number of changes then
record_reply : {old new : Kept} {r : Record} {reply : List ℕ} {last : ℕ} → IsRecord r → Accepts old r new
    → (last_number r < 2 ^ 64 → last ≡ last_number r) → reply ≡ reply_of Applied last → reply ≡ reply_of Applied new.state.changes
record_reply {r = r} text accepts last_is said =
    let number = last_changes text accepts.leads in
    said ∙ ap (λ (n : ℕ). reply_of Applied n) (last_is (omega (arith, number, accepts.sound.valid.most_changes)) ∙ number)

-- ---- the answers

no_cause : {World : Type 0} {outside : Ghosts World} {old new : World} (status : Status) → status ≢ SourceFault → status ≢ SinkFault
    → status ≢ DiskFault → HasCause outside old new status
no_cause status source sink disk = record {
  source = λ is. absurd (source is);
  sink = λ is. absurd (sink is);
  disk = λ is. absurd (disk is);
}

module _ {World : Type 0} (outside : Ghosts World) {old : World} {start : SpendableKept} (left : IsLeftAs outside old start)
    {line : List ℕ} where
  -- memory ran out, and the world is as it was
  pub wanting_at_follower : {new : World} {end : SpendableKept} {result : Result (List ℕ) Status} → new ≡ old → result ≡ Err NoMemory
      → AtFollower outside old new start end line result
  wanting_at_follower {new} {end} {result} still is =
      subst (λ (w : World). AtFollower outside old w start end line result) (sym still)
      (subst (λ (r : Result (List ℕ) Status). AtFollower outside old old start end line r) (sym is)
      (record {
        ready = tt;
        alone = tt;
        answer = λ tells. tt;
        ends = inr (inl refl);
        faults = no_cause NoMemory (λ is. cc) (λ is. cc) (λ is. cc);
        intact = λ _. left.intact;
        told = λ tells. settled_still (at_rest (left.rest tells));
      }))

  -- the store and the world are as they were, and there is a reply, or no memory for it
  pub said_at_follower : {new : World} {end : SpendableKept} {result : Result (List ℕ) Status} (outcome : Outcome)
      (done : Result (List ℕ) Shortage) → new ≡ old → end ≡ start
      → MatchResult done (λ reply. result ≡ Ok reply) (λ _. result ≡ Err NoMemory)
      → IfOk done (λ reply. reply ≡ reply_of outcome start.kept.state.changes) → Takes start.kept line outcome start.kept
      → AtFollower outside old new start end line result
  said_at_follower {new} {end} {result} outcome (Ok reply) still same is said takes =
      subst (λ (w : World). AtFollower outside old w start end line result) (sym still)
      (subst (λ (s : SpendableKept). AtFollower outside old old start s line result) (sym same)
      (subst (λ (r : Result (List ℕ) Status). AtFollower outside old old start start line r) (sym is)
      (record {
        ready = left.ready;
        alone = left.alone;
        answer = λ tells. record {
          was_ready = left.ready;
          was_alone = left.alone;
          is_ready = left.ready;
          is_alone = left.alone;
          sound = left.sound;
          has_gate = λ has. has;
          follows = (outcome, takes, said);
        };
        ends = tt;
        faults = tt;
        intact = λ _. left.intact;
        told = λ tells. settled_still (at_rest (left.rest tells));
      })))
  said_at_follower outcome (Err e) still same is said takes = wanting_at_follower still is

  -- the disk failed meanwhile
  cut_at_follower : {new : World} {end : SpendableKept} → Rose (outside.disk_faults old) (outside.disk_faults new)
      → (outside.tells new → CutShort FollowTerms (outside.view old) (outside.view new) start line)
      → AtFollower outside old new start end line (Err DiskFault)
  cut_at_follower rose cut = record {
    ready = tt;
    alone = tt;
    answer = λ tells. tt;
    ends = inl refl;
    faults = record { source = λ is. absurd (cc); sink = λ is. absurd (cc); disk = λ _. rose };
    intact = λ never. absurd (never refl);
    told = cut;
  }

  -- ---- frames that are applied

  -- what is answered then
  applied_answer : {reply : List ℕ} (f : Frame) (end : SpendableKept) → IsLineOf f line → end.spent ≡ false → end.group ≡ None
      → IsSound end.kept.state → end.kept.has_gate ≡ true → Treats start.kept f Applied end.kept
      → reply ≡ reply_of Applied end.kept.state.changes → FollowTerms.answers start line reply end
  applied_answer f end is ready alone sound gate treats said = record {
    was_ready = left.ready;
    was_alone = left.alone;
    is_ready = ready;
    is_alone = alone;
    sound = sound;
    has_gate = λ _. gate;
    follows = (Applied, inr (f, is, treats), said);
  }

  -- a record was written,
  pub accepted_at_follower : {new : World} {end : SpendableKept} {reply : List ℕ} {last : ℕ} (r : Record) → IsLineOf (Rec r) line
      → IsRecord r → Accepts start.kept r end.kept → end.spent ≡ false → end.group ≡ None → outside.failed new ≡ false
      → (last_number r < 2 ^ 64 → last ≡ last_number r) → reply ≡ reply_of Applied last
      → (outside.tells new → IsWritten (outside.view old) (outside.view new) start.kept end.kept)
      → (outside.tells new → AllRest end.kept (outside.view new))
      → AtFollower outside old new start end line (Ok reply)
  accepted_at_follower {end = end} r is text accepts ready alone intact last said written rest = record {
    ready = ready;
    alone = alone;
    answer = λ tells.
        applied_answer (Rec r) end is ready alone accepts.sound accepts.has_gate (accepted accepts)
        (record_reply text accepts last said);
    ends = tt;
    faults = tt;
    intact = λ _. intact;
    told = λ tells.
        let moves = record_moves {start = start} {end = end} text accepts.leads in
        moved moves (by_record moves (written tells)) (rest tells);
  }

  -- or the disk failed meanwhile
  pub record_cut_at_follower : {new : World} {end : SpendableKept} (r : Record) → IsLineOf (Rec r) line → IsRecord r
      → Rose (outside.disk_faults old) (outside.disk_faults new)
      → (outside.tells new → (after : Kept) × Accepts start.kept r after
      × IsWritten (outside.view old) (outside.view new) start.kept after)
      → AtFollower outside old new start end line (Err DiskFault)
  record_cut_at_follower r is text rose cut = cut_at_follower rose (λ tells.
      let after = (cut tells).0 in
      let accepts = (cut tells).1 in
      let end = ready_store after in
      let moves = record_moves {start = start} {end = end} text accepts.leads in
      cut_off moves (applied_answer (Rec r) end is refl refl accepts.sound accepts.has_gate (accepted accepts) refl)
      (record { frame = Rec r; is_line = is; comes_next = accepts.leads.number }) (by_record moves (cut tells).2))

  -- a state took the place of what was kept,
  pub adopted_at_follower : {new : World} {end : SpendableKept} {reply : List ℕ} (s : Snapshot) → IsLineOf (Snap s) line
      → Adopts start.kept s end.kept → end.spent ≡ false → end.group ≡ None → outside.failed new ≡ false
      → reply ≡ reply_of Applied s.changes
      → (outside.tells new → IsReplaced (outside.view old) (outside.view new) start.kept end.kept)
      → (outside.tells new → AllRest end.kept (outside.view new))
      → AtFollower outside old new start end line (Ok reply)
  adopted_at_follower {end = end} s is adopts ready alone intact said replaced rest = record {
    ready = ready;
    alone = alone;
    answer = λ tells.
        applied_answer (Snap s) end is ready alone adopts.sound adopts.has_gate (adopted adopts)
        (said ∙ ap (λ (t : State). reply_of Applied t.changes) (sym adopts.state));
    ends = tt;
    faults = tt;
    intact = λ _. intact;
    told = λ tells.
        let moves = state_moves {start = start} {end = end} adopts in
        moved moves (by_state moves (replaced tells)) (rest tells);
  }

  -- or the disk failed meanwhile
  pub state_cut_at_follower : {new : World} {end : SpendableKept} (s : Snapshot) → IsLineOf (Snap s) line
      → Rose (outside.disk_faults old) (outside.disk_faults new)
      → (outside.tells new → (after : Kept) × Adopts start.kept s after
      × IsReplaced (outside.view old) (outside.view new) start.kept after)
      → AtFollower outside old new start end line (Err DiskFault)
  state_cut_at_follower s is rose cut = cut_at_follower rose (λ tells.
      let after = (cut tells).0 in
      let adopts = (cut tells).1 in
      let end = ready_store after in
      let moves = state_moves {start = start} {end = end} adopts in
      cut_off moves (applied_answer (Snap s) end is refl refl adopts.sound adopts.has_gate (adopted adopts) refl)
      (record { frame = Snap s; is_line = is; comes_next = adopts.may.newer }) (by_state moves (cut tells).2))

  -- ---- a record that leads nowhere

  module _ (r : Record) (is_line : IsLineOf (Rec r) line) (taken : IsTaken start.kept (Rec r)) (nowhere : IsMisfit start.kept (Rec r))
    where
      -- what is answered by a store that keeps the same state at the same place
      again_answer : {reply : List ℕ} (end : SpendableKept) → end.spent ≡ false → end.group ≡ None → IsSound end.kept.state
          → (start.kept.has_gate ≡ true → end.kept.has_gate ≡ true) → IsStartedAgain start.kept end.kept
          → reply ≡ reply_of NoRecord end.kept.state.changes → FollowTerms.answers start line reply end
      again_answer end ready alone sound gate again said = record {
        was_ready = left.ready;
        was_alone = left.alone;
        is_ready = ready;
        is_alone = alone;
        sound = sound;
        has_gate = gate;
        follows = (NoRecord, inr (Rec r, is_line, (taken, nowhere, again)), said);
      }

      -- the store was started again: on the same files it keeps the same
      pub started_again : {new : World} {end : SpendableKept} {reply : List ℕ} → end.spent ≡ false → end.group ≡ None
          → IsSound end.kept.state → outside.failed new ≡ false → (outside.tells new → outside.tells old)
          → (outside.tells new → Started (outside.view old) (outside.view new) (Ok end))
          → (outside.tells new → AllRest end.kept (outside.view new)) → reply ≡ reply_of NoRecord end.kept.state.changes
          → AtFollower outside old new start end line (Ok reply)
      started_again {end = end} ready alone sound intact earlier told rest said = record {
        ready = ready;
        alone = alone;
        answer = λ tells.
            let were = (left.rest (earlier tells)).rests in
            let stands = (told tells).stands in
            let files = (outside.view old).reads in
            let same = stands_once files end.kept.state start.kept.state end.kept.place start.kept.place stands.0.stands were.stands in
            again_answer end ready alone sound
            (λ has. (gate_is_kept files start.kept.state end.kept
            (start.kept.place, subst (λ (gate : Bool). RestsAt (kept_at start.kept.state start.kept.place gate) files) has were)
            stands.0 stands.1).0)
            (record { state = same.0; place = same.1 }) said;
        ends = tt;
        faults = tt;
        intact = λ _. intact;
        told = λ tells. asked_settled (told tells).asks (left.rest (earlier tells)) end (at_rest (rest tells));
      }

      -- or it wasn't
      pub not_started_again : {new : World} {end : SpendableKept} {result : Result (List ℕ) Status} (e : StartError)
          → result ≡ Err (status_unstarted e) → (outside.tells new → outside.tells old)
          → (outside.tells new → Started (outside.view old) (outside.view new) (Err e))
          → ((e ≡ starts.Disk → ⊥) → outside.failed new ≡ false)
          → (e ≡ starts.Disk → Rose (outside.disk_faults old) (outside.disk_faults new))
          → AtFollower outside old new start end line result
      not_started_again {new} {end} starts.Disk is earlier told intact rose =
          subst (λ (x : Result (List ℕ) Status). AtFollower outside old new start end line x) (sym is)
          (cut_at_follower (rose refl) (λ tells.
          asked_cut_off (told tells).asks (left.rest (earlier tells))
          (again_answer start left.ready left.alone left.sound (λ has. has) (record { state = refl; place = refl }) refl)
          (record { frame = Rec r; is_line = is_line; comes_next = taken.is_next.comes_next })))
      not_started_again {new} {end} (starts.Damaged d) is earlier told intact rose =
          subst (λ (x : Result (List ℕ) Status). AtFollower outside old new start end line x) (sym is)
          (record {
            ready = tt;
            alone = tt;
            answer = λ tells. tt;
            ends = inr (inr (d, refl));
            faults = no_cause (Damaged d) (λ same. cc) (λ same. cc) (λ same. cc);
            intact = λ _. intact (λ same. cc);
            told = λ tells.
                one_reading d (outside.view old).reads start.kept.state ((told tells).damaged d refl)
                (start.kept.place, (left.rest (earlier tells)).rests.stands);
          })
      not_started_again {new} {end} starts.NoMemory is earlier told intact rose =
          subst (λ (x : Result (List ℕ) Status). AtFollower outside old new start end line x) (sym is)
          (record {
            ready = tt;
            alone = tt;
            answer = λ tells. tt;
            ends = inr (inl refl);
            faults = no_cause NoMemory (λ same. cc) (λ same. cc) (λ same. cc);
            intact = λ _. intact (λ same. cc);
            told = λ tells.
                let asks = (told tells).asks in
                let rest = left.rest (earlier tells) in
                asked_settled asks rest start (still_rest {terms = FollowTerms} asks.files (at_rest rest));
          })
