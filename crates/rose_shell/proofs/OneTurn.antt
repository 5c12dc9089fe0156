-- This file shows what one line or batch is whose answer was given, whole or in part, or isn't there.
use Rattle.std.proofs.Common.{◌≡◌, ◌⊎◌, inl, inr, ⊎_elim, ℕ, List, [], ◌∷◌, ◌++◌, refl, sym, ◌∙◌, ap, subst, append_assoc}
use Rattle.std.proofs.lemmas.List.{append-nil}
use Rattle.std.specs.Prelude.{Err}
use Rattle.outside_world.specs.declared.world.FileName.{FileName}
use Rattle.outside_world.specs.View.{View, Moment}
use Rattle.outside_world.specs.Calls.{SameFiles}
use Rattle.realm_files.specs.Stands.{Files}
use Rattle.realm_files.proofs.Pairs.{same_files}
use Rattle.realm_files.proofs.Rests.{left_as_read, stable_then}
use Rattle.rose_shell.specs.declared.fault.Fault.{Fault}
use Rattle.rose_shell.specs.declared.fault.Fault.TheVariants as faults
use Rattle.rose_shell.specs.declared.waiting.Waiting.{Waiting}
use Rattle.rose_shell.specs.Giving.{IsGiving, GaveSome}
use Rattle.rose_shell.specs.Batches.{OpensNone}
use Rattle.rose_shell.specs.Desk.{Terms, AllRestBy, StandsBetween, Settled, CutShort, Answered}
use Rattle.rose_shell.specs.Turns.{Turn, Treats, IsSingle, IsBatch, IsComplete}
use Rattle.rose_shell.specs.Moments.{IsMoment, FollowsTurns}
use Rattle.rose_shell.specs.Session.{IsCutOff}
use Rattle.rose_shell.specs.Loop.{IsWaiting, Went, Stopped}
use Rattle.outside_world.proofs.Moments.{only_wider, only_then, none_taken_then}

-- files that stay are at rest for the same state
pub still_rest : {S : Type 0} {terms : Terms S} {old new : View} {s : S} → SameFiles old new → AllRestBy terms old s
    → AllRestBy terms new s
still_rest {terms = terms} {s = s} same rest = record {
  stable = stable_then same rest.stable;
  rests = subst (λ (files : Files). terms.rests s files) (sym (same_files same.reads)) rest.rests;
}

-- and a crash leaves them as they read
pub left_at_rest : {S : Type 0} {terms : Terms S} {v : View} {s : S} → AllRestBy terms v s → (files : Files)
    → ((f : FileName) → v.image f (files f)) → files ≡ v.reads
left_at_rest {v = v} rest files may = left_as_read v rest.stable files may

module _ {S : Type 0} (terms : Terms S) where
  -- the moments of one turn: of its answer, and then of its reply
  while_answered : (old : View) (start : S) (turn : Turn S) (m : Moment)
      → (m.given ≡ old.given) × StandsBetween terms.same terms.stands start turn.after old.reads m.files
      → IsMoment terms.same terms.stands start old.reads (turn ∷ []) old.given m
  while_answered old start turn m is = inl is

  while_given : (old mid : View) (start : S) (turn : Turn S) (m : Moment) → mid.given ≡ old.given → AllRestBy terms mid turn.after
      → mid.reads ≡ turn.files → IsGiving mid turn.reply m → IsMoment terms.same terms.stands start old.reads (turn ∷ []) old.given m
  while_given old mid start turn m same rest files giving =
      let given : m.given ≡ old.given ++ giving.0 = giving.3 ∙ ap (λ (l : List ℕ). l ++ giving.0) same in
      let left : m.files ≡ mid.reads = left_at_rest rest m.files giving.4 in
      let stands : terms.stands turn.after m.files =
      subst (λ (f : Files). terms.stands turn.after f) (sym left) (terms.rest_stands turn.after mid.reads rest.rests) in
      inr (inl (giving.0, giving.1, giving.2, given, stands, left ∙ files))

  pub turn_files : {P : Type 0} {old mid new : View} {start : S} {unsent : List ℕ} (turn : Turn S) → mid.reads ≡ turn.files
      → Settled terms old mid start turn.after → GaveSome mid new turn.reply unsent
      → FollowsTurns terms P old new start (turn ∷ [])
  turn_files {old = old} {mid} {start = start} turn files settled gave =
      let leaves = settled.leaves in
      record {
        crash = only_then (only_wider leaves.crash (while_answered old start turn)) leaves.takes.later
            (only_wider gave.crash (λ m giving. while_given old mid start turn m leaves.given settled.rest files giving));
        still = (λ stays. sym files ∙ settled.still stays, tt);
        reads = same_files gave.files.reads ∙ files;
        rest = λ _. still_rest gave.files settled.rest;
      }

  -- of a line that got no answer
  pub files_unanswered : {P : Type 0} {old new : View} {start : S} → Settled terms old new start start
      → FollowsTurns terms P old new start []
  files_unanswered {old = old} {new} {start} settled = record {
    crash = only_wider settled.leaves.crash here;
    still = tt;
    reads = settled.still (terms.same_here start);
    rest = λ _. settled.rest;
  }
    where
      here : (m : Moment) → (m.given ≡ old.given) × StandsBetween terms.same terms.stands start start old.reads m.files
          → IsMoment terms.same terms.stands start old.reads [] old.given m
      here m (given, (stands, same)) = (given, ⊎_elim (λ here. here) (λ here. here) stands, same (terms.same_here start))

module _ {S : Type 0} {terms : Terms S} where
  -- the turn of a line whose answer was cut short
  abbrev pub cut_turn : {old new : View} {start : S} {line : List ℕ} → CutShort terms old new start line → Turn S
  cut_turn {new = new} {line = line} cut =
      record { line = line; batch = []; reply = cut.reply; after = cut.after; files = new.reads }

  pub files_cut_short : {P : Type 0} {old new : View} {start : S} {line : List ℕ} → (P → ⊥)
      → (cut : CutShort terms old new start line) → FollowsTurns terms P old new start (cut_turn cut ∷ [])
  files_cut_short {old = old} {start = start} never cut = record {
    crash = only_wider cut.leaves.crash (while_answered terms old start (cut_turn cut));
    still = (cut.still, tt);
    reads = refl;
    rest = λ other. absurd (never other);
  }

  pub cut_off_one : {old new : View} {start : S} {line : List ℕ} (cut : CutShort terms old new start line)
      → IsCutOff terms old new start (cut_turn cut ∷ []) cut.reply
  cut_off_one {old} cut = record {
    before = [];
    last = cut_turn cut;
    in_order = refl;
    none_given = refl;
    given_before = cut.leaves.given ∙ sym (append-nil old.given);
    may_write = cut.may_write;
    now = cut.leaves.now;
  }

  -- what is given of a reply, behind an answer that gave nothing
  pub given_whole : {old mid new : View} {start end : S} {reply : List ℕ} → Settled terms old mid start end
      → GaveSome mid new reply [] → new.given ≡ old.given ++ (reply ++ [])
  given_whole {old} {reply = reply} settled gave =
      gave.given ∙ ap (λ (l : List ℕ). l ++ gave.sent) settled.leaves.given
      ∙ ap (λ (l : List ℕ). old.given ++ l) (sym (append-nil gave.sent) ∙ sym gave.split ∙ sym (append-nil reply))

  pub given_short : {old mid new : View} {start end : S} {reply unsent : List ℕ} → Settled terms old mid start end
      → GaveSome mid new reply unsent → new.given ++ unsent ≡ old.given ++ (reply ++ [])
  given_short {old} {reply = reply} {unsent} settled gave =
      ap (λ (l : List ℕ). l ++ unsent) (gave.given ∙ ap (λ (l : List ℕ). l ++ gave.sent) settled.leaves.given)
      ∙ append_assoc old.given gave.sent unsent ∙ ap (λ (l : List ℕ). old.given ++ l) (sym gave.split ∙ sym (append-nil reply))

  pub given_none : {old new : View} {start : S} {line : List ℕ} (cut : CutShort terms old new start line)
      → new.given ++ cut.reply ≡ old.given ++ (cut.reply ++ [])
  given_none {old} cut =
      ap (λ (l : List ℕ). l ++ cut.reply) cut.leaves.given ∙ ap (λ (l : List ℕ). old.given ++ l) (sym (append-nil cut.reply))

  -- a line, or a batch of them, is answered, and the reply given whole
  pub went_one : {old mid new : View} {start : S} {waiting : Waiting} {none_left : Type 0} (turn : Turn S) → mid.reads ≡ turn.files
      → IsSingle terms.answers start turn ⊎ IsBatch terms.tells start turn → IsComplete turn ⊎ none_left → IsWaiting waiting []
      → Settled terms old mid start turn.after → GaveSome mid new turn.reply []
      → Went terms none_left old new start turn.after (turn.line ∷ turn.batch) waiting
  went_one {none_left = none_left} turn files makes full waits settled gave = record {
    turns = turn ∷ [];
    held = [];
    is_run = (makes, tt);
    full = (⊎_elim (λ (is : IsComplete turn). inl is) (λ (none : none_left). inr (refl, none)) full, tt);
    waits = waits;
    of_lines = ap (λ (l : List (List ℕ)). turn.line ∷ l) (append-nil (turn.batch ++ []) ∙ append-nil turn.batch);
    ends = refl;
    given = given_whole settled gave;
    takes = none_taken_then settled.leaves.takes gave.takes;
    files = turn_files terms turn files settled gave;
  }

  -- or in part
  pub stopped_one : {old mid new : View} {start : S} {unsent : List ℕ} {none_left : Type 0} (turn : Turn S) → mid.reads ≡ turn.files
      → IsSingle terms.answers start turn ⊎ IsBatch terms.tells start turn → IsComplete turn ⊎ none_left
      → Settled terms old mid start turn.after → GaveSome mid new turn.reply unsent
      → Stopped terms none_left old new start turn.after (turn.line ∷ turn.batch) faults.Sink
  stopped_one {unsent = unsent} {none_left} turn files makes full settled gave =
      record {
        turns = turn ∷ [];
        unread = [];
        unsent = unsent;
        is_run = (makes, tt);
        full = (⊎_elim (λ (is : IsComplete turn). inl is) (λ (none : none_left). inr (refl, (none, refl))) full, tt);
        of_lines = ap (λ (l : List (List ℕ)). turn.line ∷ l) (append-nil (turn.batch ++ []) ∙ append-nil turn.batch);
        given = given_short settled gave;
        takes = none_taken_then settled.leaves.takes gave.takes;
        files = turn_files terms turn files settled gave;
        ended = (refl, record { before = []; last = turn; sent = gave.sent; in_order = refl; split = gave.split });
      }

  -- or memory runs out before there is a reply to a line, or the disk fails
  pub stopped_before : {old new : View} {start end : S} {line : List ℕ} (fault : Fault) → OpensNone line
      → ((reply : List ℕ) (after : S) → terms.answers start line reply after → Treats terms.answers start line reply after)
      → Answered terms old new start end line (Err fault) → Stopped terms ⊥ old new start end (line ∷ []) fault
  stopped_before faults.Source none treats answered = absurd answered
  stopped_before faults.Sink none treats answered = absurd answered
  stopped_before {line = line} faults.NoMemory none treats settled = record {
    turns = [];
    unread = line ∷ [];
    unsent = [];
    is_run = tt;
    full = tt;
    of_lines = refl;
    given = ap (λ (l : List ℕ). l ++ []) settled.leaves.given;
    takes = settled.leaves.takes;
    files = files_unanswered terms settled;
    ended = refl;
  }
  stopped_before faults.Disk none treats cut =
      record {
        turns = cut_turn cut ∷ [];
        unread = [];
        unsent = cut.reply;
        is_run = (
          inl record {
            opens_none = none;
            alone = refl;
            treats = treats cut.reply cut.after cut.answer;
          },
          tt,
        );
        full = (inl (inl none), tt);
        of_lines = refl;
        given = given_none cut;
        takes = cut.leaves.takes;
        files = files_cut_short (λ other. other refl) cut;
        ended = cut_off_one cut;
      }
