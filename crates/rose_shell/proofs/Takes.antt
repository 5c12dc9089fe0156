-- This file shows how the loop goes on from take to take.
use Rattle.std.proofs.Common.{◌≡◌, ℕ, ◌+◌, ◌-◌, ◌≤◌, List, [], ◌++◌, length, take}
use Rattle.std.proofs.Common.{refl, sym, ◌∙◌, ap, subst, arith, append_assoc, length-append}
use Rattle.std.proofs.lemmas.List.{append-nil, length-take}
use Rattle.std.specs.Prelude.{Ok, Err}
use Rattle.outside_world.specs.declared.world.Failed.{Failed}
use Rattle.outside_world.specs.View.{View, Asked}
use Rattle.outside_world.specs.Calls.{Asks, Ticks, SameFiles, Took}
use Rattle.outside_world.specs.Since.{OnlyAdds, TakesNone}
use Rattle.realm_files.specs.Stands.{Files}
use Rattle.realm_files.proofs.Pairs.{same_files}
use Rattle.rose_shell.specs.declared.waiting.Waiting.{Waiting}
use Rattle.rose_shell.specs.Lines.{lines_from, part_from, whole_lines, IsFrontOf}
use Rattle.rose_shell.specs.Desk.{Terms, AllRestBy}
use Rattle.rose_shell.specs.Turns.{Turn, IsRun, end_of, replies, lines_of}
use Rattle.rose_shell.specs.Session.{AreTurnsOf, IsAnswered}
use Rattle.rose_shell.specs.Loop.{IsWaiting, Went}
use Rattle.outside_world.proofs.Moments.{only_nothing, only_wider, only_then, only_of_adds}
use Rattle.rose_shell.proofs.Turns.{lines_behind, complete-append, moment_now}
use Rattle.rose_shell.proofs.Cuts.{lines_from-append, part_from-append}
use Rattle.rose_shell.proofs.Runs.{Made, follows_none, run_then, ends_then, replies_then, files_then}
use Rattle.rose_shell.proofs.OneTurn.{still_rest, left_at_rest}
use Rattle.rose_shell.proofs.Batches.{are_held}

-- the whole lines among these bytes were answered, and more bytes were taken; no take has begun behind the budget
pub record Ahead {S : Type 0} (terms : Terms S) (old new : View) (start end : S) (budget : ℕ)
    (bytes more : List ℕ) : Type 0 where
  pub turns : List (Turn S)
  pub is_run : IsRun terms start turns
  pub made : Made terms old new start end turns
  pub answered : AreTurnsOf turns bytes
  pub left : old.left ≡ bytes ++ (more ++ new.left)
  pub taken : new.taken ≡ old.taken ++ (bytes ++ more)
  pub asked : OnlyAdds old.moment old.asked_since new.asked_since (IsAnswered old budget turns)

-- between two takes no bytes are ahead, what has come of a line is kept, as are the lines of a batch, and this room is left of
-- the budget
pub record Keeping {S : Type 0} (terms : Terms S) (old new : View) (start end : S)
    (waiting : Waiting) (kept : List ℕ) (room budget : ℕ) : Type 0 where
  pub bytes : List ℕ
  pub ahead : Ahead terms old new start end budget bytes []
  pub waits : IsWaiting waiting ahead.answered.held
  pub part : IsFrontOf kept (part_from [] bytes)
  pub spent : length bytes + room ≡ budget

-- what was answered at a take is the beginning of a longer run too
answered_more : {S : Type 0} {old : View} {budget : ℕ} (ts us : List (Turn S)) (a : Asked) → IsAnswered old budget ts a
    → IsAnswered old budget (ts ++ us) a
answered_more {S} ts us a is = record {
  bytes = is.bytes;
  done = is.done;
  others = is.others ++ us;
  some = ap (λ (l : List (Turn S)). l ++ us) is.some ∙ append_assoc is.done is.others us;
  taken = is.taken;
  in_budget = is.in_budget;
  answered = is.answered;
  given = is.given;
}

module _ {S : Type 0} {terms : Terms S} where
  -- the bytes that were taken are within the budget
  pub within_budget : {old new : View} {start end : S} {waiting : Waiting} {kept : List ℕ} {room budget : ℕ}
      (keeping : Keeping terms old new start end waiting kept room budget) → length keeping.bytes ≤ budget
  within_budget keeping = omega (arith, keeping.spent)

  -- before the first turn
  pub made_none : {v : View} {s : S} → AllRestBy terms v s → Made terms v v s s []
  made_none {v} rest = record { ends = refl; given = sym (append-nil v.given); later = omega arith; files = follows_none rest }

  -- one call more that gives nothing and leaves the files
  pub made_call : {asks : Asked → Type 0} {old mid new : View} {start end : S} {turns : List (Turn S)}
      → Made terms old mid start end turns → Ticks asks mid new → SameFiles mid new → new.given ≡ mid.given
      → Made terms old new start end turns
  made_call {old = old} {mid} {new} {start} {turns = turns} made ticks files given =
      let rest : AllRestBy terms mid (end_of start turns) = made.files.rest tt in
      let given_now : new.given ≡ old.given ++ replies turns = given ∙ made.given in
      record {
        ends = made.ends;
        given = given_now;
        later = omega (arith, made.later, ticks.clock);
        files = record {
          crash = only_then made.files.crash made.later (only_wider (only_of_adds ticks.crash)
              (λ m may.
              let left : m.files ≡ mid.reads = left_at_rest rest m.files (λ f. files.images f (m.files f) (may.1 f)) in
              moment_now terms.same terms.stands start old.reads turns old.given m (may.0 ∙ given_now)
              (subst (λ (f : Files). terms.stands (end_of start turns) f) (sym left)
              (terms.rest_stands (end_of start turns) mid.reads rest.rests))
              (left ∙ made.files.reads)));
          still = made.files.still;
          reads = same_files files.reads ∙ made.files.reads;
          rest = λ _. still_rest files rest;
        };
      }

  -- before the first take
  pub keeping_none : {v : View} {s : S} {waiting : Waiting} {kept : List ℕ} (budget : ℕ) → IsWaiting waiting [] → kept ≡ []
      → AllRestBy terms v s → Keeping terms v v s s waiting kept budget budget
  keeping_none {v} budget waits none rest = record {
    bytes = [];
    ahead = record {
      turns = [];
      is_run = tt;
      made = made_none rest;
      answered = record { held = []; are_held = tt; lines = refl; full = tt };
      left = refl;
      taken = sym (append-nil v.taken);
      asked = only_nothing;
    };
    waits = waits;
    part = none;
    spent = omega arith;
  }

  -- one take within the budget, whether it gives anything or fails: all whole lines had been answered when it began
  unfoldable pub took : {old mid new : View} {start end : S} {budget : ℕ} {bytes : List ℕ} (more : List ℕ)
      → Ahead terms old mid start end budget bytes [] → length bytes ≤ budget → Ticks (Asks mid) mid new → SameFiles mid new
      → new.given ≡ mid.given → mid.left ≡ more ++ new.left → new.taken ≡ mid.taken ++ more
      → Ahead terms old new start end budget bytes more
  took {old} {mid} {new} {start} {end} {budget} {bytes} more ahead within ticks files given left taken =
      let turns = ahead.turns in
      let made = ahead.made in
      let all_taken : mid.taken ≡ old.taken ++ bytes = ahead.taken ∙ ap (λ (l : List ℕ). old.taken ++ l) (append-nil bytes) in
      record {
        turns = turns;
        is_run = ahead.is_run;
        made = made_call made ticks files given;
        answered = ahead.answered;
        left = ahead.left ∙ ap (λ (l : List ℕ). bytes ++ l) left;
        taken = taken ∙ ap (λ (l : List ℕ). l ++ more) all_taken ∙ append_assoc old.taken bytes more;
        asked = only_then ahead.asked made.later (only_wider (only_of_adds ticks.asked)
            (λ a asks. record {
              bytes = bytes;
              done = turns;
              others = [];
              some = sym (append-nil turns);
              taken = asks.0 ∙ all_taken;
              in_budget = within;
              answered = ahead.answered;
              given = asks.1 ∙ made.given;
            }));
      }

  unfoldable pub took_some : {old mid new : View} {start end : S} {budget : ℕ} {bytes buf : List ℕ} {n : ℕ}
      → Ahead terms old mid start end budget bytes [] → length bytes ≤ budget → Took mid new buf (Ok n)
      → Ahead terms old new start end budget bytes (take n buf)
  took_some {buf = buf} {n} ahead within call =
      took (take n buf) ahead within call.ticks call.files call.given call.moved.left call.moved.taken

  pub took_none : {old mid new : View} {start end : S} {budget : ℕ} {bytes buf : List ℕ} {e : Failed}
      → Ahead terms old mid start end budget bytes [] → length bytes ≤ budget → Took mid new buf (Err e)
      → Ahead terms old new start end budget bytes []
  took_none ahead within call = took [] ahead within call.ticks call.files call.given call.failed.left call.failed.taken

  unfoldable pub took_empty : {old mid new : View} {start end : S} {budget : ℕ} {bytes buf : List ℕ} {n : ℕ}
      → Ahead terms old mid start end budget bytes [] → length bytes ≤ budget → Took mid new buf (Ok n) → n ≡ 0
      → Ahead terms old new start end budget bytes []
  took_empty {mid = mid} {new} {buf = buf} ahead within call none =
      took [] ahead within call.ticks call.files call.given
      (call.moved.left ∙ ap (λ (k : ℕ). take k buf ++ new.left) none)
      (call.moved.taken ∙ ap (λ (k : ℕ). mid.taken ++ take k buf) none)

  -- turns after those so far
  module _ {old mid new : View} {start between : S} {budget : ℕ} {bytes more : List ℕ}
      (ahead : Ahead terms old mid start between budget bytes more) (takes : TakesNone mid new) where
    pub asked_then : (us : List (Turn S))
        → OnlyAdds old.moment old.asked_since new.asked_since (IsAnswered old budget (ahead.turns ++ us))
    asked_then us =
        only_then (only_wider ahead.asked (answered_more ahead.turns us)) ahead.made.later
        (only_wider takes.asked (λ a never. absurd never))

    pub left_then : old.left ≡ (bytes ++ more) ++ new.left
    left_then =
        ahead.left ∙ sym (append_assoc bytes more mid.left) ∙ ap (λ (l : List ℕ). (bytes ++ more) ++ l) (sym takes.left)

    pub lines_then : (us : List (Turn S)) (later lines : List (List ℕ)) → lines_of us ++ later ≡ ahead.answered.held ++ lines
        → lines_of (ahead.turns ++ us) ++ later ≡ whole_lines bytes ++ lines
    lines_then us later lines second =
        lines_behind ahead.turns us ahead.answered.held later lines ahead.answered.lines second

  -- the lines that end in the bytes ahead are heard
  fed : {old mid new : View} {start between end : S} {budget : ℕ} {bytes more : List ℕ} {waiting : Waiting}
      (ahead : Ahead terms old mid start between budget bytes more)
      → Went terms ⊥ mid new between end (ahead.answered.held ++ lines_from (part_from [] bytes) more) waiting
      → Ahead terms old new start end budget (bytes ++ more) []
  fed {old} {bytes = bytes} {more} {waiting} ahead went =
      let us = went.turns in
      record {
        turns = ahead.turns ++ us;
        is_run = run_then ahead.made us ahead.is_run went.is_run;
        made = record {
          ends = went.ends ∙ ends_then ahead.made us;
          given = went.given ∙ replies_then ahead.made us;
          later = omega (arith, ahead.made.later, went.takes.later);
          files = files_then ahead.made us went.files;
        };
        answered = record {
          held = went.held;
          are_held = are_held waiting went.held went.waits;
          lines = lines_then ahead went.takes us went.held (lines_from (part_from [] bytes) more) went.of_lines
              ∙ sym (lines_from-append [] bytes more);
          full = complete-append ⊥ ahead.turns us ahead.answered.full went.full;
        };
        left = left_then ahead went.takes;
        taken = went.takes.taken ∙ ahead.taken ∙ ap (λ (l : List ℕ). old.taken ++ l) (sym (append-nil (bytes ++ more)));
        asked = asked_then ahead went.takes us;
      }

  -- one turn of the loop: a take that gives something, whose lines are heard
  pub keeping_more : {old mid between new : View} {start before end : S} {waiting later_waiting : Waiting}
      {kept later_kept buf : List ℕ} {n room budget : ℕ}
      → Keeping terms old mid start before waiting kept room budget → Took mid between buf (Ok n) → n ≤ length buf → n ≤ room
      → ((part : List ℕ) (held : List (List ℕ)) → IsFrontOf kept part → IsWaiting waiting held
      → Went terms ⊥ between new before end (held ++ lines_from part (take n buf)) later_waiting)
      → ((part : List ℕ) → IsFrontOf kept part → IsFrontOf later_kept (part_from part (take n buf)))
      → Keeping terms old new start end later_waiting later_kept (room - n) budget
  unfolding took took_some fed
  keeping_more {later_kept = later_kept} {buf} {n} keeping call in_buf in_room went part =
      let bytes = keeping.bytes in
      let more = take n buf in
      let then = went (part_from [] bytes) keeping.ahead.answered.held keeping.part keeping.waits in
      record {
        bytes = bytes ++ more;
        ahead = fed (took_some keeping.ahead (within_budget keeping) call) then;
        waits = then.waits;
        part = subst (λ (l : List ℕ). IsFrontOf later_kept l) (sym (part_from-append [] bytes more))
            (part (part_from [] bytes) keeping.part);
        spent = omega (arith, keeping.spent, length-append bytes more, length-take n buf, in_buf, in_room);
      }
