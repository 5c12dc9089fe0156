-- This file shows how a session of single lines goes on from take to take, and how it ends.
use Rattle.std.proofs.Common.{◌≡◌, ◌⊎◌, inl, inr, ⊎_elim, ℕ, ◌+◌, ◌-◌, ◌<◌, ◌≤◌, List, [], ◌++◌, length, take}
use Rattle.std.proofs.Common.{refl, sym, ◌∙◌, ap, subst, arith, append_assoc, length-append}
use Rattle.std.proofs.lemmas.List.{append-nil, length-take}
use Rattle.std.specs.Prelude.{Ok, Err}
use Rattle.outside_world.specs.declared.world.Failed.{Failed}
use Rattle.outside_world.specs.View.{View, Asked}
use Rattle.outside_world.specs.Calls.{Asks, Ticks, SameFiles, Took}
use Rattle.outside_world.specs.Since.{OnlyAdds, TakesNone}
use Rattle.outside_world.proofs.Moments.{only_nothing, only_wider, only_then, only_of_adds}
use Rattle.rose_shell.specs.declared.status.Status.{Status}
use Rattle.rose_shell.specs.declared.status.Status.TheVariants as ends
use Rattle.rose_shell.specs.Lines.{lines_from, part_from, whole_lines, last_line, all_lines}
use Rattle.rose_shell.specs.Desk.{Terms, AllRestBy}
use Rattle.rose_shell.specs.Turns.{Turn, lines_of}
use Rattle.rose_shell.specs.Session.{Work}
use Rattle.rose_shell.specs.OneByOne.{IsRunAlone, AreAllOf, IsAnsweredAlone, EndsAloneBy, ServedAlone}
use Rattle.rose_shell.specs.Progress.{Did, HaltsBy, Halted}
use Rattle.rose_shell.proofs.Turns.{lines_of-append, lines_behind}
use Rattle.rose_shell.proofs.Cuts.{lines_from-append, part_from-append}
use Rattle.rose_shell.proofs.Runs.{Made, follows_if, ends_then, replies_then, files_then}
use Rattle.rose_shell.proofs.OneTurn.{still_rest}
use Rattle.rose_shell.proofs.Takes.{made_none, made_call}
use Rattle.rose_shell.proofs.Exits.{input_ended}
use Rattle.rose_shell.proofs.LinesAlone.{alone_then, halts_then}

-- the whole lines among these bytes were answered, and more bytes were taken; no take has begun behind the budget
pub record Before {S : Type 0} (terms : Terms S) (old new : View) (start end : S) (budget : ℕ) (bytes more : List ℕ)
    : Type 0 where
  pub turns : List (Turn S)
  pub is_run : IsRunAlone terms.answers start turns
  pub made : Made terms old new start end turns
  pub answered : AreAllOf turns bytes
  pub left : old.left ≡ bytes ++ (more ++ new.left)
  pub taken : new.taken ≡ old.taken ++ (bytes ++ more)
  pub asked : OnlyAdds old.moment old.asked_since new.asked_since (IsAnsweredAlone old budget turns)

-- between two takes all whole lines were answered, what has come of the next is kept, and this room is left of the budget
pub record Going {S : Type 0} (terms : Terms S) (old new : View) (start end : S) (kept : List ℕ) (room budget : ℕ)
    : Type 0 where
  pub bytes : List ℕ
  pub before : Before terms old new start end budget bytes []
  pub part : kept ≡ part_from [] bytes
  pub spent : length bytes + room ≡ budget

-- what was answered at a take is the beginning of a longer run too
answered_more : {S : Type 0} {old : View} {budget : ℕ} (ts us : List (Turn S)) (a : Asked) → IsAnsweredAlone old budget ts a
    → IsAnsweredAlone old budget (ts ++ us) a
answered_more {S} ts us a is = record {
  bytes = is.bytes;
  done = is.done;
  others = is.others ++ us;
  some = ap (λ (l : List (Turn S)). l ++ us) is.some ∙ append_assoc is.done is.others us;
  taken = is.taken;
  in_budget = is.in_budget;
  answered = is.answered;
  given = is.given;
}

-- how the lines halt is how the run has ended
module _ {S : Type 0} (terms : Terms S) (old new : View) (start : S) where
  ended_so : (w : Work S) (budget : ℕ) (status : Status)
      → HaltsBy terms old new start w.turns w.unsent status → EndsAloneBy terms old new start w budget status
  ended_so w budget ends.Done halts = absurd halts
  ended_so w budget ends.Usage halts = absurd halts
  ended_so w budget ends.SourceFault halts = absurd halts
  ended_so w budget ends.SinkFault halts = halts
  ended_so w budget ends.DiskFault halts = halts
  ended_so w budget (ends.Damaged d) halts = absurd halts
  ended_so w budget ends.NoMemory halts = halts
  ended_so w budget ends.InputLimit halts = absurd halts

module _ {S : Type 0} {terms : Terms S} where
  within_budget : {old new : View} {start end : S} {kept : List ℕ} {room budget : ℕ}
      (going : Going terms old new start end kept room budget) → length going.bytes ≤ budget
  within_budget going = omega (arith, going.spent)

  -- the desk rests between two takes
  rest_between : {old new : View} {start end : S} {kept : List ℕ} {room budget : ℕ}
      → Going terms old new start end kept room budget → AllRestBy terms new end
  rest_between {new = new} going =
      subst (λ (s : S). AllRestBy terms new s) (sym going.before.made.ends) (going.before.made.files.rest tt)

  -- and is so behind a take
  pub rest_behind_take : {old mid new : View} {start end : S} {kept buf : List ℕ} {n room budget : ℕ}
      → Going terms old mid start end kept room budget → Took mid new buf (Ok n) → AllRestBy terms new end
  rest_behind_take going call = still_rest call.files (rest_between going)

  -- before the first take
  pub going_none : {v : View} {s : S} {kept : List ℕ} (budget : ℕ) → kept ≡ [] → AllRestBy terms v s
      → Going terms v v s s kept budget budget
  going_none {v} budget none rest = record {
    bytes = [];
    before = record {
      turns = [];
      is_run = tt;
      made = made_none rest;
      answered = refl;
      left = refl;
      taken = sym (append-nil v.taken);
      asked = only_nothing;
    };
    part = none;
    spent = omega arith;
  }

  -- one take within the budget, whether it gives anything or fails: all whole lines had been answered when it began
  unfoldable took : {old mid new : View} {start end : S} {budget : ℕ} {bytes : List ℕ} (more : List ℕ)
      → Before terms old mid start end budget bytes [] → length bytes ≤ budget → Ticks (Asks mid) mid new → SameFiles mid new
      → new.given ≡ mid.given → mid.left ≡ more ++ new.left → new.taken ≡ mid.taken ++ more
      → Before terms old new start end budget bytes more
  took {old} {mid} {bytes = bytes} more before within ticks files given left taken =
      let turns = before.turns in
      let made = before.made in
      let all_taken : mid.taken ≡ old.taken ++ bytes = before.taken ∙ ap (λ (l : List ℕ). old.taken ++ l) (append-nil bytes) in
      record {
        turns = turns;
        is_run = before.is_run;
        made = made_call made ticks files given;
        answered = before.answered;
        left = before.left ∙ ap (λ (l : List ℕ). bytes ++ l) left;
        taken = taken ∙ ap (λ (l : List ℕ). l ++ more) all_taken ∙ append_assoc old.taken bytes more;
        asked = only_then before.asked made.later (only_wider (only_of_adds ticks.asked)
            (λ a asks. record {
              bytes = bytes;
              done = turns;
              others = [];
              some = sym (append-nil turns);
              taken = asks.0 ∙ all_taken;
              in_budget = within;
              answered = before.answered;
              given = asks.1 ∙ made.given;
            }));
      }

  unfoldable took_some : {old mid new : View} {start end : S} {budget : ℕ} {bytes buf : List ℕ} {n : ℕ}
      → Before terms old mid start end budget bytes [] → length bytes ≤ budget → Took mid new buf (Ok n)
      → Before terms old new start end budget bytes (take n buf)
  took_some {buf = buf} {n} before within call =
      took (take n buf) before within call.ticks call.files call.given call.moved.left call.moved.taken

  unfoldable took_empty : {old mid new : View} {start end : S} {budget : ℕ} {bytes buf : List ℕ} {n : ℕ}
      → Before terms old mid start end budget bytes [] → length bytes ≤ budget → Took mid new buf (Ok n) → n ≡ 0
      → Before terms old new start end budget bytes []
  took_empty {mid = mid} {new} {buf = buf} before within call none =
      took [] before within call.ticks call.files call.given
      (call.moved.left ∙ ap (λ (k : ℕ). take k buf ++ new.left) none)
      (call.moved.taken ∙ ap (λ (k : ℕ). mid.taken ++ take k buf) none)

  -- turns after those so far
  module _ {old mid new : View} {start between : S} {budget : ℕ} {bytes more : List ℕ}
      (before : Before terms old mid start between budget bytes more) (takes : TakesNone mid new) where
    asked_then : (us : List (Turn S))
        → OnlyAdds old.moment old.asked_since new.asked_since (IsAnsweredAlone old budget (before.turns ++ us))
    asked_then us =
        only_then (only_wider before.asked (answered_more before.turns us)) before.made.later
        (only_wider takes.asked (λ a never. absurd never))

    left_then : old.left ≡ (bytes ++ more) ++ new.left
    left_then =
        before.left ∙ sym (append_assoc bytes more mid.left) ∙ ap (λ (l : List ℕ). (bytes ++ more) ++ l) (sym takes.left)

    lines_then : (us : List (Turn S)) (later lines : List (List ℕ)) → lines_of us ++ later ≡ lines
        → lines_of (before.turns ++ us) ++ later ≡ whole_lines bytes ++ lines
    lines_then us later lines second =
        lines_behind before.turns us [] later lines (append-nil (lines_of before.turns) ∙ before.answered) second

  -- one turn of the loop: a take that gives something, whose lines are answered
  pub going_more : {old mid between new : View} {start first end : S} {kept later_kept buf : List ℕ} {n room budget : ℕ}
      → Going terms old mid start first kept room budget → Took mid between buf (Ok n) → n ≤ length buf → n ≤ room
      → Did terms between new first end (lines_from kept (take n buf)) → later_kept ≡ part_from kept (take n buf)
      → Going terms old new start end later_kept (room - n) budget
  unfolding took took_some
  going_more {old} {between = between} {new} {first = first} {end} {buf = buf} {n} going call in_buf in_room heard part =
      let bytes = going.bytes in
      let more = take n buf in
      let before = took_some going.before (within_budget going) call in
      let did : Did terms between new first end (lines_from (part_from [] bytes) more) =
      subst (λ (l : List ℕ). Did terms between new first end (lines_from l more)) going.part heard in
      let us = did.turns in
      record {
        bytes = bytes ++ more;
        before = record {
          turns = before.turns ++ us;
          is_run = alone_then before.made us before.is_run did.is_run;
          made = record {
            ends = did.ends ∙ ends_then before.made us;
            given = did.given ∙ replies_then before.made us;
            later = omega (arith, before.made.later, did.takes.later);
            files = files_then before.made us did.files;
          };
          answered = lines_of-append before.turns us ∙ ap (λ (l : List (List ℕ)). l ++ lines_of us) before.answered
              ∙ ap (λ (l : List (List ℕ)). whole_lines bytes ++ l) did.of_lines ∙ sym (lines_from-append [] bytes more);
          left = left_then before did.takes;
          taken = did.takes.taken ∙ before.taken ∙ ap (λ (l : List ℕ). old.taken ++ l) (sym (append-nil (bytes ++ more)));
          asked = asked_then before did.takes us;
        };
        part = part ∙ ap (λ (l : List ℕ). part_from l more) going.part ∙ sym (part_from-append [] bytes more);
        spent = omega (arith, going.spent, length-append bytes more, length-take n buf, in_buf, in_room);
      }

  -- ---- the end

  -- the take fails: all whole lines were answered
  pub alone_source : {old mid new : View} {start end : S} {kept buf : List ℕ} {e : Failed} {room budget : ℕ}
      → Going terms old mid start end kept room budget → Took mid new buf (Err e)
      → ServedAlone terms old new start budget ends.SourceFault
  unfolding took
  alone_source {old} {new = new} going call =
      let bytes = going.bytes in
      let within = within_budget going in
      let before = took [] going.before within call.ticks call.files call.given call.failed.left call.failed.taken in
      record {
        work = record { bytes = bytes; turns = before.turns; unread = last_line (part_from [] bytes); unsent = [] };
        input = record {
          later = before.made.later;
          left = before.left;
          taken = before.taken ∙ ap (λ (l : List ℕ). old.taken ++ l) (append-nil bytes);
          of_lines = ap (λ (l : List (List ℕ)). l ++ last_line (part_from [] bytes)) before.answered;
          whole = inr ([], append-nil (lines_of before.turns) ∙ before.answered);
          within = λ _. within;
        };
        given = append-nil new.given ∙ before.made.given;
        is_run = before.is_run;
        asked = before.asked;
        files = follows_if (λ _. tt) before.made.files;
        ended = (before.answered, refl);
      }

  -- it gives more than is left of the budget, which isn't read
  pub alone_limit : {old mid new : View} {start end : S} {kept buf : List ℕ} {n room budget : ℕ}
      → Going terms old mid start end kept room budget → Took mid new buf (Ok n) → room ≡ 0 → 0 < n → n ≤ length buf
      → ServedAlone terms old new start budget ends.InputLimit
  unfolding took took_some
  alone_limit {new = new} {buf = buf} {n} going call none some in_buf =
      let bytes = going.bytes in
      let more = take n buf in
      let before = took_some going.before (within_budget going) call in
      let rest = lines_from (part_from [] bytes) more in
      let part = last_line (part_from [] (bytes ++ more)) in
      record {
        work = record { bytes = bytes ++ more; turns = before.turns; unread = rest ++ part; unsent = [] };
        input = record {
          later = before.made.later;
          left = before.left ∙ sym (append_assoc bytes more new.left);
          taken = before.taken;
          of_lines = ap (λ (l : List (List ℕ)). l ++ (rest ++ part)) before.answered
              ∙ sym (append_assoc (whole_lines bytes) rest part)
              ∙ ap (λ (l : List (List ℕ)). l ++ part) (sym (lines_from-append [] bytes more));
          whole = inr (
            rest,
            ap (λ (l : List (List ℕ)). l ++ rest) before.answered ∙ sym (lines_from-append [] bytes more),
          );
          within = λ other. absurd (other refl);
        };
        given = append-nil new.given ∙ before.made.given;
        is_run = before.is_run;
        asked = before.asked;
        files = follows_if (λ _. tt) before.made.files;
        ended = (
          bytes,
          more,
          refl,
          omega (arith, going.spent, none),
          omega (arith, length-take n buf, some, in_buf),
          before.answered,
          refl,
        );
      }

  -- it gives nothing, since the input has ended, and what had come of the last line is answered
  pub alone_all : {old mid between new : View} {start first end : S} {kept line buf : List ℕ} {n room budget : ℕ}
      → Going terms old mid start first kept room budget → Took mid between buf (Ok n) → n ≡ 0 → 0 < length buf
      → line ≡ kept → Did terms between new first end (last_line line) → ServedAlone terms old new start budget ends.Done
  unfolding took took_empty
  alone_all {old} {between = between} {new} {first = first} {end} going call none wide is heard =
      let bytes = going.bytes in
      let last = last_line (part_from [] bytes) in
      let within = within_budget going in
      let before = took_empty going.before within call none in
      let did : Did terms between new first end last =
      subst (λ (l : List ℕ). Did terms between new first end (last_line l)) (is ∙ going.part) heard in
      let us = did.turns in
      let over : new.left ≡ [] = did.takes.left ∙ input_ended call none wide in
      record {
        work = record { bytes = bytes; turns = before.turns ++ us; unread = []; unsent = [] };
        input = record {
          later = omega (arith, before.made.later, did.takes.later);
          left = left_then before did.takes ∙ ap (λ (l : List ℕ). l ++ new.left) (append-nil bytes);
          taken = did.takes.taken ∙ before.taken ∙ ap (λ (l : List ℕ). old.taken ++ l) (append-nil bytes);
          of_lines = lines_then before did.takes us [] last (append-nil (lines_of us) ∙ did.of_lines);
          whole = inl over;
          within = λ _. within;
        };
        given = append-nil new.given ∙ did.given ∙ replies_then before.made us;
        is_run = alone_then before.made us before.is_run did.is_run;
        asked = asked_then before did.takes us;
        files = files_then before.made us (follows_if (λ _. tt) did.files);
        ended = (over, refl, refl);
      }

  -- they halt at one among those that end in the bytes ahead, or at the last one where the input has ended
  halted_at_line : {old mid new : View} {start between : S} {bytes more : List ℕ} {budget : ℕ} {status : Status}
      (lines rest : List (List ℕ)) (before : Before terms old mid start between budget bytes more)
      → Halted terms mid new between lines status
      → whole_lines bytes ++ (lines ++ rest) ≡ all_lines (bytes ++ more)
      → (mid.left ≡ []) ⊎ (whole_lines bytes ++ lines ≡ whole_lines (bytes ++ more))
      → length (bytes ++ more) ≤ budget → ServedAlone terms old new start budget status
  halted_at_line {old} {new = new} {start} {bytes = bytes} {more} {budget} {status} lines rest before halted all whole within =
      let us = halted.turns in
      let first : lines_of (before.turns ++ us) ++ halted.unread ≡ whole_lines bytes ++ lines =
      lines_then before halted.takes us halted.unread lines halted.of_lines in
      let work : Work S = record {
        bytes = bytes ++ more;
        turns = before.turns ++ us;
        unread = halted.unread ++ rest;
        unsent = halted.unsent;
      } in
      record {
        work = work;
        input = record {
          later = omega (arith, before.made.later, halted.takes.later);
          left = left_then before halted.takes;
          taken = halted.takes.taken ∙ before.taken;
          of_lines = sym (append_assoc (lines_of (before.turns ++ us)) halted.unread rest)
              ∙ ap (λ (l : List (List ℕ)). l ++ rest) first ∙ append_assoc (whole_lines bytes) lines rest ∙ all;
          whole = ⊎_elim
              (λ none. inl (halted.takes.left ∙ none))
              (λ (same : whole_lines bytes ++ lines ≡ whole_lines (bytes ++ more)). inr (halted.unread, first ∙ same)) whole;
          within = λ _. within;
        };
        given = halted.given ∙ replies_then before.made us;
        is_run = alone_then before.made us before.is_run halted.is_run;
        asked = asked_then before halted.takes us;
        files = files_then before.made us halted.files;
        ended = ended_so terms old new start work budget status
            (halts_then before.made us new halted.unsent status halted.ended);
      }

  -- the lines halt at one that ends in the bytes of this take
  pub alone_halt : {old mid between new : View} {start first : S} {kept buf : List ℕ} {n room budget : ℕ} {status : Status}
      → Going terms old mid start first kept room budget → Took mid between buf (Ok n) → n ≤ length buf → n ≤ room
      → Halted terms between new first (lines_from kept (take n buf)) status → ServedAlone terms old new start budget status
  unfolding took took_some
  alone_halt {between = between} {new} {first = first} {buf = buf} {n} {status = status} going call in_buf in_room heard =
      let bytes = going.bytes in
      let more = take n buf in
      let lines = lines_from (part_from [] bytes) more in
      let rest = last_line (part_from [] (bytes ++ more)) in
      let all : whole_lines bytes ++ (lines ++ rest) ≡ all_lines (bytes ++ more) =
      sym (append_assoc (whole_lines bytes) lines rest) ∙ ap (λ (l : List (List ℕ)). l ++ rest) (sym (lines_from-append [] bytes more)) in
      halted_at_line lines rest (took_some going.before (within_budget going) call)
      (subst (λ (l : List ℕ). Halted terms between new first (lines_from l more) status) going.part heard) all
      (inr (sym (lines_from-append [] bytes more)))
      (omega (arith, going.spent, length-append bytes more, length-take n buf, in_buf, in_room))

  -- or at the last one
  pub alone_last : {old mid between new : View} {start first : S} {kept line buf : List ℕ} {n room budget : ℕ} {status : Status}
      → Going terms old mid start first kept room budget → Took mid between buf (Ok n) → n ≡ 0 → 0 < length buf
      → line ≡ kept → Halted terms between new first (last_line line) status → ServedAlone terms old new start budget status
  unfolding took took_empty
  alone_last {between = between} {new} {first = first} {budget = budget} {status} going call none wide is heard =
      let bytes = going.bytes in
      let last = last_line (part_from [] bytes) in
      let no_more : bytes ≡ bytes ++ [] = sym (append-nil bytes) in
      let all : whole_lines bytes ++ (last ++ []) ≡ all_lines (bytes ++ []) =
      ap (λ (l : List (List ℕ)). whole_lines bytes ++ l) (append-nil last) ∙ ap (λ (l : List ℕ). all_lines l) no_more in
      halted_at_line last [] (took_empty going.before (within_budget going) call none)
      (subst (λ (l : List ℕ). Halted terms between new first (last_line l) status) (is ∙ going.part) heard) all
      (inl (input_ended call none wide))
      (subst (λ (l : List ℕ). length l ≤ budget) no_more (within_budget going))
