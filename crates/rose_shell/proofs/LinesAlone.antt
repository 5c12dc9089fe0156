-- This file shows how lines are answered one by one.
use Rattle.std.proofs.Common.{◌≡◌, ℕ, ◌<◌, List, [], ◌∷◌, ◌++◌, length, refl, sym, ◌∙◌, ap, subst, arith, append_assoc}
use Rattle.std.proofs.lemmas.List.{append-nil}
use Rattle.std.specs.Prelude.{Err}
use Rattle.outside_world.specs.View.{View}
use Rattle.outside_world.proofs.Moments.{none_taken, none_taken_then}
use Rattle.rose_shell.specs.declared.status.Status.{Status}
use Rattle.rose_shell.specs.declared.status.Status.TheVariants as ends
use Rattle.rose_shell.specs.Lines.{lines_from, part_from, last_line}
use Rattle.rose_shell.specs.Giving.{GaveSome}
use Rattle.rose_shell.specs.Desk.{Rule, Terms, AllRestBy, Settled}
use Rattle.rose_shell.specs.Turns.{Turn, end_of, lines_of}
use Rattle.rose_shell.specs.Session.{IsCutOff}
use Rattle.rose_shell.specs.OneByOne.{IsRunAlone}
use Rattle.rose_shell.specs.Progress.{Did, HaltsBy, Halted}
use Rattle.rose_shell.specs.Following.{AnsweredBy}
use Rattle.rose_shell.proofs.Turns.{lines_of-append, lines_behind, given_in_part_behind, cut_off_behind}
use Rattle.rose_shell.proofs.Cuts.{HasNoFeed, lines_from-append, lines_from-line}
use Rattle.rose_shell.proofs.Chunks.{lines_at_end}
use Rattle.rose_shell.proofs.Runs.{Made, follows_none, ends_then, replies_then, files_then}
use Rattle.rose_shell.proofs.OneTurn.{turn_files, files_unanswered, files_cut_short, cut_turn, cut_off_one}
use Rattle.rose_shell.proofs.OneTurn.{given_whole, given_short, given_none}
use Rattle.rose_shell.proofs.Treatments.{single, gave_reply}

-- what has come of a line, with these bytes more
pub came_more : {seen kept before came : List ℕ} (line : List ℕ) → seen ≡ kept → kept ≡ before ++ line → before ≡ came
    → seen ≡ came ++ line
came_more line same is came = same ∙ is ∙ ap (λ (l : List ℕ). l ++ line) came

-- nothing has come of the next
pub none_came : {kept part : List ℕ} → kept ≡ [] → part ≡ [] → kept ≡ part
none_came none also = none ∙ sym also

module _ {S : Type 0} (answers : Rule S) where
  alone-append : (start : S) (ts us : List (Turn S)) → IsRunAlone answers start ts → IsRunAlone answers (end_of start ts) us
      → IsRunAlone answers start (ts ++ us)
  alone-append start [] us first second = second
  alone-append start (t ∷ ts) us first second = (first.0, alone-append t.after ts us first.1 second)

-- more turns behind these
module _ {S : Type 0} {terms : Terms S} {old mid : View} {start between : S} {ts : List (Turn S)}
    (made : Made terms old mid start between ts) (us : List (Turn S)) where
  pub alone_then : IsRunAlone terms.answers start ts → IsRunAlone terms.answers between us → IsRunAlone terms.answers start (ts ++ us)
  alone_then first second =
      alone-append terms.answers start ts us first (subst (λ (s : S). IsRunAlone terms.answers s us) made.ends second)

  -- however these halt
  pub halts_then : (new : View) (unsent : List ℕ) (status : Status) → HaltsBy terms mid new between us unsent status
      → HaltsBy terms old new start (ts ++ us) unsent status
  halts_then new unsent ends.Done halts = halts
  halts_then new unsent ends.Usage halts = halts
  halts_then new unsent ends.SourceFault halts = halts
  halts_then new unsent ends.SinkFault halts = given_in_part_behind ts halts
  halts_then new unsent ends.DiskFault halts =
      cut_off_behind start ts made.given made.files.reads (subst (λ (s : S). IsCutOff terms mid new s us unsent) made.ends halts)
  halts_then new unsent (ends.Damaged d) halts = halts
  halts_then new unsent ends.NoMemory halts = halts
  halts_then new unsent ends.InputLimit halts = halts

module _ {S : Type 0} {terms : Terms S} where
  -- no line was answered
  pub did_none : {v : View} {s : S} → AllRestBy terms v s → Did terms v v s s []
  did_none {v} rest = record {
    turns = [];
    is_run = tt;
    of_lines = refl;
    ends = refl;
    given = sym (append-nil v.given);
    takes = none_taken;
    files = follows_none rest;
  }

  pub made_of : {old new : View} {start end : S} {lines : List (List ℕ)} (did : Did terms old new start end lines)
      → Made terms old new start end did.turns
  made_of did = record { ends = did.ends; given = did.given; later = did.takes.later; files = did.files }

  -- the files are at rest
  pub rest_of : {old new : View} {start end : S} {lines : List (List ℕ)} → Did terms old new start end lines
      → AllRestBy terms new end
  rest_of {new = new} did = subst (λ (s : S). AllRestBy terms new s) (sym did.ends) (did.files.rest tt)

  -- lines after others
  pub did_then : {old mid new : View} {start between end : S} {lines more : List (List ℕ)}
      → Did terms old mid start between lines → Did terms mid new between end more → Did terms old new start end (lines ++ more)
  did_then {lines = lines} {more} first second =
      let made = made_of first in
      let us = second.turns in
      record {
        turns = first.turns ++ us;
        is_run = alone_then made us first.is_run second.is_run;
        of_lines = lines_of-append first.turns us ∙ ap (λ (l : List (List ℕ)). l ++ lines_of us) first.of_lines
            ∙ ap (λ (l : List (List ℕ)). lines ++ l) second.of_lines;
        ends = second.ends ∙ ends_then made us;
        given = second.given ∙ replies_then made us;
        takes = none_taken_then first.takes second.takes;
        files = files_then made us second.files;
      }

  pub halted_then : {old mid new : View} {start between : S} {lines more : List (List ℕ)} {status : Status}
      → Did terms old mid start between lines → Halted terms mid new between more status
      → Halted terms old new start (lines ++ more) status
  halted_then {new = new} {more = more} {status} first second =
      let made = made_of first in
      let us = second.turns in
      record {
        turns = first.turns ++ us;
        unread = second.unread;
        unsent = second.unsent;
        is_run = alone_then made us first.is_run second.is_run;
        of_lines = lines_behind first.turns us [] second.unread more
            (append-nil (lines_of first.turns) ∙ first.of_lines) second.of_lines;
        given = second.given ∙ replies_then made us;
        takes = none_taken_then first.takes second.takes;
        files = files_then made us second.files;
        ended = halts_then made us new second.unsent status second.ended;
      }

  -- more lines that aren't read
  pub halted_more : {old new : View} {start : S} {lines : List (List ℕ)} {status : Status} (more : List (List ℕ))
      → Halted terms old new start lines status → Halted terms old new start (lines ++ more) status
  halted_more more halted = record {
    turns = halted.turns;
    unread = halted.unread ++ more;
    unsent = halted.unsent;
    is_run = halted.is_run;
    of_lines = sym (append_assoc (lines_of halted.turns) halted.unread more) ∙ ap (λ (l : List (List ℕ)). l ++ more) halted.of_lines;
    given = halted.given;
    takes = halted.takes;
    files = halted.files;
    ended = halted.ended;
  }

  -- memory runs out before any line is answered
  pub halted_none : {v : View} {s : S} (lines : List (List ℕ)) → AllRestBy terms v s → Halted terms v v s lines ends.NoMemory
  halted_none lines rest = record {
    turns = [];
    unread = lines;
    unsent = [];
    is_run = tt;
    of_lines = refl;
    given = refl;
    takes = none_taken;
    files = follows_none rest;
    ended = refl;
  }

  pub halted_at : {old new : View} {start : S} {lines : List (List ℕ)} {status at : Status} → status ≡ at
      → Halted terms old new start lines at → Halted terms old new start lines status
  halted_at {old} {new} {start} {lines} is halted =
      subst (λ (s : Status). Halted terms old new start lines s) (sym is) halted

  -- ---- one line

  -- it is answered, and the reply given whole
  pub did_one : {old mid new : View} {start end : S} {line reply bytes : List ℕ} → terms.answers start line reply end
      → Settled terms old mid start end → bytes ≡ reply → GaveSome mid new bytes [] → Did terms old new start end (line ∷ [])
  did_one {mid = mid} {end = end} {line} {reply} answer settled is given =
      let gave = gave_reply is given in
      record {
        turns = single line reply end mid.reads ∷ [];
        is_run = (record { alone = refl; answer = answer }, tt);
        of_lines = refl;
        ends = refl;
        given = given_whole settled gave;
        takes = none_taken_then settled.leaves.takes gave.takes;
        files = turn_files terms (single line reply end mid.reads) refl settled gave;
      }

  -- or in part
  pub halted_one : {old mid new : View} {start end : S} {line reply bytes unsent : List ℕ} → terms.answers start line reply end
      → Settled terms old mid start end → bytes ≡ reply → GaveSome mid new bytes unsent
      → Halted terms old new start (line ∷ []) ends.SinkFault
  halted_one {mid = mid} {end = end} {line} {reply} {unsent = unsent} answer settled is given =
      let gave = gave_reply is given in
      let turn = single line reply end mid.reads in
      record {
        turns = turn ∷ [];
        unread = [];
        unsent = unsent;
        is_run = (record { alone = refl; answer = answer }, tt);
        of_lines = refl;
        given = given_short settled gave;
        takes = none_taken_then settled.leaves.takes gave.takes;
        files = turn_files terms turn refl settled gave;
        ended = record { before = []; last = turn; sent = gave.sent; in_order = refl; split = gave.split };
      }

  -- or memory runs out before there is a reply, or the disk fails
  pub halted_before : {old new : View} {start : S} (end : S) {line : List ℕ} (status : Status)
      → AnsweredBy terms old new start end line (Err status) → Halted terms old new start (line ∷ []) status
  halted_before end ends.Done answered = absurd answered
  halted_before end ends.Usage answered = absurd answered
  halted_before end ends.SourceFault answered = absurd answered
  halted_before end ends.SinkFault answered = absurd answered
  halted_before end ends.DiskFault cut = record {
    turns = cut_turn cut ∷ [];
    unread = [];
    unsent = cut.reply;
    is_run = (record { alone = refl; answer = cut.answer }, tt);
    of_lines = refl;
    given = given_none cut;
    takes = cut.leaves.takes;
    files = files_cut_short (λ other. other refl) cut;
    ended = cut_off_one cut;
  }
  halted_before end (ends.Damaged d) answered = absurd answered
  halted_before end {line} ends.NoMemory settled = record {
    turns = [];
    unread = line ∷ [];
    unsent = [];
    is_run = tt;
    of_lines = refl;
    given = ap (λ (l : List ℕ). l ++ []) settled.leaves.given;
    takes = settled.leaves.takes;
    files = files_unanswered terms settled;
    ended = refl;
  }
  halted_before end ends.InputLimit answered = absurd answered

  -- ---- a chunk of the input

  -- one line more is answered
  pub did_line : {old mid new : View} {start between end : S} {kept : List ℕ} (part done line : List ℕ) → HasNoFeed line
      → kept ≡ part_from part done ++ line → Did terms old mid start between (lines_from part done)
      → Did terms mid new between end (kept ∷ []) → Did terms old new start end (lines_from part (done ++ (line ++ 10 ∷ [])))
  did_line {old} {mid} {new} {start} {between} {end} part done line none is first second =
      subst (λ (ls : List (List ℕ)). Did terms old new start end ls) (sym (lines_from-line part done line none))
      (did_then first (subst (λ (l : List ℕ). Did terms mid new between end (l ∷ [])) is second))

  -- or halts the run, and what is left isn't read
  pub halted_line : {old mid new : View} {start between : S} {chunk kept : List ℕ} {status : Status} (part done line rest : List ℕ)
      → HasNoFeed line → chunk ≡ (done ++ (line ++ 10 ∷ [])) ++ rest → kept ≡ part_from part done ++ line
      → Did terms old mid start between (lines_from part done) → Halted terms mid new between (kept ∷ []) status
      → Halted terms old new start (lines_from part chunk) status
  halted_line {old} {mid} {new} {start} {between} {chunk} {status = status} part done line rest none split is first second =
      let some = done ++ (line ++ 10 ∷ []) in
      let one = (part_from part done ++ line) ∷ [] in
      let more = lines_from (part_from part some) rest in
      let lines : (lines_from part done ++ one) ++ more ≡ lines_from part chunk =
      ap (λ (ls : List (List ℕ)). ls ++ more) (sym (lines_from-line part done line none))
      ∙ sym (ap (λ (l : List ℕ). lines_from part l) split ∙ lines_from-append part some rest) in
      subst (λ (ls : List (List ℕ)). Halted terms old new start ls status) lines
      (halted_more more
      (halted_then first (subst (λ (l : List ℕ). Halted terms mid new between (l ∷ []) status) is second)))

  -- or memory runs out for what is left
  pub halted_left : {old new : View} {start end : S} {chunk : List ℕ} (part done rest : List ℕ) → chunk ≡ done ++ rest
      → Did terms old new start end (lines_from part done) → Halted terms old new start (lines_from part chunk) ends.NoMemory
  halted_left {old} {new} {start} {chunk = chunk} part done rest split first =
      let more = lines_from (part_from part done) rest in
      let lines : lines_from part done ++ more ≡ lines_from part chunk =
      sym (ap (λ (l : List ℕ). lines_from part l) split ∙ lines_from-append part done rest) in
      subst (λ (ls : List (List ℕ)). Halted terms old new start ls ends.NoMemory) lines
      (halted_then first (halted_none more (rest_of first)))

  -- no line more ends in the chunk
  pub did_end : {old new : View} {start end : S} {chunk : List ℕ} (part done rest : List ℕ) → chunk ≡ done ++ rest → HasNoFeed rest
      → Did terms old new start end (lines_from part done) → Did terms old new start end (lines_from part chunk)
  did_end {old} {new} {start} {end} part done rest split none did =
      subst (λ (ls : List (List ℕ)). Did terms old new start end ls) (sym (lines_at_end part done rest split none)) did

  -- ---- the end of the input

  -- a line that isn't empty is answered, and else there is none
  pub did_last : {old new : View} {start end : S} (line : List ℕ) → 0 < length line → Did terms old new start end (line ∷ [])
      → Did terms old new start end (last_line line)
  did_last [] some did = absurd (omega (arith, some))
  did_last (b ∷ line) some did = did

  pub halted_last : {old new : View} {start : S} {status : Status} (line : List ℕ) → 0 < length line
      → Halted terms old new start (line ∷ []) status → Halted terms old new start (last_line line) status
  halted_last [] some halted = absurd (omega (arith, some))
  halted_last (b ∷ line) some halted = halted

  pub did_no_last : {v : View} {s : S} (line : List ℕ) → length line ≡ 0 → AllRestBy terms v s → Did terms v v s s (last_line line)
  did_no_last [] none rest = did_none rest
  did_no_last (b ∷ line) none rest = absurd (omega (arith, none))
