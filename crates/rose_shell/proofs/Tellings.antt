-- This file shows that lines, frames and items which are given after nothing but questions of the files are given from before.
use Rattle.std.proofs.Common.{ℕ, List, [], ◌++◌, inl, inr, refl, sym, ◌∙◌, ap}
use Rattle.std.proofs.lemmas.List.{append-nil}
use Rattle.outside_world.specs.View.{View}
use Rattle.outside_world.proofs.Moments.{only_nothing, only_wider, only_then, none_taken, none_taken_then}
use Rattle.command_words.specs.declared.word.Word.{Word}
use Rattle.command_words.specs.declared.word.Word.TheVariants.{Run, Check, Gen, Ship, Follow, Certify, Audit}
use Rattle.realm_journal.specs.Reading.{OnlyAsks}
use Rattle.realm_audit.specs.declared.item.Item.{Item}
use Rattle.standby_core.specs.declared.frame.Frame.{Frame}
use Rattle.rose_shell.specs.declared.status.Status.{Status}
use Rattle.rose_shell.specs.declared.status.Status.TheVariants.{NoMemory}
use Rattle.rose_shell.specs.Giving.{GaveSome}
use Rattle.rose_shell.specs.Running.{IsNotBegun}
use Rattle.rose_shell.specs.Certifying.{GivesItems}
use Rattle.rose_shell.specs.Shipping.{GivesFrames}
use Rattle.rose_shell.specs.Telling.{GivesLines, HasDone}
use Rattle.rose_shell.proofs.Audits.{audited_none}

-- nothing was asked
pub none_asked : {v : View} → OnlyAsks v v
none_asked = record {
  takes = none_taken;
  files = record { reads = λ f. refl; images = λ f c may. may };
  given = refl;
  crash = only_nothing;
}

-- so where memory runs out before anything is done
none_begun : {v : View} → IsNotBegun v v NoMemory
none_begun = record { asks = none_asked; cause = inr (inl refl) }

pub none_done : (v : View) (command : Word) → HasDone command v v NoMemory
none_done v Run = inl none_begun
none_done v Check = inl none_begun
none_done v (Gen count start) = inl (refl, none_asked)
none_done v (Ship changes) = inl none_begun
none_done v Follow = inl none_begun
none_done v Certify = inl none_begun
none_done v Audit = audited_none

module _ {old mid new : View} (asks : OnlyAsks old mid) where
  some_behind : {lines unsent : List ℕ} → GaveSome mid new lines unsent → GaveSome old new lines unsent
  some_behind {lines} some = record {
    sent = some.sent;
    split = some.split;
    given = some.given ∙ ap (λ (l : List ℕ). l ++ some.sent) asks.given;
    takes = none_taken_then asks.takes some.takes;
    files = record {
      reads = λ f. some.files.reads f ∙ asks.files.reads f;
      images = λ f c may. asks.files.images f c (some.files.images f c may);
    };
    crash = only_then
        (only_wider asks.crash (λ m may. ([], lines, refl, may.0 ∙ sym (append-nil old.given), may.1)))
        asks.takes.later
        (only_wider some.crash (λ m is. (
          is.0,
          is.1,
          is.2,
          is.3 ∙ ap (λ (l : List ℕ). l ++ is.0) asks.given,
          λ f. asks.files.images f (m.files f) (is.4 f),
        )));
  }

  pub frames_behind : {frames : List Frame} {status : Status} → GivesFrames mid new frames status → GivesFrames old new frames status
  frames_behind gives = record {
    begun = gives.begun;
    left = gives.left;
    in_order = gives.in_order;
    are_frames = gives.are_frames;
    unsent = gives.unsent;
    some = some_behind gives.some;
    ends = gives.ends;
  }

  pub items_behind : {items : List Item} {status : Status} → GivesItems mid new items status → GivesItems old new items status
  items_behind gives = record {
    begun = gives.begun;
    left = gives.left;
    in_order = gives.in_order;
    are_lines = gives.are_lines;
    unsent = gives.unsent;
    some = some_behind gives.some;
    ends = gives.ends;
  }

  pub lines_behind : {lines : List ℕ} {status : Status} → GivesLines mid new lines status → GivesLines old new lines status
  lines_behind gives = record { unsent = gives.unsent; some = some_behind gives.some; ends = gives.ends }
