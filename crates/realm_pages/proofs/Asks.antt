-- This file shows how runs of calls go on that only ask.
use Rattle.std.proofs.Common.{◌∙◌, refl}
use Rattle.outside_world.specs.View.{View}
use Rattle.outside_world.specs.Calls.{LeavesAll}
use Rattle.outside_world.proofs.Moments.{only_nothing, only_then, only_of_adds, only_wider, none_taken, none_taken_then, none_taken_by}
use Rattle.realm_journal.specs.Reading.{OnlyAsks}

-- nothing is called yet
pub asks_none : {v : View} → OnlyAsks v v
asks_none = record {
  takes = none_taken;
  files = record { reads = λ f. refl; images = λ f c i. i };
  given = refl;
  crash = only_nothing;
}

-- one call
pub asks_of : {old new : View} → LeavesAll old new → OnlyAsks old new
asks_of leaves = record {
  takes = none_taken_by leaves.ticks leaves.streams.left leaves.streams.taken;
  files = leaves.files;
  given = leaves.streams.given;
  crash = only_wider (only_of_adds leaves.ticks.crash)
      (λ m may. (may.0 ∙ leaves.streams.given, λ f. leaves.files.images f (m.files f) (may.1 f)));
}

-- one run after another
pub asks_then : {old mid new : View} → OnlyAsks old mid → OnlyAsks mid new → OnlyAsks old new
asks_then first second = record {
  takes = none_taken_then first.takes second.takes;
  files = record {
    reads = λ f. second.files.reads f ∙ first.files.reads f;
    images = λ f c i. first.files.images f c (second.files.images f c i);
  };
  given = second.given ∙ first.given;
  crash = only_then first.crash first.takes.later (only_wider second.crash
      (λ m may. (may.0 ∙ first.given, λ f. first.files.images f (m.files f) (may.1 f))));
}
