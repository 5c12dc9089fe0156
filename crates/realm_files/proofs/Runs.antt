-- This file shows how runs of calls go on that take and give nothing and leave files of some kind.
use Rattle.std.proofs.Common.{◌≢◌, List, ℕ, refl, ◌∙◌}
use Rattle.outside_world.specs.declared.world.FileName.{FileName}
use Rattle.outside_world.specs.View.{View}
use Rattle.outside_world.specs.Since.{WritesOnly}
use Rattle.outside_world.proofs.Moments.{only_nothing, only_wider, only_then, none_taken, none_taken_then}
use Rattle.realm_files.specs.Stands.{Files}
use Rattle.realm_files.specs.Writing.{InEachImage, LeavesFiles}

-- nothing is called yet
pub leaves_none : {v : View} {AreSo : Files → Type 0} → InEachImage v AreSo → LeavesFiles v v AreSo
leaves_none now = record {
  takes = none_taken;
  given = refl;
  crash = only_nothing;
  now = now;
}

-- a run of calls that writes one file
pub leaves_by_writing : {old new : View} {file : FileName} {may_be : List ℕ → Type 0} {AreSo : Files → Type 0}
    → WritesOnly old new file may_be
    → ((files : Files) → ((f : FileName) → f ≢ file → old.image f (files f)) → may_be (files file) → AreSo files)
    → LeavesFiles old new AreSo
leaves_by_writing {file = file} writes are_so = record {
  takes = writes.takes;
  given = writes.given;
  crash = only_wider writes.crash (λ a is. (is.given, are_so a.files is.others is.named));
  now = λ files images.
      are_so files (λ f differ. writes.others f (files f) differ (images f)) (writes.named (files file) (images file));
}

-- one run after another
pub leaves_then : {old mid new : View} {AreSo : Files → Type 0} → LeavesFiles old mid AreSo → LeavesFiles mid new AreSo
    → LeavesFiles old new AreSo
leaves_then first second = record {
  takes = none_taken_then first.takes second.takes;
  given = second.given ∙ first.given;
  crash = only_then first.crash first.takes.later (only_wider second.crash (λ a is. (is.0 ∙ first.given, is.1)));
  now = second.now;
}

-- what leaves files of this kind leaves files of a wider one
pub leaves_wider : {old new : View} {AreSo MayBe : Files → Type 0} → LeavesFiles old new AreSo
    → ((files : Files) → AreSo files → MayBe files) → LeavesFiles old new MayBe
leaves_wider leaves wider = record {
  takes = leaves.takes;
  given = leaves.given;
  crash = only_wider leaves.crash (λ a is. (is.0, wider a.files is.1));
  now = λ files images. wider files (leaves.now files images);
}
