-- What is promised of the word `ship`: what a follower with so many changes lacks is given as frames, each on a line of its own,
-- in order. Nothing is taken, and both files stay.
use Rattle.std.specs.Prelude.{◌≡◌, ◌≢◌, ◌⊎◌, ℕ, List, [], ◌∷◌, ◌++◌, All}
use Rattle.outside_world.specs.View.{View, AllStable}
use Rattle.record_codec.specs.declared.record.Record.{Record}
use Rattle.record_codec.specs.declared.snapshot.Snapshot.{Snapshot}
use Rattle.realm_insert.specs.Snapshots.{state_of}
use Rattle.realm_store.specs.Keeping.{Kept, RestsAt}
use Rattle.realm_store.specs.Journals.{HasJournal}
use Rattle.standby_core.specs.declared.frame.Frame.{Frame}
use Rattle.standby_core.specs.Frames.{IsFrame, line_of}
use Rattle.standby_core.specs.Shipping.{AreSent}
use Rattle.rose_shell.specs.Giving.{GaveSome}
use Rattle.rose_shell.specs.Running.{IsNotBegun}
use Rattle.rose_shell.specs.declared.status.Status.{Status}
use Rattle.rose_shell.specs.declared.status.Status.TheVariants.{Done, Usage, SourceFault, SinkFault}
use Rattle.rose_shell.specs.declared.status.Status.TheVariants.{DiskFault, Damaged, NoMemory, InputLimit}

-- the lines of the frames, each with its line feed
abbrev pub lines_of_frames : List Frame → List ℕ
lines_of_frames [] = []
lines_of_frames (f ∷ more) = (line_of f ++ 10 ∷ []) ++ lines_of_frames more

-- how the giving of frames ends, of which these are left, and this end of the lines before them wasn't given
abbrev pub ShippingEndsBy : List Frame → List ℕ → Status → Type 0
ShippingEndsBy left unsent Done = (left ≡ []) × (unsent ≡ [])
ShippingEndsBy left unsent Usage = ⊥
ShippingEndsBy left unsent SourceFault = ⊥
ShippingEndsBy left unsent SinkFault = unsent ≢ []
ShippingEndsBy left unsent DiskFault = ⊥
ShippingEndsBy left unsent (Damaged d) = ⊥
ShippingEndsBy left unsent NoMemory = unsent ≡ []
ShippingEndsBy left unsent InputLimit = ⊥

-- The lines of the first of these frames were given, each whole but for the last one where the sink failed. All of the frames
-- were given, unless the sink failed or memory ran out.
pub record GivesFrames (old new : View) (frames : List Frame) (status : Status) : Type 0 where
  pub begun : List Frame
  pub left : List Frame
  pub in_order : frames ≡ begun ++ left
  pub are_frames : All IsFrame begun
  pub unsent : List ℕ
  pub some : GaveSome old new (lines_of_frames begun) unsent
  pub ends : ShippingEndsBy left unsent status

-- The frames for a follower that has k changes were given: those of the records behind the state that the newest file begins with,
-- or the state that the files stand for. A crash now leaves each file as it reads.
pub record Ships (k : ℕ) (old new : View) (status : Status) : Type 0 where
  pub kept : Kept
  pub rests : RestsAt kept old.reads
  pub base : Snapshot
  pub records : List Record
  pub journal : HasJournal old.reads kept base records
  pub now : Snapshot
  pub is_present : state_of now ≡ kept.state
  pub frames : List Frame
  pub are_sent : AreSent base.changes records now k frames
  pub gives : GivesFrames old new frames status
  pub stable : AllStable new

-- They were given, or nothing was, since the disk failed, memory ran out or the files are damaged as is told.
abbrev pub HasShipped : ℕ → View → View → Status → Type 0
HasShipped k old new status = IsNotBegun old new status ⊎ Ships k old new status
