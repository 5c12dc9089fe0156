-- What is promised of the word `certify`: the certificate of what the newest file keeps is given line by line, in order. Nothing
-- is taken, and both files stay.
use Rattle.std.specs.Prelude.{◌≡◌, ◌≢◌, ◌⊎◌, ℕ, List, [], ◌∷◌, ◌++◌, All}
use Rattle.outside_world.specs.View.{View, AllStable}
use Rattle.record_codec.specs.declared.record.Record.{Record}
use Rattle.record_codec.specs.declared.snapshot.Snapshot.{Snapshot}
use Rattle.realm_audit.specs.Items.{IsLine, text_of}
use Rattle.realm_audit.specs.declared.item.Item.{Item}
use Rattle.realm_store.specs.Keeping.{Kept, RestsAt}
use Rattle.realm_store.specs.Journals.{HasJournal}
use Rattle.certificate_law.specs.Certificates.{IsCertificate}
use Rattle.rose_shell.specs.Giving.{GaveSome}
use Rattle.rose_shell.specs.Running.{IsNotBegun}
use Rattle.rose_shell.specs.declared.status.Status.{Status}
use Rattle.rose_shell.specs.declared.status.Status.TheVariants.{Done, Usage, SourceFault, SinkFault}
use Rattle.rose_shell.specs.declared.status.Status.TheVariants.{DiskFault, Damaged, NoMemory, InputLimit}

-- the lines of the items, each with its line feed
abbrev pub lines_of_items : List Item → List ℕ
lines_of_items [] = []
lines_of_items (item ∷ more) = (text_of item ++ 10 ∷ []) ++ lines_of_items more

-- how the giving of items ends, of which these are left, and this end of the lines before them wasn't given
abbrev pub CertifyingEndsBy : List Item → List ℕ → Status → Type 0
CertifyingEndsBy left unsent Done = (left ≡ []) × (unsent ≡ [])
CertifyingEndsBy left unsent Usage = ⊥
CertifyingEndsBy left unsent SourceFault = ⊥
CertifyingEndsBy left unsent SinkFault = unsent ≢ []
CertifyingEndsBy left unsent DiskFault = ⊥
CertifyingEndsBy left unsent (Damaged d) = ⊥
CertifyingEndsBy left unsent NoMemory = unsent ≡ []
CertifyingEndsBy left unsent InputLimit = ⊥

-- The lines of the first of these items were given, each whole but for the last one where the sink failed. All of the items
-- were given, unless the sink failed or memory ran out.
pub record GivesItems (old new : View) (items : List Item) (status : Status) : Type 0 where
  pub begun : List Item
  pub left : List Item
  pub in_order : items ≡ begun ++ left
  pub are_lines : All IsLine begun
  pub unsent : List ℕ
  pub some : GaveSome old new (lines_of_items begun) unsent
  pub ends : CertifyingEndsBy left unsent status

-- The certificate of the journal of what the files stand for was given. A crash now leaves each file as it reads.
pub record Certifies (old new : View) (status : Status) : Type 0 where
  pub kept : Kept
  pub rests : RestsAt kept old.reads
  pub base : Snapshot
  pub records : List Record
  pub journal : HasJournal old.reads kept base records
  pub list : List Item
  pub is_certificate : IsCertificate base records kept.state list
  pub gives : GivesItems old new list status
  pub stable : AllStable new

-- It was given, or nothing was, since the disk failed, memory ran out or the files are damaged as is told.
abbrev pub HasCertified : View → View → Status → Type 0
HasCertified old new status = IsNotBegun old new status ⊎ Certifies old new status
