-- What an audit finds that takes the certificate of what files keep.
use Rattle.std.specs.Prelude.{◌≡◌, ℕ, ◌^◌, min, List, ◌++◌, length}
use Rattle.outside_world.specs.View.{View}
use Rattle.record_codec.specs.declared.record.Record.{Record}
use Rattle.record_codec.specs.declared.snapshot.Snapshot.{Snapshot}
use Rattle.realm_audit.specs.declared.verdict.Verdict.TheVariants.{Sound}
use Rattle.realm_files.specs.Stands.{Files}
use Rattle.realm_store.specs.Keeping.{Kept, RestsAt}
use Rattle.realm_store.specs.Journals.{HasJournal}
use Rattle.certificate_law.specs.Certificates.{entries_of, step_count}
use Rattle.rose_shell.specs.Auditing.{verdict_text}

-- the line for a certificate that is sound: how many changes these records have, and how many steps they took, each up to 2^63
abbrev pub sound_line : List Record → List ℕ
sound_line records =
    verdict_text (Sound (min (length (entries_of records)) (2 ^ 63)) (min (step_count (entries_of records)) (2 ^ 63)))

-- what was given is this line, for the records of what the files keep
pub record FindsSound (files : Files) (old new : View) : Type 0 where
  pub kept : Kept
  pub rests : RestsAt kept files
  pub base : Snapshot
  pub records : List Record
  pub journal : HasJournal files kept base records
  pub given : new.given ≡ old.given ++ sound_line records
