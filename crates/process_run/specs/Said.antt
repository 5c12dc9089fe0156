-- What the program says on standard error where a run doesn't end well.
use Rattle.std.specs.Prelude.{List, ℕ, ◌++◌, codes, Option, Some, None}
use Rattle.std.specs.Fmt.{decimal}
use Rattle.process_world.specs.Opened.{letter}
use Rattle.realm_pages.specs.declared.damage.Damage.{Damage}
use Rattle.realm_pages.specs.declared.damage.Damage.TheVariants.{Digest, BadPage, BadSnapshot, BadRecord, Twins}
use Rattle.rose_shell.specs.declared.status.Status.{Status}
use Rattle.rose_shell.specs.declared.status.Status.TheVariants.{Done, Usage, SourceFault, SinkFault}
use Rattle.rose_shell.specs.declared.status.Status.TheVariants.{DiskFault, Damaged, NoMemory, InputLimit}
use Rattle.process_run.specs.Base16.{bytes_text}
use Rattle.process_run.specs.declared.message.Line.{Line}
use Rattle.process_run.specs.declared.message.Line.TheVariants as lines

-- where the files are damaged, and what stands there
abbrev pub damage_text : Damage → List ℕ
damage_text (Digest file page kept found) =
    codes "file " ++ (letter file ++ (codes " page " ++ (decimal page ++ (codes " kept "
    ++ (bytes_text kept ++ (codes " found " ++ bytes_text found))))))
damage_text (BadPage file page) = codes "file " ++ (letter file ++ (codes " page " ++ decimal page))
damage_text (BadSnapshot file) = codes "file " ++ (letter file ++ codes " snapshot")
damage_text (BadRecord file number) = codes "file " ++ (letter file ++ (codes " record " ++ decimal number))
damage_text (Twins generation) = codes "twins " ++ decimal generation

-- what is said of a status; nothing where the whole output was given
abbrev pub said_of : Status → Option (List ℕ)
said_of Done = None
said_of Usage =
    Some (codes "rose: usage: rose run | rose check | rose gen N START | rose ship K | rose follow | rose certify | rose audit")
said_of SourceFault = Some (codes "rose: source fault")
said_of SinkFault = Some (codes "rose: sink fault")
said_of DiskFault = Some (codes "rose: disk fault")
said_of (Damaged damage) = Some (codes "rose: damaged: " ++ damage_text damage)
said_of NoMemory = Some (codes "rose: no memory")
said_of InputLimit = Some (codes "rose: input limit")

-- the text of a line
abbrev pub line_text : Line → List ℕ
line_text (lines.Plain cause) = codes "rose: " ++ cause.now
line_text (lines.Damaged damage) = codes "rose: damaged: " ++ damage_text damage
