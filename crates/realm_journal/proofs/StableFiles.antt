-- This file shows that a crash leaves a file that was synced as it reads.
use Rattle.std.proofs.Common.{sym, ◌∙◌}
use Rattle.std.specs.Prelude.{Ok}
use Rattle.outside_world.specs.declared.world.FileName.{FileName}
use Rattle.outside_world.specs.View.{View, IsStable}
use Rattle.outside_world.specs.Calls.{Synced}

-- a sync leaves what is read, and makes it last
pub synced_stable : {old new : View} {file : FileName} {x : Unit {0}} → Synced old new file (Ok x) → IsStable new file
synced_stable {file = file} call c image = call.stable c image ∙ sym (call.leaves.files.reads file)
