use Rattle.std.proofs.Common.{subst}
use Rattle.record_codec.specs.Heads.{IsHeader}
use Rattle.realm_pages.specs.Generations.{Generation}
use Rattle.realm_pages.proofs.Preparing.{text_is, generation_is, of_generation}
use Rattle.realm_pages.proofs.prepared.prepare_pages.Goals as goal

-- the text is that of the generation
pub invariant_of-result : goal.invariant_of-result
invariant_of-result c =
    let g : Generation = record { version = 2; number = c.args.generation; payload = c.args.payload.now } in
    let head = c.head_for-head.ensures.head in
    of_generation _ g (subst IsHeader head c.head_for-head.ensures.is_header) head
    (text_is g c.in_ok-block.ensures head)

-- which is read from it
pub returns : goal.returns
returns c =
    let g : Generation = record { version = 2; number = c.args.generation; payload = c.args.payload.now } in
    let head = c.head_for-head.ensures.head in
    generation_is _ g head (text_is g c.in_ok-block.ensures head)
