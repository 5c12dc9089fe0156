use Rattle.std.proofs.Common.{◌≡◌}
use Rattle.record_codec.specs.Spelling.{record_text}
use Rattle.realm_journal.proofs.Preparing.{behind_gate, read_back, of_record}
use Rattle.realm_journal.proofs.prepared.prepare.Goals as goal

-- the block has the record's text
text_is : (c : goal.In_ok-block) → c.in_ok-block.block ≡ record_text c.args.r.now
text_is c =
    behind_gate c.in_ok-begun.begun.items c.push_record.new.out.items (record_text c.args.r.now) c.in_ok-block.block
    c.in_ok-begun.ensures.gate c.in_ok-push_record.ensures c.in_ok-block.ensures.text

-- the block is the text of the record
pub invariant_of-result : goal.invariant_of-result
invariant_of-result c = of_record _ c.args.r.now c.requires (text_is c)

-- which is read from it
pub returns : goal.returns
returns c = read_back c.in_ok-block.block c.args.r.now c.requires (text_is c)
