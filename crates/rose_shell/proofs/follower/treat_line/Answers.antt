use Rattle.std.proofs.Common.{refl}
use Rattle.pair_law.specs.Following.Outcome.{NoFrame}
use Rattle.rose_shell.proofs.AtFollower.{wanting_at_follower, said_at_follower, line_read, none_read, no_frame}
use Rattle.rose_shell.proofs.follower.treat_line.Goals as goal

-- the line is that of the record, or of the state, which was read
pub returns-in-Ok-Some-Rec-clause-at_follower : goal.returns-in-Ok-Some-Rec-clause-at_follower
returns-in-Ok-Some-Rec-clause-at_follower g c =
    let read = c.in-Ok-Some-Rec in
    c.answer_record.ensures.at_follower c.args.line.now (line_read read.field-0 read.field-0-is read.field-0-0-is read.ensures.found)

pub returns-in-Ok-Some-Snap-clause-at_follower : goal.returns-in-Ok-Some-Snap-clause-at_follower
returns-in-Ok-Some-Snap-clause-at_follower g c =
    let read = c.in-Ok-Some-Snap in
    c.answer_state.ensures.at_follower c.args.line.now (line_read read.field-0 read.field-0-is read.field-0-0-is read.ensures.found)

-- it is that of none
pub returns-in-Ok-None-clause-at_follower : goal.returns-in-Ok-None-clause-at_follower
returns-in-Ok-None-clause-at_follower g c =
    let read = c.in-Ok-None in
    said_at_follower g.W.Outside c.requires.left NoFrame c.say.result refl refl c.told.ensures c.say.ensures
    (no_frame (none_read read.field-0 read.field-0-is read.ensures.only))

-- or there is no memory to read it
pub returns-in-Err-clause-at_follower : goal.returns-in-Err-clause-at_follower
returns-in-Err-clause-at_follower g c = wanting_at_follower g.W.Outside c.requires.left refl refl
