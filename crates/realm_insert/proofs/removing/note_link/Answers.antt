use Rattle.realm_insert.proofs.NotedLinks.{lists_made}
use Rattle.realm_insert.proofs.removing.note_link.Goals as goal

-- the segment that was made is the one between the points
pub returns-in_ok-note : goal.returns-in_ok-note
returns-in_ok-note c =
    let made = c.in-Some in
    lists_made c.args.drawing.now c.args.list.now.items c.note.new.list.items made.s c.args.v.now c.args.w.now
    made.ensures.none made.ensures.ends c.in_ok-note.ensures
