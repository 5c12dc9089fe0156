use Rattle.std.proofs.Common.{sym, ◌∙◌, ap, subst}
use Rattle.realm_store.specs.Keeping.{SpendableKept, AllRest, without_group}
use Rattle.realm_store.specs.Making.{kept_behind, Ends}
use Rattle.realm_store.specs.Committing.{IsWritten}
use Rattle.realm_store.specs.Groups.{filed_state, kept_begun}
use Rattle.realm_store.proofs.Commits.{unwritten}
use Rattle.realm_store.proofs.Endings.{positive, begun_is, some_entry, gate_held, room_held, group_leads, ends}
use Rattle.realm_store.proofs.store.Store.end_group.Goals as goal

-- nothing is written
pub returns-then-count-eq0-clause-written : goal.returns-then-count-eq0-clause-written
returns-then-count-eq0-clause-written g c = λ t. unwritten (c.requires.rest t)

-- the gate is that of the begin, where the files rest,
pub write_ready-requires-clause-gate : goal.write_ready-requires-clause-gate
write_ready-requires-clause-gate g c =
    let state = c.self.inside.engine.state in
    let group = c.self.inside.group in
    let held = c.in-Some.group in
    let there = sym c.take.ensures.value ∙ c.in-Some.is in
    let begun = begun_is state group held there c.self.view_is in
    let unspent = ap (λ (s : SpendableKept). s.spent) c.self.view_is ∙ c.requires.ready in
    let opened = (c.self.invariant unspent).is_open in
    let some = positive c.changes_in_group-count.result c.if-count-eq0.false in
    let entry = some_entry state group held there c.self.view_is c.changes_in_group-count.ensures some in (
      held.begun.state,
      gate_held state group held there c.self.view_is opened,
      room_held state group held there c.self.view_is opened entry,
      λ t. subst (λ k. AllRest k (g.W.Outside.view c.args.world.now)) (sym begun) (c.requires.rest t),
    )

-- and the record of the group is written from there
pub returns-in_err-write_ready-clause-cut_off : goal.returns-in_err-write_ready-clause-cut_off
returns-in_err-write_ready-clause-cut_off g c = λ failed t.
    let state = c.self.inside.engine.state in
    let group = c.self.inside.group in
    let held = c.in-Some.group in
    let there = sym c.take.ensures.value ∙ c.in-Some.is in
    let begun = begun_is state group held there c.self.view_is in
    let unspent = ap (λ (s : SpendableKept). s.spent) c.self.view_is ∙ c.requires.ready in
    let opened = (c.self.invariant unspent).is_open in
    let at = ap (λ o. filed_state state o) c.take.ensures.after in
    let same = c.in_ok-record.ensures.is_of in
    let some = positive c.changes_in_group-count.result c.if-count-eq0.false in
    let entry = some_entry state group held there c.self.view_is c.changes_in_group-count.ensures some in
    let two = c.in_err-write_ready.ensures in
    let rest = subst (λ k. AllRest k (g.W.Outside.view c.args.world.now)) (sym begun) (c.requires.rest (two.goes_on.tells t)) in
    let leads = group_leads state group held there c.self.view_is opened same at in
    let after = filed_state state c.take.new.self in
    let later = kept_behind (kept_begun held c.self.inside.place c.self.inside.has_gate) c.in_ok-record.record after in
    let gate = gate_held state group held there c.self.view_is opened in (
      c.changes_in_group-count.result,
      without_group later,
      ends state group held there c.self.view_is opened same at c.changes_in_group-count.ensures entry c.is_sound.ensures,
      some,
      subst (λ k. IsWritten (g.W.Outside.view c.args.world.now) (g.W.Outside.view c.write_ready.new.world) k later) begun
          (two.told t held.begun.state gate rest leads).written,
    )

-- so it stands there then, and the group has ended
pub returns-clause-ended : goal.returns-clause-ended
returns-clause-ended g c =
    let state = c.self.inside.engine.state in
    let group = c.self.inside.group in
    let held = c.in-Some.group in
    let there = sym c.take.ensures.value ∙ c.in-Some.is in
    let unspent = ap (λ (s : SpendableKept). s.spent) c.self.view_is ∙ c.requires.ready in
    let opened = (c.self.invariant unspent).is_open in
    let at = ap (λ o. filed_state state o) c.take.ensures.after in
    let some = positive c.changes_in_group-count.result c.if-count-eq0.false in
    let entry = some_entry state group held there c.self.view_is c.changes_in_group-count.ensures some in
    let gate = gate_held state group held there c.self.view_is opened in
    subst (λ s. Ends c.args.self.now c.changes_in_group-count.result s)
    (sym (c.in_ok-write_ready.ensures.kept held.begun.state gate))
    (ends state group held there c.self.view_is opened c.in_ok-record.ensures.is_of at c.changes_in_group-count.ensures entry
    c.is_sound.ensures)
