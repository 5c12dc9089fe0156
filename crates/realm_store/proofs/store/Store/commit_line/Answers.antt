use Rattle.std.proofs.Common.{◌≡◌, refl, sym, ap, subst, Err}
use Rattle.std.proofs.lemmas.Result.{err_from_is_err_and}
use Rattle.realm_store.specs.declared.error.CommitError.TheVariants.{Refused}
use Rattle.realm_store.specs.Keeping.{SpendableKept, AllRest, without_group}
use Rattle.realm_store.specs.Making.{IsRefusedFor, Commits}
use Rattle.realm_store.specs.Committing.{IsWritten}
use Rattle.realm_store.proofs.Commits.{after, waits_before, room_before, rests_before, is_made, kept_from, stored}
use Rattle.realm_store.proofs.Commits.{commits_alone, written_in_group}
use Rattle.realm_store.proofs.Groups.{alone_at_present, no_group}
use Rattle.realm_store.proofs.store.Store.commit_line.Goals as goal

-- in a group nothing is written
pub returns-then-in_group-clause-refused : goal.returns-then-in_group-clause-refused
returns-then-in_group-clause-refused g c = λ word same.
    let (refused, stays) = c.join.ensures.refused word same in
    (refused, stays, refl)

pub returns-then-in_group-clause-written : goal.returns-then-in_group-clause-written
returns-then-in_group-clause-written g c =
    written_in_group c.join.new.self.kept c.join.result (λ t. c.requires.rest t)

-- the change is refused, and the store is as it was
pub returns-in_err-ready-clause-refused : goal.returns-in_err-ready-clause-refused
returns-in_err-ready-clause-refused g c = λ word same.
    let (why, is, gives) = err_from_is_err_and c.from_residual.result c.from_residual.ensures.1 in
    let one : c.in_err-ready.field-0.0 ≡ Refused word = cc in
    let (refused, stays) = c.in_err-ready.ensures.refused word (ap Err one) in
    let alone = no_group c.args.self.now.group c.in_group.result c.in_group.ensures c.if-in_group.false in (
      subst (λ s. IsRefusedFor c.args.c.now s c.args.self.now.kept word) (alone_at_present c.args.self.now alone) refused,
      stays,
      refl,
    )

-- what is ready to be written is of the state before, whose files rest
pub write_ready-requires-clause-gate : goal.write_ready-requires-clause-gate
write_ready-requires-clause-gate g c =
    let made = c.in_ok-ready.ensures.made in
    let same = c.in_ok-ready.ensures.same_place in (
      c.args.self.now.kept.state,
      waits_before made same,
      room_before made same,
      λ t. rests_before made same (c.requires.rest t),
    )

-- so it is written from there,
pub returns-in_err-write_ready-clause-cut_off : goal.returns-in_err-write_ready-clause-cut_off
returns-in_err-write_ready-clause-cut_off g c = λ failed t.
    let made = c.in_ok-ready.ensures.made in
    let same = c.in_ok-ready.ensures.same_place in
    let two = c.in_err-write_ready.ensures in
    let keeps = kept_from made same c.requires.spellable (c.requires.rest (two.goes_on.tells t)) (two.told t) in
    let alone = no_group c.args.self.now.group c.in_group.result c.in_group.ensures c.if-in_group.false in
    let later = without_group (after made same) in
    (c.in_ok-ready.ready.reply, later, commits_alone c.args.self.now later alone (is_made made same) refl, keeps.written)

pub returns-clause-made : goal.returns-clause-made
returns-clause-made g c =
    let made = c.in_ok-ready.ensures.made in
    let same = c.in_ok-ready.ensures.same_place in
    let alone = no_group c.args.self.now.group c.in_group.result c.in_group.ensures c.if-in_group.false in
    let later = without_group (after made same) in
    subst (λ s. Commits c.args.c.now c.args.self.now c.in_ok-ready.ready.reply s)
    (sym (stored made same c.in_ok-write_ready.ensures.kept))
    (commits_alone c.args.self.now later alone (is_made made same) refl)

-- and all rests behind it
pub returns-clause-rest : goal.returns-clause-rest
returns-clause-rest g c = λ t.
    let made = c.in_ok-ready.ensures.made in
    let same = c.in_ok-ready.ensures.same_place in
    let two = c.in_ok-write_ready.ensures in
    let keeps = kept_from made same c.requires.spellable (c.requires.rest (two.goes_on.tells t)) (two.told t) in
    subst (λ (s : SpendableKept). AllRest s.kept (g.W.Outside.view c.write_ready.new.world)) (sym (stored made same two.kept)) keeps.rest

pub returns-clause-written : goal.returns-clause-written
returns-clause-written g c = λ t.
    let made = c.in_ok-ready.ensures.made in
    let same = c.in_ok-ready.ensures.same_place in
    let two = c.in_ok-write_ready.ensures in
    let keeps = kept_from made same c.requires.spellable (c.requires.rest (two.goes_on.tells t)) (two.told t) in
    subst (λ (s : SpendableKept). IsWritten (g.W.Outside.view c.args.world.now) (g.W.Outside.view c.write_ready.new.world)
    c.args.self.now.kept s.kept) (sym (stored made same two.kept)) keeps.written
