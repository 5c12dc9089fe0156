use Rattle.std.proofs.Common.{◌≡◌, Some, ◌∙◌, ap, subst}
use Rattle.realm_store.specs.Replaying.{RemadeOnBy}
use Rattle.realm_store.proofs.Replays.{record_led, record_fails}
use Rattle.realm_store.proofs.Groups.{at_kept}
use Rattle.realm_store.proofs.Acceptances.{is_remade}
use Rattle.realm_store.proofs.store.Store.replay.Goals as goal

-- the record leads on, to a sound state at the same place,
pub returns-in-None-clause-remade : goal.returns-in-None-clause-remade
returns-in-None-clause-remade g c = λ same.
    let was = c.self.inside.engine.state in
    let group = c.self.inside.group in
    let engine = c.replay_entries.new.engine in
    let failed = c.in_ok-replay_entries.field-0 in
    let told = subst (λ s. RemadeOnBy s c.entries.result.now failed engine) (at_kept was group c.self.view_is c.requires.alone)
    c.in_ok-replay_entries.ensures in
    let made = subst (λ l. RemadeOnBy c.args.self.now.kept.state l failed engine) c.entries.ensures.entries told in
    is_remade was engine.state group c.self.view_is c.requires.alone (record_led c.requires.number made c.in-None.is) c.is_sound.ensures

-- or this change leads nowhere
pub returns-in-Some-clause-fails : goal.returns-in-Some-clause-fails
returns-in-Some-clause-fails g c = λ number same.
    let was = c.self.inside.engine.state in
    let engine = c.replay_entries.new.engine in
    let failed = c.in_ok-replay_entries.field-0 in
    let told = subst (λ s. RemadeOnBy s c.entries.result.now failed engine)
    (at_kept was c.self.inside.group c.self.view_is c.requires.alone) c.in_ok-replay_entries.ensures in
    let made = subst (λ l. RemadeOnBy c.args.self.now.kept.state l failed engine) c.entries.ensures.entries told in
    let is : c.in-Some.number ≡ number = cc in
    record_fails c.requires.number made number (c.in-Some.is ∙ ap (λ n. Some n) is)
