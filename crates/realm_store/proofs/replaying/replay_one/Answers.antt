use Rattle.std.proofs.Common.{◌+◌, ◌∙◌, ap, subst}
use Rattle.realm_store.specs.Replaying.{RemadeOnBy}
use Rattle.realm_store.proofs.Replays.{remade_led, remade_failed}
use Rattle.realm_store.proofs.replaying.replay_one.Goals as goal

-- it has the next number, and its entries lead on,
pub returns-in-None : goal.returns-in-None
returns-in-None g c =
    let made = subst (λ l. RemadeOnBy c.args.engine.now.state l c.in_ok-replay_entries.field-0 c.replay_entries.new.engine) c.entries.ensures.entries
    c.in_ok-replay_entries.ensures in
    remade_led (c.if-one-changes.false ∙ ap (λ n. n + 1) c.changes.ensures.changes) made c.in-None.is

-- or one of them leads nowhere
pub returns-in-Some : goal.returns-in-Some
returns-in-Some g c =
    let made = subst (λ l. RemadeOnBy c.args.engine.now.state l c.in_ok-replay_entries.field-0 c.replay_entries.new.engine) c.entries.ensures.entries
    c.in_ok-replay_entries.ensures in
    remade_failed (c.if-one-changes.false ∙ ap (λ n. n + 1) c.changes.ensures.changes) made c.in-Some.is
