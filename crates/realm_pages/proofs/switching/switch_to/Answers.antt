use Rattle.std.proofs.Common.{◌≡◌, ◌+◌, length, ap, ◌∙◌}
use Rattle.std.proofs.lemmas.Result.{IfOk-weaker}
use Rattle.realm_pages.specs.Generations.{gate_of}
use Rattle.realm_pages.proofs.Switches.{gate_is, switched, not_shut}
use Rattle.realm_pages.proofs.NewestKept.{keeps}
use Rattle.realm_pages.proofs.switching.switch_to.Goals as goal

-- gate 0 isn't shut yet
pub returns-in_err-shut_gate-clause-told : goal.returns-in_err-shut_gate-clause-told
returns-in_err-shut_gate-clause-told g c = λ t.
    not_shut c.from_residual.result c.from_residual.ensures.0 (c.in_err-shut_gate.ensures.told t)

-- behind the text stands the gate
pub returns-clause-place : goal.returns-clause-place
returns-clause-place g c =
    let gate = ap (λ text. 0 + 1 + length text) c.block.ensures.text ∙ gate_is c.args.p.now in
    IfOk-weaker c.append_block.result _ (λ next. next ≡ gate_of c.args.p.now) (λ next is. is ∙ gate) c.append_block.ensures.place

pub returns-clause-told : goal.returns-clause-told
returns-clause-told g c = λ t.
    let two = c.append_block.ensures in
    let shut = c.in_ok-shut_gate.ensures.told (two.goes_on.tells t) in
    switched c.args.p.now c.block.ensures.has_head shut c.block.ensures.text (two.told t)

-- at each of these ends the newest is what it could be, or the generation
pub returns-in_err-shut_gate-clause-newest : goal.returns-in_err-shut_gate-clause-newest
returns-in_err-shut_gate-clause-newest g c = λ t may.
    let reads = g.met.W.Outside.reads_an_image c.args.world.now c.args.file (c.in_err-shut_gate.ensures.goes_on.tells t) in
    keeps may c.from_residual.result reads (returns-in_err-shut_gate-clause-told g c t)

pub returns-clause-newest : goal.returns-clause-newest
returns-clause-newest g c = λ t may.
    let t1 = c.append_block.ensures.goes_on.tells t in
    let reads = g.met.W.Outside.reads_an_image c.args.world.now c.args.file (c.in_ok-shut_gate.ensures.goes_on.tells t1) in
    keeps may _ reads (returns-clause-told g c t)
