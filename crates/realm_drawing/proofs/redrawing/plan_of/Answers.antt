use Rattle.std.proofs.Common.{sym, subst}
use Rattle.component_registry.specs.Registry.{owners_of}
use Rattle.realm_drawing.specs.declared.redrawing.Plan.{Plan}
use Rattle.chain_laws.specs.declared.redrawing.Redrawing.{Redrawing}
use Rattle.realm_drawing.specs.declared.shares.Share.{Share}
use Rattle.realm_drawing.specs.Redraws.{AreReplacements}
use Rattle.realm_drawing.specs.Shares.{IsGained, IsLost}
use Rattle.realm_drawing.specs.StepShares.{IsGainedBy, IsLostBy, Lists}
use Rattle.realm_drawing.proofs.NewChains.{one_redrawing, two_redrawings}
use Rattle.realm_drawing.proofs.SharesOfSteps.{listed_once, listed_twice}
use Rattle.realm_drawing.proofs.redrawing.plan_of.Goals as goal
use Rattle.realm_drawing.proofs.redrawing.plan_of.Goals.{in-Some+in_ok-plan_one-2, in_default}

-- what the first redrawing changes, and the second where there is one
pub returns : goal.returns
returns c =
    let step = c.args.step.now in
    let originals = c.args.originals.now in
    let r = c.args.registry.now in
    let Gained = λ (q : Redrawing) (y : Share). IsGained r (owners_of r q.piece) q.path y in
    let Lost = λ (q : Redrawing) (y : Share). IsLost (owners_of r q.piece) q.piece q.path y in
    let once = c.plan_one.new.plan in
    let chains = rw c.new.ensures.items at c.in_ok-plan_one.ensures.chains in
    let more = rw c.new-2.ensures.items at c.in_ok-plan_one.ensures.more in
    let less = rw c.new-3.ensures.items at c.in_ok-plan_one.ensures.less in
    elim c.match-step.branch [
      | in-Some+in_ok-plan_one-2 w ↦
          let q = w.in-Some.second in
          let twice = w.plan_one-in-Some.new.plan in
          let then = w.in_ok-plan_one-2.ensures in
          record {
            chains = subst (λ (plan : Plan). AreReplacements step originals plan.chains.items) (sym w.plan-is)
                (two_redrawings step originals r q once.chains.items twice.chains.items c.requires.step
                c.requires.kept.owners w.in-Some.is chains then.chains);
            more = subst (λ (plan : Plan). Lists plan.more.items (IsGainedBy r step)) (sym w.plan-is)
                (listed_twice Gained step q once.more.items twice.more.items w.in-Some.is more then.more);
            less = subst (λ (plan : Plan). Lists plan.less.items (IsLostBy r step)) (sym w.plan-is)
                (listed_twice Lost step q once.less.items twice.less.items w.in-Some.is less then.less);
          }
      | in_default w ↦ record {
        chains = subst (λ (plan : Plan). AreReplacements step originals plan.chains.items) (sym w.plan-is)
            (one_redrawing step originals r once.chains.items c.requires.step c.requires.kept.owners w.in_default.is chains);
        more = subst (λ (plan : Plan). Lists plan.more.items (IsGainedBy r step)) (sym w.plan-is)
            (listed_once Gained step once.more.items w.in_default.is more);
        less = subst (λ (plan : Plan). Lists plan.less.items (IsLostBy r step)) (sym w.plan-is)
            (listed_once Lost step once.less.items w.in_default.is less);
      }
    ]
