use Rattle.std.proofs.Common.{sym, ◌∙◌, true≢false}
use Rattle.chain_laws.proofs.Mendings.{permitted_mends}
use Rattle.realm_audit.proofs.SoundAudits.{step_keeps_ids}
use Rattle.realm_audit.proofs.audit.Audit.after_step.Goals as goal
use Rattle.realm_audit.proofs.audit.Audit.after_step.Goals.{then-not-takes_steps-via-then-not-takes_steps, then-not-takes_steps-via-else-not-takes_steps+in_ok-permits+then-not-branch}

-- no step may come, or this one isn't permitted
pub returns-then-not-takes_steps : goal.returns-then-not-takes_steps
returns-then-not-takes_steps c = rw (← c.self.view_is) (elim c.then-not-takes_steps.branch [
  | then-not-takes_steps-via-then-not-takes_steps w ↦ λ new holds.
      true≢false (sym (c.takes_steps.ensures.1 holds.0) ∙ w.if-not-takes_steps.true)
  | then-not-takes_steps-via-else-not-takes_steps+in_ok-permits+then-not-branch w ↦ λ new (changing, d, permitted, is).
      let (mends, parts) = permitted_mends c.self.inside.board d c.args.step.now permitted in
      true≢false (sym (w.in_ok-permits.ensures.1 (parts, mends)) ∙ w.if-not-branch.true)
])

-- a step changes no id
pub invariant_of-result : goal.invariant_of-result
invariant_of-result c =
    let inside = c.self.inside in
    let kept = c.self.invariant in
    record {
      ids_within = step_keeps_ids inside.greatest inside.board c.in_ok-board.board c.args.step.now c.in_ok-board.ensures
          kept.ids_within;
      few_changes = kept.few_changes;
      few_steps = c.next_count.ensures.within;
    }
