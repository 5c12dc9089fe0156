use Rattle.std.proofs.Common.{◌∙◌, ap, ⊎_elim, Err}
use Rattle.realm_insert.specs.declared.refusal.ReplayError.{ReplayError}
use Rattle.realm_store.proofs.Replays.{remade_by, remade_refused, remade_misfit}
use Rattle.realm_store.proofs.replaying.remake.Goals as goal
use Rattle.realm_store.proofs.replaying.remake.Goals.{in-Ok, in-Err-Refused, in-Err-Mismatch, in-Err-NoMemory}

-- the change is made, refused, or fails by the trace
pub returns : goal.returns
returns g c =
    let engine = c.replay.new.self in
    let steps = c.steps.result.now in
    let told = c.replay.ensures in
    elim c.match-replay.branch [
      | in-Ok w ↦ rw w.result-is (remade_by c.requires.of_line engine steps c.steps.ensures.steps
          (λ spent. ⊎_elim (λ no. cc) (λ no. let e = no.1 in cc) (told.spent.0 spent)) w.in-Ok.ensures.next.0)
      | in-Err-Refused w ↦ rw w.result-is (remade_refused c.requires.of_line engine _
          (told.refused _ (w.in-Err-Refused.is ∙ ap (λ (e : ReplayError). Err e) w.in-Err-Refused.field-0-is)).0)
      | in-Err-Mismatch w ↦ rw w.result-is (remade_misfit c.requires.of_line engine steps _ c.steps.ensures.steps
          (told.mismatch _ (w.in-Err-Mismatch.is ∙ ap (λ (e : ReplayError). Err e) w.in-Err-Mismatch.field-0-is)).1)
      | in-Err-NoMemory w ↦ rw w.result-is tt
    ]
