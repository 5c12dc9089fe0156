-- This file shows that steps leave the ids of originals as they are, in their order.
use Rattle.std.proofs.Common.{◌≡◌, ℕ, List, [], ◌∷◌, map, refl, sym, ap, ap₂, ◌∙◌}
use Rattle.grid_base.specs.Drawing.{Drawing}
use Rattle.grid_base.specs.declared.kinds.Step.{Step}
use Rattle.grid_base.specs.declared.original.Original.{Original}
use Rattle.hook_chain.specs.Steps.{Permitted, Settles}
use Rattle.chain_laws.specs.Redraws.{redrawn_original_by}
use Rattle.chain_laws.proofs.StepPaths.{step_paths}
use Rattle.store_certificate.proofs.Ids.{ids}

-- where each original keeps its id, all stay
ids-kept : (f : Original → Original) → ((o : Original) → (f o).id ≡ o.id) → (os : List Original) → ids (map f os) ≡ ids os
ids-kept f keeps [] = refl
ids-kept f keeps (o ∷ os) = ap₂ (λ (n : ℕ) (l : List ℕ). n ∷ l) (keeps o) (ids-kept f keeps os)

ids-stepped : (d e : Drawing) (step : Step) → Permitted d step e → ids e.originals ≡ ids d.originals
ids-stepped d e step permitted =
    let drawn = step_paths d e step permitted in
    ap (λ (g : Drawing). ids g.originals) drawn.leads ∙ ids-kept (redrawn_original_by drawn.paths) (λ o. refl) d.originals

-- so it is with a trace
pub ids-settled : (d e : Drawing) (trace : List Step) → Settles d trace e → ids e.originals ≡ ids d.originals
ids-settled d e [] settles = ap (λ (g : Drawing). ids g.originals) (sym settles.0)
ids-settled d e (step ∷ trace) settles =
    ids-settled settles.0 e trace settles.2 ∙ ids-stepped d settles.0 step settles.1
