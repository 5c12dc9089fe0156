-- This file shows that steps change the chains of originals alone, so that these stay in a row and on the grid.
use Rattle.std.proofs.Common.{◌≡◌, ℕ, ◌<◌, ◌≤◌, List, [], ◌∷◌, sym, ap, subst, ◌∙◌}
use Rattle.std.proofs.lemmas.List.Elements.{All-map}
use Rattle.grid_base.specs.Point.{OnGrid}
use Rattle.grid_base.specs.Drawing.{Drawing}
use Rattle.grid_base.specs.declared.kinds.Step.{Step}
use Rattle.grid_base.specs.declared.original.Original.{Original}
use Rattle.hook_chain.specs.Steps.{Permitted, Settles}
use Rattle.chain_laws.specs.Redraws.{redrawn_original_by}
use Rattle.chain_laws.proofs.RedrawnOriginals.{redrawn_ascending, redrawn_all_valid}
use Rattle.chain_laws.proofs.StepPaths.{step_paths}
use Rattle.some_answer.proofs.OriginalsInRow.{AreInRow}

-- what a step leaves as it is
pub row_stays : (n : ℕ) (d e : Drawing) (step : Step) → Permitted d step e → AreInRow n d.originals → AreInRow n e.originals
row_stays n d e step permitted row =
    let drawn = step_paths d e step permitted in
    let f = redrawn_original_by drawn.paths in
    let os = d.originals in
    subst (λ (g : Drawing). AreInRow n g.originals) (sym drawn.leads) (record {
      valid = redrawn_all_valid drawn.paths os drawn.sound row.valid;
      rise = redrawn_ascending drawn.paths os row.rise;
      below = All-map (λ (o : Original). (1 ≤ o.id) × (o.id < n)) f os row.below;
      ends = All-map (λ (o : Original). OnGrid o.a × OnGrid o.b) f os row.ends;
    })

pub points_stay : (d e : Drawing) (step : Step) → Permitted d step e → e.points ≡ d.points
points_stay d e step permitted = ap (λ (g : Drawing). g.points) (step_paths d e step permitted).leads

-- so it is with a trace
pub row_settled : (n : ℕ) (d e : Drawing) (trace : List Step) → Settles d trace e → AreInRow n d.originals → AreInRow n e.originals
row_settled n d e [] settles row = subst (λ (g : Drawing). AreInRow n g.originals) settles.0 row
row_settled n d e (step ∷ trace) settles row =
    row_settled n settles.0 e trace settles.2 (row_stays n d settles.0 step settles.1 row)

pub points_settled : (d e : Drawing) (trace : List Step) → Settles d trace e → e.points ≡ d.points
points_settled d e [] settles = ap (λ (g : Drawing). g.points) (sym settles.0)
points_settled d e (step ∷ trace) settles =
    points_settled settles.0 e trace settles.2 ∙ points_stay d settles.0 step settles.1
