-- This file shows that a permitted step leads to one drawing, with the ids that there were, and from a drawing with a
-- violation.
use Rattle.std.proofs.Common.{◌≡◌, ℕ, ◌+◌, ◌*◌, ◌<◌, List, All, sym, ap, subst, ◌∙◌, arith}
use Rattle.std.proofs.lemmas.List.Elements.{All-map}
use Rattle.grid_base.specs.Point.{GridPoint}
use Rattle.grid_base.specs.MeetPoint.{IsCell, crossing_of}
use Rattle.grid_base.specs.Places.{RationalPoint}
use Rattle.grid_base.specs.Drawing.{Drawing, HasViolation}
use Rattle.grid_base.specs.declared.kinds.Step.{Step}
use Rattle.grid_base.specs.declared.kinds.Step.TheVariants.{Split, Meet, Corner}
use Rattle.grid_base.proofs.Ends.{same_point}
use Rattle.grid_base.proofs.Balances.{factor_cancels}
use Rattle.grid_rational.proofs.Crossings.{crossing_is_place}
use Rattle.hook_chain.specs.Redrawing.{redraw, round_corner, cut_at}
use Rattle.hook_chain.proofs.HookLaw.{one_hook}
use Rattle.hook_chain.specs.Steps.{Permitted}
use Rattle.chain_laws.specs.Redraws.{redrawn_original_by}
use Rattle.chain_laws.proofs.Mendings.{permitted_mends, mending_is_violation}
use Rattle.chain_laws.proofs.StepPaths.{step_paths}

-- ---- one drawing
-- a centre is the centre of one cell
one_cell : (q : RationalPoint) (y z : GridPoint) → 0 < q.w → IsCell q y → IsCell q z → y ≡ z
one_cell q y z real first second =
    let columns = factor_cancels (2 * y.x + 1) (2 * z.x + 1) q.w real (sym first.0 ∙ second.0) in
    let rows = factor_cancels (2 * y.y + 1) (2 * z.y + 1) q.w real (sym first.1 ∙ second.1) in
    same_point y z (omega arith) (omega arith)

-- the hooks of a step are the only ones, and so is the cell where two diagonals cross
pub permitted_is_one : (d e f : Drawing) (step : Step) → Permitted d step e → Permitted d step f → e ≡ f
permitted_is_one d e f (Split p t) (point, piece, inside, path, hook, is) (also_point, also, side, way, hooked, same) =
    let one = one_hook t p path way piece.0 hook hooked in
    is ∙ ap (λ (l : List GridPoint). redraw t l d) one ∙ sym same
permitted_is_one d e f (Meet t u x) (piece_t, piece_u, order, cross, meet, path, other, hook_t, hook_u, is)
    (also_t, also_u, ordered, crossed, met, way, another, hooked_t, hooked_u, same) =
    let one_t = one_hook t x path way piece_t.0 hook_t hooked_t in
    let one_u = one_hook u x other another piece_u.0 hook_u hooked_u in
    is ∙ ap (λ (l : List GridPoint). redraw u other (redraw t l d)) one_t
    ∙ ap (λ (l : List GridPoint). redraw u l (redraw t way d)) one_u ∙ sym same
permitted_is_one d e f (Corner t u) (piece_t, piece_u, cross, diagonal_t, rises, diagonal_u, falls, z, cell, is)
    (also_t, also_u, crossed, even_t, up, even_u, down, y, in_cell, same) =
    let real = (crossing_is_place t u cross).first.real in
    let one = one_cell (crossing_of t u) z y real cell in_cell in
    is ∙ ap (λ (c : GridPoint). redraw u (round_corner u c) (redraw t (cut_at t c) d)) one ∙ sym same

-- a step changes the chains alone: what holds of all ids holds of them still
pub ids_stay : (P : ℕ → Type 0) (d e : Drawing) (step : Step) → Permitted d step e → All (λ o. P o.id) d.originals
    → All (λ o. P o.id) e.originals
ids_stay P d e step permitted all =
    let drawn = step_paths d e step permitted in
    subst (λ (f : Drawing). All (λ o. P o.id) f.originals) (sym drawn.leads)
    (All-map (λ o. P o.id) (redrawn_original_by drawn.paths) d.originals all)

-- ---- where a step is permitted
pub no_violation_no_step : (d e : Drawing) (step : Step) → Permitted d step e → HasViolation d
no_violation_no_step d e step permitted =
    let mends = permitted_mends d e step permitted in
    mending_is_violation d step mends.0 mends.1
