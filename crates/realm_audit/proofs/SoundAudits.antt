-- This file shows that no id comes to be above the greatest.
use Rattle.std.proofs.Common.{◌≡◌, ℕ, ◌<◌, ◌≤◌, List, [], ◌∷◌, ◌++◌, All, sym, subst, arith}
use Rattle.std.proofs.lemmas.List.Elements.{All-map, All-push, All-weaker}
use Rattle.grid_base.specs.Point.{GridPoint}
use Rattle.grid_base.specs.Segment.{GridSegment}
use Rattle.grid_base.specs.Drawing.{Drawing}
use Rattle.grid_base.specs.declared.original.Original.{Original}
use Rattle.grid_base.specs.declared.kinds.Step.{Step}
use Rattle.grid_base.specs.declared.kinds.Step.TheVariants.{Split, Meet, Corner}
use Rattle.hook_chain.specs.Redrawing.{redraw, redrawn_original, cut_at, round_corner}
use Rattle.hook_chain.specs.Steps.{Permitted}

-- no id of the drawing is above n
abbrev pub AllUpTo : ℕ → Drawing → Type 0
AllUpTo n d = All (λ o. o.id ≤ n) d.originals

redraw_keeps_ids : (n : ℕ) (t : GridSegment) (path : List GridPoint) (d : Drawing) → AllUpTo n d → AllUpTo n (redraw t path d)
redraw_keeps_ids n t path d all = All-map (λ o. o.id ≤ n) (redrawn_original t path) d.originals all

-- a step changes no id
pub step_keeps_ids : (n : ℕ) (d e : Drawing) (step : Step) → Permitted d step e → AllUpTo n d → AllUpTo n e
step_keeps_ids n d e (Split p t) (point, piece, inside, path, hook, is) all =
    subst (AllUpTo n) (sym is) (redraw_keeps_ids n t path d all)
step_keeps_ids n d e (Meet t u x) (piece_t, piece_u, ordered, cross, meet, path, other, hook_t, hook_u, is) all =
    subst (AllUpTo n) (sym is) (redraw_keeps_ids n u other (redraw t path d) (redraw_keeps_ids n t path d all))
step_keeps_ids n d e (Corner t u) (piece_t, piece_u, cross, diagonal_t, rises, diagonal_u, falls, z, cell, is) all =
    subst (AllUpTo n) (sym is)
    (redraw_keeps_ids n u (round_corner u z) (redraw t (cut_at t z) d) (redraw_keeps_ids n t (cut_at t z) d all))

-- a new id is the greatest
pub pushed_up_to : (m n : ℕ) (originals : List Original) (o : Original) → m < n → o.id ≡ n → All (λ q. q.id ≤ m) originals
    → All (λ q. q.id ≤ n) (originals ++ o ∷ [])
pushed_up_to m n originals o less is all =
    All-push (λ q. q.id ≤ n) originals o
    (All-weaker (λ (q : Original). q.id ≤ m) (λ q. q.id ≤ n) (λ q within. omega (arith, within, less)) originals all)
    (omega (arith, is))

-- and above all others
pub below_new : (m n : ℕ) (originals : List Original) → m < n → All (λ q. q.id ≤ m) originals → All (λ q. q.id < n) originals
below_new m n originals less all =
    All-weaker (λ (q : Original). q.id ≤ m) (λ q. q.id < n) (λ q within. omega (arith, within, less)) originals all
