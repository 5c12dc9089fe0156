-- This file shows that a permitted step draws paths in the place of its pieces, and that one of them adds a link.
use Rattle.std.proofs.Common.{◌≡◌, ◌≢◌, ◌⊎◌, ◌+◌, ◌≤◌, Bool, true, false, if◌then◌else◌, List, [], ◌∷◌, ◌++◌, length}
use Rattle.std.proofs.Common.{sym, ap, ◌∙◌, refl, arith, inl, inr, length-append}
use Rattle.grid_base.specs.Point.{GridPoint, is_point}
use Rattle.grid_base.specs.Segment.{GridSegment, IsEnd}
use Rattle.grid_base.specs.Drawing.{Drawing, IsPiece}
use Rattle.grid_base.specs.declared.kinds.Step.{Step}
use Rattle.grid_base.specs.declared.kinds.Step.TheVariants.{Split, Meet, Corner}
use Rattle.grid_base.proofs.Crossings.{cross_no_end}
use Rattle.hook_chain.specs.Hook.{Hook, IsBent}
use Rattle.hook_chain.specs.Redrawing.{round_corner, cut_at}
use Rattle.hook_chain.proofs.HookLaw.{a_is_on, b_is_on}
use Rattle.chain_laws.specs.declared.redrawing.Redrawing.{Redrawing}
use Rattle.chain_laws.specs.declared.redrawing.Redrawings.{Redrawings}
use Rattle.hook_chain.specs.Steps.{Permitted}
use Rattle.hook_chain.specs.Mending.{IsMending}
use Rattle.chain_laws.specs.Redraws.{redrawn_drawing, AreRedrawings, AnyOf}
use Rattle.chain_laws.proofs.StepRedrawings.{one, two, both_drawn, split_redrawings, met_redrawings, corner_redrawings}

-- ---- how many points a path has
-- a bent hook has its ends and the point between them
bent_is_long : (t : GridSegment) (x : GridPoint) (to from : List GridPoint) → x ≢ t.a → x ≢ t.b → IsBent t x to from
    → 3 ≤ length (to ++ x ∷ from)
bent_is_long t x [] from not_a not_b bent = absurd (not_a bent.leads_to_x.0)
bent_is_long t x (v ∷ to) [] not_a not_b bent = absurd (not_b bent.leads_from_x.1)
bent_is_long t x (v ∷ to) (w ∷ from) not_a not_b bent = omega (arith, length-append to (x ∷ w ∷ from))

-- a hook at a point that isn't an end has a point between its ends
hook_is_long : (t : GridSegment) (x : GridPoint) (path : List GridPoint) → x ≢ t.a → x ≢ t.b → Hook t x path
    → 3 ≤ length path
hook_is_long t x path not_a not_b (inl at_a) = absurd (not_a at_a.0)
hook_is_long t x path not_a not_b (inr (inl at_b)) = absurd (not_b at_b.0)
hook_is_long t x path not_a not_b (inr (inr (inl on))) = omega (arith, ap (λ (l : List GridPoint). length l) on.3)
hook_is_long t x path not_a not_b (inr (inr (inr beside))) =
    let long = bent_is_long t x beside.1 beside.2 not_a not_b beside.4 in
    omega (arith, long, ap (λ (l : List GridPoint). length l) beside.3)

end_or_long : (t : GridSegment) (x : GridPoint) (path : List GridPoint) → Hook t x path → IsEnd x t ⊎ (3 ≤ length path)
end_or_long t x path (inl at_a) = inl (inl at_a.0)
end_or_long t x path (inr (inl at_b)) = inl (inr at_b.0)
end_or_long t x path (inr (inr (inl on))) = inr (hook_is_long t x path on.0 on.1 (inr (inr (inl on))))
end_or_long t x path (inr (inr (inr beside))) =
    inr (hook_is_long t x path (λ at_a. beside.0 (a_is_on t.a t.b x at_a)) (λ at_b. beside.0 (b_is_on t.a t.b x at_b))
    (inr (inr (inr beside))))

-- the way round a corner has three points at least
round_is_long : (no_first no_last : Bool) (p q r s t : GridPoint)
    → 3 ≤ length ((if no_first then [] else p ∷ []) ++ q ∷ r ∷ s ∷ [] ++ (if no_last then [] else t ∷ []))
round_is_long true true p q r s t = omega arith
round_is_long true false p q r s t = omega arith
round_is_long false true p q r s t = omega arith
round_is_long false false p q r s t = omega arith

-- ---- the step
-- the step leads from d to e by paths in the place of its pieces, one of which has a point between its ends
pub record StepPaths (d e : Drawing) : Type 0 where
  pub paths : Redrawings
  pub sound : AreRedrawings paths
  pub leads : e ≡ redrawn_drawing paths d
  pub bends : AnyOf paths (λ q. (3 ≤ length q.path) × IsPiece d q.piece)

-- where two pieces cross, a point can't be an end of both, so one of the two hooks has a point between its ends
pub step_paths : (d e : Drawing) (step : Step) → Permitted d step e → StepPaths d e
step_paths d e (Split p t) (point, piece, inside, path, hook, is) =
    let q : Redrawing = record { piece = t; path = path } in
    record {
      paths = one q;
      sound = (split_redrawings p t q refl piece.0 inside hook).sound;
      leads = is;
      bends = inl (hook_is_long t p path inside.not_a inside.not_b hook, piece);
    }
step_paths d e (Meet t u x) (piece_t, piece_u, ordered, cross, meet, path, other, hook_t, hook_u, is) =
    let first : Redrawing = record { piece = t; path = path } in
    let second : Redrawing = record { piece = u; path = other } in
    let mending : IsMending (Meet t u x) = (ordered, record { cross = cross; at = meet }) in
    record {
      paths = two first second;
      sound = (met_redrawings t u x first second refl refl piece_t.0 piece_u.0 mending hook_t hook_u).sound;
      leads = is ∙ sym (both_drawn d first second);
      bends = elim (end_or_long t x path hook_t) [
        | inr long ↦ inl (long, piece_t)
        | inl end ↦
            let no_end : IsEnd x u → ⊥ = cross_no_end t u x cross end in
            inr (hook_is_long u x other (λ at_a. no_end (inl at_a)) (λ at_b. no_end (inr at_b)) hook_u, piece_u)
      ];
    }
step_paths d e (Corner t u) (piece_t, piece_u, cross, diagonal_t, rises, diagonal_u, falls, z, cell, is) =
    let first : Redrawing = record { piece = t; path = cut_at t z } in
    let second : Redrawing = record { piece = u; path = round_corner u z } in
    let mending : IsMending (Corner t u) = (cross, diagonal_t, rises, diagonal_u, falls, z, cell) in
    let upper_left : GridPoint = record { x = z.x; y = z.y + 1 } in
    let lower_right : GridPoint = record { x = z.x + 1; y = z.y } in
    record {
      paths = two first second;
      sound = (corner_redrawings t u z piece_t.0 piece_u.0 mending cell).sound;
      leads = is ∙ sym (both_drawn d first second);
      bends = inr (
        round_is_long (is_point u.a upper_left) (is_point u.b lower_right) u.a upper_left z lower_right u.b,
        piece_u,
      );
    }
