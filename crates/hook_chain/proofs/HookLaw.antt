-- A piece has one hook at a point.
use Rattle.std.proofs.Common.{◌≡◌, List, ◌∷◌, Contains, refl, subst, sym, ap, ◌∙◌, arith, inl, inr}
use Rattle.std.proofs.lemmas.List.Elements.{Contains-append_right}
use Rattle.grid_base.specs.Point.{GridPoint, IsBefore}
use Rattle.grid_base.specs.Segment.{GridSegment}
use Rattle.grid_base.specs.Sides.{On, side}
use Rattle.grid_base.proofs.Turns.{on_by}
use Rattle.hook_chain.specs.Hook.{Hook}
use Rattle.hook_chain.proofs.Paths.{leads_on}
use Rattle.hook_chain.specs.Chains.{RunsFrom}
use Rattle.hook_chain.proofs.Directions.{followed}
use Rattle.hook_chain.proofs.BentPaths.{one_bent}

-- the ends of a segment are on its line
a_on_line : (a b : GridPoint) → side a b a ≡ On
a_on_line a b = on_by a b a (omega arith)

b_on_line : (a b : GridPoint) → side a b b ≡ On
b_on_line a b = on_by a b b (omega arith)

-- and so is a point that is one of them
pub a_is_on : (a b x : GridPoint) → x ≡ a → side a b x ≡ On
a_is_on a b x is = ap (λ (p : GridPoint). side a b p) is ∙ a_on_line a b

pub b_is_on : (a b x : GridPoint) → x ≡ b → side a b x ≡ On
b_is_on a b x is = ap (λ (p : GridPoint). side a b p) is ∙ b_on_line a b

-- two hooks of t at x are one: where x is an end, on t, and beside it
pub one_hook : (t : GridSegment) (x : GridPoint) (first second : List GridPoint) → IsBefore t.a t.b → Hook t x first → Hook t x second
    → first ≡ second
one_hook t x first second ordered (inl at_a) (inl too) = at_a.1 ∙ sym too.1
one_hook t x first second ordered (inl at_a) (inr (inl at_b)) = at_a.1 ∙ sym at_b.1
one_hook t x first second ordered (inl at_a) (inr (inr (inl on))) = absurd (on.0 at_a.0)
one_hook t x first second ordered (inl at_a) (inr (inr (inr beside))) = absurd (beside.0 (a_is_on t.a t.b x at_a.0))
one_hook t x first second ordered (inr (inl at_b)) (inl at_a) = at_b.1 ∙ sym at_a.1
one_hook t x first second ordered (inr (inl at_b)) (inr (inl too)) = at_b.1 ∙ sym too.1
one_hook t x first second ordered (inr (inl at_b)) (inr (inr (inl on))) = absurd (on.1 at_b.0)
one_hook t x first second ordered (inr (inl at_b)) (inr (inr (inr beside))) = absurd (beside.0 (b_is_on t.a t.b x at_b.0))
one_hook t x first second ordered (inr (inr (inl on))) (inl at_a) = absurd (on.0 at_a.0)
one_hook t x first second ordered (inr (inr (inl on))) (inr (inl at_b)) = absurd (on.1 at_b.0)
one_hook t x first second ordered (inr (inr (inl on))) (inr (inr (inl too))) = on.3 ∙ sym too.3
one_hook t x first second ordered (inr (inr (inl on))) (inr (inr (inr beside))) = absurd (beside.0 on.2.line)
one_hook t x first second ordered (inr (inr (inr beside))) (inl at_a) = absurd (beside.0 (a_is_on t.a t.b x at_a.0))
one_hook t x first second ordered (inr (inr (inr beside))) (inr (inl at_b)) = absurd (beside.0 (b_is_on t.a t.b x at_b.0))
one_hook t x first second ordered (inr (inr (inr beside))) (inr (inr (inl on))) = absurd (beside.0 on.2.line)
one_hook t x first second ordered (inr (inr (inr beside))) (inr (inr (inr too))) =
    let of_t = followed t ordered in
    beside.3 ∙ one_bent t of_t.axis x beside.1 beside.2 too.1 too.2 of_t.follows beside.0 beside.4 too.4 ∙ sym too.3

-- ---- what a hook leads by
-- a hook leads from end to end
pub hook_leads : (t : GridSegment) (x : GridPoint) (chain : List GridPoint) → Hook t x chain → RunsFrom t.a t.b chain
hook_leads t x chain (inl at_a) = subst (λ (l : List GridPoint). RunsFrom t.a t.b l) (sym at_a.1) (refl, (refl, refl))
hook_leads t x chain (inr (inl at_b)) = subst (λ (l : List GridPoint). RunsFrom t.a t.b l) (sym at_b.1) (refl, (refl, refl))
hook_leads t x chain (inr (inr (inl on))) = subst (λ (l : List GridPoint). RunsFrom t.a t.b l) (sym on.3) (refl, (refl, (refl, refl)))
hook_leads t x chain (inr (inr (inr beside))) =
    subst (λ (l : List GridPoint). RunsFrom t.a t.b l) (sym beside.3)
    (leads_on t.a x t.b beside.1 beside.2 beside.4.leads_to_x beside.4.leads_from_x)

-- and by its point
pub hook_has_point : (t : GridSegment) (x : GridPoint) (chain : List GridPoint) → Hook t x chain → Contains chain x
hook_has_point t x chain (inl at_a) = subst (λ (l : List GridPoint). Contains l x) (sym at_a.1) (0, omega arith, sym at_a.0)
hook_has_point t x chain (inr (inl at_b)) = subst (λ (l : List GridPoint). Contains l x) (sym at_b.1) (1, omega arith, sym at_b.0)
hook_has_point t x chain (inr (inr (inl on))) = subst (λ (l : List GridPoint). Contains l x) (sym on.3) (1, omega arith, refl)
hook_has_point t x chain (inr (inr (inr beside))) =
    subst (λ (l : List GridPoint). Contains l x) (sym beside.3) (Contains-append_right beside.1 (x ∷ beside.2) x (0, omega arith, refl))
