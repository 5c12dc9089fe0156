-- This file shows that a chain which may stand for an original has two points at least.
use Rattle.std.proofs.Common.{◌≤◌, List, [], ◌∷◌, length, sym, subst, ◌∙◌, arith}
use Rattle.grid_base.specs.Point.{GridPoint, IsBefore}
use Rattle.grid_base.proofs.Orders.{IsBefore-asym}
use Rattle.hook_chain.specs.Chains.{RunsFrom}

-- its first point comes before its last
pub two_points : (a b : GridPoint) (chain : List GridPoint) → IsBefore a b → RunsFrom a b chain → 2 ≤ length chain
two_points a b [] before leads = absurd leads
two_points a b (v ∷ []) before leads =
    let itself = subst (IsBefore a) (sym leads.1 ∙ leads.0) before in
    absurd (IsBefore-asym a a itself itself)
two_points a b (v ∷ w ∷ chain) before leads = omega arith
