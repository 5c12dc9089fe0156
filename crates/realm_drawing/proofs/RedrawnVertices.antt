-- This file shows that a redrawn chain has all vertices that it had.
use Rattle.std.proofs.Common.{List, [], ◌∷◌, Contains, subst, inl, inr}
use Rattle.std.proofs.lemmas.List.Elements.{Contains-append_right}
use Rattle.grid_base.specs.Point.{GridPoint}
use Rattle.grid_base.specs.Segment.{GridSegment}
use Rattle.grid_base.proofs.Elements.{Contains-cases}
use Rattle.hook_chain.specs.Chains.{RunsFrom}
use Rattle.hook_chain.specs.Redrawing.{redrawn}
use Rattle.chain_laws.proofs.Elements.{Contains-head}
use Rattle.chain_laws.proofs.JoinedLinks.{BeginsWith}
use Rattle.chain_laws.proofs.RedrawnLinks.{redrawn_begins}
use Rattle.chain_laws.specs.Stretches.{stretch}

first_is_there : (v : GridPoint) (list : List GridPoint) → BeginsWith v list → Contains list v
first_is_there v [] begins = absurd begins
first_is_there v (w ∷ list) begins = Contains-head w list v begins

-- what stands for a link begins with its first point, so each vertex stays
pub stays_in_redrawn : (t : GridSegment) (path chain : List GridPoint) (p : GridPoint) → RunsFrom t.a t.b path → Contains chain p
    → Contains (redrawn t path chain) p
stays_in_redrawn t path [] p leads there = there
stays_in_redrawn t path (v ∷ []) p leads there = there
stays_in_redrawn t path (v ∷ w ∷ chain) p leads there =
    let whole = redrawn t path (v ∷ w ∷ chain) in
    elim (Contains-cases v (w ∷ chain) p there) [
      | inl here ↦
          let first = first_is_there v whole (redrawn_begins t path v (w ∷ chain) leads) in
          subst (λ q. Contains whole q) here first
      | inr later ↦
          let rest = redrawn t path (w ∷ chain) in
          Contains-append_right (stretch t path v w) rest p (stays_in_redrawn t path (w ∷ chain) p leads later)
    ]
