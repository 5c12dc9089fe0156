-- This file shows that originals that have one chain keep one chain through a settling.
use Rattle.std.proofs.Common.{◌≡◌, ℕ, List, [], ◌∷◌, sym, ap, subst}
use Rattle.std.proofs.lemmas.List.Elements.{All-map, All-weaker}
use Rattle.grid_base.specs.Point.{GridPoint}
use Rattle.grid_base.specs.Segment.{GridSegment}
use Rattle.grid_base.specs.Drawing.{Drawing}
use Rattle.grid_base.specs.declared.kinds.Step.{Step}
use Rattle.grid_base.specs.declared.kinds.Step.TheVariants.{Split, Meet, Corner}
use Rattle.hook_chain.specs.Redrawing.{redraw, redrawn, redrawn_original, round_corner, cut_at}
use Rattle.hook_chain.specs.Steps.{Permitted, Settles}
use Rattle.hook_chain.specs.Ids.{IsChainOf}
use Rattle.hook_chain.specs.OneChain.{HaveOneChain}
use Rattle.chain_laws.proofs.Elements.{Any-map}

-- the chain of an id is redrawn as any chain is
chain_redrawn : (t : GridSegment) (path : List GridPoint) (d : Drawing) (id : ℕ) (chain : List GridPoint) → IsChainOf d id chain
    → IsChainOf (redraw t path d) id (redrawn t path chain)
chain_redrawn t path d id chain is = record {
  there = Any-map (λ o. o.id ≡ id) (redrawn_original t path) d.originals is.there;
  only = All-map (λ o. o.id ≡ id → o.chain ≡ redrawn t path chain) (redrawn_original t path) d.originals
      (All-weaker (λ o. o.id ≡ id → o.chain ≡ chain) (λ o. o.id ≡ id → redrawn t path o.chain ≡ redrawn t path chain)
      (λ o same at. ap (redrawn t path) (same at)) d.originals is.only);
}

-- so two that are one stay one
one_redrawn : (t : GridSegment) (path : List GridPoint) (d : Drawing) (m n : ℕ) → HaveOneChain d m n
    → HaveOneChain (redraw t path d) m n
one_redrawn t path d m n (chain, first, second) =
    (redrawn t path chain, chain_redrawn t path d m chain first, chain_redrawn t path d n chain second)

-- a step redraws one piece, or one after the other
pub one_chain_steps : (d e : Drawing) (step : Step) (m n : ℕ) → Permitted d step e → HaveOneChain d m n → HaveOneChain e m n
one_chain_steps d e (Split p t) m n (point, piece, inside, path, hook, is) one =
    subst (λ f. HaveOneChain f m n) (sym is) (one_redrawn t path d m n one)
one_chain_steps d e (Meet t u x) m n (piece_t, piece_u, ordered, cross, meet, path, other, hook_t, hook_u, is) one =
    subst (λ f. HaveOneChain f m n) (sym is) (one_redrawn u other (redraw t path d) m n (one_redrawn t path d m n one))
one_chain_steps d e (Corner t u) m n (piece_t, piece_u, cross, diagonal_t, rises, diagonal_u, falls, z, cell, is) one =
    subst (λ f. HaveOneChain f m n) (sym is)
    (one_redrawn u (round_corner u z) (redraw t (cut_at t z) d) m n (one_redrawn t (cut_at t z) d m n one))

-- and so does each of a trace
pub one_chain_settled : (d e : Drawing) (trace : List Step) (m n : ℕ) → Settles d trace e → HaveOneChain d m n → HaveOneChain e m n
one_chain_settled d e [] m n (is, none) one = subst (λ f. HaveOneChain f m n) is one
one_chain_settled d e (step ∷ trace) m n (between, permitted, rest) one =
    one_chain_settled between e trace m n rest (one_chain_steps d between step m n permitted one)
