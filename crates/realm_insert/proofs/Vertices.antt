-- This file shows that a point of a drawing all of whose chains are valid is explicit or an end of a piece.
use Rattle.std.proofs.Common.{◌⊎◌, Contains, subst, inl, inr}
use Rattle.grid_base.specs.Point.{GridPoint}
use Rattle.grid_base.specs.Segment.{GridSegment, IsEnd}
use Rattle.grid_base.specs.Drawing.{Drawing, IsPoint, IsPiece}
use Rattle.hook_chain.specs.StandingChains.{HasValidChain, AllValid}
use Rattle.chain_laws.proofs.PathEnds.{vertex_is_link_end}

-- a point is explicit or an end of a piece
pub explicit_or_end : (d : Drawing) (p : GridPoint) → AllValid d → IsPoint d p
    → Contains d.points p ⊎ ((s : GridSegment) × (IsPiece d s × IsEnd p s))
explicit_or_end d p valid (inl explicit) = inl explicit
explicit_or_end d p valid (inr (k, o, within, is, vertex)) =
    let chain = subst HasValidChain is (valid k o within) in
    let (s, at) = vertex_is_link_end o.a o.b o.chain p chain.ends chain.leads vertex in
    inr (s, ((at.ordered, (k, o, within, is, at.link)), at.end))
