-- This file shows that the vertices of the chains of a drawing that is kept are the ends of its pieces.
use Rattle.std.proofs.Common.{◌≡◌, ◌↔◌, List, [], ◌∷◌, Contains, Any, sym, subst, ◌∙◌, inl, inr}
use Rattle.std.proofs.Common.{ℕ, ◌<◌, Bool, false, IsTrue, true≢false}
use Rattle.std.proofs.Math.Dec.{ltb}
use Rattle.std.proofs.lemmas.Bool.{ltb-true, lt-ltb}
use Rattle.grid_base.specs.Point.{GridPoint}
use Rattle.grid_base.specs.Segment.{GridSegment, IsEnd}
use Rattle.grid_base.specs.Drawing.{HasLink, IsPoint}
use Rattle.grid_base.specs.declared.original.Original.{Original}
use Rattle.grid_base.proofs.Elements.{Contains-later}
use Rattle.component_registry.specs.Registry as registries
use Rattle.component_registry.specs.Registry.{Holdings}
use Rattle.hook_chain.specs.StandingChains.{HasValidChain}
use Rattle.realm_drawing.specs.Kept.{IsInOrder}
use Rattle.chain_laws.proofs.Elements.{Contains-head}
use Rattle.realm_drawing.proofs.KeptPieces.{piece_of_registry}
use Rattle.chain_laws.proofs.PathEnds.{vertex_is_link_end}

-- ---- from a link to its ends
-- the ends of a link are vertices of the chain
ends_are_vertices : (chain : List GridPoint) (s : GridSegment) → HasLink chain s → Contains chain s.a × Contains chain s.b
ends_are_vertices [] s link = absurd link
ends_are_vertices (v ∷ []) s link = absurd link
ends_are_vertices (v ∷ w ∷ chain) s (inl (inl forth)) = (
  Contains-head v (w ∷ chain) s.a forth.0,
  Contains-later v (w ∷ chain) s.b (Contains-head w chain s.b forth.1),
)
ends_are_vertices (v ∷ w ∷ chain) s (inl (inr back)) = (
  Contains-later v (w ∷ chain) s.a (Contains-head w chain s.a back.1),
  Contains-head v (w ∷ chain) s.b back.0,
)
ends_are_vertices (v ∷ w ∷ chain) s (inr later) =
    let ends = ends_are_vertices (w ∷ chain) s later in
    (Contains-later v (w ∷ chain) s.a ends.0, Contains-later v (w ∷ chain) s.b ends.1)

end_is_vertex : (chain : List GridPoint) (s : GridSegment) (p : GridPoint) → HasLink chain s → IsEnd p s → Contains chain p
end_is_vertex chain s p link (inl first) = subst (Contains chain) (sym first) (ends_are_vertices chain s link).0
end_is_vertex chain s p link (inr last) = subst (Contains chain) (sym last) (ends_are_vertices chain s link).1

-- ---- vertices of the drawing
-- a point is an end of a piece of the registry exactly where it is a vertex of some chain
pub vertices_are_ends : (points : List GridPoint) (originals : List Original) (r : Holdings) → IsInOrder points originals r
    → (p : GridPoint) → ((s : GridSegment) × (registries.IsPiece r s × IsEnd p s)) ↔ Any (λ o. Contains o.chain p) originals
vertices_are_ends points originals r kept p = (
  λ (s, (piece, end)).
      let (ordered, (k, o, within, is, link)) = (piece_of_registry points originals r kept s).0 piece in
      (k, o, within, is, end_is_vertex o.chain s p link end),
  λ (k, o, within, is, vertex).
      let valid = subst HasValidChain is (kept.all_valid k o within) in
      let (s, at) = vertex_is_link_end o.a o.b o.chain p valid.ends valid.leads vertex in
      let piece = (piece_of_registry points originals r kept s).1 (at.ordered, (k, o, within, is, at.link)) in
      (s, (piece, at.end)),
)

-- what isn't explicit is a point where it is used
pub point_by_uses : (points : List GridPoint) (originals : List Original) (r : Holdings) → IsInOrder points originals r
    → (p : GridPoint) (explicit : Bool) → (IsTrue explicit ↔ Contains points p) → explicit ≡ false → (uses : ℕ)
    → (0 < uses) ↔ ((s : GridSegment) × (registries.IsPiece r s × IsEnd p s))
    → IsTrue (ltb 0 uses) ↔ IsPoint (record { points = points; originals = originals }) p
point_by_uses points originals r kept p explicit says is uses used =
    let ends = vertices_are_ends points originals r kept p in (
      λ some. inr (ends.0 (used.0 (ltb-true 0 uses some))),
      λ point. elim point [
        | inl listed ↦ absurd (true≢false (sym (says.1 listed) ∙ is))
        | inr vertex ↦ lt-ltb 0 uses (used.1 (ends.1 vertex))
      ],
    )
