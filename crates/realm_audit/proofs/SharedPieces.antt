-- This file shows that the pieces of a drawing are those that its shares have, and its vertices are their ends.
use Rattle.std.proofs.Common.{◌↔◌, List, [], ◌∷◌, Contains, Any, All, refl, sym, subst, inl, inr}
use Rattle.std.proofs.Common.{Bool, IsTrue, Result, Ok, Err, IfOk}
use Rattle.grid_base.specs.declared.memory.NoMemory.{NoMemory}
use Rattle.grid_base.specs.Point.{GridPoint}
use Rattle.grid_base.specs.Segment.{GridSegment, IsEnd}
use Rattle.grid_base.specs.Drawing.{HasLink, IsPiece}
use Rattle.grid_base.specs.declared.original.Original.{Original}
use Rattle.grid_base.proofs.Elements.{Contains-later}
use Rattle.hook_chain.specs.StandingChains.{HasValidChain}
use Rattle.realm_audit.specs.Kept.{drawing_of, HasSharesOf}
use Rattle.realm_audit.specs.Clashes.{IsOwned}
use Rattle.realm_audit.specs.declared.shares.Share.{Share}
use Rattle.chain_laws.proofs.Elements.{Contains-head}
use Rattle.chain_laws.proofs.PathEnds.{vertex_is_link_end}

-- ---- pieces
pub shared_piece : (points : List GridPoint) (originals : List Original) (shares : List Share) → HasSharesOf originals shares
    → (s : GridSegment) → IsOwned shares s ↔ IsPiece (drawing_of points originals) s
shared_piece points originals shares are s = (
  λ (x, has).
      let (ordered, (k, o, within, is, (id_is, link))) = (are s x).0 has in
      (ordered, (k, o, within, is, link)),
  λ (ordered, (k, o, within, is, link)). (o.id, (are s o.id).1 (ordered, (k, o, within, is, (refl, link)))),
)

-- a look-up of shares tells whether there is the piece
pub piece_told : (points : List GridPoint) (originals : List Original) (shares : List Share) (t : GridSegment)
    (found : Result Bool NoMemory) → HasSharesOf originals shares
    → IfOk found (λ yes. IsTrue yes ↔ IsOwned shares t)
    → IfOk found (λ yes. IsTrue yes ↔ IsPiece (drawing_of points originals) t)
piece_told points originals shares t (Err e) are told = tt
piece_told points originals shares t (Ok test) are told =
    let same = shared_piece points originals shares are t in
    (λ holds. same.0 (told.0 holds), λ piece. told.1 (same.1 piece))

-- ---- vertices
-- the ends of a link are vertices of the chain
ends_are_vertices : (chain : List GridPoint) (s : GridSegment) → HasLink chain s → Contains chain s.a × Contains chain s.b
ends_are_vertices [] s link = absurd link
ends_are_vertices (v ∷ []) s link = absurd link
ends_are_vertices (v ∷ w ∷ chain) s (inl (inl forth)) = (
  Contains-head v (w ∷ chain) s.a forth.0,
  Contains-later v (w ∷ chain) s.b (Contains-head w chain s.b forth.1),
)
ends_are_vertices (v ∷ w ∷ chain) s (inl (inr back)) = (
  Contains-later v (w ∷ chain) s.a (Contains-head w chain s.a back.1),
  Contains-head v (w ∷ chain) s.b back.0,
)
ends_are_vertices (v ∷ w ∷ chain) s (inr later) =
    let ends = ends_are_vertices (w ∷ chain) s later in
    (Contains-later v (w ∷ chain) s.a ends.0, Contains-later v (w ∷ chain) s.b ends.1)

end_is_vertex : (chain : List GridPoint) (s : GridSegment) (p : GridPoint) → HasLink chain s → IsEnd p s → Contains chain p
end_is_vertex chain s p link (inl first) = subst (Contains chain) (sym first) (ends_are_vertices chain s link).0
end_is_vertex chain s p link (inr last) = subst (Contains chain) (sym last) (ends_are_vertices chain s link).1

-- p is an end of a piece
abbrev pub IsEndOfPiece : List Share → GridPoint → Type 0
IsEndOfPiece shares p = (u : GridSegment) × IsOwned shares u × IsEnd p u

-- it is so exactly where it is a vertex of some chain
pub vertices_are_ends : (points : List GridPoint) (originals : List Original) (shares : List Share)
    → HasSharesOf originals shares → All HasValidChain originals → (p : GridPoint)
    → IsEndOfPiece shares p ↔ Any (λ o. Contains o.chain p) originals
vertices_are_ends points originals shares are all_valid p = (
  λ (u, shared, end).
      let (ordered, (k, o, within, is, link)) = (shared_piece points originals shares are u).0 shared in
      (k, o, within, is, end_is_vertex o.chain u p link end),
  λ (k, o, within, is, vertex).
      let valid = subst HasValidChain is (all_valid k o within) in
      let (s, at) = vertex_is_link_end o.a o.b o.chain p valid.ends valid.leads vertex in
      (s, (shared_piece points originals shares are s).1 (at.ordered, (k, o, within, is, at.link)), at.end),
)
