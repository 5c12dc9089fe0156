-- This file shows that the segments of values are pieces, and that pieces of a realm are noded.
use Rattle.std.proofs.Common.{◌≡◌, ℕ, List, [], ◌∷◌, length, Any, Contains, sym, subst, ap, inl, inr, refl, arith}
use Rattle.grid_base.specs.Point.{GridPoint}
use Rattle.grid_base.specs.Segment.{GridSegment, IsEnd}
use Rattle.grid_base.specs.Border.{AreNoded}
use Rattle.grid_base.specs.Drawing.{Drawing, HasLink, IsPoint, IsPiece, IsDrawnRealm}
use Rattle.grid_base.specs.declared.original.Original.{Original}
use Rattle.grid_base.proofs.Elements.{Contains-here, Contains-nil}
use Rattle.chain_laws.proofs.Elements.{Any-weaker}
use Rattle.rose_values.specs.declared.geometry.Geometry.{Geometry}
use Rattle.rose_values.specs.declared.geometry.Geometry.TheVariants.{P, L, R}
use Rattle.rose_values.specs.Operators.{segments_of}
use Rattle.value_table.specs.Value.{ids_among}
use Rattle.value_table.specs.declared.value.Value.{Value}
use Rattle.value_geometry.specs.Geometry.{IsOnChainOf, IsOnOddly, IsGeometryOf}

-- what is on a chain is a piece
pub on_chain_is_piece : (d : Drawing) (ids : List ℕ) (s : GridSegment) → Any (IsOnChainOf d s) ids → IsPiece d s
on_chain_is_piece d ids s (k, id, within, is, (ordered, some)) = (
  ordered,
  Any-weaker (λ (o : Original). (o.id ≡ id) × HasLink o.chain s) (λ o. HasLink o.chain s) (λ o both. both.1)
      d.originals some,
)

-- what is on an odd number of chains is on one
pub oddly_is_piece : (d : Drawing) (ids : List ℕ) (s : GridSegment) → IsOnOddly d ids s → IsPiece d s
oddly_is_piece d ids s on = by on.those refl
  where
    by : (those : List ℕ) → on.those ≡ those → IsPiece d s
    by [] is = let odd = on.odd in let none = ap length is in absurd (omega (arith, odd, none))
    by (n ∷ those) is =
        let named = (on.are_those.exact n).0 (subst (λ ns. Contains ns n) (sym is) (Contains-here n those)) in
        on_chain_is_piece d ids s (named.0.0, n, named.0.1, named.0.2, named.1)

-- the segments of a value are pieces of its drawing
pub segments_are_pieces : (d : Drawing) (v : Value) (g : Geometry) → IsGeometryOf d v g → (s : GridSegment)
    → Contains (segments_of g) s → IsPiece d s
segments_are_pieces d v (P list) is s there = absurd (Contains-nil s there)
segments_are_pieces d v (L list) is s there = on_chain_is_piece d (ids_among v.parts) s ((is.1 s).0 there)
segments_are_pieces d v (R border) is s there = oddly_is_piece d (ids_among v.parts) s ((is.1 s).0 there)

end_is_point : (d : Drawing) → IsDrawnRealm d → (s : GridSegment) (p : GridPoint) → IsPiece d s → IsEnd p s → IsPoint d p
end_is_point d realm s p piece (inl is_a) = subst (IsPoint d) (sym is_a) (realm.ends_are_points s piece).0
end_is_point d realm s p piece (inr is_b) = subst (IsPoint d) (sym is_b) (realm.ends_are_points s piece).1

-- some of the pieces of a realm are noded, since no end of one is inside another
pub pieces_are_noded : (d : Drawing) → IsDrawnRealm d → (list : List GridSegment)
    → ((s : GridSegment) → Contains list s → IsPiece d s) → AreNoded list
pieces_are_noded d realm list pieces = record {
  ends_are_points = λ s there.
      ((there.0, s, there.1, there.2, inl refl), (there.0, s, there.1, there.2, inr refl));
  no_point_inside = λ p s (k, t, within, is, end) there inside.
      realm.no_point_inside p s (end_is_point d realm t p (pieces t (k, within, is)) end) (pieces s there) inside;
  only_ends_in_common = λ s t q first second differ on_s on_t.
      realm.only_ends_in_common s t q (pieces s first) (pieces t second) differ on_s on_t;
}
