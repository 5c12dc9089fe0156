-- This file shows what the links of all parts come to once they are sorted: each kept once, or as its number is odd.
use Rattle.std.proofs.Common.{◌≡◌, ◌↔◌, ℕ, ◌%◌, Bool, cond, List, map, Any, Contains}
use Rattle.std.proofs.Common.{count_by, IsPermutation, sym, ap, ◌∙◌, subst, inl, inr, arith}
use Rattle.std.specs.List.{dedup}
use Rattle.std.proofs.lemmas.List.Sorted.{Contains-permutation, IsPermutation-sym, sum_by-IsPermutation}
use Rattle.grid_base.specs.Segment.{GridSegment}
use Rattle.grid_base.specs.Border.{AreNoded, is_end, IsEvenBorder}
use Rattle.grid_base.specs.Drawing.{Drawing, IsDrawnRealm}
use Rattle.grid_base.specs.declared.original.Original.{Original}
use Rattle.grid_base.proofs.Orders.{is_segment, segments_stay}
use Rattle.hook_chain.specs.Straight.{along}
use Rattle.rose_values.specs.Border.{AreSegmentsAscending}
use Rattle.value_geometry.specs.Geometry.{IsOnChainOf, IsOnOddly}
use Rattle.value_geometry.specs.Links.{links_of, AreLinksOf}
use Rattle.value_geometry.specs.Parts.{AreOriginals}
use Rattle.value_geometry.proofs.Cancelling.{segment_differs}
use Rattle.value_geometry.proofs.Counts.{AreAscending, once_or_not, IsOnceOrNot}
use Rattle.value_geometry.proofs.PartLinks.{on_some_chain, ends_of_parts, on_oddly}
use Rattle.value_geometry.proofs.RealmPieces.{on_chain_is_piece, oddly_is_piece, pieces_are_noded}

module _ (d : Drawing) (ids : List ℕ) (parts : List Original) (are : AreOriginals d ids parts) (list sorted : List GridSegment)
    (all : AreLinksOf d parts list) (moved : IsPermutation list sorted) where
  -- ---- each once
  -- a link of some part is on some chain
  sorted_on_chain : (s : GridSegment) → Contains sorted s ↔ Any (IsOnChainOf d s) ids
  sorted_on_chain s =
      let on = on_some_chain d parts are.there all.only_ones s in (
        λ there.
            let back = Contains-permutation sorted list s (IsPermutation-sym list sorted moved) there in
            let link = subst (λ xs. Contains xs s) all.exact back in
            subst (Any (IsOnChainOf d s)) are.by_id (on.0 link),
        λ some.
            let link = on.1 (subst (Any (IsOnChainOf d s)) (sym are.by_id) some) in
            Contains-permutation list sorted s moved (subst (λ xs. Contains xs s) (sym all.exact) link),
      )

  pub once_on_chain : (s : GridSegment) → Contains (dedup is_segment sorted) s ↔ Any (IsOnChainOf d s) ids
  once_on_chain s =
      let same = segments_stay sorted s in
      let on = sorted_on_chain s in
      (λ there. on.0 (same.0 there), λ some. same.1 (on.1 some))

  pub once_noded : IsDrawnRealm d → AreNoded (dedup is_segment sorted)
  once_noded realm =
      pieces_are_noded d realm (dedup is_segment sorted) (λ s there. on_chain_is_piece d ids s ((once_on_chain s).0 there))

  -- ---- as the number is odd
  module _ (border : List GridSegment) (ascending : AreSegmentsAscending border)
      (parity : (test : GridSegment → Bool) → count_by test border % 2 ≡ count_by test sorted % 2) where
    -- the border counts as the links do modulo 2
    as_links : (test : GridSegment → Bool) → count_by test border % 2 ≡ count_by test (links_of parts) % 2
    as_links test =
        let same : count_by test sorted ≡ count_by test list = sum_by-IsPermutation (λ s. cond (test s) 1 0) list sorted moved in
        let exact = ap (count_by test) all.exact in
        let left = parity test in
        omega (arith, same, exact, left)

    -- a segment stands in it where the number is odd
    counts_once : (s : GridSegment) → Contains border s ↔ (count_by (is_segment s) border % 2 ≡ 1)
    counts_once s = by (once_or_not border (λ i j e before within. segment_differs _ _ (ascending i j e before within)) s)
      where
        by : IsOnceOrNot border s → Contains border s ↔ (count_by (is_segment s) border % 2 ≡ 1)
        by (inl (there, once)) = (λ h. omega (arith, once), λ h. there)
        by (inr (gone, none)) = (λ h. absurd (gone h), λ h. absurd (omega (arith, none, h)))

    pub oddly_on_chains : AreAscending ids → (s : GridSegment) → Contains border s ↔ IsOnOddly d ids s
    oddly_on_chains rising s =
        let once = counts_once s in
        let same = as_links (is_segment s) in
        let oddly = on_oddly d parts are.there all.only_ones (subst AreAscending (sym are.by_id) rising) s in (
          λ there. subst (λ ns. IsOnOddly d ns s) are.by_id (oddly.0 (sym same ∙ once.0 there)),
          λ on. once.1 (same ∙ oddly.1 (subst (λ ns. IsOnOddly d ns s) (sym are.by_id) on)),
        )

    pub oddly_noded : AreAscending ids → IsDrawnRealm d → AreNoded border
    oddly_noded rising realm =
        pieces_are_noded d realm border (λ s there. oddly_is_piece d ids s ((oddly_on_chains rising s).0 there))

    -- where the originals are even as they were given, so is the border
    pub oddly_even : IsEvenBorder (map along parts) → IsEvenBorder border
    oddly_even even p = as_links (is_end p) ∙ ends_of_parts d parts all.only_ones p ∙ even p
