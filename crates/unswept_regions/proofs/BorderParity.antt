-- This file shows that the border of a region has, at each grid point off the chains of its parts, the parity of the parts as
-- they were given.
use Rattle.std.proofs.Common.{◌≡◌, ◌↔◌, ℕ, ◌+◌, ◌*◌, ◌<◌, Bool, true, false, not, ◌&&◌, leb, ltb}
use Rattle.std.proofs.Common.{List, [], ◌∷◌, ◌++◌, map, length, get_or, All, Contains}
use Rattle.std.proofs.Common.{refl, sym, ap, ◌∙◌, subst, inl, inr, arith}
use Rattle.std.proofs.lemmas.List.Elements.{All-head, All-tail, All-contains, All-weaker}
use Rattle.grid_base.specs.Point.{GridPoint}
use Rattle.grid_base.specs.Segment.{GridSegment}
use Rattle.grid_base.specs.Drawing.{Drawing}
use Rattle.grid_base.specs.Odd.{is_strictly_above}
use Rattle.grid_base.specs.Plane.{as_place}
use Rattle.grid_base.specs.SideOf.{as_rational}
use Rattle.grid_base.specs.declared.original.Original.{Original}
use Rattle.grid_base.proofs.Elements.{same_place}
use Rattle.grid_base.proofs.Orders.{is_segment, is_segment-same, is_segment-itself}
use Rattle.grid_base.proofs.Signs.{three_ways}
use Rattle.grid_base.proofs.Turns.{leftward, rightward}
use Rattle.hook_chain.specs.StandingChains.{AllStand, IsChainFor}
use Rattle.hook_chain.specs.Ids.{IsAscending}
use Rattle.hook_chain.specs.Straight.{along}
use Rattle.rose_values.specs.Border.{AreSegmentsAscending}
use Rattle.side_parity.specs.Middle.{differ}
use Rattle.side_parity.proofs.BothSides.{same_truth}
use Rattle.side_parity.proofs.EvenBorders.{even_by_each}
use Rattle.side_parity.proofs.Parities.{differ-self, same_by, odd_count-same, odd_count-append}
use Rattle.side_parity.proofs.Parities.{odd_by_count, count_by_odd}
use Rattle.side_parity.proofs.Regions.{odd_count}
use Rattle.side_parity.proofs.Steps.{over_is}
use Rattle.value_geometry.specs.Geometry.{IsOnOddly}
use Rattle.value_geometry.specs.Links.{links, links_of, IsOnlyOne}
use Rattle.value_geometry.specs.Parts.{AreOriginals}
use Rattle.value_geometry.proofs.Counts.{AreAscending, once_or_not, IsOnceOrNot}
use Rattle.value_geometry.proofs.PartLinks.{on_oddly}
use Rattle.value_geometry.proofs.Cancelling.{segment_differs}
use Rattle.unswept_regions.specs.Unswept.{IsOffChain, IsOddAt, IsUnsweptBorder}
use Rattle.unswept_regions.proofs.LinkTests.{is_over_point, is_right_of}
use Rattle.unswept_regions.proofs.OriginalChains.{chain_counts}

-- ---- grid points as places
at_one : (m n : ℕ) → leb (m * 1) n ≡ leb m n
at_one m n = ap (λ k. leb k n) (omega arith)

sums_at_one : (t : GridSegment) (p : GridPoint)
    → ltb (t.a.x * t.b.y * 1 + t.b.x * p.y + p.x * t.a.y) (t.a.y * t.b.x * 1 + t.b.y * p.x + p.y * t.a.x) ≡ is_right_of p t
sums_at_one t p = λ i. ltb (left i) (right i)
  where
    left : t.a.x * t.b.y * 1 + t.b.x * p.y + p.x * t.a.y ≡ leftward t.a t.b p
    left = omega arith

    right : t.a.y * t.b.x * 1 + t.b.y * p.x + p.y * t.a.x ≡ rightward t.a t.b p
    right = omega arith

over_point : (p : GridPoint) (t : GridSegment) → is_strictly_above t (as_place (as_rational p)) ≡ is_over_point p t
over_point p t =
    over_is t (as_rational p) ∙ (λ i. at_one t.a.x p.x i && (not (at_one t.b.x p.x i) && sums_at_one t p i))

-- a point is odd for two lists alike where both count alike
odd_alike : (p : GridPoint) (A B : List GridSegment) → odd_count (is_over_point p) A ≡ odd_count (is_over_point p) B
    → IsOddAt A p → IsOddAt B p
odd_alike p A B same odd =
    let above = λ (t : GridSegment). is_strictly_above t (as_place (as_rational p)) in
    let in_a = odd_count-same above (is_over_point p) A (over_point p) in
    let in_b = odd_count-same above (is_over_point p) B (over_point p) in
    count_by_odd above B (in_b ∙ sym same ∙ sym in_a ∙ odd_by_count above A odd)

-- ---- parts
parts_count : (p : GridPoint) (parts : List Original) → All (λ o. IsChainFor (along o) o.chain) parts
    → All (λ o. IsOffChain p o.chain) parts
    → odd_count (is_over_point p) (links_of parts) ≡ odd_count (is_over_point p) (map along parts)
parts_count p [] stand off = refl
parts_count p (o ∷ parts) stand off =
    let stands = All-head (λ q. IsChainFor (along q) q.chain) o parts stand in
    let off_first = All-head (λ q. IsOffChain p q.chain) o parts off in
    let rest = parts_count p parts (All-tail (λ q. IsChainFor (along q) q.chain) o parts stand)
    (All-tail (λ q. IsOffChain p q.chain) o parts off) in
    odd_count-append (is_over_point p) (links o.chain) (links_of parts)
    ∙ (λ i. differ (chain_counts p (along o) o.chain stands off_first i) (rest i))

-- ---- the border and the links of all chains
-- where two lists have each segment as often, up to an even number, they count alike
same_counts : (f : GridSegment → Bool) (A B : List GridSegment)
    → ((s : GridSegment) → odd_count (is_segment s) A ≡ odd_count (is_segment s) B) → odd_count f A ≡ odd_count f B
same_counts f A B h =
    same_by _ _
    (sym (odd_count-append f A B) ∙ even_by_each is_segment is_segment-same is_segment-itself (A ++ B) each f)
  where
    each : (s : GridSegment) → odd_count (is_segment s) (A ++ B) ≡ false
    each s =
        odd_count-append (is_segment s) A B ∙ ap (λ b. differ b (odd_count (is_segment s) B)) (h s)
        ∙ differ-self (odd_count (is_segment s) B)

-- an ascending list has an odd number of s exactly where it has s
ascending_count : (border : List GridSegment) → AreSegmentsAscending border → (s : GridSegment)
    → Contains border s ↔ (odd_count (is_segment s) border ≡ true)
ascending_count border ascending s =
    by (once_or_not border (λ i j e before within. segment_differs _ _ (ascending i j e before within)) s)
  where
    by : IsOnceOrNot border s → Contains border s ↔ (odd_count (is_segment s) border ≡ true)
    by (inl (there, once)) = (λ h. odd_by_count (is_segment s) border (omega (arith, once)), λ h. there)
    by (inr (gone, none)) =
        (λ h. absurd (gone h), λ h. let odd = count_by_odd (is_segment s) border h in absurd (omega (arith, none, odd)))

-- no other original has the id of one
only_one : (d : Drawing) → AllStand d → IsAscending d.originals → (o : Original) → Contains d.originals o → IsOnlyOne d o
only_one d stand rising o (j, within_j, is) = record {
  valid = (All-contains (λ q. IsChainFor (along q) q.chain) d.originals o stand (j, within_j, is)).valid;
  only = λ k e within same. by k e within same;
}
  where
    at_j : (e : Original) → get_or d.originals j e ≡ o
    at_j e = same_place d.originals j e o within_j ∙ is

    by : (k : ℕ) (e : Original) → k < length d.originals → (get_or d.originals k e).id ≡ o.id
        → (get_or d.originals k e).chain ≡ o.chain
    by k e within same = elim (three_ways k j) [
      | inl before ↦
          let less = rising k j e before within_j in
          let named = ap (λ (q : Original). q.id) (at_j e) in
          absurd (omega arith)
      | inr (inl level) ↦ ap (λ n. (get_or d.originals n e).chain) level ∙ ap (λ (q : Original). q.chain) (at_j e)
      | inr (inr after) ↦
          let less = rising j k e after within in
          let named = ap (λ (q : Original). q.id) (at_j e) in
          absurd (omega arith)
    ]

-- ---- the law
module _ (d : Drawing) (stand : AllStand d) (rising : IsAscending d.originals) (ids : List ℕ) (parts : List Original)
    (are : AreOriginals d ids parts) (ids_rise : AreAscending ids) (border : List GridSegment)
    (ascending : AreSegmentsAscending border) (made : (s : GridSegment) → Contains border s ↔ IsOnOddly d ids s) where
  only_ones : All (IsOnlyOne d) parts
  only_ones = All-weaker (Contains d.originals) (IsOnlyOne d) (only_one d stand rising) parts are.there

  -- the border has a segment where an odd number of the links of all chains are that segment
  border_links : (s : GridSegment) → odd_count (is_segment s) border ≡ odd_count (is_segment s) (links_of parts)
  border_links s =
      let once = ascending_count border ascending s in
      let oddly = on_oddly d parts are.there only_ones (subst AreAscending (sym are.by_id) ids_rise) s in
      same_truth _ _
      (λ odd. odd_by_count (is_segment s) (links_of parts)
      (oddly.1 (subst (λ ns. IsOnOddly d ns s) (sym are.by_id) ((made s).0 (once.1 odd)))))
      (λ odd. once.0 ((made s).1
      (subst (λ ns. IsOnOddly d ns s) are.by_id (oddly.0 (count_by_odd (is_segment s) (links_of parts) odd)))))

  pub unswept_border : IsUnsweptBorder parts border
  unswept_border p off =
      let stands = All-weaker (Contains d.originals) (λ o. IsChainFor (along o) o.chain)
      (λ o there. All-contains (λ q. IsChainFor (along q) q.chain) d.originals o stand there) parts are.there in
      let same = same_counts (is_over_point p) border (links_of parts) border_links ∙ parts_count p parts stands off in
      (odd_alike p border (map along parts) same, odd_alike p (map along parts) border (sym same))
