-- This file shows that the links of the chain that stands for an original count, at each grid point off it, as the original.
use Rattle.std.proofs.Common.{◌≡◌, ◌⊎◌, ◌<◌, ◌≤◌, Bool, true, false, not, ◌&&◌, leb, if◌then◌else◌, MatchBool}
use Rattle.std.proofs.Common.{List, [], ◌∷◌, map, refl, sym, ap, ◌∙◌, subst, arith, inl, inr}
use Rattle.grid_base.specs.Point.{GridPoint, IsFromTo, is_before, is_point}
use Rattle.grid_base.specs.Segment.{GridSegment, segment_of, is_flat, exchanged, exchanged_point}
use Rattle.grid_base.specs.Places.{IsPlace}
use Rattle.grid_base.specs.SideOf.{Lie, At, SideUp, as_rational, SideOfUp}
use Rattle.grid_base.proofs.Ends.{place_is_on}
use Rattle.grid_base.proofs.Lines.{line_is}
use Rattle.grid_base.proofs.Orders.{is_point-same}
use Rattle.grid_base.proofs.Turns.{in_order}
use Rattle.hook_chain.specs.Chains.{AllLinks, RunsFrom}
use Rattle.hook_chain.specs.ValidChain.{IsMonotone}
use Rattle.hook_chain.proofs.CloseParts.{steep_is}
use Rattle.hook_chain.proofs.Exchange.{way}
use Rattle.hook_chain.specs.StandingChains.{IsChainFor}
use Rattle.segment_envelope.proofs.Ways.{exchanged_place}
use Rattle.side_parity.specs.Middle.{differ}
use Rattle.side_parity.proofs.Regions.{odd_count}
use Rattle.side_parity.proofs.Parities.{differ-false, odd_count-append}
use Rattle.value_geometry.specs.Links.{between, links}
use Rattle.unswept_regions.specs.Unswept.{IsOffChain}
use Rattle.unswept_regions.proofs.Turning.{links_from, last_from, straight_from, not_both}
use Rattle.unswept_regions.proofs.LinkTests.{is_over_point, is_left_of, is_right_of, CountsAsStraight}
use Rattle.unswept_regions.proofs.Lies.{lie_at, in_rows}
use Rattle.unswept_regions.proofs.TurningChains.{IsOnward, IsUpward, IsDownward}
use Rattle.unswept_regions.proofs.StraightChains.{IsOff, IsUnsweptUp, all_links, flat_counts, rising_counts, falling_counts}

-- ---- links with the lesser end first
-- nothing is strictly above p by a way that stays in one column
upright_none : (p v w : GridPoint) (r : Bool) → v.x ≡ w.x → (is_left_of p v && (not (is_left_of p w) && r)) ≡ false
upright_none p v w r e = ap (λ x. leb v.x p.x && (not (leb x p.x) && r)) (sym e) ∙ not_both (leb v.x p.x) r

one_column : (v w : GridPoint) → v.x ≤ w.x → is_before v w ≡ false → v.x ≡ w.x
one_column v w h e = grind arith

over_segment : (p v w : GridPoint) (b : Bool) → v.x ≤ w.x → is_before v w ≡ b
    → is_over_point p (if b then way v w else way w v) ≡ is_over_point p (way v w)
over_segment p v w true h e = refl
over_segment p v w false h e =
    let same = one_column v w h e in
    upright_none p w v (is_right_of p (way w v)) (sym same) ∙ sym (upright_none p v w (is_right_of p (way v w)) same)

over_between : (p v w : GridPoint) → v.x ≤ w.x → odd_count (is_over_point p) (between v w) ≡ is_over_point p (way v w)
over_between p v w h = by (is_point v w) refl
  where
    by : (b : Bool) → is_point v w ≡ b
        → odd_count (is_over_point p) (if b then [] else segment_of v w ∷ []) ≡ is_over_point p (way v w)
    by true one = sym (upright_none p v w (is_right_of p (way v w)) (ap (λ (q : GridPoint). q.x) (is_point-same v w one)))
    by false two = differ-false (is_over_point p (segment_of v w)) ∙ over_segment p v w (is_before v w) h refl

links_count : (p v : GridPoint) (chain : List GridPoint) → AllLinks IsOnward (v ∷ chain)
    → odd_count (is_over_point p) (links (v ∷ chain)) ≡ odd_count (is_over_point p) (links_from v chain)
links_count p v [] onward = refl
links_count p v (w ∷ chain) onward =
    odd_count-append (is_over_point p) (between v w) (links (w ∷ chain))
    ∙ (λ i. differ (over_between p v w onward.0 i) (links_count p w chain onward.1 i))

-- ---- points off the chain
off_places : (p : GridPoint) (chain : List GridPoint) → IsOffChain p chain → IsOff p chain
off_places p [] off place = place
off_places p (v ∷ []) off place = place
off_places p (v ∷ w ∷ chain) off (inl place) =
    off.0 (place_is_on (way v w) (as_rational p) p place (omega arith, omega arith))
off_places p (v ∷ w ∷ chain) off (inr later) = off_places p (w ∷ chain) off.1 later

off_rows : (p : GridPoint) (chain : List GridPoint) → IsOff p chain → IsOff (exchanged_point p) (map exchanged_point chain)
off_rows p [] off place = place
off_rows p (v ∷ []) off place = place
off_rows p (v ∷ w ∷ chain) off (inl place) =
    off (inl (exchanged_place (in_rows v w) (as_rational (exchanged_point p)) place))
off_rows p (v ∷ w ∷ chain) off (inr later) = off_rows p (w ∷ chain) (λ place. off (inr place)) later

-- a point off the chain isn't on the straight way either, where that rises
off_straight : (p v w : GridPoint) (rows : List GridPoint) → v.y < w.y → IsOff (exchanged_point p) rows
    → IsUnsweptUp (in_rows v w) rows (exchanged_point p) → IsPlace (way v w) (as_rational p) → ⊥
off_straight p v w rows high off unswept place =
    let line = line_is (way v w) (as_rational p) place in
    let up = place.up in
    elim (unswept At (omega arith, omega arith) (lie_at (in_rows v w) (exchanged_point p) high (omega arith))) [
      | inl on ↦ off on
      | inr on ↦ off on
    ]

-- ---- a chain that stands for the way between its ends
-- what the promise says by columns, and by rows
abbrev IsUnsweptWhere : Bool → GridSegment → List GridPoint → GridPoint → Type 0
IsUnsweptWhere flat o chain p = (lie : Lie) → MatchBool flat (IsFromTo o.a.x o.b.x p.x) (IsFromTo o.a.y o.b.y p.y)
    → MatchBool flat (SideUp o p lie) (SideUp (exchanged o) (exchanged_point p) lie)
    → MatchBool flat (SideOfUp chain p At) (SideOfUp (map exchanged_point chain) (exchanged_point p) At)
    ⊎ MatchBool flat (SideOfUp chain p lie) (SideOfUp (map exchanged_point chain) (exchanged_point p) lie)

own_chain_counts : (p v : GridPoint) (chain : List GridPoint) → IsChainFor (straight_from v chain) (v ∷ chain)
    → IsOffChain p (v ∷ chain) → CountsAsStraight p v chain
own_chain_counts p v chain stands off_chain = by (is_flat o) refl (stands.unswept p)
  where
    o : GridSegment
    o = straight_from v chain

    off : IsOff p (v ∷ chain)
    off = off_places p (v ∷ chain) off_chain

    off_in_rows : IsOff (exchanged_point p) (map exchanged_point (v ∷ chain))
    off_in_rows = off_rows p (v ∷ chain) off

    by : (flat : Bool) → flat ≡ is_flat o → IsUnsweptWhere flat o (v ∷ chain) p → CountsAsStraight p v chain
    by true flat unswept =
        flat_counts p v chain (all_links (IsMonotone o.a o.b) IsOnward (λ u w m. m.1) v chain stands.valid.monotone) off unswept
    by false steep unswept =
        let high = steep_is o steep in
        elim (in_order o.a.y o.b.y) [
          | inl rises ↦ rising_counts p v chain
              (all_links (IsMonotone o.a o.b) IsUpward (λ u w m. (m.1, m.2 rises)) v chain stands.valid.monotone) off
              (off_straight p v o.b (map exchanged_point (v ∷ chain)) (omega arith) off_in_rows unswept) off_in_rows unswept
          | inr falls ↦ falling_counts p v chain
              (all_links (IsMonotone o.a o.b) IsDownward (λ u w m. (m.1, m.3 falls)) v chain stands.valid.monotone)
              off_in_rows unswept
        ]

-- ---- an original
ends_are : (a b v : GridPoint) (chain : List GridPoint) → RunsFrom a b (v ∷ chain) → (v ≡ a) × (last_from v chain ≡ b)
ends_are a b v [] leads = leads
ends_are a b v (w ∷ chain) leads = (leads.0, (ends_are w b w chain leads.1).1)

pub chain_counts : (p : GridPoint) (o : GridSegment) (chain : List GridPoint) → IsChainFor o chain → IsOffChain p chain
    → odd_count (is_over_point p) (links chain) ≡ is_over_point p o
chain_counts p o [] stands off = absurd stands.valid.leads
chain_counts p o (v ∷ chain) stands off =
    let ends = ends_are o.a o.b v chain stands.valid.leads in
    let same : straight_from v chain ≡ o = λ i. way (ends.0 i) (ends.1 i) in
    links_count p v chain (all_links (IsMonotone o.a o.b) IsOnward (λ u w m. m.1) v chain stands.valid.monotone)
    ∙ own_chain_counts p v chain (subst (λ s. IsChainFor s (v ∷ chain)) (sym same) stands) off
    ∙ ap (is_over_point p) same
