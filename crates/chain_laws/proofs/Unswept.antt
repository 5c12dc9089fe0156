-- This file shows that a valid chain passes no grid point: each lies to the chain as to the original, or is on the chain.
use Rattle.std.proofs.Common.{◌≡◌, ◌≢◌, ◌⊎◌, Bool, true, false, MatchBool, List}
use Rattle.std.proofs.Common.{[], ◌∷◌, map, refl, sym, subst, arith, inl, inr}
use Rattle.grid_base.specs.Point.{GridPoint, IsFromTo}
use Rattle.grid_base.specs.Segment.{GridSegment, is_flat, exchanged, exchanged_point}
use Rattle.grid_base.specs.Places.{RationalPoint, IsPlace, InColumn}
use Rattle.grid_base.specs.SideOf.{Lie, Above, At, Below, LiesTo, SideUp, IsChainPlace, as_rational, SideOfUp}
use Rattle.hook_chain.specs.Chains.{RunsFrom}
use Rattle.hook_chain.specs.Close.{IsCloseUp, Close}
use Rattle.hook_chain.specs.ValidChain.{IsCorner, IsCloseChain, ValidChain}
use Rattle.hook_chain.proofs.Exchange.{way, place_back}
use Rattle.hook_chain.proofs.CloseParts.{CloseWhere, flat_is, steep_is, place_in_column}
use Rattle.hook_chain.specs.StandingChains.{IsUnswept}
use Rattle.chain_laws.proofs.ChainPlaces.{HasChainPlace, chain_place_at}
use Rattle.chain_laws.proofs.ChainPlaces.{chain_place_or_not, chain_has_place, exchanged_leads}
use Rattle.chain_laws.proofs.SidesOfLinks.{IsCornerUp, IsOnCorner, link_keeps_side, corner_keeps_side}

-- ---- chains by columns
-- each link is close by columns, or one of the two of a corner, which may be passed either way
abbrev IsCloseChainUp : GridSegment → List GridPoint → Type 0
IsCloseChainUp o [] = Unit {0}
IsCloseChainUp o (v ∷ []) = Unit {0}
IsCloseChainUp o (v ∷ w ∷ []) = IsCloseUp o (way v w)
IsCloseChainUp o (u ∷ v ∷ w ∷ chain) =
    (IsCloseUp o (way u v) × IsCloseChainUp o (v ∷ w ∷ chain))
    ⊎ ((IsCornerUp o u v w ⊎ IsCornerUp o w v u) × IsCloseChainUp o (w ∷ chain))

-- p is on the two links of a corner, or lies to their places as to o
both_keep_side : (o : GridSegment) (u v w p : GridPoint) (r q : RationalPoint) (lie : Lie)
    → IsCornerUp o u v w ⊎ IsCornerUp o w v u
    → IsPlace o r → InColumn p r → InColumn p q → LiesTo p r lie → IsPlace (way u v) q ⊎ IsPlace (way v w) q
    → IsOnCorner u v w p ⊎ LiesTo p q lie
both_keep_side o u v w p r q lie (inl corner) of_o column_r column_q lies place =
    corner_keeps_side o u v w p r q lie corner of_o column_r column_q lies place
both_keep_side o u v w p r q lie (inr back) of_o column_r column_q lies place =
    elim (corner_keeps_side o w v u p r q lie back of_o column_r column_q lies (turned u v w q place)) [
      | inl on ↦ inl (turned w v u (as_rational p) on)
      | inr side ↦ inr side
    ]
  where
    turned : (a b c : GridPoint) (q : RationalPoint) → IsPlace (way a b) q ⊎ IsPlace (way b c) q
        → IsPlace (way c b) q ⊎ IsPlace (way b a) q
    turned a b c q (inl first) = inr (place_back a b q first)
    turned a b c q (inr second) = inl (place_back b c q second)

-- what is on the first two links of a chain is on the chain
on_both : (u v w : GridPoint) (chain : List GridPoint) (p : GridPoint) (q : RationalPoint) (lie : Lie)
    → IsOnCorner u v w p ⊎ LiesTo p q lie → IsChainPlace (u ∷ v ∷ w ∷ chain) (as_rational p) ⊎ LiesTo p q lie
on_both u v w chain p q lie (inl (inl on)) = inl (inl on)
on_both u v w chain p q lie (inl (inr on)) = inl (inr (inl on))
on_both u v w chain p q lie (inr side) = inr side

-- p is on the chain, or lies to the place q of the chain as to r, a place of o in its column
chain_keeps_side : (o : GridSegment) (chain : List GridPoint) (p : GridPoint) (r q : RationalPoint) (lie : Lie)
    → IsCloseChainUp o chain → IsPlace o r → InColumn p r → InColumn p q → LiesTo p r lie → IsChainPlace chain q
    → IsChainPlace chain (as_rational p) ⊎ LiesTo p q lie
chain_keeps_side o [] p r q lie close of_o column_r column_q lies place = absurd place
chain_keeps_side o (v ∷ []) p r q lie close of_o column_r column_q lies place = absurd place
chain_keeps_side o (v ∷ w ∷ []) p r q lie close of_o column_r column_q lies (inl place) =
    elim (link_keeps_side o (way v w) p r q lie close of_o place column_r column_q lies) [
      | inl on ↦ inl (inl on)
      | inr side ↦ inr side
    ]
chain_keeps_side o (v ∷ w ∷ []) p r q lie close of_o column_r column_q lies (inr none) = absurd none
chain_keeps_side o (u ∷ v ∷ w ∷ chain) p r q lie (inl link) of_o column_r column_q lies (inl place) =
    elim (link_keeps_side o (way u v) p r q lie link.0 of_o place column_r column_q lies) [
      | inl on ↦ inl (inl on)
      | inr side ↦ inr side
    ]
chain_keeps_side o (u ∷ v ∷ w ∷ chain) p r q lie (inl link) of_o column_r column_q lies (inr later) =
    elim (chain_keeps_side o (v ∷ w ∷ chain) p r q lie link.1 of_o column_r column_q lies later) [
      | inl on ↦ inl (inr on)
      | inr side ↦ inr side
    ]
chain_keeps_side o (u ∷ v ∷ w ∷ chain) p r q lie (inr corner) of_o column_r column_q lies (inl first) =
    on_both u v w chain p q lie (both_keep_side o u v w p r q lie corner.0 of_o column_r column_q lies (inl first))
chain_keeps_side o (u ∷ v ∷ w ∷ chain) p r q lie (inr corner) of_o column_r column_q lies (inr (inl second)) =
    on_both u v w chain p q lie (both_keep_side o u v w p r q lie corner.0 of_o column_r column_q lies (inr second))
chain_keeps_side o (u ∷ v ∷ w ∷ chain) p r q lie (inr corner) of_o column_r column_q lies (inr (inr later)) =
    elim (chain_keeps_side o (w ∷ chain) p r q lie corner.1 of_o column_r column_q lies later) [
      | inl on ↦ inl (inr (inr on))
      | inr side ↦ inr side
    ]

-- where p is on the chain or lies so to each place in its column, it lies so to the chain
side_by_places : (chain : List GridPoint) (p : GridPoint) (lie : Lie) → HasChainPlace chain p.x
    → ((q : RationalPoint) → IsChainPlace chain q → InColumn p q → IsChainPlace chain (as_rational p) ⊎ LiesTo p q lie)
    → SideOfUp chain p At ⊎ SideOfUp chain p lie
side_by_places chain p Above some keeps = elim (chain_place_or_not chain p) [
  | inl on ↦ inl on
  | inr off ↦ inr (λ q place column. elim (keeps q place column) [ inl on ↦ absurd (off on) | inr side ↦ side ])
]
side_by_places chain p At some keeps = elim (keeps some.place some.is some.column) [
  | inl on ↦ inl on
  | inr at ↦ inl (chain_place_at chain some.place p some.is (some.column, at))
]
side_by_places chain p Below some keeps = elim (chain_place_or_not chain p) [
  | inl on ↦ inl on
  | inr off ↦ inr (λ q place column. elim (keeps q place column) [ inl on ↦ absurd (off on) | inr side ↦ side ])
]

-- a chain from end to end of o that is close by columns passes no grid point
unswept_up : (o : GridSegment) (chain : List GridPoint) → o.a.x ≢ o.b.x → RunsFrom o.a o.b chain → IsCloseChainUp o chain
    → (p : GridPoint) (lie : Lie) → IsFromTo o.a.x o.b.x p.x → SideUp o p lie → SideOfUp chain p At ⊎ SideOfUp chain p lie
unswept_up o chain slanted leads close p lie range side =
    let r = place_in_column o p.x slanted range in
    let lies = side r.place r.is r.column in
    side_by_places chain p lie (chain_has_place o.a o.b chain p.x leads slanted range)
    (λ q place column. chain_keeps_side o chain p r.place q lie close r.is r.column column lies place)

-- ---- columns or rows
close_by_columns : (o s : GridSegment) → true ≡ is_flat o → Close o s → IsCloseUp o s
close_by_columns o s flat close = subst (λ (is : Bool). CloseWhere is o s) (sym flat) close

close_by_rows : (o s : GridSegment) → false ≡ is_flat o → Close o s → IsCloseUp (exchanged o) (exchanged s)
close_by_rows o s steep close = subst (λ (is : Bool). CloseWhere is o s) (sym steep) close

corner_by_columns : (o : GridSegment) (u v w : GridPoint) → true ≡ is_flat o → IsCorner o u v w → IsCornerUp o u v w
corner_by_columns o u v w flat corner = record {
  column = corner.down.0;
  over = corner.down.1;
  right = corner.right.0;
  row = corner.right.1;
  diagonal = close_by_columns o (way u w) flat corner.diagonal;
}

-- rows for columns, a corner is one that is passed the other way
corner_by_rows : (o : GridSegment) (u v w : GridPoint) → false ≡ is_flat o → IsCorner o u v w
    → IsCornerUp (exchanged o) (exchanged_point w) (exchanged_point v) (exchanged_point u)
corner_by_rows o u v w steep corner =
    let close = close_by_rows o (way u w) steep corner.diagonal in
    record {
      column = sym corner.right.1;
      over = corner.right.0;
      right = corner.down.1;
      row = sym corner.down.0;
      diagonal = λ g r q of_o place. close g r q of_o (place_back (exchanged_point w) (exchanged_point u) q place);
    }

chain_by_columns : (o : GridSegment) (chain : List GridPoint) → true ≡ is_flat o → IsCloseChain o chain
    → IsCloseChainUp o chain
chain_by_columns o [] flat close = tt
chain_by_columns o (v ∷ []) flat close = tt
chain_by_columns o (v ∷ w ∷ []) flat close = close_by_columns o (way v w) flat close
chain_by_columns o (u ∷ v ∷ w ∷ chain) flat (inl link) =
    inl (close_by_columns o (way u v) flat link.0, chain_by_columns o (v ∷ w ∷ chain) flat link.1)
chain_by_columns o (u ∷ v ∷ w ∷ chain) flat (inr corner) =
    inr (inl (corner_by_columns o u v w flat corner.0), chain_by_columns o (w ∷ chain) flat corner.1)

chain_by_rows : (o : GridSegment) (chain : List GridPoint) → false ≡ is_flat o → IsCloseChain o chain
    → IsCloseChainUp (exchanged o) (map exchanged_point chain)
chain_by_rows o [] steep close = tt
chain_by_rows o (v ∷ []) steep close = tt
chain_by_rows o (v ∷ w ∷ []) steep close = close_by_rows o (way v w) steep close
chain_by_rows o (u ∷ v ∷ w ∷ chain) steep (inl link) =
    inl (close_by_rows o (way u v) steep link.0, chain_by_rows o (v ∷ w ∷ chain) steep link.1)
chain_by_rows o (u ∷ v ∷ w ∷ chain) steep (inr corner) =
    inr (inr (corner_by_rows o u v w steep corner.0), chain_by_rows o (w ∷ chain) steep corner.1)

-- by columns where the test says flat, and by rows where it says steep
unswept_where : (flat : Bool) (o : GridSegment) (chain : List GridPoint) (p : GridPoint) (lie : Lie) → flat ≡ is_flat o
    → ValidChain o chain → MatchBool flat (IsFromTo o.a.x o.b.x p.x) (IsFromTo o.a.y o.b.y p.y)
    → MatchBool flat (SideUp o p lie) (SideUp (exchanged o) (exchanged_point p) lie)
    → MatchBool flat (SideOfUp chain p At) (SideOfUp (map exchanged_point chain) (exchanged_point p) At)
    ⊎ MatchBool flat (SideOfUp chain p lie) (SideOfUp (map exchanged_point chain) (exchanged_point p) lie)
unswept_where true o chain p lie flat valid range side =
    let ordered = valid.ends in
    let slanted : o.a.x ≢ o.b.x = λ same. let wide = flat_is o flat in omega arith in
    unswept_up o chain slanted valid.leads (chain_by_columns o chain flat valid.close) p lie range side
unswept_where false o chain p lie steep valid range side =
    let slanted : o.a.y ≢ o.b.y = λ same. let high = steep_is o steep in omega arith in
    unswept_up (exchanged o) (map exchanged_point chain) slanted (exchanged_leads o.a o.b chain valid.leads)
    (chain_by_rows o chain steep valid.close) (exchanged_point p) lie range side

-- each grid point alongside the original is on the valid chain, or lies to it as to the original
pub nothing_swept : (o : GridSegment) (chain : List GridPoint) → ValidChain o chain → IsUnswept o chain
nothing_swept o chain valid = λ p lie range side. unswept_where (is_flat o) o chain p lie refl valid range side
