-- This file shows when the links of a list of points are close, or two of a corner, by its first links.
use Rattle.std.proofs.Common.{◌≡◌, ◌⊎◌, ◌↔◌, ℕ, zero, suc, ◌+◌, ◌<◌, ◌≤◌, Bool, true, false, if◌then◌else◌, MatchBool}
use Rattle.std.proofs.Common.{List, [], ◌∷◌, length, get_or, drop, subst, sym, add-one, inl, inr, arith}
use Rattle.grid_base.specs.Point.{GridPoint, is_before}
use Rattle.grid_base.specs.Segment.{GridSegment, segment_of, is_flat, exchanged, exchanged_point}
use Rattle.hook_chain.specs.Close.{IsCloseUp, Close}
use Rattle.hook_chain.specs.ValidChain.{IsCorner, IsCloseChain}
use Rattle.hook_chain.proofs.Exchange.{way, place_back}
use Rattle.chain_laws.specs.Courses.{IsCloseAt, IsCornerAt}
use Rattle.chain_laws.proofs.LinkPlaces.{reads}

-- ---- a link the other way
back_where : (flat : Bool) (o : GridSegment) (v w : GridPoint)
    → MatchBool flat (IsCloseUp o (way v w)) (IsCloseUp (exchanged o) (exchanged (way v w)))
    → MatchBool flat (IsCloseUp o (way w v)) (IsCloseUp (exchanged o) (exchanged (way w v)))
back_where true o v w close = λ g r q on_o on_way. close g r q on_o (place_back w v q on_way)
back_where false o v w close = λ g r q on_o on_way.
    close g r q on_o (place_back (exchanged_point w) (exchanged_point v) q on_way)

-- the way back is close too
pub close_back : (o : GridSegment) (v w : GridPoint) → Close o (way v w) → Close o (way w v)
close_back o v w close = back_where (is_flat o) o v w close

close_turned : (o : GridSegment) (v w : GridPoint) (straight : Bool)
    → Close o (if straight then way v w else way w v) ↔ Close o (way v w)
close_turned o v w true = (λ close. close, λ close. close)
close_turned o v w false = (close_back o w v, close_back o v w)

-- the segment between two points is close where the way is
pub close_sorted : (o : GridSegment) (v w : GridPoint) → Close o (segment_of v w) ↔ Close o (way v w)
close_sorted o v w = close_turned o v w (is_before v w)

-- ---- the links from a place on
-- the link from place i is close
abbrev IsLinkFrom : GridSegment → List GridPoint → ℕ → Type 0
IsLinkFrom o points i =
    (suc i < length points) × ((d : GridPoint) → Close o (way (get_or points i d) (get_or points (suc i) d)))

abbrev IsCornerFrom : GridSegment → List GridPoint → ℕ → Type 0
IsCornerFrom o points i =
    (suc (suc i) < length points)
    × ((d : GridPoint) → IsCorner o (get_or points i d) (get_or points (suc i) d) (get_or points (suc (suc i)) d))

-- what is close from place i on begins with a close link or with a corner
abbrev BeginsFrom : GridSegment → List GridPoint → ℕ → Type 0
BeginsFrom o points i =
    (IsLinkFrom o points i × IsCloseChain o (drop (suc i) points))
    ⊎ (IsCornerFrom o points i × IsCloseChain o (drop (suc (suc i)) points))

begin : (o : GridSegment) (points : List GridPoint) (i : ℕ) → suc i < length points → IsCloseChain o (drop i points)
    → BeginsFrom o points i
begin o [] i within chain = absurd (omega arith)
begin o (u ∷ []) i within chain = absurd (omega arith)
begin o (u ∷ v ∷ []) zero within chain = inl ((within, λ d. chain), tt)
begin o (u ∷ v ∷ w ∷ points) zero within (inl link) = inl ((omega arith, λ d. link.0), link.1)
begin o (u ∷ v ∷ w ∷ points) zero within (inr corner) = inr ((omega arith, λ d. corner.0), corner.1)
begin o (u ∷ v ∷ points) (suc i) within chain = elim (begin o (v ∷ points) i (omega arith) chain) [
  | inl link ↦ inl ((let h = link.0.0 in omega arith, link.0.1), link.1)
  | inr corner ↦ inr ((let h = corner.0.0 in omega arith, corner.0.1), corner.1)
]

-- a close link before what is close
link_first : (o : GridSegment) (points : List GridPoint) (i : ℕ) → IsLinkFrom o points i
    → IsCloseChain o (drop (suc i) points)
    → IsCloseChain o (drop i points)
link_first o [] i link chain = absurd (let h = link.0 in omega arith)
link_first o (u ∷ []) i link chain = absurd (let h = link.0 in omega arith)
link_first o (u ∷ v ∷ []) zero link chain = link.1 u
link_first o (u ∷ v ∷ w ∷ points) zero link chain = inl (link.1 u, chain)
link_first o (u ∷ v ∷ points) (suc i) link chain = link_first o (v ∷ points) i (let h = link.0 in omega arith, link.1) chain

-- and a corner
corner_first : (o : GridSegment) (points : List GridPoint) (i : ℕ) → IsCornerFrom o points i
    → IsCloseChain o (drop (suc (suc i)) points)
    → IsCloseChain o (drop i points)
corner_first o [] i corner chain = absurd (let h = corner.0 in omega arith)
corner_first o (u ∷ []) i corner chain = absurd (let h = corner.0 in omega arith)
corner_first o (u ∷ v ∷ []) i corner chain = absurd (let h = corner.0 in omega arith)
corner_first o (u ∷ v ∷ w ∷ points) zero corner chain = inr (corner.1 u, chain)
corner_first o (u ∷ v ∷ w ∷ points) (suc i) corner chain =
    corner_first o (v ∷ w ∷ points) i (let h = corner.0 in omega arith, corner.1) chain

-- ---- the same as contracts say it
-- two places on
two_on : (i : ℕ) → i + 2 ≡ suc (suc i)
two_on i = omega arith

pub closes_by_link : (o : GridSegment) (points : List GridPoint) (i : ℕ) → IsCloseAt o points i
    → IsCloseChain o (drop (i + 1) points)
    → IsCloseChain o (drop i points)
closes_by_link o points i link chain =
    link_first o points i (let h = link.within in omega arith, λ d. rw add-one at (link.close d)) (rw add-one at chain)

pub closes_by_corner : (o : GridSegment) (points : List GridPoint) (i : ℕ) → IsCornerAt o points i
    → IsCloseChain o (drop (i + 2) points)
    → IsCloseChain o (drop i points)
closes_by_corner o points i corner chain =
    let from : IsCornerFrom o points i =
    (let h = corner.within in omega arith, λ d. rw (add-one, two_on) at (corner.corner d)) in
    corner_first o points i from (rw two_on at chain)

-- a link or a corner there must be
pub closes_by : (o : GridSegment) (points : List GridPoint) (i : ℕ) → i + 1 < length points
    → IsCloseChain o (drop i points)
    → (IsCloseAt o points i × IsCloseChain o (drop (i + 1) points))
    ⊎ (IsCornerAt o points i × IsCloseChain o (drop (i + 2) points))
closes_by o points i within chain = elim (begin o points i (omega arith) chain) [
  | inl link ↦
      inl (record { within = within; close = λ d. rw add-one (link.0.1 d) }, rw add-one link.1)
  | inr corner ↦
      let from : i + 2 < length points = let h = corner.0.0 in omega arith in
      inr (record { within = from; corner = λ d. rw (add-one, two_on) (corner.0.1 d) }, rw two_on corner.1)
]

-- ---- what was read
pub close_at : (o : GridSegment) (points : List GridPoint) (i : ℕ) (u v : GridPoint) → i + 1 < length points
    → u ≡ get_or points i u
    → v ≡ get_or points (i + 1) v → Close o (way u v) ↔ IsCloseAt o points i
close_at o points i u v within at_u at_v =
    let first = reads points i u (omega arith) at_u in
    let second = reads points (i + 1) v within at_v in (
      λ close. record {
        within = within;
        close = λ d. subst (λ (p : GridPoint). Close o (way p (get_or points (i + 1) d))) (first d)
            (subst (λ (q : GridPoint). Close o (way u q)) (second d) close);
      },
      λ at. subst (λ (p : GridPoint). Close o (way p v)) (sym (first u))
          (subst (λ (q : GridPoint). Close o (way (get_or points i u) q)) (sym (second u)) (at.close u)),
    )

-- no link and no corner begins at the last point
pub nothing_left : (o : GridSegment) (points : List GridPoint) (i : ℕ) → length points ≤ suc i
    → IsCloseChain o (drop i points)
nothing_left o [] zero end = tt
nothing_left o [] (suc i) end = tt
nothing_left o (v ∷ []) zero end = tt
nothing_left o (v ∷ w ∷ points) zero end = absurd (omega arith)
nothing_left o (v ∷ points) (suc i) end = nothing_left o points i (omega arith)
