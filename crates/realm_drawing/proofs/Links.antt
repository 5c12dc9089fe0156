-- This file shows where the links of a chain stand, and what comes of the chain with a path in the place of one.
use Rattle.std.proofs.Common.{◌≡◌, ◌≢◌, ◌⊎◌, ℕ, zero, suc, ◌+◌, ◌<◌, List, [], ◌∷◌, ◌++◌, length, get_or, take, drop}
use Rattle.std.proofs.Common.{refl, sym, ap₂, subst, inl, inr, arith}
use Rattle.grid_base.specs.Point.{GridPoint}
use Rattle.grid_base.specs.Segment.{GridSegment}
use Rattle.grid_base.specs.Drawing.{IsLink, HasLink}
use Rattle.hook_chain.specs.Redrawing.{redrawn}
use Rattle.realm_drawing.specs.Passages.{IsPlaceAt, GoesFrom}
use Rattle.chain_laws.proofs.RedrawnLinks.{redrawn_without}
use Rattle.chain_laws.specs.Stretches.{stretch}
use Rattle.chain_laws.proofs.Stretches.{other_stretch}

-- ---- places of links
-- the link at k is t, one way or the other
abbrev pub IsLinkAt : List GridPoint → GridSegment → ℕ → Type 0
IsLinkAt chain t k = GoesFrom chain t.a t.b k ⊎ GoesFrom chain t.b t.a k

place_later : (v : GridPoint) (chain : List GridPoint) (p : GridPoint) (k m : ℕ) → m ≡ suc k → IsPlaceAt chain p k
    → IsPlaceAt (v ∷ chain) p m
place_later v chain p k m next place =
    subst (IsPlaceAt (v ∷ chain) p) (sym next) (record { within = let h = place.within in omega arith; at = place.at })

goes_later : (v : GridPoint) (chain : List GridPoint) (p q : GridPoint) (k : ℕ) → GoesFrom chain p q k
    → GoesFrom (v ∷ chain) p q (suc k)
goes_later v chain p q k goes = record {
  from = place_later v chain p k (suc k) refl goes.from;
  to = place_later v chain q (k + 1) (suc k + 1) (omega arith) goes.to;
}

later : (v : GridPoint) (chain : List GridPoint) (t : GridSegment) (k : ℕ) → IsLinkAt chain t k
    → IsLinkAt (v ∷ chain) t (suc k)
later v chain t k (inl forth) = inl (goes_later v chain t.a t.b k forth)
later v chain t k (inr back) = inr (goes_later v chain t.b t.a k back)

goes_first : (v w : GridPoint) (chain : List GridPoint) (p q : GridPoint) → v ≡ p → w ≡ q → GoesFrom (v ∷ w ∷ chain) p q 0
goes_first v w chain p q at_p at_q = record {
  from = record { within = omega arith; at = λ d. at_p };
  to = record { within = omega arith; at = λ d. at_q };
}

first_link : (v w : GridPoint) (chain : List GridPoint) (t : GridSegment) → IsLink t v w → IsLinkAt (v ∷ w ∷ chain) t 0
first_link v w chain t (inl forth) = inl (goes_first v w chain t.a t.b forth.0 forth.1)
first_link v w chain t (inr back) = inr (goes_first v w chain t.b t.a back.0 back.1)

-- a link stands somewhere
pub link_at : (chain : List GridPoint) (t : GridSegment) → HasLink chain t → (k : ℕ) × IsLinkAt chain t k
link_at [] t link = absurd link
link_at (v ∷ []) t link = absurd link
link_at (v ∷ w ∷ chain) t (inl here) = (0, first_link v w chain t here)
link_at (v ∷ w ∷ chain) t (inr there) = let at = link_at (w ∷ chain) t there in (suc at.0, later v (w ∷ chain) t at.0 at.1)

-- ---- the whole chain
-- no link but the one at k is t
abbrev pub IsOnlyLink : List GridPoint → GridSegment → ℕ → Type 0
IsOnlyLink chain t k = (i : ℕ) → i ≢ k → IsLinkAt chain t i → ⊥

-- where only the link at k is t, the way that stands for it comes there
pub redrawn_at : (t : GridSegment) (path way chain : List GridPoint) (k : ℕ) → suc k < length chain
    → ((d : GridPoint) → stretch t path (get_or chain k d) (get_or chain (suc k) d) ≡ way) → IsOnlyLink chain t k
    → redrawn t path chain ≡ take k chain ++ way ++ drop (suc k) chain
redrawn_at t path way [] k within stands only = absurd (omega arith)
redrawn_at t path way (v ∷ []) k within stands only = absurd (omega arith)
redrawn_at t path way (v ∷ w ∷ chain) zero within stands only =
    ap₂ (λ (first rest : List GridPoint). first ++ rest) (stands v)
    (redrawn_without t path (w ∷ chain)
    (λ link. let at = link_at (w ∷ chain) t link in only (suc at.0) (omega arith) (later v (w ∷ chain) t at.0 at.1)))
redrawn_at t path way (v ∷ w ∷ chain) (suc k) within stands only =
    ap₂ (λ (first rest : List GridPoint). first ++ rest)
    (other_stretch t path v w (λ link. only 0 (omega arith) (first_link v w chain t link)))
    (redrawn_at t path way (w ∷ chain) k (omega arith) stands
    (λ i other at. only (suc i) (omega arith) (later v (w ∷ chain) t i at)))
