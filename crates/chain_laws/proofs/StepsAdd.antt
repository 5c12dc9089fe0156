-- This file shows that each permitted step adds links to a drawing and leaves no chain with fewer, and that a drawing can't
-- have more links than its originals allow.
use Rattle.std.proofs.Common.{◌≡◌, ◌⊎◌, ℕ, ◌<◌, ◌≤◌, Option, Some, None, List, [], ◌∷◌, length, map, Any}
use Rattle.std.proofs.Common.{refl, ap, sym, subst, ◌∙◌, arith, inl, inr}
use Rattle.std.specs.Prelude.{IsSomeAnd}
use Rattle.std.specs.List.{AllZip}
use Rattle.grid_base.specs.Point.{GridPoint, IsBefore}
use Rattle.grid_base.specs.Drawing.{Drawing, HasLink, IsPiece}
use Rattle.grid_base.specs.declared.original.Original.{Original}
use Rattle.grid_base.specs.declared.kinds.Step.{Step}
use Rattle.grid_base.proofs.Orders.{IsBefore-asym}
use Rattle.hook_chain.specs.Chains.{RunsFrom}
use Rattle.hook_chain.specs.Redrawing.{redrawn}
use Rattle.chain_laws.specs.declared.redrawing.Redrawing.{Redrawing}
use Rattle.chain_laws.specs.declared.redrawing.Redrawings.{Redrawings}
use Rattle.hook_chain.specs.Steps.{Permitted}
use Rattle.hook_chain.specs.Straight.{along}
use Rattle.hook_chain.specs.StandingChains.{AllValid, HasValidChain}
use Rattle.hook_chain.specs.Measure.{links_in, most_links, links_of, most_links_of, HasAsManyLinks, NoChainShorter}
use Rattle.chain_laws.specs.Redraws.{redrawn_also, redrawn_original_by, IsPathFor, AreRedrawings, AnyOf}
use Rattle.chain_laws.proofs.Elements.{Any-weaker}
use Rattle.chain_laws.proofs.Progress.{chain_is_short}
use Rattle.chain_laws.proofs.RedrawnLinks.{redrawn_links}
use Rattle.chain_laws.proofs.AddedPoints.{redrawn_keeps, redrawn_adds, two_points}
use Rattle.chain_laws.proofs.StepLinks.{GoesWith, AnyOf-weaker, AnyOf-of_some}
use Rattle.chain_laws.proofs.StepPaths.{step_paths}
use Rattle.chain_laws.proofs.Sums.{sum_stays, sum_grows, sum_bound}

-- ---- one chain
-- a path leads to another point than where it begins
two_ends : (q : Redrawing) → IsPathFor q → 2 ≤ length q.path
two_ends q path = by_points q.path path.leads
  where
    by_points : (points : List GridPoint) → RunsFrom q.piece.a q.piece.b points → 2 ≤ length points
    by_points [] leads = absurd leads
    by_points (p ∷ []) leads =
        let turned = subst (λ r. IsBefore r q.piece.b) (sym leads.0 ∙ leads.1) path.ordered in
        absurd (IsBefore-asym q.piece.b q.piece.b turned turned)
    by_points (p ∷ r ∷ points) leads = omega arith

-- with the paths of a step a chain has as many points at least
also_keeps : (first : Redrawing) (second : Option Redrawing) (chain : List GridPoint) → IsPathFor first
    → GoesWith first second → length chain ≤ length (redrawn_also second (redrawn first.piece first.path chain))
also_keeps first None chain path fits = redrawn_keeps first.piece first.path chain (two_ends first path)
also_keeps first (Some q) chain path fits =
    let once = redrawn first.piece first.path chain in
    omega (
      arith,
      redrawn_keeps first.piece first.path chain (two_ends first path),
      redrawn_keeps q.piece q.path once (two_ends q fits.0),
    )

-- the path has a point between its ends, and the chain has its piece
abbrev Bends : List GridPoint → Redrawing → Type 0
Bends chain q = (3 ≤ length q.path) × HasLink chain q.piece

-- and more where a path bends it, since the first path takes the second piece from no chain
also_adds : (first : Redrawing) (second : Option Redrawing) (chain : List GridPoint) → IsPathFor first
    → GoesWith first second → Bends chain first ⊎ IsSomeAnd second (Bends chain)
    → links_in chain < links_in (redrawn_also second (redrawn first.piece first.path chain))
also_adds first None chain path fits (inl (long, has)) =
    omega (arith, redrawn_adds first.piece first.path chain long has, two_points chain first.piece has)
also_adds first None chain path fits (inr none) = absurd none
also_adds first (Some q) chain path fits (inl (long, has)) =
    let once = redrawn first.piece first.path chain in
    omega (
      arith,
      redrawn_adds first.piece first.path chain long has,
      two_points chain first.piece has,
      redrawn_keeps q.piece q.path once (two_ends q fits.0),
    )
also_adds first (Some q) chain path fits (inr (long, has)) =
    let once = redrawn first.piece first.path chain in
    let links = redrawn_links first.piece first.path chain q.piece path.ordered path.leads fits.0.ordered in
    omega (
      arith,
      redrawn_keeps first.piece first.path chain (two_ends first path),
      redrawn_adds q.piece q.path once long (links.1 (inl (has, fits.1.other))),
      two_points chain q.piece has,
    )

-- ---- all chains
-- how many links the chain of an original has
abbrev own_links : Original → ℕ
own_links o = links_in o.chain

no_link_lost : (r : Redrawings) → AreRedrawings r → (o : Original) → own_links o ≤ own_links (redrawn_original_by r o)
no_link_lost r sound o = omega (arith, also_keeps r.first r.second o.chain sound.first sound.second)

zip_with_map : {X : Type 0} (R : X → X → Type 0) (f : X → X) → ((x : X) → R x (f x)) → (xs : List X)
    → AllZip R xs (map f xs)
zip_with_map R f each [] = tt
zip_with_map R f each (x ∷ xs) = (each x, zip_with_map R f each xs)

-- a permitted step leaves no chain with fewer links
pub step_shortens_none : (d e : Drawing) (step : Step) → AllValid d → Permitted d step e → NoChainShorter d e
step_shortens_none d e step valid permitted =
    let drawn = step_paths d e step permitted in
    let f = redrawn_original_by drawn.paths in
    subst (NoChainShorter d) (sym drawn.leads)
    (zip_with_map HasAsManyLinks f (λ o. (refl, no_link_lost drawn.paths drawn.sound o)) d.originals)

-- and some chain with more
pub step_adds_link : (d e : Drawing) (step : Step) → AllValid d → Permitted d step e → links_of d < links_of e
step_adds_link d e step valid permitted =
    let drawn = step_paths d e step permitted in
    let r = drawn.paths in
    let f = redrawn_original_by r in
    let BendsIt = λ (o : Original) (q : Redrawing). Bends o.chain q in
    let with_chain = AnyOf-weaker (λ q. (3 ≤ length q.path) × IsPiece d q.piece) (λ q. Any (λ o. BendsIt o q) d.originals) r
    drawn.sound
    (λ q path (long, piece). Any-weaker (λ o. HasLink o.chain q.piece) (λ o. BendsIt o q) (λ o has. (long, has)) d.originals
    piece.1) drawn.bends in
    let gains : (o : Original) → AnyOf r (BendsIt o) → own_links o < own_links (f o) =
    λ o. also_adds r.first r.second o.chain drawn.sound.first drawn.sound.second in
    rw drawn.leads
    (sum_grows own_links f (no_link_lost r drawn.sound) d.originals
    (Any-weaker (λ o. AnyOf r (BendsIt o)) (λ o. own_links o < own_links (f o)) gains d.originals
    (AnyOf-of_some BendsIt d.originals r with_chain)))

-- the originals stay as they are but for their chains
pub step_keeps_most : (d e : Drawing) (step : Step) → AllValid d → Permitted d step e → most_links_of e ≡ most_links_of d
step_keeps_most d e step valid permitted =
    let drawn = step_paths d e step permitted in
    ap most_links_of drawn.leads
    ∙ sum_stays (λ o. most_links (along o)) (redrawn_original_by drawn.paths) (λ o. refl) d.originals

-- valid chains have few links together
pub links_are_few : (d : Drawing) → AllValid d → links_of d ≤ most_links_of d
links_are_few d valid =
    sum_bound HasValidChain own_links (λ o. most_links (along o)) (λ o chain. chain_is_short (along o) o.chain chain)
    d.originals valid
