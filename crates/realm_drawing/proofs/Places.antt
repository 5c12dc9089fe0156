-- This file shows that a chain comes by each point at most once, and where a search finds it.
use Rattle.std.proofs.Common.{◌≡◌, ◌≢◌, ℕ, ◌<◌, List, length, get_or, All, ap, sym, ◌∙◌, subst}
use Rattle.std.proofs.Common.{Result, Option, None, Some, MatchOption, nat_cmp}
use Rattle.std.specs.List.Sorted.{IsSearchInRange, IsBinarySearchResult}
use Rattle.std.specs.Result.{result_ok}
use Rattle.std.proofs.lemmas.List.{get_or_default}
use Rattle.grid_base.specs.Point.{GridPoint}
use Rattle.hook_chain.specs.StandingChains.{IsSomeChain}
use Rattle.hook_chain.specs.Measure.{progress}
use Rattle.realm_drawing.specs.Passages.{IsPlaceAt, IsOnlyPlace}
use Rattle.chain_laws.proofs.KeySearches.{Rises, HasAt, searched, one_place_for_a_number}
use Rattle.chain_laws.proofs.Progress.{progress_rises}

-- a chain that comes farther has no point twice
pub one_place : (a : GridPoint) (chain : List GridPoint) → Rises (progress a) chain → (p : GridPoint) (i k : ℕ)
    → IsPlaceAt chain p i → IsPlaceAt chain p k → i ≡ k
one_place a chain rises p i k first second =
    one_place_for_a_number (progress a) chain rises i k p first.within second.within
    (ap (progress a) (first.at p ∙ sym (second.at p)))

-- a search for p tells that the chain doesn't come by p, or the one place where it can
pub looked_up : (chain : List GridPoint) (first p : GridPoint) (reach : ℕ) (r : Result ℕ ℕ) → 0 < length chain
    → first ≡ get_or chain 0 first
    → IsSomeChain chain → reach ≡ progress first p → IsSearchInRange r (length chain)
    → IsBinarySearchResult (λ q. nat_cmp (progress first q) reach) chain r
    → MatchOption (result_ok r) (All (λ q. q ≢ p) chain) (IsOnlyPlace chain p)
looked_up chain first p reach r some is valid reached bound by_progress =
    by_case (result_ok r) (searched (progress first) chain rises reach r bound by_progress)
  where
    rises : Rises (progress first) chain
    rises = progress_rises chain first some is valid

    by_case : (o : Option ℕ) → MatchOption o (All (λ q. progress first q ≢ reach) chain) (HasAt (progress first) chain reach)
        → MatchOption o (All (λ q. q ≢ p) chain) (IsOnlyPlace chain p)
    by_case None none = λ k d inside same. none k d inside (ap (progress first) same ∙ sym reached)
    by_case (Some i) found = λ k at.
        one_place_for_a_number (progress first) chain rises k i p at.within found.within
        (ap (progress first) (at.at p) ∙ sym reached ∙ sym (found.has p))

-- where p doesn't stand there either, the chain doesn't come by it
pub nowhere : (chain : List GridPoint) (p : GridPoint) (i : ℕ) → IsOnlyPlace chain p i → (IsPlaceAt chain p i → ⊥)
    → All (λ q. q ≢ p) chain
nowhere chain p i only not_there k d inside same =
    let at : IsPlaceAt chain p k = record { within = inside; at = λ e. get_or_default chain k e d inside ∙ same } in
    not_there (subst (IsPlaceAt chain p) (only k at) at)
