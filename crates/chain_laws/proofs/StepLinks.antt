-- This file shows which links a chain has after a step of one or two redrawings.
use Rattle.std.proofs.Common.{◌≡◌, ◌⊎◌, ◌↔◌, Option, Some, None, MatchOption, List, subst, inl, inr}
use Rattle.std.specs.Prelude.{IsSomeAnd}
use Rattle.std.specs.List.{Any}
use Rattle.grid_base.specs.Point.{GridPoint, IsBefore}
use Rattle.grid_base.specs.Segment.{GridSegment}
use Rattle.grid_base.specs.Drawing.{HasLink}
use Rattle.hook_chain.specs.Redrawing.{redrawn}
use Rattle.chain_laws.specs.declared.redrawing.Redrawing.{Redrawing}
use Rattle.chain_laws.specs.declared.redrawing.Redrawings.{Redrawings}
use Rattle.chain_laws.specs.Redraws.{redrawn_also, redrawn_by, IsPathFor, AreApart, AreRedrawings, AnyOf}
use Rattle.chain_laws.proofs.Elements.{Any-weaker}
use Rattle.chain_laws.proofs.RedrawnLinks.{redrawn_links}

-- ---- some redrawing of a step
-- a second redrawing, where there is one, fits the first
abbrev pub GoesWith : Redrawing → Option Redrawing → Type 0
GoesWith first second = MatchOption second (Unit {0}) (λ r. IsPathFor r × AreApart first r)

also_weaker : (P R : Redrawing → Type 0) (first : Redrawing) (second : Option Redrawing) → GoesWith first second
    → ((q : Redrawing) → IsPathFor q → P q → R q) → IsSomeAnd second P → IsSomeAnd second R
also_weaker P R first None fits step some = some
also_weaker P R first (Some r) fits step some = step r fits.0 some

pub AnyOf-weaker : (P R : Redrawing → Type 0) (step : Redrawings) → AreRedrawings step
    → ((q : Redrawing) → IsPathFor q → P q → R q) → AnyOf step P → AnyOf step R
AnyOf-weaker P R step are weaker (inl first) = inl (weaker step.first are.first first)
AnyOf-weaker P R step are weaker (inr second) = inr (also_weaker P R step.first step.second are.second weaker second)

also_constant : (A : Type 0) (second : Option Redrawing) → IsSomeAnd second (λ q. A) → A
also_constant A None some = absurd some
also_constant A (Some r) some = some

pub AnyOf-constant : (A : Type 0) (step : Redrawings) → AnyOf step (λ q. A) → A
AnyOf-constant A step (inl first) = first
AnyOf-constant A step (inr second) = also_constant A step.second second

also_cases : (P R : Redrawing → Type 0) (second : Option Redrawing) → IsSomeAnd second (λ q. P q ⊎ R q)
    → IsSomeAnd second P ⊎ IsSomeAnd second R
also_cases P R None some = inl some
also_cases P R (Some r) some = some

pub AnyOf-cases : (P R : Redrawing → Type 0) (step : Redrawings) → AnyOf step (λ q. P q ⊎ R q) → AnyOf step P ⊎ AnyOf step R
AnyOf-cases P R step (inl first) = elim first [ inl p ↦ inl (inl p) | inr r ↦ inr (inl r) ]
AnyOf-cases P R step (inr second) = elim (also_cases P R step.second second) [ inl p ↦ inl (inr p) | inr r ↦ inr (inr r) ]

also_decided : (P : Redrawing → Type 0) → ((q : Redrawing) → P q ⊎ (P q → ⊥)) → (second : Option Redrawing)
    → IsSomeAnd second P ⊎ (IsSomeAnd second P → ⊥)
also_decided P decided None = inr (λ h. h)
also_decided P decided (Some r) = decided r

pub AnyOf-decided : (P : Redrawing → Type 0) → ((q : Redrawing) → P q ⊎ (P q → ⊥)) → (step : Redrawings)
    → AnyOf step P ⊎ (AnyOf step P → ⊥)
AnyOf-decided P decided step = elim (decided step.first) [
  | inl first ↦ inl (inl first)
  | inr not_first ↦ elim (also_decided P decided step.second) [
    | inl second ↦ inl (inr second)
    | inr not_second ↦ inr (λ h. elim h [ inl first ↦ not_first first | inr second ↦ not_second second ])
  ]
]

also_of_some : {X : Type 0} (R : X → Redrawing → Type 0) (xs : List X) (second : Option Redrawing)
    → IsSomeAnd second (λ q. Any (λ x. R x q) xs) → Any (λ x. IsSomeAnd second (R x)) xs
also_of_some R xs None some = absurd some
also_of_some R xs (Some r) some = some

-- where a redrawing has an element, an element has a redrawing
pub AnyOf-of_some : {X : Type 0} (R : X → Redrawing → Type 0) (xs : List X) (step : Redrawings)
    → AnyOf step (λ q. Any (λ x. R x q) xs) → Any (λ x. AnyOf step (R x)) xs
AnyOf-of_some R xs step (inl first) = Any-weaker (λ x. R x step.first) (λ x. AnyOf step (R x)) (λ x here. inl here) xs first
AnyOf-of_some R xs step (inr second) =
    Any-weaker (λ x. IsSomeAnd step.second (R x)) (λ x. AnyOf step (R x)) (λ x here. inr here) xs
    (also_of_some R xs step.second second)

-- ---- the links after a step
-- the link was there and is no piece of the step, or it is on a path whose piece was there
StaysOrIsDrawn : Redrawing → Option Redrawing → List GridPoint → GridSegment → Type 0
StaysOrIsDrawn first second chain s =
    (HasLink chain s × (((s ≡ first.piece) ⊎ IsSomeAnd second (λ q. s ≡ q.piece)) → ⊥))
    ⊎ ((HasLink chain first.piece × HasLink first.path s)
    ⊎ IsSomeAnd second (λ q. HasLink chain q.piece × HasLink q.path s))

links_also : (first : Redrawing) (second : Option Redrawing) (chain : List GridPoint) (s : GridSegment) → IsPathFor first
    → GoesWith first second → IsBefore s.a s.b
    → HasLink (redrawn_also second (redrawn first.piece first.path chain)) s ↔ StaysOrIsDrawn first second chain s
unfolding StaysOrIsDrawn
links_also first None chain s path fits ordered =
    let once = redrawn_links first.piece first.path chain s path.ordered path.leads ordered in (
      λ h. elim (once.0 h) [
        | inl stays ↦ inl (stays.0, λ same. elim same [ inl is ↦ stays.1 is | inr none ↦ none ])
        | inr drawn ↦ inr (inl drawn)
      ],
      λ h. elim h [
        | inl stays ↦ once.1 (inl (stays.0, λ is. stays.1 (inl is)))
        | inr some ↦ elim some [ inl drawn ↦ once.1 (inr drawn) | inr none ↦ absurd none ]
      ],
    )
links_also first (Some r) chain s path fits ordered =
    let apart = fits.1 in
    let once = redrawn_links first.piece first.path chain s path.ordered path.leads ordered in
    let piece = redrawn_links first.piece first.path chain r.piece path.ordered path.leads fits.0.ordered in
    let drawn_once = redrawn first.piece first.path chain in
    let twice = redrawn_links r.piece r.path drawn_once s fits.0.ordered fits.0.leads ordered in (
      λ h. elim (twice.0 h) [
        | inl left ↦ elim (once.0 left.0) [
          | inl stays ↦ inl (stays.0, λ same. elim same [ inl is ↦ stays.1 is | inr is ↦ left.1 is ])
          | inr drawn ↦ inr (inl drawn)
        ]
        | inr drawn ↦ elim (piece.0 drawn.0) [
          | inl had ↦ inr (inr (had.0, drawn.1))
          | inr on_first ↦ absurd (apart.not_on_first on_first.1)
        ]
      ],
      λ h. elim h [
        | inl stays ↦ twice.1 (inl (once.1 (inl (stays.0, λ is. stays.1 (inl is))), λ is. stays.1 (inr is)))
        | inr some ↦ elim some [
          | inl drawn ↦ twice.1 (inl (once.1 (inr drawn), λ is. apart.not_on_first (subst (HasLink first.path) is drawn.1)))
          | inr drawn ↦ twice.1 (inr (piece.1 (inl (drawn.0, apart.other)), drawn.1))
        ]
      ],
    )

pub links_after : (step : Redrawings) (chain : List GridPoint) (s : GridSegment) → AreRedrawings step → IsBefore s.a s.b
    → HasLink (redrawn_by step chain) s
    ↔ ((HasLink chain s × (AnyOf step (λ q. s ≡ q.piece) → ⊥)) ⊎ AnyOf step (λ q. HasLink chain q.piece × HasLink q.path s))
unfolding StaysOrIsDrawn
links_after step chain s are ordered = links_also step.first step.second chain s are.first are.second ordered

-- ---- links of the paths
drawn_over : (first : Redrawing) (second : Option Redrawing) (s : GridSegment) → GoesWith first second
    → HasLink first.path s ⊎ IsSomeAnd second (λ q. HasLink q.path s)
    → ((s ≡ first.piece) × (HasLink first.path first.piece → ⊥))
    ⊎ IsSomeAnd second (λ q. (s ≡ q.piece) × (HasLink q.path q.piece → ⊥)) → ⊥
drawn_over first second s fits (inl drawn) (inl piece) = piece.1 (subst (HasLink first.path) piece.0 drawn)
drawn_over first None s fits (inl drawn) (inr none) = none
drawn_over first None s fits (inr none) piece = absurd none
drawn_over first (Some r) s fits (inl drawn) (inr piece) = fits.1.not_on_first (subst (HasLink first.path) piece.0 drawn)
drawn_over first (Some r) s fits (inr drawn) (inl piece) = fits.1.not_on_second (subst (HasLink r.path) piece.0 drawn)
drawn_over first (Some r) s fits (inr drawn) (inr piece) = piece.1 (subst (HasLink r.path) piece.0 drawn)

-- a link of a path of the step is no piece that its own path leaves out
pub path_is_kept : (step : Redrawings) (s : GridSegment) → AreRedrawings step → AnyOf step (λ q. HasLink q.path s)
    → AnyOf step (λ q. (s ≡ q.piece) × (HasLink q.path q.piece → ⊥)) → ⊥
path_is_kept step s are drawn piece = drawn_over step.first step.second s are.second drawn piece
