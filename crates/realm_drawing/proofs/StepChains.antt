-- This file shows which links and vertices of a chain stay where the paths of a step are drawn in it.
use Rattle.std.proofs.Common.{◌≡◌, ◌⊎◌, Option, Some, None, MatchOption, List, Contains, inl, inr}
use Rattle.grid_base.specs.Point.{GridPoint, IsBefore}
use Rattle.grid_base.specs.Segment.{GridSegment}
use Rattle.grid_base.specs.Drawing.{HasLink}
use Rattle.component_registry.proofs.Lookups.{this_segment_or_other}
use Rattle.hook_chain.specs.Redrawing.{redrawn}
use Rattle.chain_laws.specs.Redraws.{IsPathFor, AreApart, IsRedrawn, redrawn_by}
use Rattle.chain_laws.specs.declared.redrawing.Redrawing.{Redrawing}
use Rattle.chain_laws.specs.declared.redrawing.Redrawings.{Redrawings}
use Rattle.chain_laws.proofs.RedrawnLinks.{redrawn_links}
use Rattle.realm_drawing.proofs.RedrawnVertices.{stays_in_redrawn}

-- ---- one path
-- a link stays unless it is redrawn
link_stays_after : (r : Redrawing) (chain : List GridPoint) (s : GridSegment) → IsPathFor r → IsBefore s.a s.b
    → HasLink chain s → HasLink (redrawn r.piece r.path chain) s ⊎ (s ≡ r.piece)
link_stays_after r chain s path ordered link = elim (this_segment_or_other r.piece s) [
  | inl same ↦ inr same
  | inr other ↦
      inl ((redrawn_links r.piece r.path chain s path.ordered path.leads ordered).1 (inl (link, other)))
]

-- ---- one path or two
-- the paths of a step
abbrev both : Redrawing → Option Redrawing → Redrawings
both first second = record { first = first; second = second }

-- they may stand for the pieces
abbrev pub ArePaths : Redrawing → Option Redrawing → Type 0
ArePaths first second = IsPathFor first × MatchOption second (Unit {0}) (λ r. IsPathFor r × AreApart first r)

-- a link stays unless it is redrawn
pub link_stays : (first : Redrawing) (second : Option Redrawing) (chain : List GridPoint) (s : GridSegment)
    → ArePaths first second → IsBefore s.a s.b → HasLink chain s
    → HasLink (redrawn_by (both first second) chain) s ⊎ IsRedrawn (both first second) s
link_stays first None chain s paths ordered link = elim (link_stays_after first chain s paths.0 ordered link) [
  | inl there ↦ inl there
  | inr same ↦ inr (inl same)
]
link_stays first (Some r) chain s paths ordered link = elim (link_stays_after first chain s paths.0 ordered link) [
  | inl there ↦ elim (link_stays_after r (redrawn first.piece first.path chain) s paths.1.0 ordered there) [
    | inl still ↦ inl still
    | inr same ↦ inr (inr same)
  ]
  | inr same ↦ inr (inl same)
]

-- and a vertex stays
pub vertex_stays : (first : Redrawing) (second : Option Redrawing) (chain : List GridPoint) (p : GridPoint)
    → ArePaths first second → Contains chain p → Contains (redrawn_by (both first second) chain) p
vertex_stays first None chain p paths there = stays_in_redrawn first.piece first.path chain p paths.0.leads there
vertex_stays first (Some r) chain p paths there =
    let once = redrawn first.piece first.path chain in
    let there_once = stays_in_redrawn first.piece first.path chain p paths.0.leads there in
    stays_in_redrawn r.piece r.path once p paths.1.0.leads there_once
