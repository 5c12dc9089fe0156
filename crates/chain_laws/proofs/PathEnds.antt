-- This file shows that each vertex of a path between two points is an end of one of its links.
use Rattle.std.proofs.Common.{◌≡◌, ◌≢◌, ◌⊎◌, List, [], ◌∷◌, Contains, sym, subst, ◌∙◌, inl, inr}
use Rattle.grid_base.specs.Point.{GridPoint, IsBefore}
use Rattle.grid_base.specs.Segment.{GridSegment, IsEnd, segment_of}
use Rattle.grid_base.specs.Drawing.{IsLink, HasLink}
use Rattle.grid_base.proofs.Ends.{not_before_itself}
use Rattle.grid_base.proofs.Elements.{Contains-cases, Contains-nil}
use Rattle.chain_laws.proofs.Lookups.{this_point_or_other}
use Rattle.hook_chain.specs.Chains.{RunsFrom}
use Rattle.chain_laws.proofs.Elements.{Contains-head}
use Rattle.chain_laws.proofs.PathLinks.{segment_of-between}

-- s is a link of the path, its lesser end first, and p is an end of it
pub record IsLinkEnd (path : List GridPoint) (p : GridPoint) (s : GridSegment) : Type 0 where
  pub ordered : IsBefore s.a s.b
  pub link : HasLink path s
  pub end : IsEnd p s

-- ---- one link
starts : (s : GridSegment) (v w : GridPoint) → IsLink s v w → IsEnd v s
starts s v w (inl forth) = inl forth.0
starts s v w (inr back) = inr back.0

finishes : (s : GridSegment) (v w : GridPoint) → IsLink s v w → IsEnd w s
finishes s v w (inl forth) = inr forth.1
finishes s v w (inr back) = inl back.1

first_link_at : (v w p : GridPoint) (path : List GridPoint) → v ≢ w → (v ≡ p) ⊎ (w ≡ p)
    → IsLinkEnd (v ∷ w ∷ path) p (segment_of v w)
first_link_at v w p path apart either =
    let s = segment_of v w in
    let made = segment_of-between v w apart in
    record {
      ordered = made.1;
      link = inl made.0;
      end = elim either [
        | inl first ↦ subst (λ q. IsEnd q s) first (starts s v w made.0)
        | inr second ↦ subst (λ q. IsEnd q s) second (finishes s v w made.0)
      ];
    }

later_link_at : (v w p : GridPoint) (path : List GridPoint) (s : GridSegment) → IsLinkEnd (w ∷ path) p s
    → IsLinkEnd (v ∷ w ∷ path) p s
later_link_at v w p path s at = record { ordered = at.ordered; link = inr at.link; end = at.end }

-- ---- the whole path
-- both ends of the path are p, or p is an end of a link
abbrev IsAlone : GridPoint → GridPoint → List GridPoint → GridPoint → Type 0
IsAlone a b path p = ((a ≡ p) × (b ≡ p)) ⊎ ((s : GridSegment) × IsLinkEnd path p s)

-- a path stays at p, or a link of it leads to p or away
alone_or_at_link : (a b : GridPoint) (path : List GridPoint) (p : GridPoint) → RunsFrom a b path → Contains path p
    → IsAlone a b path p
alone_or_at_link a b [] p leads there = absurd leads
alone_or_at_link a b (v ∷ []) p leads there = elim (Contains-cases v [] p there) [
  | inl here ↦ inl (sym leads.0 ∙ here, sym leads.1 ∙ here)
  | inr none_left ↦ absurd (Contains-nil p none_left)
]
alone_or_at_link a b (v ∷ w ∷ path) p leads there = elim (Contains-cases v (w ∷ path) p there) [
  | inl here ↦ elim (this_point_or_other p w) [
    | inl same ↦ elim (alone_or_at_link w b (w ∷ path) p leads.1 (Contains-head w path p same)) [
      | inl alone ↦ inl (sym leads.0 ∙ here, alone.1)
      | inr (s, at) ↦ inr (s, later_link_at v w p path s at)
    ]
    | inr other ↦ inr (segment_of v w, first_link_at v w p path (λ is. other (sym is ∙ here)) (inl here))
  ]
  | inr later ↦ elim (alone_or_at_link w b (w ∷ path) p leads.1 later) [
    | inl alone ↦ elim (this_point_or_other p v) [
      | inl same ↦ inl (sym leads.0 ∙ same, alone.1)
      | inr other ↦ inr (segment_of v w, first_link_at v w p path (λ is. other (is ∙ alone.0)) (inr alone.0))
    ]
    | inr (s, at) ↦ inr (s, later_link_at v w p path s at)
  ]
]

-- a path to another point doesn't stay
pub vertex_is_link_end : (a b : GridPoint) (path : List GridPoint) (p : GridPoint) → IsBefore a b → RunsFrom a b path
    → Contains path p → (s : GridSegment) × IsLinkEnd path p s
vertex_is_link_end a b path p ordered leads there = elim (alone_or_at_link a b path p leads there) [
  | inl alone ↦ absurd (not_before_itself a b (alone.0 ∙ sym alone.1) ordered)
  | inr at_link ↦ at_link
]
