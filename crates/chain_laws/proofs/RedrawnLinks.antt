-- This file shows which links a redrawn chain has: its own but the piece, and those of the path if it had the piece.
use Rattle.std.proofs.Common.{◌≡◌, ◌≢◌, ◌⊎◌, ◌↔◌, List, [], ◌∷◌, ◌++◌, reverse}
use Rattle.std.proofs.Common.{refl, sym, ap₂, subst, inl, inr}
use Rattle.grid_base.specs.Point.{GridPoint, IsBefore}
use Rattle.grid_base.specs.Segment.{GridSegment}
use Rattle.grid_base.specs.Drawing.{IsLink, HasLink}
use Rattle.hook_chain.specs.Chains.{RunsFrom}
use Rattle.hook_chain.specs.Redrawing.{front, redrawn}
use Rattle.chain_laws.proofs.JoinedLinks.{BeginsWith, path_begins, first_link}
use Rattle.chain_laws.proofs.JoinedLinks.{joined_links, leads_back_by_reverse, reversed_links}
use Rattle.chain_laws.proofs.PathLinks.{one_between}
use Rattle.chain_laws.specs.Stretches.{stretch}
use Rattle.chain_laws.proofs.Stretches.{Drawn, drawn, other_stretch}
use Rattle.chain_laws.proofs.Stretches.Drawn.{Forth, Back, Other}

-- ---- what stands for one link
-- the list stands for the link from v to w: the links of the path for the piece, and else the link itself
record Stands (t : GridSegment) (path : List GridPoint) (v w : GridPoint) (list rest : List GridPoint) : Type 0 where
  begins : BeginsWith v (list ++ rest)
  links : (s : GridSegment)
      → (IsLink t v w × (HasLink (list ++ rest) s ↔ (HasLink path s ⊎ HasLink rest s)))
      ⊎ ((IsLink t v w → ⊥) × (HasLink (list ++ rest) s ↔ (IsLink s v w ⊎ HasLink rest s)))

path_stands : (t : GridSegment) (path : List GridPoint) (v w : GridPoint) (way rest : List GridPoint) → IsLink t v w
    → RunsFrom v w way → ((s : GridSegment) → HasLink way s ↔ HasLink path s) → BeginsWith w rest
    → Stands t path v w (front way) rest
path_stands t path v w way rest link leads same begins = record {
  begins = path_begins v w way rest leads begins;
  links = λ s.
      let joined = joined_links s v w way rest leads begins in
      inl (
        link,
        (
          λ h. elim (joined.0 h) [ inl there ↦ inl ((same s).0 there) | inr later ↦ inr later ],
          λ h. elim h [ inl there ↦ joined.1 (inl ((same s).1 there)) | inr later ↦ joined.1 (inr later) ],
        ),
      );
}

stands : (t : GridSegment) (path : List GridPoint) (v w : GridPoint) (rest : List GridPoint) → RunsFrom t.a t.b path
    → BeginsWith w rest → Stands t path v w (stretch t path v w) rest
stands t path v w rest leads begins = by_case (stretch t path v w) (drawn t path v w)
  where
    by_case : (way : List GridPoint) → Drawn t path v w way → Stands t path v w way rest
    by_case way (Forth v_is w_is is) =
        let leads_on : RunsFrom v w path =
        subst (λ p. RunsFrom p w path) (sym v_is) (subst (λ q. RunsFrom t.a q path) (sym w_is) leads) in
        subst (λ (l : List GridPoint). Stands t path v w l rest) (sym is)
        (path_stands t path v w path rest (inl (v_is, w_is)) leads_on (λ s. (λ h. h, λ h. h)) begins)
    by_case way (Back not_forth v_is w_is is) =
        let back = reverse path in
        let leads_on : RunsFrom v w back =
        subst (λ p. RunsFrom p w back) (sym v_is)
        (subst (λ q. RunsFrom t.b q back) (sym w_is) (leads_back_by_reverse t.a t.b path leads)) in
        subst (λ (l : List GridPoint). Stands t path v w l rest) (sym is)
        (path_stands t path v w back rest (inr (v_is, w_is)) leads_on (λ s. reversed_links s t.a t.b path leads) begins)
    by_case way (Other not_link is) =
        subst (λ (l : List GridPoint). Stands t path v w l rest) (sym is)
        (record { begins = refl; links = λ s. inr (not_link, first_link s v w rest begins) })

-- ---- the whole chain
pub redrawn_begins : (t : GridSegment) (path : List GridPoint) (v : GridPoint) (chain : List GridPoint) → RunsFrom t.a t.b path
    → BeginsWith v (redrawn t path (v ∷ chain))
redrawn_begins t path v [] leads = refl
redrawn_begins t path v (w ∷ chain) leads =
    (stands t path v w (redrawn t path (w ∷ chain)) leads (redrawn_begins t path w chain leads)).begins

-- the links of the redrawn chain
pub redrawn_links : (t : GridSegment) (path chain : List GridPoint) (s : GridSegment) → IsBefore t.a t.b
    → RunsFrom t.a t.b path → IsBefore s.a s.b
    → HasLink (redrawn t path chain) s ↔ ((HasLink chain s × (s ≢ t)) ⊎ (HasLink chain t × HasLink path s))
redrawn_links t path [] s ordered leads s_ordered = (
  λ h. absurd h,
  λ h. elim h [ inl stays ↦ absurd stays.0 | inr on_path ↦ absurd on_path.0 ],
)
redrawn_links t path (v ∷ []) s ordered leads s_ordered = (
  λ h. absurd h,
  λ h. elim h [ inl stays ↦ absurd stays.0 | inr on_path ↦ absurd on_path.0 ],
)
redrawn_links t path (v ∷ w ∷ chain) s ordered leads s_ordered =
    let rest = redrawn t path (w ∷ chain) in
    let later = redrawn_links t path (w ∷ chain) s ordered leads s_ordered in
    let first = (stands t path v w rest leads (redrawn_begins t path w chain leads)).links s in
    elim first [
      | inl piece ↦ (
        λ h. elim (piece.1.0 h) [
          | inl on_path ↦ inr (inl piece.0, on_path)
          | inr link ↦ elim (later.0 link) [
            | inl stays ↦ inl (inr stays.0, stays.1)
            | inr on_path ↦ inr (inr on_path.0, on_path.1)
          ]
        ],
        λ h. elim h [
          | inl stays ↦ elim stays.0 [
            | inl here ↦ absurd (stays.1 (one_between s t v w (here, s_ordered) (piece.0, ordered)))
            | inr there ↦ piece.1.1 (inr (later.1 (inl (there, stays.1))))
          ]
          | inr on_path ↦ piece.1.1 (inl on_path.1)
        ],
      )
      | inr other ↦ (
        λ h. elim (other.1.0 h) [
          | inl here ↦ inl (inl here, λ same. other.0 (subst (λ r. IsLink r v w) same here))
          | inr link ↦ elim (later.0 link) [
            | inl stays ↦ inl (inr stays.0, stays.1)
            | inr on_path ↦ inr (inr on_path.0, on_path.1)
          ]
        ],
        λ h. elim h [
          | inl stays ↦ elim stays.0 [
            | inl here ↦ other.1.1 (inl here)
            | inr there ↦ other.1.1 (inr (later.1 (inl (there, stays.1))))
          ]
          | inr on_path ↦ elim on_path.0 [
            | inl here ↦ absurd (other.0 here)
            | inr there ↦ other.1.1 (inr (later.1 (inr (there, on_path.1))))
          ]
        ],
      )
    ]

-- ---- chains without the piece
is_link_or_not : (t : GridSegment) (v w : GridPoint) → IsLink t v w ⊎ (IsLink t v w → ⊥)
is_link_or_not t v w = by_case (drawn t [] v w)
  where
    by_case : Drawn t [] v w (stretch t [] v w) → IsLink t v w ⊎ (IsLink t v w → ⊥)
    by_case (Forth v_is w_is is) = inl (inl (v_is, w_is))
    by_case (Back not_forth v_is w_is is) = inl (inr (v_is, w_is))
    by_case (Other not_link is) = inr not_link

pub has_link_or_not : (chain : List GridPoint) (t : GridSegment) → HasLink chain t ⊎ (HasLink chain t → ⊥)
has_link_or_not [] t = inr (λ h. h)
has_link_or_not (v ∷ []) t = inr (λ h. h)
has_link_or_not (v ∷ w ∷ chain) t = elim (is_link_or_not t v w) [
  | inl here ↦ inl (inl here)
  | inr not_here ↦ elim (has_link_or_not (w ∷ chain) t) [
    | inl there ↦ inl (inr there)
    | inr nowhere ↦ inr (λ h. elim h [ inl here ↦ not_here here | inr there ↦ nowhere there ])
  ]
]

pub redrawn_without : (t : GridSegment) (path chain : List GridPoint) → (HasLink chain t → ⊥) → redrawn t path chain ≡ chain
redrawn_without t path [] none = refl
redrawn_without t path (v ∷ []) none = refl
redrawn_without t path (v ∷ w ∷ chain) none =
    ap₂ (λ (way rest : List GridPoint). way ++ rest) (other_stretch t path v w (λ here. none (inl here)))
    (redrawn_without t path (w ∷ chain) (λ there. none (inr there)))
