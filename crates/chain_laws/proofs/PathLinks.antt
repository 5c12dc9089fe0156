-- This file shows which segments are links of a path, told link by link.
use Rattle.std.proofs.Common.{◌≡◌, ◌≢◌, ◌⊎◌, ◌↔◌, ℕ, zero, suc, ◌+◌, ◌-◌, ◌<◌, ◌≤◌}
use Rattle.std.proofs.Common.{List, [], ◌∷◌, ◌++◌, length, get_or, take, drop}
use Rattle.std.proofs.Common.{Bool, true, false, if◌then◌else◌, Some}
use Rattle.std.proofs.Common.{refl, sym, ap, ap₂, ◌∙◌, subst, inl, inr, arith, add-one, take-append-drop}
use Rattle.std.specs.Option.{IsNone}
use Rattle.std.proofs.lemmas.Bool.Decides.{nat_tests}
use Rattle.std.proofs.lemmas.List.{get_or_default}
use Rattle.grid_base.specs.Point.{GridPoint, point_at, IsBefore, is_before}
use Rattle.grid_base.specs.Segment.{GridSegment, segment_of}
use Rattle.grid_base.specs.Drawing.{IsLink, HasLink}
use Rattle.grid_base.proofs.Orders.{IsBefore-asym, segment_between}
use Rattle.hook_chain.specs.Chains.{IsBetween}

-- ---- links by place
link_from_front : (xs ys : List GridPoint) (t : GridSegment) → HasLink xs t → HasLink (xs ++ ys) t
link_from_front [] ys t link = absurd link
link_from_front (v ∷ []) ys t link = absurd link
link_from_front (v ∷ w ∷ xs) ys t link =
    elim link [ inl here ↦ inl here | inr later ↦ inr (link_from_front (w ∷ xs) ys t later) ]

-- a link of a first part of the path is a link of it
pub link_from_take : (i : ℕ) (path : List GridPoint) (t : GridSegment) → HasLink (take i path) t → HasLink path t
link_from_take i path t link =
    subst (λ p. HasLink p t) (take-append-drop i path) (link_from_front (take i path) (drop i path) t link)

-- one point has no link
pub no_link_at_first : (path : List GridPoint) (t : GridSegment) → HasLink (take 1 path) t → ⊥
no_link_at_first [] t link = link
no_link_at_first (v ∷ path) t link = link

-- the points at places j and j + 1 are one link more
link_at : (path : List GridPoint) (j : ℕ) (d : GridPoint) (t : GridSegment) → suc j < length path
    → HasLink (take (suc (suc j)) path) t
    ↔ (HasLink (take (suc j) path) t ⊎ IsLink t (get_or path j d) (get_or path (suc j) d))
link_at [] j d t within = absurd (omega arith)
link_at (v ∷ []) j d t within = absurd (omega arith)
link_at (v ∷ w ∷ path) zero d t within = (
  λ link. elim link [ inl here ↦ inr here | inr later ↦ absurd later ],
  λ either. elim either [ inl before ↦ absurd before | inr here ↦ inl here ],
)
link_at (v ∷ w ∷ path) (suc j) d t within =
    let rest = link_at (w ∷ path) j d t (omega arith) in (
      λ link. elim link [
        | inl first ↦ inl (inl first)
        | inr later ↦ elim (rest.0 later) [ inl before ↦ inl (inr before) | inr here ↦ inr here ]
      ],
      λ either. elim either [
        | inl (inl first) ↦ inl first
        | inl (inr before) ↦ inr (rest.1 (inl before))
        | inr here ↦ inr (rest.1 (inr here))
      ],
    )

-- the point at place i and the one before it are one link more
pub link_more : (path : List GridPoint) (i : ℕ) (v w : GridPoint) (t : GridSegment) → 1 ≤ i → i < length path
    → v ≡ get_or path (i - 1) v → w ≡ get_or path i w
    → HasLink (take (i + 1) path) t ↔ (HasLink (take i path) t ⊎ IsLink t v w)
link_more path zero v w t some within is_v is_w = absurd (omega arith)
link_more path (suc j) v w t some within is_v is_w =
    let before : suc j - 1 ≡ j = omega arith in
    let v_at = is_v ∙ ap (λ k. get_or path k v) before in
    let w_at = is_w ∙ get_or_default path (suc j) w v within in
    rw (add-one, v_at, w_at) (link_at path j v t within)

-- ---- the segment between two points
-- the lesser point is the end a
pub segment_of-between : (v w : GridPoint) → v ≢ w → IsBetween (segment_of v w) v w
segment_of-between v w apart = by_order (is_before v w) refl
  where
    by_order : (before : Bool) → is_before v w ≡ before
        → IsBetween (if before then segment_between v w else segment_between w v) v w
    by_order true is = (inl (refl, refl), grind (arith, nat_tests))
    by_order false is =
        let same : v.x ≡ w.x → v.y ≡ w.y → ⊥ = λ x y. apart (ap₂ point_at x y) in
        (inr (refl, refl), grind (arith, nat_tests))

-- it is the only one
pub one_between : (s t : GridSegment) (v w : GridPoint) → IsBetween s v w → IsBetween t v w → s ≡ t
one_between s t v w (inl (v_a, w_b), s_ordered) (inl (v_c, w_d), t_ordered) =
    ap₂ segment_between (sym v_a ∙ v_c) (sym w_b ∙ w_d)
one_between s t v w (inr (v_b, w_a), s_ordered) (inr (v_d, w_c), t_ordered) =
    ap₂ segment_between (sym w_a ∙ w_c) (sym v_b ∙ v_d)
one_between s t v w (inl (v_a, w_b), s_ordered) (inr (v_d, w_c), t_ordered) =
    let turned = subst (λ p. IsBefore p s.a) (sym w_c ∙ w_b) (subst (IsBefore t.a) (sym v_d ∙ v_a) t_ordered) in
    absurd (IsBefore-asym s.a s.b s_ordered turned)
one_between s t v w (inr (v_b, w_a), s_ordered) (inl (v_c, w_d), t_ordered) =
    let turned = subst (λ p. IsBefore p s.a) (sym v_c ∙ v_b) (subst (IsBefore t.a) (sym w_d ∙ w_a) t_ordered) in
    absurd (IsBefore-asym s.a s.b s_ordered turned)

-- a segment that was made of two points is the one between them
pub made_between : (s t : GridSegment) (v w : GridPoint) → (IsNone (Some s) ↔ (v ≡ w)) → s ≡ segment_of v w
    → IsBetween t v w ↔ (t ≡ s)
made_between s t v w none is =
    let between = segment_of-between v w (λ same. cc (none.1 same)) in (
      λ other. one_between t (segment_of v w) v w other between ∙ sym is,
      λ same. subst (λ p. IsBetween p v w) (sym (same ∙ is)) between,
    )
