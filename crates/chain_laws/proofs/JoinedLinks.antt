-- This file shows which links a path has when it is turned round, and with another path behind it.
use Rattle.std.proofs.Common.{◌≡◌, ◌⊎◌, ◌↔◌, List, [], ◌∷◌, ◌++◌, reverse, sym, subst, ◌∙◌, inl, inr}
use Rattle.std.proofs.lemmas.List.{reverse-append}
use Rattle.grid_base.specs.Point.{GridPoint}
use Rattle.grid_base.specs.Segment.{GridSegment}
use Rattle.grid_base.specs.Drawing.{IsLink, HasLink}
use Rattle.hook_chain.specs.Chains.{RunsFrom}
use Rattle.hook_chain.specs.Redrawing.{front}
use Rattle.hook_chain.proofs.Paths.{leads_back, reverse_is}

-- ---- one link
turned_link : (s : GridSegment) (v w : GridPoint) → IsLink s v w → IsLink s w v
turned_link s v w (inl forth) = inr (forth.1, forth.0)
turned_link s v w (inr back) = inl (back.1, back.0)

-- ---- a path and what follows it
-- the list begins with p
abbrev pub BeginsWith : GridPoint → List GridPoint → Type 0
BeginsWith p [] = ⊥
BeginsWith p (q ∷ list) = q ≡ p

begins_at : (p q : GridPoint) (list : List GridPoint) → p ≡ q → BeginsWith p list → BeginsWith q list
begins_at p q list same begins = subst (λ r. BeginsWith r list) same begins

-- a path without its last point, and what begins with that point
pub path_begins : (a b : GridPoint) (path rest : List GridPoint) → RunsFrom a b path → BeginsWith b rest
    → BeginsWith a (front path ++ rest)
path_begins a b [] rest leads begins = absurd leads
path_begins a b (p ∷ []) rest leads begins = begins_at b a rest (sym leads.1 ∙ leads.0) begins
path_begins a b (p ∷ q ∷ path) rest leads begins = leads.0

pub first_link : (s : GridSegment) (p q : GridPoint) (list : List GridPoint) → BeginsWith q list
    → HasLink (p ∷ list) s ↔ (IsLink s p q ⊎ HasLink list s)
first_link s p q [] begins = absurd begins
first_link s p q (r ∷ list) begins = (
  λ h. elim h [ inl here ↦ inl (subst (IsLink s p) begins here) | inr there ↦ inr there ],
  λ h. elim h [ inl here ↦ inl (subst (IsLink s p) (sym begins) here) | inr there ↦ inr there ],
)

-- together they have the links of both
pub joined_links : (s : GridSegment) (a b : GridPoint) (path rest : List GridPoint) → RunsFrom a b path → BeginsWith b rest
    → HasLink (front path ++ rest) s ↔ (HasLink path s ⊎ HasLink rest s)
joined_links s a b [] rest leads begins = absurd leads
joined_links s a b (p ∷ []) rest leads begins = (λ h. inr h, λ h. elim h [ inl none ↦ absurd none | inr link ↦ link ])
joined_links s a b (p ∷ q ∷ path) rest leads begins =
    let first = first_link s p q (front (q ∷ path) ++ rest) (path_begins q b (q ∷ path) rest leads.1 begins) in
    let later = joined_links s q b (q ∷ path) rest leads.1 begins in (
      λ h. elim (first.0 h) [
        | inl here ↦ inl (inl here)
        | inr there ↦ elim (later.0 there) [ inl link ↦ inl (inr link) | inr link ↦ inr link ]
      ],
      λ h. elim h [
        | inl link ↦ elim link [ inl here ↦ first.1 (inl here) | inr there ↦ first.1 (inr (later.1 (inl there))) ]
        | inr link ↦ first.1 (inr (later.1 (inr link)))
      ],
    )

-- ---- the path back
pushed_links : (s : GridSegment) (a b v : GridPoint) (path : List GridPoint) → RunsFrom a b path
    → HasLink (path ++ v ∷ []) s ↔ (HasLink path s ⊎ IsLink s b v)
pushed_links s a b v [] leads = absurd leads
pushed_links s a b v (p ∷ []) leads = (
  λ h. elim h [ inl here ↦ inr (subst (λ q. IsLink s q v) leads.1 here) | inr none ↦ absurd none ],
  λ h. elim h [ inl none ↦ absurd none | inr last ↦ inl (subst (λ q. IsLink s q v) (sym leads.1) last) ],
)
pushed_links s a b v (p ∷ q ∷ path) leads =
    let later = pushed_links s q b v (q ∷ path) leads.1 in (
      λ h. elim h [
        | inl here ↦ inl (inl here)
        | inr there ↦ elim (later.0 there) [ inl link ↦ inl (inr link) | inr last ↦ inr last ]
      ],
      λ h. elim h [
        | inl link ↦ elim link [ inl here ↦ inl here | inr there ↦ inr (later.1 (inl there)) ]
        | inr last ↦ inr (later.1 (inr last))
      ],
    )

pub leads_back_by_reverse : (a b : GridPoint) (path : List GridPoint) → RunsFrom a b path → RunsFrom b a (reverse path)
leads_back_by_reverse a b path leads = subst (RunsFrom b a) (sym (reverse_is path)) (leads_back a b path leads)

pub reversed_links : (s : GridSegment) (a b : GridPoint) (path : List GridPoint) → RunsFrom a b path
    → HasLink (reverse path) s ↔ HasLink path s
reversed_links s a b [] leads = absurd leads
reversed_links s a b (v ∷ []) leads = (λ h. h, λ h. h)
reversed_links s a b (v ∷ w ∷ path) leads =
    let way = reverse (w ∷ path) in
    let pushed = pushed_links s b w v way (leads_back_by_reverse w b (w ∷ path) leads.1) in
    let later = reversed_links s w b (w ∷ path) leads.1 in
    subst (λ (list : List GridPoint). HasLink list s ↔ HasLink (v ∷ w ∷ path) s)
    (sym (reverse-append (v ∷ []) (w ∷ path))) (
      λ h. elim (pushed.0 h) [ inl link ↦ inr (later.0 link) | inr first ↦ inl (turned_link s w v first) ],
      λ h. elim h [ inl first ↦ pushed.1 (inr (turned_link s v w first)) | inr link ↦ pushed.1 (inl (later.1 link)) ],
    )
