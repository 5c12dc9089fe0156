-- This file shows that a chain stays valid where a path that may stand for a piece is drawn in the place of the piece.
use Rattle.std.proofs.Common.{◌≡◌, ◌⊎◌, ◌+◌, List, [], ◌∷◌, ◌++◌, reverse}
use Rattle.std.proofs.Common.{refl, ap, subst, sym, ◌∙◌, arith, inl, inr}
use Rattle.grid_base.specs.Point.{GridPoint, IsBefore}
use Rattle.grid_base.specs.Segment.{GridSegment}
use Rattle.hook_chain.specs.Close.{Close}
use Rattle.hook_chain.specs.Chains.{AllLinks, RunsFrom}
use Rattle.hook_chain.specs.Redrawing.{front, redrawn}
use Rattle.hook_chain.specs.ValidChain.{IsCloseChain, ValidChain}
use Rattle.hook_chain.proofs.Exchange.{way}
use Rattle.chain_laws.proofs.Boxes.{IsInChain, links_in_chain}
use Rattle.chain_laws.proofs.ChainJoins.{GoesOn, join_ways}
use Rattle.chain_laws.specs.Stretches.{stretch}
use Rattle.chain_laws.proofs.Stretches.{Drawn, drawn}
use Rattle.chain_laws.proofs.Stretches.Drawn.{Forth, Back, Other}

-- ---- what may be drawn for a piece
-- the path leads from v to w as a chain of o may, where the link is one of a chain of o and is close
abbrev pub Serves : GridSegment → GridPoint → GridPoint → List GridPoint → Type 0
Serves o v w path = IsInChain o v w → Close o (way v w) → GoesOn o v w path

-- t is one column wide and level, or one row high and upright
abbrev pub IsUnit : GridSegment → Type 0
IsUnit t = ((t.b.x ≡ t.a.x) × (t.b.y ≡ t.a.y + 1)) ⊎ ((t.b.x ≡ t.a.x + 1) × (t.b.y ≡ t.a.y))

-- the path may stand for the piece t in each chain of o: both ways, and a piece of length 1 is left as it is
pub record Replaces (o t : GridSegment) (path : List GridPoint) : Type 0 where
  pub forth : Serves o t.a t.b path
  pub back : Serves o t.b t.a (reverse path)
  pub unit : IsUnit t → path ≡ t.a ∷ t.b ∷ []

-- what is drawn for a close link, with the rest of the chain
link_drawn : (o t : GridSegment) (path : List GridPoint) (v w b : GridPoint) (list rest : List GridPoint)
    → Replaces o t path → IsInChain o v w → Close o (way v w) → GoesOn o w b rest → Drawn t path v w list
    → GoesOn o v b (list ++ rest)
link_drawn o t path v w b list rest replaces inside close after (Forth v_is w_is is) =
    let serves : Serves o v w path =
    subst (λ (p : GridPoint). Serves o p w path) (sym v_is)
    (subst (λ (q : GridPoint). Serves o t.a q path) (sym w_is) replaces.forth) in
    subst (λ (l : List GridPoint). GoesOn o v b (l ++ rest)) (sym is)
    (join_ways o v w b path rest (serves inside close) after)
link_drawn o t path v w b list rest replaces inside close after (Back not_forth v_is w_is is) =
    let serves : Serves o v w (reverse path) =
    subst (λ (p : GridPoint). Serves o p w (reverse path)) (sym v_is)
    (subst (λ (q : GridPoint). Serves o t.b q (reverse path)) (sym w_is) replaces.back) in
    subst (λ (l : List GridPoint). GoesOn o v b (l ++ rest)) (sym is)
    (join_ways o v w b (reverse path) rest (serves inside close) after)
link_drawn o t path v w b list rest replaces inside close after (Other not_link is) =
    let link : GoesOn o v w (v ∷ w ∷ []) =
    record { leads = (refl, (refl, refl)); monotone = (inside.monotone, tt); close = close } in
    subst (λ (l : List GridPoint). GoesOn o v b (l ++ rest)) (sym is)
    (join_ways o v w b (v ∷ w ∷ []) rest link after)

-- the link from v to w leads a row down or a column to the right
abbrev IsUnitLink : GridPoint → GridPoint → Type 0
IsUnitLink v w = ((w.x ≡ v.x) × (v.y ≡ w.y + 1)) ⊎ ((w.x ≡ v.x + 1) × (w.y ≡ v.y))

-- such a link is drawn as it is
unit_drawn : (o t : GridSegment) (path : List GridPoint) (v w : GridPoint) (list : List GridPoint) → IsBefore t.a t.b
    → Replaces o t path → IsUnitLink v w → Drawn t path v w list → list ≡ v ∷ []
unit_drawn o t path v w list ordered replaces unit (Forth v_is w_is is) =
    let link = subst (λ (p : GridPoint). IsUnitLink p t.b) v_is (subst (λ (q : GridPoint). IsUnitLink v q) w_is unit) in
    is ∙ ap front (replaces.unit (by_cases link)) ∙ ap (λ (p : GridPoint). p ∷ []) (sym v_is)
  where
    by_cases : IsUnitLink t.a t.b → IsUnit t
    by_cases (inl down) = absurd (omega arith)
    by_cases (inr right) = inr right
unit_drawn o t path v w list ordered replaces unit (Back not_forth v_is w_is is) =
    let link = subst (λ (p : GridPoint). IsUnitLink p t.a) v_is (subst (λ (q : GridPoint). IsUnitLink v q) w_is unit) in
    is ∙ ap (λ (l : List GridPoint). front (reverse l)) (replaces.unit (by_cases link))
    ∙ ap (λ (p : GridPoint). p ∷ []) (sym v_is)
  where
    by_cases : IsUnitLink t.b t.a → IsUnit t
    by_cases (inl down) = inl (sym down.0, down.1)
    by_cases (inr right) = absurd (omega arith)
unit_drawn o t path v w list ordered replaces unit (Other not_link is) = is

-- ---- the chain
-- link by link: a close link is drawn by the path or as it is, and the two of a corner as they are
redrawn_goes : (o t : GridSegment) (path : List GridPoint) (v b : GridPoint) (chain : List GridPoint) → IsBefore t.a t.b
    → Replaces o t path → AllLinks (IsInChain o) chain → RunsFrom v b chain → IsCloseChain o chain
    → GoesOn o v b (redrawn t path chain)
redrawn_goes o t path v b [] ordered replaces inside leads close = absurd leads
redrawn_goes o t path v b (p ∷ []) ordered replaces inside leads close = record { leads = leads; monotone = tt; close = tt }
redrawn_goes o t path v b (p ∷ q ∷ []) ordered replaces inside leads close =
    let last : GoesOn o q b (q ∷ []) = record { leads = leads.1; monotone = tt; close = tt } in
    subst (λ (r : GridPoint). GoesOn o r b (redrawn t path (p ∷ q ∷ []))) leads.0
    (link_drawn o t path p q b (stretch t path p q) (q ∷ []) replaces inside.0 close last (drawn t path p q))
redrawn_goes o t path v b (p ∷ q ∷ r ∷ chain) ordered replaces inside leads (inl link) =
    let rest = redrawn_goes o t path q b (q ∷ r ∷ chain) ordered replaces inside.1 leads.1 link.1 in
    subst (λ (s : GridPoint). GoesOn o s b (redrawn t path (p ∷ q ∷ r ∷ chain))) leads.0
    (link_drawn o t path p q b (stretch t path p q) (redrawn t path (q ∷ r ∷ chain)) replaces inside.0 link.0 rest
    (drawn t path p q))
redrawn_goes o t path v b (p ∷ q ∷ r ∷ chain) ordered replaces inside leads (inr corner) =
    let rest = redrawn_goes o t path r b (r ∷ chain) ordered replaces inside.1.1 leads.1.1 corner.1 in
    let after = redrawn t path (r ∷ chain) in
    let down = unit_drawn o t path p q (stretch t path p q) ordered replaces (inl corner.0.down) (drawn t path p q) in
    let right = unit_drawn o t path q r (stretch t path q r) ordered replaces (inr corner.0.right) (drawn t path q r) in
    let round : GoesOn o p r (p ∷ q ∷ r ∷ []) = record {
      leads = (refl, (refl, (refl, refl)));
      monotone = (inside.0.monotone, (inside.1.0.monotone, tt));
      close = inr (corner.0, tt);
    } in
    subst (λ (s : GridPoint). GoesOn o s b (redrawn t path (p ∷ q ∷ r ∷ chain))) leads.0
    (subst (λ (l : List GridPoint). GoesOn o p b (l ++ (stretch t path q r ++ after))) (sym down)
    (subst (λ (l : List GridPoint). GoesOn o p b (p ∷ (l ++ after))) (sym right)
    (join_ways o p r b (p ∷ q ∷ r ∷ []) after round rest)))

-- a chain stays valid where a piece is replaced by a path that may stand for it
pub replaced_valid : (o t : GridSegment) (path chain : List GridPoint) → IsBefore t.a t.b → Replaces o t path
    → ValidChain o chain → ValidChain o (redrawn t path chain)
replaced_valid o t path chain ordered replaces valid =
    let inside = links_in_chain o chain valid.leads valid.monotone in
    let goes = redrawn_goes o t path o.a o.b chain ordered replaces inside valid.leads valid.close in
    record { ends = valid.ends; leads = goes.leads; monotone = goes.monotone; close = goes.close }
