-- This file shows what a drawing has become where originals are placed with their chains, and points are made explicit.
use Rattle.std.proofs.Common.{◌≡◌, ◌↔◌, ℕ, ◌+◌, ◌<◌, ◌≤◌, List, [], ◌∷◌, ◌++◌, length, get_or, take, take_all, All, AllPairs}
use Rattle.std.proofs.Common.{Contains, refl, sym, ap, ap₂, subst, ◌∙◌, inl, inr, arith}
use Rattle.std.proofs.lemmas.List.{take_more, get_or-take, length-take}
use Rattle.std.proofs.lemmas.List.Elements.{Contains-append_left, Contains-push, Contains-push_cases}
use Rattle.grid_base.specs.Point.{GridPoint, IsBefore}
use Rattle.grid_base.specs.Segment.{GridSegment}
use Rattle.grid_base.specs.Drawing.{Drawing}
use Rattle.grid_base.specs.declared.original.Original.{Original}
use Rattle.grid_base.proofs.Elements.{same_place}
use Rattle.grid_base.proofs.Orders.{IsBefore-asym, segment_between}
use Rattle.hook_chain.specs.Chains.{RunsFrom}
use Rattle.hook_chain.specs.ValidChain.{ValidChain}
use Rattle.hook_chain.specs.Changed.{PlacesChain, with_chain}
use Rattle.hook_chain.specs.StandingChains.{HasValidChain}
use Rattle.hook_chain.specs.Ids.{IsAscending}
use Rattle.realm_drawing.specs.Keyed.{KeyedDrawing, AddsPoint}
use Rattle.hook_chain.specs.Straight.{along}
use Rattle.chain_laws.proofs.Ends.{ends_by_leads}
use Rattle.rose_overlay.proofs.Sorts.{one_list}
use Rattle.state_check.specs.Drawable.{drawing_with}
use Rattle.state_check.specs.Pairs.{IsFromTo}

-- ---- originals
-- a chain that leads from the ends of its original stands for it and no other segment
pub placed_with_its_ends : (d e : Drawing) (o : Original) → IsFromTo o.a o.b o.chain → PlacesChain d e o.id o.chain
    → (e ≡ drawing_with d.points (d.originals ++ o ∷ [])) × HasValidChain o
placed_with_its_ends d e o from_to (s, valid, is) =
    let a_is : s.a ≡ o.a = (ends_by_leads s.a s.b o.chain o.a valid.leads).0 ∙ from_to.1 in
    let b_is : s.b ≡ o.b = (ends_by_leads s.a s.b o.chain o.b valid.leads).1 ∙ from_to.2 in
    let same : s ≡ along o = ap₂ segment_between a_is b_is in (
      is ∙ ap (λ (t : GridSegment). with_chain d o.id t o.chain) same,
      subst (λ (t : GridSegment). ValidChain t o.chain) same valid,
    )

some_point : (a b : GridPoint) (chain : List GridPoint) → RunsFrom a b chain → 0 < length chain
some_point a b [] leads = absurd leads
some_point a b (v ∷ chain) leads = omega arith

-- and one that doesn't stands for none
pub from_its_ends : (o : Original) → HasValidChain o → IsFromTo o.a o.b o.chain
from_its_ends o valid = (
  some_point o.a o.b o.chain valid.leads,
  sym (ends_by_leads o.a o.b o.chain o.a valid.leads).0,
  sym (ends_by_leads o.a o.b o.chain o.b valid.leads).1,
)

-- ids rise, so the next one is above all before it
pub next_is_above : (os : List Original) (i : ℕ) (o : Original) → i < length os → o ≡ get_or os i o → IsAscending os
    → All (λ p. p.id < o.id) (take i os)
next_is_above os i o within is rising = λ k d k_within.
    let long = length-take i os in
    let earlier : k < i = omega (arith, long, k_within) in
    let front = get_or-take i os k d earlier in
    let less : (get_or os k d).id < (get_or os i d).id = rising k i d earlier within in
    let here : get_or os i d ≡ o = same_place os i d o within ∙ sym is in
    subst (λ (q : Original). q.id < o.id) (sym front) (subst (λ (q : Original). (get_or os k d).id < q.id) here less)

-- one original more is there
pub one_more_there : (d e : Drawing) (os : List Original) (i : ℕ) (o : Original) → i < length os → o ≡ get_or os i o
    → d ≡ drawing_with [] (take i os) → e ≡ drawing_with d.points (d.originals ++ o ∷ []) → e ≡ drawing_with [] (take (i + 1) os)
one_more_there d e os i o within is was now =
    let more : take i os ++ o ∷ [] ≡ take (i + 1) os =
    ap (λ (q : Original). take i os ++ q ∷ []) is ∙ sym (take_more os i o within) in
    now ∙ ap (λ (c : Drawing). drawing_with c.points (c.originals ++ o ∷ [])) was ∙ ap (drawing_with []) more

-- ---- explicit points
-- the explicit points are the first i of the list, and the originals those there were
pub record HasFirst (points : List GridPoint) (i : ℕ) (os : List Original) (d : Drawing) : Type 0 where
  pub originals : d.originals ≡ os
  pub same : (p : GridPoint) → Contains d.points p ↔ Contains (take i points) p
  pub ascending : AllPairs IsBefore d.points

-- one point more is explicit
pub one_more_explicit : (points : List GridPoint) (i : ℕ) (os : List Original) (d e : KeyedDrawing) (p : GridPoint) → i < length points
    → p ≡ get_or points i p → AddsPoint d e p → AllPairs IsBefore e.drawing.points → HasFirst points i os d.drawing
    → HasFirst points (i + 1) os e.drawing
one_more_explicit points i os d e p within is adds ascending was = record {
  originals = adds.originals ∙ was.originals;
  same = λ q.
      let more : take i points ++ p ∷ [] ≡ take (i + 1) points =
      ap (λ (r : GridPoint). take i points ++ r ∷ []) is ∙ sym (take_more points i p within) in (
        λ there. subst (λ (l : List GridPoint). Contains l q) more (elim ((adds.points q).0 there) [
          | inl new ↦ subst (Contains (take i points ++ p ∷ [])) (sym new) (Contains-push (take i points) p)
          | inr old ↦ Contains-append_left (take i points) (p ∷ []) q ((was.same q).0 old)
        ]),
        λ listed. (adds.points q).1 (elim (Contains-push_cases (take i points) p q
            (subst (λ (l : List GridPoint). Contains l q) (sym more) listed)) [
              | inl old ↦ inr ((was.same q).1 old)
              | inr new ↦ inl (sym new)
            ]),
      );
  ascending = ascending;
}

-- none is yet
pub none_explicit : (points : List GridPoint) (d : Drawing) → d.points ≡ [] → HasFirst points 0 d.originals d
none_explicit points d none = record {
  originals = refl;
  same = λ p. (
    λ there. subst (λ (l : List GridPoint). Contains l p) none there,
    λ listed. subst (λ (l : List GridPoint). Contains l p) (sym none) listed,
  );
  ascending = subst (AllPairs IsBefore) (sym none) (λ i j d less within. absurd (omega arith));
}

-- and at the end they are the list
pub all_explicit : (points : List GridPoint) (i : ℕ) (os : List Original) (d : Drawing) → length points ≤ i
    → AllPairs IsBefore points → HasFirst points i os d → d ≡ drawing_with points os
all_explicit points i os d past order has =
    let same = λ (p : GridPoint).
    subst (λ (l : List GridPoint). Contains d.points p ↔ Contains l p) (take_all i points past) (has.same p) in
    let points_are : d.points ≡ points =
    one_list IsBefore IsBefore-asym d.points points has.ascending order (λ p. (same p).0) (λ p. (same p).1) in
    ap₂ drawing_with points_are has.originals
