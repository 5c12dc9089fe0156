-- This file shows what the links of a valid chain are: each of its pieces once. An even number of them ends at each
-- point, but at the two ends of the chain.
use Rattle.std.proofs.Common.{◌≡◌, ◌≢◌, ◌↔◌, ℕ, zero, suc, ◌+◌, ◌-◌, ◌%◌, ◌<◌, ◌≤◌, ◌||◌, Bool, true, false, cond}
use Rattle.std.proofs.Common.{if◌then◌else◌}
use Rattle.std.proofs.Common.{List, [], ◌∷◌, ◌++◌, length, get_or, take, All, AllPairs, Contains, count_by}
use Rattle.std.proofs.Common.{append_assoc, refl, sym, ap, ◌∙◌, subst, inl, inr, arith, add-one}
use Rattle.std.proofs.lemmas.List.{append-nil, get_or_default}
use Rattle.std.proofs.lemmas.List.Elements.{All-contains, Contains-get_or, Contains-append_left}
use Rattle.std.proofs.lemmas.List.Elements.{Contains-append_right, Contains-append_cases}
use Rattle.std.proofs.lemmas.List.Kept.{AllPairs-cons}
use Rattle.grid_base.specs.Point.{GridPoint, IsBefore, is_point}
use Rattle.grid_base.specs.Segment.{GridSegment, segment_of, IsEnd}
use Rattle.grid_base.specs.Border.{is_end}
use Rattle.grid_base.specs.Drawing.{HasLink}
use Rattle.grid_base.proofs.Elements.{Contains-here, Contains-later, Contains-cases, Contains-nil}
use Rattle.grid_base.proofs.Ends.{not_before_itself}
use Rattle.grid_base.proofs.Orders.{is_point-same, is_point-itself}
use Rattle.hook_chain.specs.Chains.{RunsFrom, IsBetween}
use Rattle.hook_chain.specs.ValidChain.{ValidChain}
use Rattle.hook_chain.specs.StandingChains.{IsSomeChain}
use Rattle.hook_chain.specs.Measure.{progress}
use Rattle.chain_laws.proofs.PathLinks.{segment_of-between, one_between}
use Rattle.chain_laws.proofs.Progress.{chain_rises}
use Rattle.value_geometry.specs.Links.{between, links}
use Rattle.value_geometry.proofs.Counts.{AllPairs-head, AllPairs-tail, count_first, count-append}

-- ---- one link more
links_push : (chain : List GridPoint) (j : ℕ) (d : GridPoint) → suc j < length chain
    → links (take (suc (suc j)) chain) ≡ links (take (suc j) chain) ++ between (get_or chain j d) (get_or chain (suc j) d)
links_push [] j d within = absurd (omega arith)
links_push (v ∷ []) j d within = absurd (omega arith)
links_push (v ∷ w ∷ chain) zero d within = append-nil (between v w)
links_push (v ∷ w ∷ chain) (suc j) d within =
    ap (λ rest. between v w ++ rest) (links_push (w ∷ chain) j d (omega arith))
    ∙ sym (append_assoc (between v w) (links (take (suc j) (w ∷ chain))) _)

-- the point at place i and the one before it make one link more
pub links_more : (chain : List GridPoint) (i : ℕ) (v w : GridPoint) → 1 ≤ i → i < length chain
    → v ≡ get_or chain (i - 1) v → w ≡ get_or chain i w
    → links (take (i + 1) chain) ≡ links (take i chain) ++ between v w
links_more chain zero v w some within is_v is_w = absurd (omega arith)
links_more chain (suc j) v w some within is_v is_w =
    let before : suc j - 1 ≡ j = omega arith in
    let v_at = is_v ∙ ap (λ k. get_or chain k v) before in
    let w_at = is_w ∙ get_or_default chain (suc j) w v within in
    rw (add-one, v_at, w_at) (links_push chain j v within)

-- one point has no link
pub no_links : (chain : List GridPoint) → links (take 1 chain) ≡ []
no_links [] = refl
no_links (v ∷ chain) = refl

-- ---- which segments are links
-- the segment between v and w is the only one
only_between : (v w : GridPoint) (s : GridSegment) → Contains (between v w) s ↔ IsBetween s v w
only_between v w s = by (is_point v w) refl
  where
    by : (b : Bool) → is_point v w ≡ b → Contains (if b then [] else segment_of v w ∷ []) s ↔ IsBetween s v w
    by true same =
        let one = is_point-same v w same in (
          λ there. absurd (Contains-nil s there),
          λ (link, ordered). absurd (not_before_itself s.a s.b
              (elim link [ inl (v_a, w_b) ↦ sym v_a ∙ one ∙ w_b | inr (v_b, w_a) ↦ sym w_a ∙ sym one ∙ v_b ]) ordered),
        )
    by false other =
        let apart : v ≢ w = λ same. cc (other, subst (λ p. is_point v p ≡ true) same (is_point-itself v)) in
        let made = segment_of-between v w apart in (
          λ there. elim (Contains-cases (segment_of v w) [] s there) [
            | inl here ↦ subst (λ t. IsBetween t v w) here made
            | inr later ↦ absurd (Contains-nil s later)
          ],
          λ given. subst (Contains (segment_of v w ∷ [])) (one_between (segment_of v w) s v w made given)
              (Contains-here (segment_of v w) []),
        )

-- the links of the chain are its segments with the lesser end first
pub link_is : (chain : List GridPoint) (s : GridSegment)
    → Contains (links chain) s ↔ (IsBefore s.a s.b × HasLink chain s)
link_is [] s = (λ there. absurd (Contains-nil s there), λ (ordered, link). absurd link)
link_is (v ∷ []) s = (λ there. absurd (Contains-nil s there), λ (ordered, link). absurd link)
link_is (v ∷ w ∷ chain) s =
    let first = only_between v w s in
    let rest = link_is (w ∷ chain) s in (
      λ there. elim (Contains-append_cases (between v w) (links (w ∷ chain)) s there) [
        | inl here ↦ ((first.0 here).1, inl (first.0 here).0)
        | inr later ↦ ((rest.0 later).0, inr (rest.0 later).1)
      ],
      λ (ordered, link). elim link [
        | inl here ↦ Contains-append_left (between v w) (links (w ∷ chain)) s (first.1 (here, ordered))
        | inr later ↦ Contains-append_right (between v w) (links (w ∷ chain)) s (rest.1 (ordered, later))
      ],
    )

-- ---- each link once
-- the ends of a link are vertices
end_is_vertex : (chain : List GridPoint) (s : GridSegment) (p : GridPoint) → IsEnd p s → HasLink chain s → Contains chain p
end_is_vertex [] s p end link = absurd link
end_is_vertex (v ∷ []) s p end link = absurd link
end_is_vertex (v ∷ w ∷ chain) s p end (inr later) =
    Contains-later v (w ∷ chain) p (end_is_vertex (w ∷ chain) s p end later)
end_is_vertex (v ∷ w ∷ chain) s p (inl is_a) (inl (inl (v_a, w_b))) =
    subst (Contains (v ∷ w ∷ chain)) (v_a ∙ sym is_a) (Contains-here v (w ∷ chain))
end_is_vertex (v ∷ w ∷ chain) s p (inl is_a) (inl (inr (v_b, w_a))) =
    subst (Contains (v ∷ w ∷ chain)) (w_a ∙ sym is_a) (Contains-later v (w ∷ chain) w (Contains-here w chain))
end_is_vertex (v ∷ w ∷ chain) s p (inr is_b) (inl (inl (v_a, w_b))) =
    subst (Contains (v ∷ w ∷ chain)) (w_b ∙ sym is_b) (Contains-later v (w ∷ chain) w (Contains-here w chain))
end_is_vertex (v ∷ w ∷ chain) s p (inr is_b) (inl (inr (v_b, w_a))) =
    subst (Contains (v ∷ w ∷ chain)) (v_b ∙ sym is_b) (Contains-here v (w ∷ chain))

-- one of the ends of the segment between v and w is v
first_is_end : (v w : GridPoint) (s : GridSegment) → IsBetween s v w → IsEnd v s
first_is_end v w s (inl (v_a, w_b), ordered) = inl v_a
first_is_end v w s (inr (v_b, w_a), ordered) = inr v_b

-- so it is no later link of a chain that comes by v once
not_later : (v w : GridPoint) (chain : List GridPoint) → All (λ p. v ≢ p) (w ∷ chain) → (s : GridSegment)
    → IsBetween s v w → All (λ t. s ≢ t) (links (w ∷ chain))
not_later v w chain apart s made = λ k d within same.
    let later = Contains-get_or (links (w ∷ chain)) k d within in
    let link = ((link_is (w ∷ chain) s).0 (subst (Contains (links (w ∷ chain))) (sym same) later)).1 in
    let vertex = end_is_vertex (w ∷ chain) s v (first_is_end v w s made) link in
    All-contains (λ p. v ≢ p) (w ∷ chain) v apart vertex refl

links_apart : (chain : List GridPoint) → AllPairs (λ p q. p ≢ q) chain → AllPairs (λ s t. s ≢ t) (links chain)
links_apart [] apart = λ i j d before within. absurd (omega arith)
links_apart (v ∷ []) apart = λ i j d before within. absurd (omega arith)
links_apart (v ∷ w ∷ chain) apart =
    by (is_point v w) refl (links_apart (w ∷ chain) (AllPairs-tail (λ p q. p ≢ q) v (w ∷ chain) apart))
  where
    others : All (λ p. v ≢ p) (w ∷ chain)
    others = AllPairs-head (λ p q. p ≢ q) v (w ∷ chain) apart

    by : (b : Bool) → is_point v w ≡ b → AllPairs (λ s t. s ≢ t) (links (w ∷ chain))
        → AllPairs (λ s t. s ≢ t) ((if b then [] else segment_of v w ∷ []) ++ links (w ∷ chain))
    by true same later = later
    by false other later =
        let distinct : v ≢ w = λ same. cc (other, subst (λ p. is_point v p ≡ true) same (is_point-itself v)) in
        AllPairs-cons (λ s t. s ≢ t) (segment_of v w) (links (w ∷ chain))
        (not_later v w chain others (segment_of v w) (segment_of-between v w distinct)) later

-- a valid chain comes by each point once, so it has no link twice
pub no_link_twice : (chain : List GridPoint) → IsSomeChain chain → AllPairs (λ s t. s ≢ t) (links chain)
no_link_twice chain valid =
    let rises = chain_rises chain valid in
    links_apart chain (λ i j d before within same.
    let farther = rises.1 i j d before within in
    let level = ap (progress rises.0) same in
    absurd (omega (arith, farther, level)))

-- ---- how many links end at a point
-- 1 where v is p
at : GridPoint → GridPoint → ℕ
at p v = cond (is_point v p) 1 0

either_end : (p v w : GridPoint) → v ≢ w → cond (is_point v p || is_point w p) 1 0 ≡ at p v + at p w
unfolding at
either_end p v w apart = by (is_point v p) (is_point w p) refl refl
  where
    by : (b c : Bool) → is_point v p ≡ b → is_point w p ≡ c → cond (b || c) 1 0 ≡ cond b 1 0 + cond c 1 0
    by true true is_v is_w = absurd (apart (is_point-same v p is_v ∙ sym (is_point-same w p is_w)))
    by true false is_v is_w = refl
    by false true is_v is_w = refl
    by false false is_v is_w = refl

-- a segment ends at each of its ends
ends_of_one : (p : GridPoint) (s : GridSegment) → IsBefore s.a s.b → count_by (is_end p) (s ∷ []) ≡ at p s.a + at p s.b
ends_of_one p s ordered =
    let one = count_first (is_end p) s [] (is_end p s) refl in
    let either = either_end p s.a s.b (λ same. not_before_itself s.a s.b same ordered) in
    omega (arith, one, either)

-- the segment between two points ends at each of them
ends_between : (p v w : GridPoint) (s : GridSegment) → IsBetween s v w → count_by (is_end p) (s ∷ []) ≡ at p v + at p w
ends_between p v w s (inl (v_a, w_b), ordered) = rw (v_a, w_b) (ends_of_one p s ordered)
ends_between p v w s (inr (v_b, w_a), ordered) =
    let ends = ends_of_one p s ordered in
    rw (v_b, w_a) (omega (arith, ends))

-- with its two ends once more it is an even number, also where they are one point
even_between : (p v w : GridPoint) → (count_by (is_end p) (between v w) + at p v + at p w) % 2 ≡ 0
even_between p v w = by (is_point v w) refl
  where
    by : (b : Bool) → is_point v w ≡ b
        → (count_by (is_end p) (if b then [] else segment_of v w ∷ []) + at p v + at p w) % 2 ≡ 0
    by true same =
        let level = ap (at p) (is_point-same v w same) in
        omega (arith, level)
    by false other =
        let apart : v ≢ w = λ same. cc (other, subst (λ q. is_point v q ≡ true) same (is_point-itself v)) in
        let ends = ends_between p v w (segment_of v w) (segment_of-between v w apart) in
        omega (arith, ends)

-- so it is with a chain and its two ends
even_with_ends : (p a b : GridPoint) (chain : List GridPoint) → RunsFrom a b chain
    → (count_by (is_end p) (links chain) + at p a + at p b) % 2 ≡ 0
even_with_ends p a b [] leads = absurd leads
even_with_ends p a b (v ∷ []) leads =
    let level = ap (at p) (sym leads.0 ∙ leads.1) in
    omega (arith, level)
even_with_ends p a b (v ∷ w ∷ chain) leads =
    one_more (count_by (is_end p) (between v w)) (count_by (is_end p) (links (w ∷ chain)))
    (count_by (is_end p) (links (v ∷ w ∷ chain))) (at p w) (ap (at p) leads.0)
    (count-append (is_end p) (between v w) (links (w ∷ chain))) (even_between p v w)
    (even_with_ends p w b (w ∷ chain) leads.1)
  where
    one_more : (n m all middle : ℕ) → at p v ≡ at p a → all ≡ n + m → (n + at p v + middle) % 2 ≡ 0
        → (m + middle + at p b) % 2 ≡ 0 → (all + at p a + at p b) % 2 ≡ 0
    one_more n m all middle start sum first rest = omega (arith, start, sum, first, rest)

-- modulo 2 as many links of a valid chain end at a point as its original does
pub ends_of_chain : (p : GridPoint) (o : GridSegment) (chain : List GridPoint) → ValidChain o chain
    → count_by (is_end p) (links chain) % 2 ≡ count_by (is_end p) (o ∷ []) % 2
ends_of_chain p o chain valid =
    let even = even_with_ends p o.a o.b chain valid.leads in
    let ends = ends_of_one p o valid.ends in
    omega (arith, even, ends)
