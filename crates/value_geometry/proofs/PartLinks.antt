-- This file shows what the links of the chains of parts are: each piece as often as there are chains with it.
use Rattle.std.proofs.Common.{◌≡◌, ◌↔◌, ℕ, ◌+◌, ◌%◌, ◌<◌, List, [], ◌∷◌, length, get_or, map, All}
use Rattle.std.proofs.Common.{Any, Contains, count_by, refl, sym, subst, inl, inr, arith}
use Rattle.std.proofs.lemmas.List.Elements.{All-head, All-tail, All-contains, Contains-get_or, Contains-append_left}
use Rattle.std.proofs.lemmas.List.Elements.{Contains-append_right, Contains-append_cases}
use Rattle.std.proofs.lemmas.List.Kept.{AllPairs-cons}
use Rattle.grid_base.specs.Point.{GridPoint}
use Rattle.grid_base.specs.Segment.{GridSegment}
use Rattle.grid_base.specs.Border.{is_end}
use Rattle.grid_base.specs.Drawing.{Drawing, HasLink}
use Rattle.grid_base.specs.declared.original.Original.{Original}
use Rattle.grid_base.proofs.Elements.{Contains-here, Contains-later, Contains-cases, Contains-nil}
use Rattle.grid_base.proofs.Orders.{is_segment}
use Rattle.hook_chain.specs.Straight.{along}
use Rattle.chain_laws.proofs.Elements.{Any-head, Any-later, Any-cons_cases, Any-nil, All-of_some}
use Rattle.value_geometry.specs.Geometry.{IsOnChainOf, AreThoseWith, IsOnOddly}
use Rattle.value_geometry.specs.Links.{links, links_of, IsOnlyOne}
use Rattle.value_geometry.proofs.Counts.{AllPairs-head, AllPairs-tail, AreAscending, same_length}
use Rattle.value_geometry.proofs.Counts.{once_or_not, IsOnceOrNot, count-append}
use Rattle.value_geometry.proofs.ChainLinks.{link_is, no_link_twice, ends_of_chain}

-- the ids of the parts
abbrev pub ids_of : List Original → List ℕ
ids_of parts = map (λ (o : Original). o.id) parts

-- ---- one part
-- s is on the chain of a part exactly where it is one of its links
pub on_chain : (d : Drawing) (o : Original) → Contains d.originals o → IsOnlyOne d o → (s : GridSegment)
    → Contains (links o.chain) s ↔ IsOnChainOf d s o.id
on_chain d o there one s =
    let is = link_is o.chain s in (
      λ link. ((is.0 link).0, (there.0, o, there.1, there.2, (refl, (is.0 link).1))),
      λ on. is.1 (
        on.0,
        All-of_some (λ (q : Original). q.id ≡ o.id → q.chain ≡ o.chain)
            (λ (q : Original). (q.id ≡ o.id) × HasLink q.chain s) (HasLink o.chain s)
            (λ q only given. subst (λ (c : List GridPoint). HasLink c s) (only given.0) given.1) d.originals one.only on.1,
      ),
    )

-- ---- all parts
-- a segment is a link of some part exactly where it is on the chain of one of the ids
pub on_some_chain : (d : Drawing) (parts : List Original) → All (Contains d.originals) parts → All (IsOnlyOne d) parts
    → (s : GridSegment) → Contains (links_of parts) s ↔ Any (IsOnChainOf d s) (ids_of parts)
on_some_chain d [] there ones s =
    (λ link. absurd (Contains-nil s link), λ some. absurd (Any-nil (IsOnChainOf d s) some))
on_some_chain d (o ∷ parts) there ones s =
    let in_d = Contains d.originals in
    let first = on_chain d o (All-head in_d o parts there) (All-head (IsOnlyOne d) o parts ones) s in
    let rest = on_some_chain d parts (All-tail in_d o parts there) (All-tail (IsOnlyOne d) o parts ones) s in (
      λ link. elim (Contains-append_cases (links o.chain) (links_of parts) s link) [
        | inl here ↦ Any-head (IsOnChainOf d s) o.id (ids_of parts) (first.0 here)
        | inr later ↦ Any-later (IsOnChainOf d s) o.id (ids_of parts) (rest.0 later)
      ],
      λ some. elim (Any-cons_cases (IsOnChainOf d s) o.id (ids_of parts) some) [
        | inl here ↦ Contains-append_left (links o.chain) (links_of parts) s (first.1 here)
        | inr later ↦ Contains-append_right (links o.chain) (links_of parts) s (rest.1 later)
      ],
    )

-- modulo 2 as many links of valid chains end at a point as their originals do
pub ends_of_parts : (d : Drawing) (parts : List Original) → All (IsOnlyOne d) parts → (p : GridPoint)
    → count_by (is_end p) (links_of parts) % 2 ≡ count_by (is_end p) (map along parts) % 2
ends_of_parts d [] ones p = refl
ends_of_parts d (o ∷ parts) ones p =
    let first = ends_of_chain p (along o) o.chain (All-head (IsOnlyOne d) o parts ones).valid in
    let rest = ends_of_parts d parts (All-tail (IsOnlyOne d) o parts ones) p in
    let whole = count-append (is_end p) (links o.chain) (links_of parts) in
    let given = count-append (is_end p) (along o ∷ []) (map along parts) in
    together _ _ _ _ _ _ whole given first rest
  where
    together : (m n all k l both : ℕ) → all ≡ m + n → both ≡ k + l → m % 2 ≡ k % 2 → n % 2 ≡ l % 2 → all % 2 ≡ both % 2
    together m n all k l both whole given first rest = omega (arith, whole, given, first, rest)

-- ---- how often
-- as many ids have s on their chains as there are links that are s
record AreCounted (d : Drawing) (parts : List Original) (s : GridSegment) : Type 0 where
  pub those : List ℕ
  pub are_those : AreThoseWith d s (ids_of parts) those
  pub many : length those ≡ count_by (is_segment s) (links_of parts)

-- the ids with s are of parts, so the first id is below them where it is below the other ids
first_is_below : (d : Drawing) (o : Original) (parts : List Original) (s : GridSegment) (those : List ℕ)
    → AreAscending (ids_of (o ∷ parts)) → AreThoseWith d s (ids_of parts) those → All (λ n. o.id < n) those
first_is_below d o parts s those ascending are = λ k e within.
    let named = ((are.exact (get_or those k e)).0 (Contains-get_or those k e within)).0 in
    All-contains (λ n. o.id < n) (ids_of parts) (get_or those k e)
    (AllPairs-head (λ m n. m < n) o.id (ids_of parts) ascending) named

-- one more part with s on its chain
with_first : (d : Drawing) (o : Original) (parts : List Original) (s : GridSegment) (those : List ℕ)
    → AreAscending (ids_of (o ∷ parts)) → IsOnChainOf d s o.id → AreThoseWith d s (ids_of parts) those
    → AreThoseWith d s (ids_of (o ∷ parts)) (o.id ∷ those)
with_first d o parts s those ascending on are = record {
  exact = λ id. (
    λ there. elim (Contains-cases o.id those id there) [
      | inl here ↦ (subst (Contains (ids_of (o ∷ parts))) here (Contains-here o.id (ids_of parts)), subst (IsOnChainOf d s) here on)
      | inr later ↦
          let old = (are.exact id).0 later in (Contains-later o.id (ids_of parts) id old.0, old.1)
    ],
    λ named. elim (Contains-cases o.id (ids_of parts) id named.0) [
      | inl here ↦ subst (Contains (o.id ∷ those)) here (Contains-here o.id those)
      | inr later ↦ Contains-later o.id those id ((are.exact id).1 (later, named.1))
    ],
  );
  ascending = AllPairs-cons (λ m n. m < n) o.id those (first_is_below d o parts s those ascending are) are.ascending;
}

-- and one without
without_first : (d : Drawing) (o : Original) (parts : List Original) (s : GridSegment) (those : List ℕ)
    → (IsOnChainOf d s o.id → ⊥) → AreThoseWith d s (ids_of parts) those → AreThoseWith d s (ids_of (o ∷ parts)) those
without_first d o parts s those off are = record {
  exact = λ id. (
    λ there. let old = (are.exact id).0 there in (Contains-later o.id (ids_of parts) id old.0, old.1),
    λ named. elim (Contains-cases o.id (ids_of parts) id named.0) [
      | inl here ↦ absurd (off (subst (IsOnChainOf d s) (sym here) named.1))
      | inr later ↦ (are.exact id).1 (later, named.1)
    ],
  );
  ascending = are.ascending;
}

counted : (d : Drawing) (parts : List Original) → All (Contains d.originals) parts → All (IsOnlyOne d) parts
    → AreAscending (ids_of parts) → (s : GridSegment) → AreCounted d parts s
counted d [] there ones ascending s = record {
  those = [];
  are_those = record {
    exact = λ id. (λ none. absurd (Contains-nil id none), λ named. named.0);
    ascending = ascending;
  };
  many = refl;
}
counted d (o ∷ parts) there ones ascending s =
    by (once_or_not (links o.chain) (no_link_twice o.chain (along o, one.valid)) s)
    (counted d parts (All-tail (Contains d.originals) o parts there) (All-tail (IsOnlyOne d) o parts ones)
    (AllPairs-tail (λ m n. m < n) o.id (ids_of parts) ascending) s)
  where
    one : IsOnlyOne d o
    one = All-head (IsOnlyOne d) o parts ones

    on : Contains (links o.chain) s ↔ IsOnChainOf d s o.id
    on = on_chain d o (All-head (Contains d.originals) o parts there) one s

    whole : count_by (is_segment s) (links_of (o ∷ parts))
        ≡ count_by (is_segment s) (links o.chain) + count_by (is_segment s) (links_of parts)
    whole = count-append (is_segment s) (links o.chain) (links_of parts)

    by : IsOnceOrNot (links o.chain) s → AreCounted d parts s → AreCounted d (o ∷ parts) s
    by (inl (link, once)) rest =
        let many = rest.many in
        record {
          those = o.id ∷ rest.those;
          are_those = with_first d o parts s rest.those ascending (on.0 link) rest.are_those;
          many = omega (arith, whole, once, many);
        }
    by (inr (gone, none)) rest =
        let many = rest.many in
        record {
          those = rest.those;
          are_those = without_first d o parts s rest.those (λ h. gone (on.1 h)) rest.are_those;
          many = omega (arith, whole, none, many);
        }

-- s is on an odd number of the chains exactly where an odd number of the links are s
pub on_oddly : (d : Drawing) (parts : List Original) → All (Contains d.originals) parts → All (IsOnlyOne d) parts
    → AreAscending (ids_of parts) → (s : GridSegment)
    → (count_by (is_segment s) (links_of parts) % 2 ≡ 1) ↔ IsOnOddly d (ids_of parts) s
on_oddly d parts there ones ascending s =
    let all = counted d parts there ones ascending s in
    let many = all.many in (
      λ odd. record { those = all.those; are_those = all.are_those; odd = omega (arith, many, odd) },
      λ on.
          let others = on.odd in
          let same = same_length on.those all.those on.are_those.ascending all.are_those.ascending
          (λ id. (
            λ h. (all.are_those.exact id).1 ((on.are_those.exact id).0 h),
            λ h. (on.are_those.exact id).1 ((all.are_those.exact id).0 h),
          ))
          in
          omega (arith, many, same, others),
    )
