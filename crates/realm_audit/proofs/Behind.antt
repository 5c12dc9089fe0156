-- This file shows which share comes next, where a search goes through those behind a place in their order.
use Rattle.std.proofs.Common.{◌≡◌, ◌↔◌, suc, false, List, [], ◌∷◌, ◌++◌, map, Option, Some, None, AllPairs, Contains, Less, Equal}
use Rattle.std.proofs.Common.{refl, sym, ap, subst, ◌∙◌, inl, inr, arith}
use Rattle.std.specs.BTreeMap.Range.{range_contains}
use Rattle.std.specs.BTreeSet.{BTreeSet, IsOrdered}
use Rattle.std.specs.Iterator.{Yields}
use Rattle.std.specs.Map.Iter.{TakesFirst, deref}
use Rattle.std.specs.Ordering.{is_gt}
use Rattle.std.specs.declared.ops.Bound.TheVariants.{Excluded, Unbounded}
use Rattle.std.proofs.lemmas.Cmp.{tied_itself}
use Rattle.std.proofs.lemmas.List.{map-append}
use Rattle.std.proofs.lemmas.List.Kept.{AllPairs-filter}
use Rattle.std.proofs.lemmas.Map.Iter.{rest_so_far, rest_more, rest_all}
use Rattle.std.proofs.lemmas.Map.Keys.{Less-from_sorted}
use Rattle.std.proofs.lemmas.Map.Views.{range_contains-from_IsInRange, IsInRange-from_range_contains}
use denote.Ref.{Bor}
use Rattle.grid_base.proofs.Elements.{Contains-later, Contains-cases, Contains-nil}
use Rattle.chain_laws.proofs.Elements.{Contains-head}
use Rattle.chain_laws.proofs.PointSets.{Contains-filter}
use Rattle.realm_audit.specs.Ranges.{share_cmp, among, LiesBehind}
use Rattle.realm_audit.specs.declared.shares.Share.{Share}
use Rattle.realm_audit.proofs.ShareOrder.{share_cmp-total, in_order}

-- the shares of the list that come behind the place
abbrev pub shares_behind : List Share → Share → List Share
shares_behind keys at = among keys (Excluded at) Unbounded

-- no share of the list comes behind the place
abbrev pub NoneBehind : List Share → Share → Type 0
NoneBehind keys at = (z : Share) → LiesBehind at z → Contains keys z → ⊥

-- y is the first share of the list behind the place
pub record IsFirstBehind (keys : List Share) (at y : Share) : Type 0 where
  pub there : Contains keys y
  pub behind : LiesBehind at y
  pub first : (z : Share) → LiesBehind at z → Contains keys z → is_gt (share_cmp y z) ≡ false

-- the list has all shares behind the place, ascending
pub record AreBehind (keys : List Share) (at : Share) (rest : List Share) : Type 0 where
  pub ascend : AllPairs LiesBehind rest
  pub members : (z : Share) → Contains rest z ↔ (Contains keys z × LiesBehind at z)

-- what a range lends
pub behind_range : (s : BTreeSet Share) (at : Share) → IsOrdered share_cmp s → AreBehind s.keys at (shares_behind s.keys at)
behind_range s at ordered = record {
  ascend = AllPairs-filter LiesBehind (range_contains share_cmp (Excluded at) Unbounded) s.keys
      (λ i j d before within. Less-from_sorted share_cmp s.keys i j d ordered before within);
  members = λ z.
      let left = Contains-filter (range_contains share_cmp (Excluded at) Unbounded) s.keys z in (
        λ there. (
          (left.0 there).0,
          (IsInRange-from_range_contains share_cmp-total (Excluded at) Unbounded z (left.0 there).1).0,
        ),
        λ (has, behind). left.1 (
          has,
          range_contains-from_IsInRange share_cmp-total (Excluded at) Unbounded z (behind, tt),
        ),
      );
}

-- no share lies behind itself
itself : (y : Share) → LiesBehind y y → ⊥
itself y less = no (sym less ∙ tied_itself share_cmp-total y)
  where
    no : Less ≡ Equal → ⊥
    no is = cc

-- all but the first lie behind the first
behind_first : (y : Share) (rest : List Share) → AllPairs LiesBehind (y ∷ rest) → (z : Share) → Contains rest z → LiesBehind y z
behind_first y rest ascend z (k, within, is) =
    subst (λ (w : Share). LiesBehind y w) is (ascend 0 (suc k) z (omega arith) (omega (arith, within)))

-- once the first is passed
one_passed : (keys : List Share) (at y : Share) (rest : List Share) → AreBehind keys at (y ∷ rest) → AreBehind keys y rest
one_passed keys at y rest are = record {
  ascend = λ i j d before within. are.ascend (suc i) (suc j) d (omega (arith, before)) (omega (arith, within));
  members = λ z. (
    λ there. (((are.members z).0 (Contains-later y rest z there)).0, behind_first y rest are.ascend z there),
    λ (has, behind).
        let first = ((are.members y).0 (Contains-head y rest y refl)).1 in
        elim (Contains-cases y rest z ((are.members z).1 (has, share_cmp-total.trans at y z first behind))) [
          | inl same ↦ absurd (itself y (subst (λ (w : Share). LiesBehind y w) (sym same) behind))
          | inr later ↦ later
        ],
  );
}

-- the last of the list, or what comes before it
pub last_or : Share → List Share → Share
last_or at [] = at
last_or at (y ∷ ys) = last_or y ys

pub last_none : (at : Share) → last_or at [] ≡ at
unfolding last_or
last_none at = refl

last_more : (at : Share) (ys : List Share) (y : Share) → last_or at (ys ++ y ∷ []) ≡ y
unfolding last_or
last_more at [] y = refl
last_more at (w ∷ ys) y = last_more w ys y

-- once some are passed
pub some_passed : (keys : List Share) (at : Share) (ys rest : List Share) → AreBehind keys at (ys ++ rest)
    → AreBehind keys (last_or at ys) rest
unfolding last_or
some_passed keys at [] rest are = are
some_passed keys at (y ∷ ys) rest are = some_passed keys y ys rest (one_passed keys at y (ys ++ rest) are)

-- the next is the first behind the last
pub next_is_first : (keys : List Share) (at y : Share) (rest : List Share) → AreBehind keys at (y ∷ rest) → IsFirstBehind keys at y
next_is_first keys at y rest are = record {
  there = ((are.members y).0 (Contains-head y rest y refl)).0;
  behind = ((are.members y).0 (Contains-head y rest y refl)).1;
  first = λ z behind has. elim (Contains-cases y rest z ((are.members z).1 (has, behind))) [
    | inl same ↦ subst (λ (w : Share). is_gt (share_cmp y w) ≡ false) same
        (in_order y y refl refl (omega arith))
    | inr later ↦ ap is_gt (behind_first y rest are.ascend z later)
  ];
}

-- where there is no next, none is left
pub none_left : (keys : List Share) (at : Share) → AreBehind keys at [] → NoneBehind keys at
none_left keys at are z behind has = Contains-nil z ((are.members z).1 (has, behind))

-- ---- a loop over what a range lends
mid_in : (ys rest : List Share) (y : Share) → Contains (ys ++ y ∷ rest) y
mid_in [] rest y = Contains-head y rest y refl
mid_in (w ∷ ys) rest y = Contains-later w (ys ++ y ∷ rest) y (mid_in ys rest y)

-- the last that was lent is the one before, once it was
pub last_lent : (at : Share) (xs : List (Bor Share)) (x : Bor Share) → last_or at (map deref (xs ++ x ∷ [])) ≡ x.now
last_lent at xs x = ap (last_or at) (map-append deref xs (x ∷ [])) ∙ last_more at (map deref xs) x.now

-- what it lends next is the first behind the one before, and lies behind the place
pub next_lent : (s : BTreeSet Share) (at : Share) (all left more : List Share) (xs : List (Bor Share)) (r : Option (Bor Share))
    (x : Bor Share) → IsOrdered share_cmp s → all ≡ shares_behind s.keys at → Yields (TakesFirst deref) all xs left
    → r ≡ Some x → TakesFirst deref left r more
    → IsFirstBehind s.keys (last_or at (map deref xs)) x.now × LiesBehind at x.now
next_lent s at all left more xs r x ordered start yields is step =
    let so_far = rest_so_far deref xs all left yields in
    let next = rest_more deref left more r x is step in
    let whole : shares_behind s.keys at ≡ map deref xs ++ x.now ∷ more =
    sym start ∙ so_far ∙ ap (λ l. map deref xs ++ l) next in
    let are = subst (λ (l : List Share). AreBehind s.keys at l) whole (behind_range s at ordered) in (
      next_is_first s.keys (last_or at (map deref xs)) x.now more (some_passed s.keys at (map deref xs) (x.now ∷ more) are),
      ((are.members x.now).0 (mid_in (map deref xs) more x.now)).1,
    )

-- where it lends no more, none is left
pub no_more_lent : (s : BTreeSet Share) (at : Share) (all left more : List Share) (xs : List (Bor Share)) (r : Option (Bor Share))
    → IsOrdered share_cmp s → all ≡ shares_behind s.keys at → Yields (TakesFirst deref) all xs left
    → r ≡ None → TakesFirst deref left r more → NoneBehind s.keys (last_or at (map deref xs))
no_more_lent s at all left more xs r ordered start yields is step =
    let so_far = rest_so_far deref xs all left yields in
    let none = rest_all deref left more r is step in
    let whole : shares_behind s.keys at ≡ map deref xs ++ [] =
    sym start ∙ so_far ∙ ap (λ l. map deref xs ++ l) none in
    let are = subst (λ (l : List Share). AreBehind s.keys at l) whole (behind_range s at ordered) in
    none_left s.keys (last_or at (map deref xs)) (some_passed s.keys at (map deref xs) [] are)
