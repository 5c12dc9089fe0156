-- This file shows which explicit points and which originals are listed one by one.
use Rattle.std.proofs.Common.{◌≡◌, ◌↔◌, ℕ, ◌+◌, ◌<◌, ◌≤◌, List, [], ◌∷◌, ◌++◌, map, length, get_or, take}
use Rattle.std.proofs.Common.{take_all, All, AllPairs, Contains, sym, ap, subst, ◌∙◌, inl, inr, arith}
use Rattle.std.proofs.lemmas.Bool.{cases_lt}
use Rattle.std.proofs.lemmas.List.{take_more, get_or-take, get_or-map, length-take, length-map}
use Rattle.std.proofs.lemmas.List.Elements.{All-nil, All-push}
use Rattle.std.proofs.lemmas.List.Elements.{Contains-append_left, Contains-push, Contains-push_cases}
use Rattle.std.proofs.lemmas.List.Quantifiers.{all_pairs_push}
use Rattle.grid_base.specs.Point.{GridPoint, point_at, IsBefore, OnGrid}
use Rattle.grid_base.specs.Drawing.{Drawing}
use Rattle.grid_base.specs.declared.original.Original.{Original}
use Rattle.grid_base.proofs.Elements.{same_place}
use Rattle.grid_base.proofs.Orders.{IsBefore-asym}
use Rattle.hook_chain.specs.Ids.{IsAscending}
use Rattle.record_codec.specs.Payload.{IsOriginal}
use Rattle.rose_overlay.proofs.Sorts.{one_list}
use Rattle.state_copies.specs.Copies.{HasAlso, HasOriginalToo}

-- ---- explicit points
-- the list has those of the first i points that are explicit
pub record AreExplicit (explicit points : List GridPoint) (i : ℕ) (list : List GridPoint) : Type 0 where
  pub same : (q : GridPoint) → Contains list q ↔ (Contains (take i points) q × Contains explicit q)
  pub ascending : AllPairs IsBefore list
  pub on_grid : All OnGrid list

pub none_yet : (explicit points list : List GridPoint) → list ≡ [] → AreExplicit explicit points 0 list
none_yet explicit points list is = record {
  same = λ q. (λ there. absurd (empty q (subst (λ (l : List GridPoint). Contains l q) is there)), λ both. absurd (empty q both.0));
  ascending = subst (AllPairs IsBefore) (sym is) (λ i j d less within. absurd (omega arith));
  on_grid = subst (All OnGrid) (sym is) (All-nil OnGrid);
}
  where
    empty : (q : GridPoint) → Contains {X = GridPoint} [] q → ⊥
    empty q (k, within, at) = omega arith

module _ (explicit points : List GridPoint) (i : ℕ) (p : GridPoint) (within : i < length points) (is : p ≡ get_or points i p) where
  more : take i points ++ p ∷ [] ≡ take (i + 1) points
  more = ap (λ (r : GridPoint). take i points ++ r ∷ []) is ∙ sym (take_more points i p within)

  -- a point of the list that is explicit
  pub one_explicit : (list new : List GridPoint) → AllPairs IsBefore points → Contains explicit p → OnGrid p → new ≡ list ++ p ∷ []
      → AreExplicit explicit points i list → AreExplicit explicit points (i + 1) new
  one_explicit list new order there fits now was = record {
    same = λ q. (
      λ listed. elim (Contains-push_cases list p q (subst (λ (l : List GridPoint). Contains l q) now listed)) [
        | inl earlier ↦
            let (front, has) = (was.same q).0 earlier in
            (subst (λ (l : List GridPoint). Contains l q) more (Contains-append_left (take i points) (p ∷ []) q front), has)
        | inr last ↦ (
          subst (λ (l : List GridPoint). Contains l q) more
              (subst (Contains (take i points ++ p ∷ [])) last (Contains-push (take i points) p)),
          subst (Contains explicit) last there,
        )
      ],
      λ both. subst (λ (l : List GridPoint). Contains l q) (sym now)
          (elim (Contains-push_cases (take i points) p q (subst (λ (l : List GridPoint). Contains l q) (sym more) both.0)) [
            | inl earlier ↦ Contains-append_left list (p ∷ []) q ((was.same q).1 (earlier, both.1))
            | inr last ↦ subst (Contains (list ++ p ∷ [])) last (Contains-push list p)
          ]),
    );
    ascending = subst (AllPairs IsBefore) (sym now) (all_pairs_push IsBefore list p was.ascending (λ k d k_within.
        let q = get_or list k d in
        let (j, j_within, j_is) = ((was.same q).0 (k, k_within, same_place list k q d k_within)).0 in
        let long = length-take i points in
        let less : j < i = omega (arith, long, j_within) in
        let before : IsBefore (get_or points j q) (get_or points i q) = order j i q less within in
        let at_j : get_or points j q ≡ q = sym (get_or-take i points j q less) ∙ j_is in
        let at_i : get_or points i q ≡ p = same_place points i q p within ∙ sym is in
        subst (λ (r : GridPoint). IsBefore r p) at_j (subst (IsBefore (get_or points j q)) at_i before)));
    on_grid = subst (All OnGrid) (sym now) (All-push OnGrid list p was.on_grid fits);
  }

  -- and one that isn't
  pub not_explicit : (list : List GridPoint) → (Contains explicit p → ⊥) → AreExplicit explicit points i list
      → AreExplicit explicit points (i + 1) list
  not_explicit list other was = record {
    same = λ q. (
      λ listed.
          let (front, has) = (was.same q).0 listed in
          (subst (λ (l : List GridPoint). Contains l q) more (Contains-append_left (take i points) (p ∷ []) q front), has),
      λ both.
          (elim (Contains-push_cases (take i points) p q (subst (λ (l : List GridPoint). Contains l q) (sym more) both.0)) [
            | inl earlier ↦ (was.same q).1 (earlier, both.1)
            | inr last ↦ absurd (other (subst (Contains explicit) (sym last) both.1))
          ]),
    );
    ascending = was.ascending;
    on_grid = was.on_grid;
  }

-- one point more
pub one_more : (explicit points : List GridPoint) (i : ℕ) (p : GridPoint) → i < length points → p ≡ get_or points i p
    → (list new : List GridPoint) → AllPairs IsBefore points → OnGrid p → HasAlso explicit p list new
    → AreExplicit explicit points i list → AreExplicit explicit points (i + 1) new
one_more explicit points i p within is list new order fits (inl (there, pushed)) was =
    one_explicit explicit points i p within is list new order there fits pushed was
one_more explicit points i p within is list new order fits (inr (other, same)) was =
    subst (AreExplicit explicit points (i + 1)) (sym same) (not_explicit explicit points i p within is list other was)

-- at the end it has the explicit points
pub all_listed : (explicit points : List GridPoint) (i : ℕ) (list : List GridPoint) → length points ≤ i
    → ((p : GridPoint) → Contains explicit p → Contains points p) → AllPairs IsBefore explicit → AreExplicit explicit points i list
    → list ≡ explicit
all_listed explicit points i list past among order was =
    one_list IsBefore IsBefore-asym list explicit was.ascending order (λ p listed. ((was.same p).0 listed).1)
    (λ p there. (was.same p).1 (subst (λ (l : List GridPoint). Contains l p) (sym (take_all i points past)) (among p there), there))

-- ---- originals by their ids
-- an original for a place where there is none
no_original : Original
no_original = record { id = 0; a = point_at 0 0; b = point_at 0 0; chain = [] }

-- the original with the id of one is that one
same_id : (os : List Original) (i : ℕ) (o : Original) → IsAscending os → i < length os → Contains os o
    → o.id ≡ (get_or os i o).id → o ≡ get_or os i o
same_id os i o rising within (k, k_within, at) same = elim (cases_lt k i) [
  | inl before ↦ absurd (omega (arith, rising k i o before within, same, ap (λ (p : Original). p.id) at))
  | inr not_before ↦ elim (cases_lt i k) [
    | inl behind ↦ absurd (omega (arith, rising i k o behind k_within, same, ap (λ (p : Original). p.id) at))
    | inr not_behind ↦
        let here : k ≡ i = omega (arith, not_before, not_behind) in
        subst (λ (j : ℕ). o ≡ get_or os j o) here (sym at)
  ]
]

-- the list has the first i originals, each with a text
pub record AreFirst (i : ℕ) (os list : List Original) : Type 0 where
  pub are : list ≡ take i os
  pub fit : All IsOriginal list

pub none_listed : (os list : List Original) → list ≡ [] → AreFirst 0 os list
none_listed os list is = record {
  are = is;
  fit = subst (All IsOriginal) (sym is) (All-nil IsOriginal);
}

-- with the original with the next id it has one more
pub next_listed : (d : Drawing) (i id : ℕ) (ids : List ℕ) (list new : List Original) → IsAscending d.originals
    → ids ≡ map (λ o. o.id) d.originals → i < length ids → id ≡ get_or ids i 0 → HasOriginalToo d id list new
    → AreFirst i d.originals list → AreFirst (i + 1) d.originals new
next_listed d i id ids list new rising are within is adds was = by_case adds
  where
    inside : i < length d.originals
    inside = omega (arith, within, ap length are, length-map d.originals (λ (o : Original). o.id))

    id_at : (o : Original) → (get_or d.originals i o).id ≡ id
    id_at o = sym (is ∙ ap (λ (l : List ℕ). get_or l i 0) are ∙ get_or-map (λ (p : Original). p.id) d.originals i o 0 inside)

    by_case : HasOriginalToo d id list new → AreFirst (i + 1) d.originals new
    by_case (inl (o, copy, pushed)) =
        let here = same_id d.originals i o rising inside copy.there (copy.id_is ∙ sym (id_at o)) in
        record {
          are = pushed ∙ ap (λ (l : List Original). l ++ o ∷ []) was.are
              ∙ ap (λ (p : Original). take i d.originals ++ p ∷ []) here ∙ sym (take_more d.originals i o inside);
          fit = subst (All IsOriginal) (sym pushed) (All-push IsOriginal list o was.fit copy.fits);
        }
    by_case (inr (lacks, same)) = absurd (lacks i no_original inside (id_at no_original))

-- and at the end all of them
pub all_originals : (i : ℕ) (ids : List ℕ) (os list : List Original) → ids ≡ map (λ o. o.id) os → length ids ≤ i
    → AreFirst i os list → list ≡ os
all_originals i ids os list are past was =
    was.are ∙ take_all i os (omega (arith, past, ap length are, length-map os (λ (o : Original). o.id)))
