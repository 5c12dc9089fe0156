-- This file shows that what a change takes away is what its line says.
use Rattle.std.proofs.Common.{◌≡◌, ◌≢◌, ◌↔◌, ℕ, ◌<◌, Bool, true, false, not, List, [], ◌∷◌, ◌++◌, map, get_or, AllPairs, Contains}
use Rattle.std.proofs.Common.{inl, inr, refl, sym, ap, ap₂, subst, ◌∙◌, arith}
use Rattle.std.proofs.lemmas.Bool.{cases_eq, cases_lt}
use Rattle.std.proofs.lemmas.List.Kept.{AllPairs-filter}
use Rattle.grid_base.specs.Point.{GridPoint, IsBefore}
use Rattle.grid_base.specs.Drawing.{Drawing}
use Rattle.grid_base.specs.declared.original.Original.{Original}
use Rattle.grid_base.proofs.Elements.{Contains-nil, Contains-cases, same_place}
use Rattle.grid_base.proofs.Ends.{same_or_not}
use Rattle.grid_base.proofs.Orders.{IsBefore-asym}
use Rattle.line_grammar.specs.declared.command.Change.{Change}
use Rattle.line_grammar.specs.declared.command.Change.TheVariants.{Unpoint, Delete}
use Rattle.realm_audit.specs.declared.item.Item.{Item}
use Rattle.realm_audit.specs.declared.item.Item.TheVariants as items
use Rattle.hook_chain.specs.Ids.{IsAscending}
use Rattle.chain_laws.proofs.Elements.{Contains-head}
use Rattle.realm_insert.specs.Changes.{IsChangedTo}
use Rattle.realm_insert.specs.Differences.{is_among, has_id, points_besides, originals_besides}
use Rattle.realm_insert.specs.Figures.{Figure}
use Rattle.realm_insert.specs.Lines.{grid_point}
use Rattle.realm_insert.specs.Refusals.{DeletesNothing, TakesNoPoint}
use Rattle.realm_insert.proofs.NewPoints.{among, not_among, besides_has as points_besides_has, besides_ascend}
use Rattle.rose_overlay.proofs.Sorts.{one_list}
use Rattle.store_certificate.specs.Telling.{lost_items}
use Rattle.store_certificate.proofs.Ids.{nothing, ids, has_its_id, with_id, not_lacked, besides_has}
use Rattle.store_certificate.proofs.ChangedIds.{old_ids_stay, ids_left}

-- no two elements are in order where there is but one
one_alone : {X : Type 0} (R : X → X → Type 0) (x : X) → AllPairs R (x ∷ [])
one_alone R x = λ i j d less within. absurd (omega (arith, less, within))

only_one : {X : Type 0} (x y : X) → Contains (x ∷ []) y → x ≡ y
only_one x y there = elim (Contains-cases x [] y there) [ inl same ↦ same | inr later ↦ absurd (Contains-nil y later) ]

-- ---- points
-- none is lost where all stay
no_point_lost : (points after : List GridPoint) → ((q : GridPoint) → Contains points q → Contains after q)
    → points_besides points after ≡ []
no_point_lost points after stay = nothing (points_besides points after) (λ q there.
    let both = (points_besides_has points after q).0 there in
    both.1 (stay q both.0))

-- and one is where all others stay
point_lost : (points after : List GridPoint) (p : GridPoint) → AllPairs IsBefore points → Contains points p
    → ((q : GridPoint) → Contains after q ↔ (Contains points q × (q ≢ p))) → points_besides points after ≡ p ∷ []
point_lost points after p up there left =
    one_list IsBefore IsBefore-asym (points_besides points after) (p ∷ []) (besides_ascend points after up) (one_alone IsBefore p)
    (λ q lost.
    let both = (points_besides_has points after q).0 lost in
    elim (same_or_not q p) [
      | inl same ↦ Contains-head p [] q (sym same)
      | inr other ↦ absurd (both.1 ((left q).1 (both.0, other)))
    ])
    (λ q last.
    subst (Contains (points_besides points after)) (only_one p q last)
    ((points_besides_has points after p).1 (there, λ stays. ((left p).0 stays).1 refl)))

-- a point that isn't missing is there
was_explicit : (points : List GridPoint) (p : GridPoint) → ((Contains points p → ⊥) → ⊥) → Contains points p
was_explicit points p there = by_test (is_among points p) refl
  where
    by_test : (found : Bool) → is_among points p ≡ found → Contains points p
    by_test true is = (among points p).0 is
    by_test false is = absurd (there ((not_among points p).0 (ap not is)))

-- ---- originals
-- none is lost where all ids stay
no_original_lost : (os after : List Original) → ((n : ℕ) → Contains (ids os) n → Contains (ids after) n)
    → originals_besides os after ≡ []
no_original_lost os after stay = nothing (originals_besides os after) (λ o there.
    let both = (besides_has os after o).0 there in
    both.1 (stay o.id (has_its_id os o both.0)))

-- no two have one id where ids rise
same_by_id : (os : List Original) (o q : Original) → IsAscending os → Contains os o → Contains os q → o.id ≡ q.id → o ≡ q
same_by_id os o q rising (i, i_in, i_is) (j, j_in, j_is) same =
    let at_j = same_place os j o q j_in ∙ j_is in
    let id_i = ap (λ (r : Original). r.id) i_is in
    let id_j = ap (λ (r : Original). r.id) at_j in
    elim (cases_lt i j) [
      | inl before ↦ let less = rising i j o before j_in in absurd (omega (arith, less, id_i, id_j, same))
      | inr not_before ↦ elim (cases_lt j i) [
        | inl behind ↦ let less = rising j i o behind i_in in absurd (omega (arith, less, id_i, id_j, same))
        | inr not_behind ↦
            let one : i ≡ j = omega (arith, not_before, not_behind) in
            sym i_is ∙ ap (λ k. get_or os k o) one ∙ at_j
      ]
    ]

-- one is lost where all other ids stay
original_lost : (os after : List Original) (id : ℕ) → IsAscending os → Contains (ids os) id
    → ((n : ℕ) → Contains (ids after) n ↔ (Contains (ids os) n × (n ≢ id)))
    → map (λ o. items.Remove o.id) (originals_besides os after) ≡ items.Remove id ∷ []
original_lost os after id rising there left =
    let found = with_id os id there in
    let o = found.0 in
    let alone = one_list (λ (p q : Original). p.id < q.id) (λ p q less more. omega (arith, less, more))
    (originals_besides os after) (o ∷ [])
    (AllPairs-filter (λ (p q : Original). p.id < q.id) (λ q. not (has_id after q.id)) os rising)
    (one_alone (λ (p q : Original). p.id < q.id) o)
    (λ q lost.
    let both = (besides_has os after q).0 lost in
    elim (cases_eq q.id id) [
      | inl same ↦ Contains-head o [] q (same_by_id os o q rising found.1 both.0 (found.2 ∙ sym same))
      | inr other ↦ absurd (both.1 ((left q.id).1 (has_its_id os q both.0, other)))
    ])
    (λ q last.
    subst (Contains (originals_besides os after)) (only_one o q last)
    ((besides_has os after o).1 (found.1, λ stays. ((left o.id).0 stays).1 found.2))) in
    ap (λ (l : List Original). map (λ q. items.Remove q.id) l) alone ∙ ap (λ n. items.Remove n ∷ []) found.2

-- ---- a change
-- what it takes away is told by the one line that its own line gives
pub lost_are : (c : Change) (figure : Figure) (d changed e : Drawing) (first : ℕ) (rest : List Item)
    → IsChangedTo c figure d first changed → e.points ≡ changed.points → ids e.originals ≡ ids changed.originals → AllPairs IsBefore d.points → IsAscending d.originals
    → (DeletesNothing c d → ⊥) → (TakesNoPoint c d → ⊥)
    → map items.Unpoint (points_besides d.points e.points)
    ++ (map (λ o. items.Remove o.id) (originals_besides d.originals e.originals) ++ rest)
    ≡ lost_items c ++ rest
lost_are (Unpoint p) figure d changed e first rest is points same up rising some there =
    ap₂ (λ (ps : List GridPoint) (os : List Original). map items.Unpoint ps ++ (map (λ o. items.Remove o.id) os ++ rest))
    (point_lost d.points e.points (grid_point p) up (was_explicit d.points (grid_point p) there)
    (λ q. subst (λ (l : List GridPoint). Contains l q ↔ (Contains d.points q × (q ≢ grid_point p))) (sym points) (is.points q)))
    (no_original_lost d.originals e.originals (λ n old. subst (λ l. Contains l n) (sym (same ∙ ap ids is.originals)) old))
lost_are (Delete id) figure d changed e first rest is points same up rising some there =
    ap₂ (λ (ps : List GridPoint) (l : List Item). map items.Unpoint ps ++ (l ++ rest))
    (no_point_lost d.points e.points (λ q old. subst (λ (l : List GridPoint). Contains l q) (sym points) ((is.points q).1 old)))
    (original_lost d.originals e.originals id rising (not_lacked d.originals id some)
    (λ n. subst (λ l. Contains l n ↔ (Contains (ids d.originals) n × (n ≢ id))) (sym (same ∙ ap ids is.originals))
    (ids_left d.originals id n)))
lost_are c figure d changed e first rest is points same up rising some there =
    ap₂ (λ (ps : List GridPoint) (os : List Original). map items.Unpoint ps ++ (map (λ o. items.Remove o.id) os ++ rest))
    (no_point_lost d.points e.points (λ q old. subst (λ (l : List GridPoint). Contains l q) (sym points) ((is.points q).1 (inr old))))
    (no_original_lost d.originals e.originals (λ n old.
    subst (λ l. Contains l n) (sym (same ∙ ap ids is.originals)) (old_ids_stay d first figure.segments n old)))
