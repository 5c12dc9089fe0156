-- This file shows that lines take points out one after another, and put points in.
use Rattle.std.proofs.Common.{◌≡◌, ◌↔◌, ℕ, Bool, true, false, not, ◌&&◌, ◌||◌, ◌==◌, List, [], ◌∷◌, filter, map, All, AllPairs, Contains}
use Rattle.std.proofs.Common.{get_or, refl, sym, ap, subst, ◌∙◌, inl, inr}
use Rattle.std.proofs.lemmas.List.Elements.{All-head, All-tail, All-contains, filter_agree, Contains-get_or}
use Rattle.std.proofs.lemmas.List.Kept.{AllPairs-filter}
use Rattle.grid_base.specs.Point.{GridPoint, IsBefore, is_point}
use Rattle.grid_base.specs.Drawing.{Drawing}
use Rattle.grid_base.specs.declared.original.Original.{Original}
use Rattle.grid_base.proofs.Booleans.{true_not_false}
use Rattle.grid_base.proofs.Elements.{Contains-here, Contains-later, Contains-cases, Contains-nil}
use Rattle.grid_base.proofs.Ends.{same_or_not}
use Rattle.grid_base.proofs.Orders.{IsBefore-asym}
use Rattle.rose_operators.proofs.AscendingLists.{same_points}
use Rattle.realm_audit.specs.Audits.{Audit, GainsPoint, LosesPoint, TakesPoints, Runs}
use Rattle.realm_audit.specs.Outcomes.{audit_of}
use Rattle.realm_audit.specs.declared.item.Item.TheVariants as items
use Rattle.realm_audit.specs.declared.phase.Phase.{Phase}
use Rattle.realm_audit.specs.declared.phase.Phase.TheVariants.{Placing}
use Rattle.chain_laws.proofs.PointSets.{Contains-filter}
use Rattle.state_check.specs.Drawable.{drawing_with}
use Rattle.value_geometry.proofs.Counts.{AllPairs-head, AllPairs-tail}
use Rattle.realm_insert.specs.Differences.{is_among, points_besides}
use Rattle.realm_insert.proofs.NewPoints.{among, besides_has, besides_ascend}
use Rattle.certificate_law.proofs.Filters.{filter_all, filter_twice, passes_or_not}

-- ---- what is left of points: what they have besides those that go
-- where none goes, all of them
none_gone : (points : List GridPoint) → points_besides points [] ≡ points
none_gone points = filter_all (λ q. not (is_among [] q)) points (λ q there. refl)

-- the first alone, and then the others
not_either : (b c : Bool) → (not (b || false) && not c) ≡ not (b || c)
not_either true c = refl
not_either false c = refl

one_then_others : (points gone : List GridPoint) (p : GridPoint)
    → points_besides (points_besides points (p ∷ [])) gone ≡ points_besides points (p ∷ gone)
one_then_others points gone p =
    filter_twice (λ q. not (is_among gone q)) (λ q. not (is_among (p ∷ []) q)) points
    ∙ filter_agree (λ q. not (is_among (p ∷ []) q) && not (is_among gone q)) (λ q. not (is_among (p ∷ gone) q))
    (λ q. not_either (is_point p q) (is_among gone q)) points

-- no point is among those behind it
never_behind : (p : GridPoint) (ps : List GridPoint) → AllPairs IsBefore (p ∷ ps) → Contains ps p → ⊥
never_behind p ps ascend there =
    let before = All-contains (IsBefore p) ps p (AllPairs-head IsBefore p ps ascend) there in
    IsBefore-asym p p before before

-- ---- points go
lose_one : (points : List GridPoint) (originals : List Original) (p : GridPoint) → AllPairs IsBefore points
    → LosesPoint (drawing_with points originals) (drawing_with (points_besides points (p ∷ [])) originals) p
lose_one points originals p ascend = record {
  points = λ q.
      let left = besides_has points (p ∷ []) q in (
        λ there. ((left.0 there).0, λ same. (left.0 there).1 (subst (λ r. Contains (r ∷ []) q) same (Contains-here q []))),
        λ both. left.1 (
          both.0,
          λ there. elim (Contains-cases p [] q there) [
            | inl same ↦ both.1 (sym same)
            | inr later ↦ Contains-nil q later
          ],
        ),
      );
  ascending = besides_ascend points (p ∷ []) ascend;
  originals = refl;
}

still_there : (points ps : List GridPoint) (p : GridPoint) → All (Contains points) (p ∷ ps) → AllPairs IsBefore (p ∷ ps)
    → All (Contains (points_besides points (p ∷ []))) ps
still_there points ps p there ascend = λ k d within.
    let q = get_or ps k d in
    let is_in = All-tail (Contains points) p ps there k d within in
    let before = AllPairs-head IsBefore p ps ascend k d within in
    (besides_has points (p ∷ []) q).1 (
      is_in,
      λ one. elim (Contains-cases p [] q one) [
        | inl same ↦ let itself = subst (IsBefore p) (sym same) before in IsBefore-asym p p itself itself
        | inr later ↦ Contains-nil q later
      ],
    )

module _ (greatest changes steps : ℕ) where
  -- while a change places points and originals
  abbrev placing : Drawing → Audit
  placing d = audit_of d greatest Placing changes steps

  -- each of these points is there when it goes
  pub points_go : (points ps : List GridPoint) (originals : List Original) → AllPairs IsBefore points → AllPairs IsBefore ps
      → All (Contains points) ps
      → Runs (placing (drawing_with points originals)) (map items.Unpoint ps) (placing (drawing_with (points_besides points ps) originals))
  points_go points [] originals ascend up there =
      ap (λ l. placing (drawing_with l originals)) (sym (none_gone points))
  points_go points (p ∷ ps) originals ascend up there =
      let left = points_besides points (p ∷ []) in
      let rest = points_go left ps originals (besides_ascend points (p ∷ []) ascend) (AllPairs-tail IsBefore p ps up)
      (still_there points ps p there up) in (
        placing (drawing_with left originals),
        (refl, All-head (Contains points) p ps there, drawing_with left originals, lose_one points originals p ascend, refl),
        subst (λ l. Runs (placing (drawing_with left originals)) (map items.Unpoint ps) (placing (drawing_with l originals)))
            (one_then_others points ps p) rest,
      )

-- ---- points come
gain_one : (points ps : List GridPoint) (originals : List Original) (p : GridPoint) → AllPairs IsBefore points
    → AllPairs IsBefore (p ∷ ps) → Contains points p
    → GainsPoint (drawing_with (points_besides points (p ∷ ps)) originals) (drawing_with (points_besides points ps) originals) p
gain_one points ps originals p ascend up there = record {
  points = λ q.
      let now = besides_has points ps q in
      let before = besides_has points (p ∷ ps) q in (
        λ is_in. elim (same_or_not q p) [
          | inl same ↦ inl same
          | inr other ↦ inr (before.1 (
            (now.0 is_in).0,
            λ one. elim (Contains-cases p ps q one) [
              | inl same ↦ other (sym same)
              | inr later ↦ (now.0 is_in).1 later
            ],
          ))
        ],
        λ either. elim either [
          | inl same ↦ subst (Contains (points_besides points ps)) (sym same) ((besides_has points ps p).1 (there, never_behind p ps up))
          | inr was ↦ now.1 ((before.0 was).0, λ later. (before.0 was).1 (Contains-later p ps q later))
        ],
      );
  ascending = besides_ascend points ps ascend;
  originals = refl;
}

module _ (phase : Phase) (takes : TakesPoints phase) (greatest changes steps : ℕ) where
  abbrev taking : Drawing → Audit
  taking d = audit_of d greatest phase changes steps

  -- where all but these points are there, they come
  pub points_come : (points ps : List GridPoint) (originals : List Original) → AllPairs IsBefore points → AllPairs IsBefore ps
      → All (Contains points) ps
      → Runs (taking (drawing_with (points_besides points ps) originals)) (map items.Point ps) (taking (drawing_with points originals))
  points_come points [] originals ascend up there = ap (λ l. taking (drawing_with l originals)) (none_gone points)
  points_come points (p ∷ ps) originals ascend up there =
      let here = All-head (Contains points) p ps there in
      let absent = λ (was : Contains (points_besides points (p ∷ ps)) p). ((besides_has points (p ∷ ps) p).0 was).1 (Contains-here p ps) in (
        taking (drawing_with (points_besides points ps) originals),
        (takes, absent, drawing_with (points_besides points ps) originals, gain_one points ps originals p ascend up here, refl),
        points_come points ps originals ascend (AllPairs-tail IsBefore p ps up) (All-tail (Contains points) p ps there),
      )

-- ---- what is there before and after
pub besides_there : (points others : List GridPoint) → All (Contains points) (points_besides points others)
besides_there points others = λ k d within.
    let list = points_besides points others in
    ((besides_has points others (get_or list k d)).0 (Contains-get_or list k d within)).0

-- without those that the others lack, the points are those that both have
both_have : (points others : List GridPoint) (q : GridPoint)
    → Contains (points_besides points (points_besides points others)) q ↔ (Contains points q × Contains others q)
both_have points others q =
    let left = besides_has points (points_besides points others) q in
    let besides = besides_has points others q in (
      λ there. (
        (left.0 there).0,
        elim (passes_or_not (is_among others q)) [
          | inl found ↦ (among others q).0 found
          | inr lacks ↦
              absurd ((left.0 there).1 (besides.1 ((left.0 there).0, λ has. true_not_false ((among others q).1 has) lacks)))
        ],
      ),
      λ both. left.1 (both.0, λ gone. (besides.0 gone).1 both.1),
    )

pub same_left : (points others : List GridPoint) → AllPairs IsBefore points → AllPairs IsBefore others
    → points_besides points (points_besides points others) ≡ points_besides others (points_besides others points)
same_left points others first second =
    same_points (λ q. Contains points q × Contains others q) (points_besides points (points_besides points others))
    (points_besides others (points_besides others points)) (besides_ascend points (points_besides points others) first)
    (besides_ascend others (points_besides others points) second) (both_have points others) (λ q.
    let both = both_have others points q in
    (λ there. ((both.0 there).1, (both.0 there).0), λ has. both.1 (has.1, has.0)))
