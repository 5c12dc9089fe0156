-- This file shows which points become explicit by a change: those of its figure that weren't.
use Rattle.std.proofs.Common.{◌≡◌, ◌↔◌, ◌||◌, Bool, true, false, not, List, [], ◌∷◌, Contains, AllPairs, IsTrue}
use Rattle.std.proofs.Common.{inl, inr, refl, sym, subst, ◌∙◌, true≢false}
use Rattle.std.proofs.lemmas.List.Kept.{AllPairs-filter}
use Rattle.grid_base.specs.Point.{GridPoint, IsBefore, is_point}
use Rattle.grid_base.specs.Drawing.{Drawing}
use Rattle.grid_base.specs.declared.kinds.Step.{Step}
use Rattle.grid_base.proofs.Elements.{Contains-later, Contains-cases, Contains-nil}
use Rattle.grid_base.proofs.Orders.{is_point-same, is_point-itself}
use Rattle.hook_chain.specs.Steps.{Settles}
use Rattle.line_grammar.specs.declared.command.Change.{Change}
use Rattle.line_grammar.specs.declared.command.Change.TheVariants.{Unpoint, Delete}
use Rattle.chain_laws.proofs.Elements.{Contains-head}
use Rattle.chain_laws.proofs.PointSets.{Contains-filter}
use Rattle.realm_insert.specs.Changes.{IsChangedTo, IsExplicitAfter}
use Rattle.realm_insert.specs.Differences.{is_among, points_besides}
use Rattle.realm_insert.specs.Figures.{Figure, Draws}
use Rattle.realm_insert.specs.State.{State}
use Rattle.rose_operators.proofs.AscendingLists.{same_points}
use Rattle.realm_insert.proofs.StepsTaken.{points_kept}

-- ---- the points that others lack
pub among : (points : List GridPoint) (p : GridPoint) → IsTrue (is_among points p) ↔ Contains points p
among [] p = (λ yes. absurd cc, λ there. absurd (Contains-nil p there))
among (q ∷ points) p = by_first (is_point q p) refl (among points p)
  where
    by_first : (same : Bool) → is_point q p ≡ same → IsTrue (is_among points p) ↔ Contains points p
        → IsTrue (same || is_among points p) ↔ Contains (q ∷ points) p
    by_first true is rest = (λ yes. Contains-head q points p (is_point-same q p is), λ there. refl)
    by_first false is rest = (
      λ later. Contains-later q points p (rest.0 later),
      λ there. elim (Contains-cases q points p there) [
        | inl same ↦
            let itself = subst (λ (r : GridPoint). is_point q r ≡ true) same (is_point-itself q) in
            absurd (true≢false (sym itself ∙ is))
        | inr later ↦ rest.1 later
      ],
    )

pub not_among : (points : List GridPoint) (p : GridPoint) → IsTrue (not (is_among points p)) ↔ (Contains points p → ⊥)
not_among points p = by_test (is_among points p) refl
  where
    by_test : (found : Bool) → is_among points p ≡ found → IsTrue (not found) ↔ (Contains points p → ⊥)
    by_test true is = (λ no. absurd cc, λ none. absurd (none ((among points p).0 is)))
    by_test false is = (λ no there. true≢false (sym ((among points p).1 there) ∙ is), λ none. refl)

-- so a test for the points tells what is not among them
pub among_is : (points : List GridPoint) (p : GridPoint) (test : Bool) → IsTrue test ↔ Contains points p
    → not test ≡ not (is_among points p)
among_is points p test tells = by_test test (is_among points p) tells (among points p)
  where
    by_test : (a b : Bool) → IsTrue a ↔ Contains points p → IsTrue b ↔ Contains points p → not a ≡ not b
    by_test true true one other = refl
    by_test false false one other = refl
    by_test true false one other = absurd (true≢false (sym (other.1 (one.0 refl))))
    by_test false true one other = absurd (true≢false (sym (one.1 (other.0 refl))))

-- those that aren't among the others
pub besides_has : (points others : List GridPoint) (p : GridPoint)
    → Contains (points_besides points others) p ↔ (Contains points p × (Contains others p → ⊥))
besides_has points others p =
    let passes = Contains-filter (λ (q : GridPoint). not (is_among others q)) points p in
    let lacks = not_among others p in (
      λ there. ((passes.0 there).0, lacks.0 (passes.0 there).1),
      λ both. passes.1 (both.0, lacks.1 both.1),
    )

pub besides_ascend : (points others : List GridPoint) → AllPairs IsBefore points → AllPairs IsBefore (points_besides points others)
besides_ascend points others up = AllPairs-filter IsBefore (λ (q : GridPoint). not (is_among others q)) points up

-- ---- what a change makes explicit
-- of the points that weren't explicit, those of the figure are afterwards, since what takes a point or deletes draws none
comes : (c : Change) (figure : Figure) (s : State) (q : GridPoint) → Draws c s figure → (Contains s.drawing.points q → ⊥)
    → Contains figure.points q ↔ IsExplicitAfter c figure s.drawing.points q
comes (Unpoint p) figure s q draws lacks = (
  λ there. absurd (Contains-nil q (subst (λ (f : Figure). Contains f.points q) draws there)),
  λ after. absurd (lacks after.0),
)
comes (Delete id) figure s q draws lacks = (
  λ there. absurd (Contains-nil q (subst (λ (f : Figure). Contains f.points q) draws there)),
  λ after. absurd (lacks after),
)
comes c figure s q draws lacks =
    (λ there. inl there, λ after. elim after [ inl there ↦ there | inr was ↦ absurd (lacks was) ])

-- So an ascending list of the points of the figure that weren't explicit has what is explicit more once all is settled.
pub points_come : (c : Change) (s : State) (figure : Figure) (list : List GridPoint) (changed e : Drawing) (trace : List Step)
    → Draws c s figure → IsChangedTo c figure s.drawing s.next_id changed → Settles changed trace e → AllPairs IsBefore list
    → ((q : GridPoint) → Contains list q ↔ Contains (points_besides figure.points s.drawing.points) q)
    → list ≡ points_besides e.points s.drawing.points
points_come c s figure list changed e trace draws is settles up listed =
    let old = s.drawing.points in
    let kept : e.points ≡ changed.points = points_kept changed e trace settles in
    let ascending : AllPairs IsBefore e.points = subst (AllPairs IsBefore) (sym kept) is.ascending in
    let explicit : (q : GridPoint) → Contains e.points q ↔ IsExplicitAfter c figure old q =
    subst (λ (l : List GridPoint). (q : GridPoint) → Contains l q ↔ IsExplicitAfter c figure old q) (sym kept) is.points in
    same_points (Contains (points_besides e.points old)) list (points_besides e.points old) up (besides_ascend e.points old ascending)
    (λ q.
    let drawn = besides_has figure.points old q in
    let after = besides_has e.points old q in (
      λ there.
          let both = drawn.0 ((listed q).0 there) in
          after.1 ((explicit q).1 ((comes c figure s q draws both.1).0 both.0), both.1),
      λ there.
          let both = after.0 there in
          (listed q).1 (drawn.1 ((comes c figure s q draws both.1).1 ((explicit q).0 both.0), both.1)),
    )) (λ q. (λ there. there, λ there. there))
