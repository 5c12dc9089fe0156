-- This file shows that all values are made of what is drawn once a change is made.
use Rattle.std.proofs.Common.{◌≡◌, ℕ, ◌+◌, ◌<◌, Bool, true, false, cond}
use Rattle.std.proofs.Common.{List, [], ◌∷◌, get_or, All, Contains, count_by}
use Rattle.std.proofs.Common.{inr, refl, sym, ap, subst, arith}
use Rattle.std.specs.Map.{values_of}
use Rattle.std.proofs.lemmas.List.Elements.{All-nil, All-cons, All-head, All-tail}
use Rattle.std.proofs.lemmas.List.Sums.{sum_by-cons}
use Rattle.grid_base.specs.Point.{GridPoint, is_point}
use Rattle.grid_base.specs.Segment.{GridSegment}
use Rattle.grid_base.specs.Drawing.{Drawing}
use Rattle.line_grammar.specs.declared.command.Change.{Change}
use Rattle.line_grammar.specs.declared.command.Change.TheVariants.{Unpoint, Delete}
use Rattle.hook_chain.specs.Changed.{without_id}
use Rattle.chain_laws.proofs.Stretches.{apart_by_test}
use Rattle.value_table.specs.Table.{NamedValues}
use Rattle.value_table.specs.Value.{points_among, names_id, names_point}
use Rattle.value_table.specs.declared.value.Value.{Value}
use Rattle.realm_insert.specs.Changes.{IsChangedTo, placed_all}
use Rattle.realm_insert.specs.Figures.{Figure}
use Rattle.realm_insert.specs.Lines.{grid_point}
use Rattle.realm_insert.specs.Refusals.{TakesWhatIsUsed}
use Rattle.realm_insert.specs.Values.{AreValuesOf}
use Rattle.realm_insert.proofs.PreparedChanges.{placed_points}
use Rattle.realm_insert.proofs.KeptValues.{not_listed, has_placed_all, has_moved, has_removed}

-- ---- what is used by none
-- where none is counted none passes
none_counted : {X : Type 0} (test : X → Bool) (xs : List X) → (0 < count_by test xs → ⊥) → All (λ x. test x ≡ false) xs
none_counted test [] none = All-nil (λ x. test x ≡ false)
none_counted test (x ∷ xs) none =
    let whole = sum_by-cons (λ y. cond (test y) 1 0) x xs in
    let here : test x ≡ false = fails (test x) refl whole in
    All-cons (λ y. test y ≡ false) x xs here (none_counted test xs (λ some. none (omega (arith, whole, some))))
  where
    fails : (b : Bool) → test x ≡ b → count_by test (x ∷ xs) ≡ cond (test x) 1 0 + count_by test xs → test x ≡ false
    fails false is whole = is
    fails true passes whole =
        let first : ◌≡◌ {A = ℕ} (cond (test x) 1 0) 1 = ap (λ (b : Bool). cond b 1 0) passes in
        absurd (none (omega (arith, whole, first)))

-- so each value of the table fails
unmapped : (test : Value → Bool) (values : NamedValues) → All (λ v. test v ≡ false) (values_of values)
    → All (λ entry. test entry.1 ≡ false) values
unmapped test [] all = All-nil (λ entry. test entry.1 ≡ false)
unmapped test (entry ∷ values) all =
    All-cons (λ e. test e.1 ≡ false) entry values (All-head (λ v. test v ≡ false) entry.1 (values_of values) all)
    (unmapped test values (All-tail (λ v. test v ≡ false) entry.1 (values_of values) all))

-- ---- the values that were there
module _ (d : Drawing) (first : ℕ) (changed : Drawing) (values : NamedValues) (fit : AreValuesOf d values) where
  -- originals are placed, and no explicit point goes
  pub fit_placed : (list : List GridSegment) → changed.originals ≡ (placed_all d first list).originals
      → ((p : GridPoint) → Contains d.points p → Contains changed.points p) → AreValuesOf changed values
  fit_placed list originals stays = λ k entry within.
      let was = fit k entry within in
      let v = (get_or values k entry).1 in (
        was.0,
        has_moved (placed_all d first list) changed v.kind v.parts (sym originals)
            (λ p there explicit. stays p (subst (λ (l : List GridPoint). Contains l p) (placed_points d first list) explicit))
            (has_placed_all d first list v.kind v.parts was.1),
      )

  -- what is used doesn't go
  pub values_changed : (c : Change) (figure : Figure) → (TakesWhatIsUsed c values → ⊥) → IsChangedTo c figure d first changed
      → AreValuesOf changed values
  values_changed (Delete id) figure unused is = λ k entry within.
      let was = fit k entry within in
      let v = (get_or values k entry).1 in
      let unnamed = unmapped (names_id id) values (none_counted (names_id id) (values_of values) unused) in (
        was.0,
        has_moved (without_id d id) changed v.kind v.parts (sym is.originals) (λ p there explicit. (is.points p).1 explicit)
            (has_removed d id v.kind v.parts (unnamed k entry within) was.1),
      )
  values_changed (Unpoint p) figure unused is = λ k entry within.
      let was = fit k entry within in
      let v = (get_or values k entry).1 in
      let unnamed = unmapped (names_point (grid_point p)) values
      (none_counted (names_point (grid_point p)) (values_of values) unused) in (
        was.0,
        has_moved d changed v.kind v.parts (sym is.originals)
            (λ q there explicit. (is.points q).1 (
              explicit,
              λ same.
                  let apart : is_point (grid_point p) q ≡ false =
                  not_listed (is_point (grid_point p)) (points_among v.parts) q (unnamed k entry within) there in
                  apart_by_test (grid_point p) q apart (sym same),
            ))
            was.1,
      )
  values_changed c figure unused is = fit_placed figure.segments is.originals (λ q explicit. (is.points q).1 (inr explicit))
