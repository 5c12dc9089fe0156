-- This file shows which ids a drawing has once a change has become of it.
use Rattle.std.proofs.Common.{◌≡◌, ◌≢◌, ◌⊎◌, ◌↔◌, ℕ, ◌+◌, ◌≤◌, ◌==◌, not, List, [], ◌∷◌, ◌++◌, filter, Contains}
use Rattle.std.proofs.Common.{true, inl, inr, ap, subst, arith}
use Rattle.std.proofs.lemmas.Bool.Decides.{nat_tests}
use Rattle.std.proofs.lemmas.List.Elements.{Contains-append_left, Contains-push_cases}
use Rattle.grid_base.specs.Segment.{GridSegment}
use Rattle.grid_base.specs.Drawing.{Drawing}
use Rattle.grid_base.specs.declared.original.Original.{Original}
use Rattle.line_grammar.specs.declared.command.Change.{Change}
use Rattle.line_grammar.specs.declared.command.Change.TheVariants.{Unpoint, Delete}
use Rattle.hook_chain.specs.Straight.{straight, placed}
use Rattle.chain_laws.proofs.PointSets.{Contains-filter}
use Rattle.realm_insert.specs.Changes.{placed_all, redrawn}
use Rattle.realm_insert.specs.Figures.{Figure}
use Rattle.store_certificate.proofs.Ids.{ids, has_its_id, with_id}

-- ---- straight originals, the first with this id
-- each id is an old one, or comes no earlier
pub placed_ids : (d : Drawing) (first : ℕ) (list : List GridSegment) (n : ℕ) → Contains (ids (placed_all d first list).originals) n
    → Contains (ids d.originals) n ⊎ (first ≤ n)
placed_ids d first [] n there = inl there
placed_ids d first (s ∷ list) n there = elim (placed_ids (placed d first s) (first + 1) list n there) [
  | inr later ↦ inr (omega (arith, later))
  | inl here ↦
      let found = with_id (d.originals ++ straight first s ∷ []) n here in
      elim (Contains-push_cases d.originals (straight first s) found.0 found.1) [
        | inl old ↦ inl (subst (Contains (ids d.originals)) found.2 (has_its_id d.originals found.0 old))
        | inr same ↦ inr (omega (arith, ap (λ (o : Original). o.id) same, found.2))
      ]
]

-- and the old ones stay
pub old_ids_stay : (d : Drawing) (first : ℕ) (list : List GridSegment) (n : ℕ) → Contains (ids d.originals) n
    → Contains (ids (placed_all d first list).originals) n
old_ids_stay d first [] n there = there
old_ids_stay d first (s ∷ list) n there =
    let found = with_id d.originals n there in
    let os = d.originals ++ straight first s ∷ [] in
    let stays = Contains-append_left d.originals (straight first s ∷ []) found.0 found.1 in
    old_ids_stay (placed d first s) (first + 1) list n (subst (Contains (ids os)) found.2 (has_its_id os found.0 stays))

-- ---- an original less
pub ids_left : (os : List Original) (id n : ℕ)
    → Contains (ids (filter (λ o. not (o.id == id)) os)) n ↔ (Contains (ids os) n × (n ≢ id))
ids_left os id n = (
  λ there.
      let found = with_id (filter (λ o. not (o.id == id)) os) n there in
      let both = (Contains-filter (λ o. not (o.id == id)) os found.0).0 found.1 in (
        subst (Contains (ids os)) found.2 (has_its_id os found.0 both.0),
        λ same. grind (arith, nat_tests, both.1, found.2, same),
      ),
  λ both.
      let found = with_id os n both.0 in
      let other : found.0.id ≢ id = λ same. both.1 (omega (arith, same, found.2)) in
      let passes : not (found.0.id == id) ≡ true = grind (arith, nat_tests, other) in
      let stays = (Contains-filter (λ o. not (o.id == id)) os found.0).1 (found.1, passes) in
      subst (Contains (ids (filter (λ o. not (o.id == id)) os))) found.2
      (has_its_id (filter (λ o. not (o.id == id)) os) found.0 stays),
)

-- ---- any change
pub changed_ids : (c : Change) (figure : Figure) (d : Drawing) (first n : ℕ) → Contains (ids (redrawn c figure d first).originals) n
    → Contains (ids d.originals) n ⊎ (first ≤ n)
changed_ids (Unpoint p) figure d first n there = inl there
changed_ids (Delete id) figure d first n there = inl ((ids_left d.originals id n).0 there).0
changed_ids c figure d first n there = placed_ids d first figure.segments n there
