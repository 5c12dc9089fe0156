-- This file shows that a drawing has the parts of values after each part of a change too.
use Rattle.std.proofs.Common.{◌≡◌, ℕ, ◌+◌, Bool, true, false, not, nat_eq, ◌==◌}
use Rattle.std.proofs.Common.{List, [], ◌∷◌, get_or, map, Contains, Option, Some, IfSome}
use Rattle.std.proofs.Common.{refl, sym, ap, subst, ◌∙◌, arith}
use Rattle.std.specs.List.{list_any}
use Rattle.std.specs.Str.{bytes_eq}
use Rattle.std.proofs.lemmas.Bool.Decides.{nat_tests}
use Rattle.std.proofs.lemmas.List.{get_or_default}
use Rattle.std.proofs.lemmas.List.Elements.{All-map, All-weaker, Contains-get_or, Contains-append_left}
use Rattle.std.proofs.lemmas.List.Folds.{list_any_at}
use Rattle.std.proofs.lemmas.Map.Entries.{All-lookup}
use Rattle.std.proofs.lemmas.Simd.{map-map}
use Rattle.grid_base.specs.Border.{IsEvenBorder}
use Rattle.grid_base.specs.Point.{GridPoint}
use Rattle.grid_base.specs.Segment.{GridSegment}
use Rattle.grid_base.specs.Drawing.{Drawing}
use Rattle.grid_base.specs.declared.kinds.Kind.{Kind}
use Rattle.grid_base.specs.declared.kinds.Kind.TheVariants as kinds
use Rattle.grid_base.specs.declared.kinds.Step.{Step}
use Rattle.grid_base.specs.declared.original.Original.{Original}
use Rattle.hook_chain.specs.Changed.{without_id}
use Rattle.chain_laws.specs.Redraws.{redrawn_by}
use Rattle.hook_chain.specs.Steps.{Permitted, Settles}
use Rattle.hook_chain.specs.Straight.{straight, placed, along}
use Rattle.chain_laws.proofs.Elements.{Contains-map}
use Rattle.chain_laws.proofs.StepPaths.{step_paths}
use Rattle.value_geometry.specs.Parts.{AreOriginals, HasParts}
use Rattle.value_table.specs.Table.{NamedValues, value_named}
use Rattle.value_table.specs.Value.{ids_among, points_among}
use Rattle.value_table.specs.declared.value.Value.{Value}
use Rattle.value_table.specs.declared.value.Parts.{Parts}
use Rattle.value_table.specs.declared.value.Parts.TheVariants as parts
use Rattle.realm_insert.specs.Changes.{placed_all}
use Rattle.realm_insert.specs.Values.{AreValuesOf}
use Rattle.realm_insert.proofs.PreparedChanges.{placed_points}
use Rattle.realm_insert.proofs.RemovedOriginals.{Any-passes}

-- what is in a list of which none passes doesn't pass
pub not_listed : {X : Type 0} (test : X → Bool) (xs : List X) (x : X) → list_any test xs ≡ false → Contains xs x → test x ≡ false
not_listed test xs x none (k, within, is) = by_test (test x) refl
  where
    by_test : (b : Bool) → test x ≡ b → test x ≡ false
    by_test false fails = fails
    by_test true passes =
        let at : test (get_or xs k x) ≡ true = ap test is ∙ passes in
        let some = list_any_at test xs k x within at in
        absurd cc

-- the drawing has the parts of a value by its name
pub named_has_parts : (d : Drawing) (values : NamedValues) (name : List ℕ) (v : Value) → AreValuesOf d values
    → value_named name values ≡ Some v → HasParts d v.kind v.parts
named_has_parts d values name v fit named =
    let P = λ (w : Value). HasParts d w.kind w.parts in
    let all = All-lookup P (bytes_eq name) values (λ k entry within. (fit k entry within).1) in
    subst (λ (found : Option Value). IfSome found P) named all

-- ---- a step
-- d with other chains
abbrev rechained : (List GridPoint → List GridPoint) → Original → Original
rechained new o = record o { chain = new o.chain }

abbrev with_chains : (List GridPoint → List GridPoint) → Drawing → Drawing
with_chains new d = record { points = d.points; originals = map (rechained new) d.originals }

-- its originals have their ids and their ends still
parts_with_chains : (d : Drawing) (new : List GridPoint → List GridPoint) (ids : List ℕ) (list : List Original)
    → AreOriginals d ids list → AreOriginals (with_chains new d) ids (map (rechained new) list)
parts_with_chains d new ids list are =
    let Is = Contains (map (rechained new) d.originals) in
    record {
      there = All-map Is (rechained new) list
          (All-weaker (Contains d.originals) (λ o. Is (rechained new o))
          (λ o (k, within, is). (Contains-map (rechained new) d.originals (rechained new o)).1 (k, o, within, is, refl)) list
          are.there);
      by_id = map-map (λ (o : Original). o.id) (rechained new) list ∙ are.by_id;
    }

has_with_chains : (d : Drawing) (new : List GridPoint → List GridPoint) (kind : Kind) (made : Parts) → HasParts d kind made
    → HasParts (with_chains new d) kind made
has_with_chains d new kinds.Points (parts.Points points) has = has
has_with_chains d new kinds.Points (parts.Ids ids) has = absurd has
has_with_chains d new kinds.Lines (parts.Points points) has = absurd has
has_with_chains d new kinds.Lines (parts.Ids ids) (list, are) =
    (map (rechained new) list, parts_with_chains d new ids list are)
has_with_chains d new kinds.Regions (parts.Points points) has = absurd has
has_with_chains d new kinds.Regions (parts.Ids ids) (list, are, even) = (
  map (rechained new) list,
  parts_with_chains d new ids list are,
  subst IsEvenBorder (sym (map-map along (rechained new) list)) even,
)

values_step : (d e : Drawing) (step : Step) (values : NamedValues) → Permitted d step e → AreValuesOf d values
    → AreValuesOf e values
values_step d e step values permitted fit =
    let drawn = step_paths d e step permitted in
    let new = redrawn_by drawn.paths in
    let leads : e ≡ with_chains new d = drawn.leads in
    subst (λ (g : Drawing). AreValuesOf g values) (sym leads) (λ k entry within.
    let was = fit k entry within in
    (was.0, has_with_chains d new (get_or values k entry).1.kind (get_or values k entry).1.parts was.1))

-- and so does a trace
pub values_settled : (d e : Drawing) (trace : List Step) (values : NamedValues) → Settles d trace e → AreValuesOf d values
    → AreValuesOf e values
values_settled d e [] values settles fit = subst (λ (g : Drawing). AreValuesOf g values) settles.0 fit
values_settled d e (step ∷ trace) values settles fit =
    values_settled settles.0 e trace values settles.2 (values_step d settles.0 step values settles.1 fit)

-- ---- one drawing for another
-- originals with these ids are in e as well where each of d with such an id is
are_too : (d e : Drawing) (ids : List ℕ) (list : List Original)
    → ((o : Original) → Contains ids o.id → Contains d.originals o → Contains e.originals o) → AreOriginals d ids list
    → AreOriginals e ids list
are_too d e ids list stays are = record {
  there = λ k o within.
      let part = get_or list k o in
      let named = (Contains-map (λ (q : Original). q.id) list part.id).1
      (k, part, within, get_or_default list k part o within, refl) in
      stays part (subst (λ (l : List ℕ). Contains l part.id) are.by_id named) (are.there k o within);
  by_id = are.by_id;
}

-- e has the parts of a value too where its points are explicit there, and its originals are there
has_too : (d e : Drawing) (kind : Kind) (made : Parts) → ((p : GridPoint) → Contains (points_among made) p → Contains d.points p
    → Contains e.points p) → ((o : Original) → Contains (ids_among made) o.id → Contains d.originals o → Contains e.originals o)
    → HasParts d kind made → HasParts e kind made
has_too d e kinds.Points (parts.Points points) explicit stays has =
    λ k p within. explicit (get_or points k p) (Contains-get_or points k p within) (has k p within)
has_too d e kinds.Points (parts.Ids ids) explicit stays has = absurd has
has_too d e kinds.Lines (parts.Points points) explicit stays has = absurd has
has_too d e kinds.Lines (parts.Ids ids) explicit stays (list, are) = (list, are_too d e ids list stays are)
has_too d e kinds.Regions (parts.Points points) explicit stays has = absurd has
has_too d e kinds.Regions (parts.Ids ids) explicit stays (list, are, even) = (list, are_too d e ids list stays are, even)

-- originals more
pub original_stays : (d : Drawing) (id : ℕ) (list : List GridSegment) (o : Original) → Contains d.originals o
    → Contains (placed_all d id list).originals o
original_stays d id [] o there = there
original_stays d id (s ∷ list) o there =
    original_stays (placed d id s) (id + 1) list o (Contains-append_left d.originals (straight id s ∷ []) o there)

pub has_placed_all : (d : Drawing) (id : ℕ) (list : List GridSegment) (kind : Kind) (made : Parts)
    → HasParts d kind made → HasParts (placed_all d id list) kind made
has_placed_all d id list kind made has =
    has_too d (placed_all d id list) kind made
    (λ p named explicit. subst (λ (l : List GridPoint). Contains l p) (sym (placed_points d id list)) explicit)
    (λ o named there. original_stays d id list o there) has

-- explicit points more, or other ones less
pub has_moved : (d e : Drawing) (kind : Kind) (made : Parts) → d.originals ≡ e.originals
    → ((p : GridPoint) → Contains (points_among made) p → Contains d.points p → Contains e.points p) → HasParts d kind made
    → HasParts e kind made
has_moved d e kind made same explicit has =
    has_too d e kind made explicit (λ o named there. subst (λ (l : List Original). Contains l o) same there) has

-- an original less that isn't named
pub has_removed : (d : Drawing) (id : ℕ) (kind : Kind) (made : Parts) → list_any (nat_eq id) (ids_among made) ≡ false
    → HasParts d kind made → HasParts (without_id d id) kind made
has_removed d id kind made unnamed has =
    has_too d (without_id d id) kind made (λ p named explicit. explicit) (λ o named (k, within, is).
    let (j, q, inside, at, same) = (Any-passes (λ q. not (q.id == id)) (λ q. q ≡ o) d.originals).1
    (k, o, within, is, (passes o named, refl)) in
    (j, inside, get_or_default _ j o q inside ∙ at ∙ same)) has
  where
    passes : (o : Original) → Contains (ids_among made) o.id → not (o.id == id) ≡ true
    passes o named =
        let apart : nat_eq id o.id ≡ false = not_listed (nat_eq id) (ids_among made) o.id unnamed named in
        grind (arith, nat_tests)
