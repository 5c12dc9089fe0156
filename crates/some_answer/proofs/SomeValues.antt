-- This file shows what a change makes of the values, and that no two have one name.
use Rattle.std.proofs.Common.{◌≡◌, ◌≢◌, ℕ, Bool, true, false, cond, List, [], ◌∷◌, ◌++◌, length, filter, not, All}
use Rattle.std.proofs.Common.{AllPairs, Contains, refl, sym, ap, subst}
use Rattle.std.specs.Map.{keys_of}
use Rattle.std.specs.Str.{bytes_eq}
use Rattle.std.proofs.lemmas.Cmp.{nat_list_eq_equiv}
use Rattle.std.proofs.lemmas.List.{map-append}
use Rattle.std.proofs.lemmas.List.Elements.{Contains-get_or}
use Rattle.std.proofs.lemmas.List.Kept.{AllPairs-filter}
use Rattle.std.proofs.lemmas.Map.Views.{IsSome-lookup_from_Contains}
use Rattle.grid_base.specs.declared.kinds.Kind.{Kind}
use Rattle.grid_base.specs.declared.kinds.Kind.TheVariants as kinds
use Rattle.line_grammar.specs.declared.command.Change.{Change}
use Rattle.line_grammar.specs.declared.command.Change.TheVariants.{Points, Lines, Regions, Let, Drop}
use Rattle.value_table.specs.Table.{NamedValues, IsNamed, without, HasDistinctNames}
use Rattle.value_table.specs.declared.value.Value.{Value}
use Rattle.value_table.specs.declared.value.Parts.TheVariants as parts
use Rattle.realm_insert.specs.Changes.{AreValuesAfter, Defines, IsValueOfFigure, ids_from}
use Rattle.realm_insert.specs.Figures.{Figure}
use Rattle.realm_insert.specs.Refusals.{DefinesTwice}
use Rattle.one_reply.proofs.Listings.{listed_points}
use Rattle.some_answer.proofs.OriginalsInRow.{pairs_push}

-- ---- what there is
-- points in order, or ids in a row
value_of : (kind : Kind) (figure : Figure) (first : ℕ) → (v : Value) × IsValueOfFigure kind figure first v
value_of kinds.Points figure first =
    let (list, is) = listed_points figure.points in (
      record { kind = kinds.Points; parts = parts.Points list },
      record { list = list; is_points = refl; ascending = is.ascending; exact = is.exact },
    )
value_of kinds.Lines figure first =
    (record { kind = kinds.Lines; parts = parts.Ids (ids_from first (length figure.segments)) }, refl)
value_of kinds.Regions figure first =
    (record { kind = kinds.Regions; parts = parts.Ids (ids_from first (length figure.segments)) }, refl)

defined : (name : List ℕ) (figure : Figure) (first : ℕ) (old : NamedValues)
    → (new : NamedValues) × Defines name figure first old new
defined name figure first old =
    let (v, is) = value_of figure.kind figure first in (old ++ (name, v) ∷ [], (v, is, refl))

pub some_values : (c : Change) (figure : Figure) (first : ℕ) (old : NamedValues)
    → (new : NamedValues) × AreValuesAfter c figure first old new
some_values (Points name path) figure first old = defined name figure first old
some_values (Lines name paths) figure first old = defined name figure first old
some_values (Regions name cycles) figure first old = defined name figure first old
some_values (Let name op one second) figure first old = defined name figure first old
some_values (Drop name) figure first old = (without name old, refl)
some_values c figure first old = (old, refl)

-- ---- names
-- a new name isn't among the keys
new_name : (name : List ℕ) (old : NamedValues) → (IsNamed name old → ⊥) → All (λ other. other ≢ name) (keys_of old)
new_name name old lacks = λ k d within same.
    let among = subst (Contains (keys_of old)) same (Contains-get_or (keys_of old) k d within) in
    lacks (IsSome-lookup_from_Contains nat_list_eq_equiv name old among)

one_more_name : (name : List ℕ) (v : Value) (old new : NamedValues) → (IsNamed name old → ⊥) → HasDistinctNames old
    → new ≡ old ++ (name, v) ∷ [] → HasDistinctNames new
one_more_name name v old new lacks apart is =
    let keys = map-append (λ (e : List ℕ × Value). e.0) old ((name, v) ∷ []) in
    let pushed = pairs_push (λ (p q : List ℕ). p ≢ q) (keys_of old) name apart (new_name name old lacks) in
    let there : HasDistinctNames (old ++ (name, v) ∷ []) = subst (AllPairs (λ (p q : List ℕ). p ≢ q)) (sym keys) pushed in
    subst HasDistinctNames (sym is) there

-- what is left has the names that it had
abbrev is_other : List ℕ → List ℕ → Bool
is_other name key = not (bytes_eq name key)

left_or_gone : (name : List ℕ) (entry : List ℕ × Value) (table : NamedValues) (stays : Bool)
    → filter (is_other name) (keys_of table) ≡ keys_of (without name table)
    → cond stays (entry.0 ∷ filter (is_other name) (keys_of table)) (filter (is_other name) (keys_of table))
    ≡ keys_of (cond stays (entry ∷ without name table) (without name table))
left_or_gone name entry table true same = ap (λ (keys : List (List ℕ)). entry.0 ∷ keys) same
left_or_gone name entry table false same = same

keys_left : (name : List ℕ) (table : NamedValues) → filter (is_other name) (keys_of table) ≡ keys_of (without name table)
keys_left name [] = refl
keys_left name (entry ∷ table) = left_or_gone name entry table (is_other name entry.0) (keys_left name table)

fewer_names : (name : List ℕ) (old : NamedValues) → HasDistinctNames old → HasDistinctNames (without name old)
fewer_names name old apart =
    subst (AllPairs (λ (p q : List ℕ). p ≢ q)) (keys_left name old)
    (AllPairs-filter (λ (p q : List ℕ). p ≢ q) (is_other name) (keys_of old) apart)

module _ (figure : Figure) (first : ℕ) (old new : NamedValues) (apart : HasDistinctNames old) where
  defined_apart : (name : List ℕ) → (IsNamed name old → ⊥) → Defines name figure first old new → HasDistinctNames new
  defined_apart name lacks (v, made, is) = one_more_name name v old new lacks apart is

  pub names_after : (c : Change) → (DefinesTwice c old → ⊥) → AreValuesAfter c figure first old new → HasDistinctNames new
  names_after (Points name path) once after = defined_apart name once after
  names_after (Lines name paths) once after = defined_apart name once after
  names_after (Regions name cycles) once after = defined_apart name once after
  names_after (Let name op one second) once after = defined_apart name once after
  names_after (Drop name) once after = subst HasDistinctNames (sym after) (fewer_names name old apart)
  names_after c once after = subst HasDistinctNames (sym after) apart
