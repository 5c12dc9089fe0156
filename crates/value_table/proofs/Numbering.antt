-- This file shows what is found by the number of a name, and what clauses see where a definition comes or goes.
use Rattle.std.proofs.Common.{◌≡◌, ◌<◌, ℕ, Bool, true, false, cond, List, [], ◌∷◌, All, Option, Some, None, IsSome}
use Rattle.std.proofs.Common.{get_or, option_map, String, HashMap, BTreeMap, Less, nat_cmp, refl, sym, ap, ◌∙◌, subst, arith}
use Rattle.std.specs.List.{AllByRecursion, IsDistinct}
use Rattle.std.specs.List.Sorted.{IsStrictlySortedBy}
use Rattle.std.specs.Map.{keys_of, values_of, lookup, remove_entry}
use Rattle.std.specs.HashMap.{get_by_text}
use Rattle.std.specs.BTreeMap.{get, is_at}
use Rattle.std.specs.Str.{bytes_eq}
use Rattle.std.proofs.lemmas.Bool.{false_from_ne_true}
use Rattle.std.proofs.lemmas.Bool.Decides.{nat_tests, same_from_decides}
use Rattle.std.proofs.lemmas.Cmp.{nat_cmp_total}
use Rattle.std.proofs.lemmas.List.Elements.{All-head, All-tail, All-weaker, All-map}
use Rattle.std.proofs.lemmas.Map.Entries.{lookup_tail}
use Rattle.std.proofs.lemmas.Map.Keys.{sorted_head, sorted_tail}
use Rattle.std.proofs.lemmas.Map.Views.{All-found}
use Rattle.std.proofs.lemmas.Option.{none-some, same_Some}
use Rattle.std.proofs.lemmas.Slice.Eq.{bytes_eq-Decides}
use Rattle.value_table.specs.declared.value.Value.{Value}
use Rattle.value_table.specs.Table.{NamedValues, value_named, IsNamed}
use Rattle.value_table.specs.Kept.{listed, IsNumbered}
use Rattle.value_table.proofs.Inverses.{number-Decides}

-- ---- names are distinct
less_from : (m n : ℕ) → nat_cmp m n ≡ Less → m < n
less_from m n less = grind (arith, nat_tests)

-- the name with a number isn't that of definitions with greater ones
other_names : (f : List ℕ → Option ℕ) (name : List ℕ) (n : ℕ) → f name ≡ Some n → (es : List (ℕ × (List ℕ × Value)))
    → AllByRecursion (λ m. nat_cmp n m ≡ Less) (keys_of es) → All (λ e. f e.1.0 ≡ Some e.0) es
    → AllByRecursion (λ other. bytes_eq name other ≡ false) (keys_of (values_of es))
other_names f name n has [] above tell = tt
other_names f name n has (e ∷ es) above tell =
    let less = less_from n e.0 above.0 in
    let told = All-head (λ (d : ℕ × (List ℕ × Value)). f d.1.0 ≡ Some d.0) e es tell in (
      false_from_ne_true (bytes_eq name e.1.0) (λ same.
          let one = same_Some n e.0 (sym has ∙ ap f ((bytes_eq-Decides name e.1.0).0 same) ∙ told) in
          omega (arith, less, one)),
      other_names f name n has es above.1 (All-tail (λ (d : ℕ × (List ℕ × Value)). f d.1.0 ≡ Some d.0) e es tell),
    )

-- names that tell their numbers are distinct, since these rise
names_differ : (f : List ℕ → Option ℕ) (es : List (ℕ × (List ℕ × Value))) → IsStrictlySortedBy nat_cmp (keys_of es)
    → All (λ e. f e.1.0 ≡ Some e.0) es → IsDistinct bytes_eq (keys_of (values_of es))
unfolding IsDistinct
names_differ f [] sorted tell = tt
names_differ f (e ∷ es) sorted tell = (
  other_names f e.1.0 e.0 (All-head (λ (d : ℕ × (List ℕ × Value)). f d.1.0 ≡ Some d.0) e es tell) es
      (sorted_head nat_cmp _ _ sorted) (All-tail (λ (d : ℕ × (List ℕ × Value)). f d.1.0 ≡ Some d.0) e es tell),
  names_differ f es (sorted_tail nat_cmp _ _ sorted) (All-tail (λ (d : ℕ × (List ℕ × Value)). f d.1.0 ≡ Some d.0) e es tell),
)

-- ---- definitions that have the number just where they have the name
module _ (name : List ℕ) (n : ℕ) where
  abbrev HasBoth : ℕ × (List ℕ × Value) → Type 0
  HasBoth e = is_at (nat_cmp n) e.0 ≡ bytes_eq name e.1.0

  -- the value under the number is that with the name
  value-number : (es : List (ℕ × (List ℕ × Value))) → All HasBoth es
      → option_map (λ d. d.1) (lookup (is_at (nat_cmp n)) es) ≡ value_named name (values_of es)
  value-number [] same = refl
  value-number (e ∷ es) same =
      ap (λ b. option_map (λ d. d.1) (cond b (Some e.1) (lookup (is_at (nat_cmp n)) es))) (All-head HasBoth e es same)
      ∙ by (bytes_eq name e.1.0) (value-number es (All-tail HasBoth e es same))
    where
      by : (b : Bool) → option_map (λ d. d.1) (lookup (is_at (nat_cmp n)) es) ≡ value_named name (values_of es)
          → option_map (λ d. d.1) (cond b (Some e.1) (lookup (is_at (nat_cmp n)) es))
          ≡ cond b (Some e.1.1) (value_named name (values_of es))
      by true rest = refl
      by false rest = rest

  -- without the number, clauses see the list without the name
  removed-number : (es : List (ℕ × (List ℕ × Value))) → All HasBoth es
      → values_of (remove_entry (is_at (nat_cmp n)) es) ≡ remove_entry (bytes_eq name) (values_of es)
  removed-number [] same = refl
  removed-number (e ∷ es) same =
      ap (λ b. values_of (cond b es (e ∷ remove_entry (is_at (nat_cmp n)) es))) (All-head HasBoth e es same)
      ∙ by (bytes_eq name e.1.0) (removed-number es (All-tail HasBoth e es same))
    where
      by : (b : Bool) → values_of (remove_entry (is_at (nat_cmp n)) es) ≡ remove_entry (bytes_eq name) (values_of es)
          → values_of (cond b es (e ∷ remove_entry (is_at (nat_cmp n)) es))
          ≡ cond b (values_of es) (e.1 ∷ remove_entry (bytes_eq name) (values_of es))
      by true rest = refl
      by false rest = ap (λ later. e.1 ∷ later) rest

-- a name that no definition has isn't found
no_value : (name : List ℕ) (table : NamedValues) → All (λ d. bytes_eq name d.0 ≡ false) table → value_named name table ≡ None
no_value name [] none = refl
no_value name (d ∷ ds) none =
    lookup_tail (bytes_eq name) d ds (All-head (λ (e : List ℕ × Value). bytes_eq name e.0 ≡ false) d ds none)
    ∙ no_value name ds (All-tail (λ (e : List ℕ × Value). bytes_eq name e.0 ≡ false) d ds none)

-- ---- what is found
module _ {Y R : Type 0} (numbers : HashMap (String Y) ℕ R) (by_number : BTreeMap ℕ (List ℕ × Value)) (next : ℕ)
    (kept : IsNumbered numbers by_number next) where
  -- the name of each definition has its number
  told : All (λ e. get_by_text numbers e.1.0 ≡ Some e.0) by_number.entries
  told = All-weaker (λ e. get nat_cmp by_number e.0 ≡ Some e.1) (λ e. get_by_text numbers e.1.0 ≡ Some e.0)
      (λ e found. (kept.same_pairs e.1.0 e.0).1 (ap (option_map (λ d. d.0)) found)) by_number.entries
      (All-found nat_cmp_total by_number kept.ascending)

  -- no two definitions have one name
  pub distinct_names : IsDistinct bytes_eq (keys_of (listed by_number))
  distinct_names = names_differ (get_by_text numbers) by_number.entries kept.ascending told

  module _ (name : List ℕ) where
    -- a definition has the number of a name just where it has the name
    has_both : (n : ℕ) → get_by_text numbers name ≡ Some n → All (HasBoth name n) by_number.entries
    has_both n has = λ k d within.
        let e = get_or by_number.entries k d in
        let found = All-found nat_cmp_total by_number kept.ascending k d within in
        same_from_decides (is_at (nat_cmp n) e.0) (bytes_eq name e.1.0) (number-Decides n e.0) (
          λ same. same_Some n e.0
              (sym has ∙ ap (get_by_text numbers) ((bytes_eq-Decides name e.1.0).0 same) ∙ told k d within),
          λ is. (bytes_eq-Decides name e.1.0).1 (same_Some name e.1.0
              (sym ((kept.same_pairs name n).0 has) ∙ ap (λ m. option_map (λ d. d.0) (get nat_cmp by_number m)) is
              ∙ ap (option_map (λ d. d.0)) found)),
        )

    -- the value under the number of a name
    pub found_value : (n : ℕ) → get_by_text numbers name ≡ Some n
        → option_map (λ d. d.1) (get nat_cmp by_number n) ≡ value_named name (listed by_number)
    found_value n has = value-number name n by_number.entries (has_both n has)

    -- what is left without the number of a name
    pub left_without : (n : ℕ) → get_by_text numbers name ≡ Some n
        → values_of (remove_entry (is_at (nat_cmp n)) by_number.entries) ≡ remove_entry (bytes_eq name) (listed by_number)
    left_without n has = removed-number name n by_number.entries (has_both n has)

    -- under the number of a name stands a definition
    pub found_there : (n : ℕ) → get_by_text numbers name ≡ Some n → get nat_cmp by_number n ≡ None → ⊥
    found_there n has none = none-some name (sym (ap (option_map (λ d. d.0)) none) ∙ (kept.same_pairs name n).0 has)

    -- a name without a number
    pub not_found : get_by_text numbers name ≡ None → value_named name (listed by_number) ≡ None
    not_found none = no_value name (listed by_number) (All-map (λ (d : List ℕ × Value). bytes_eq name d.0 ≡ false)
        (λ (e : ℕ × (List ℕ × Value)). e.1) by_number.entries (λ k d within.
        let e = get_or by_number.entries k d in
        false_from_ne_true (bytes_eq name e.1.0) (λ same. none-some e.0
        (sym none ∙ ap (get_by_text numbers) ((bytes_eq-Decides name e.1.0).0 same) ∙ told k d within))))

    -- a name that isn't there has no number
    pub no_number : (IsNamed name (listed by_number) → ⊥) → get_by_text numbers name ≡ None
    no_number never = by (get_by_text numbers name) refl
      where
        some_value : (found : Option (List ℕ × Value)) → option_map (λ d. d.0) found ≡ Some name
            → IsSome (option_map (λ d. d.1) found)
        some_value None is = absurd (none-some name is)
        some_value (Some d) is = refl

        by : (found : Option ℕ) → get_by_text numbers name ≡ found → found ≡ None
        by None has = refl
        by (Some n) has = absurd (never (subst IsSome (found_value n has)
            (some_value (get nat_cmp by_number n) ((kept.same_pairs name n).0 has))))
