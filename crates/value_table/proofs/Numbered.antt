-- This file shows how the list of definitions, and the maps that keep it, change where one comes or goes.
use Rattle.std.proofs.Common.{◌≡◌, ◌+◌, ◌<◌, ℕ, Bool, true, false, cond, List, [], ◌∷◌, ◌++◌, All, Option, Some, None}
use Rattle.std.proofs.Common.{option_map, String, HashMap, BTreeMap, Greater, nat_cmp, refl, sym, ap, ◌∙◌, subst, arith}
use Rattle.std.specs.List.{AllByRecursion, IsDistinct}
use Rattle.std.specs.Map.{keys_of, values_of, lookup, remove_entry}
use Rattle.std.specs.Ordering.{match_ordering}
use Rattle.std.specs.HashMap as hash
use Rattle.std.specs.BTreeMap.{get, insert_entry, is_at, IsOrdered}
use Rattle.std.specs.BTreeMap as tree
use Rattle.std.specs.Str.{bytes_eq}
use Rattle.std.specs.String.{string_bytes, string_eq}
use Rattle.std.proofs.lemmas.Bool.Decides.{nat_tests}
use Rattle.std.proofs.lemmas.List.Elements.{All-head, All-tail, All-weaker}
use Rattle.std.proofs.lemmas.Map.Entries.{lookup_tail}
use Rattle.std.proofs.lemmas.Map.Text.{hash_map_updates_text}
use Rattle.std.proofs.lemmas.Map.Views.{All-keys-insert_entry, All-map-remove_entry}
use Rattle.std.proofs.lemmas.Option.{none-some}
use Rattle.std.proofs.lemmas.Slice.Eq.{bytes_eq-Decides}
use Rattle.value_table.specs.declared.value.Value.{Value}
use Rattle.value_table.specs.Table.{NamedValues, value_named, IsNamed, without}
use Rattle.value_table.specs.Kept.{listed, IsNumbered}
use Rattle.value_table.proofs.Inverses.{inverse_same, inverse_put, inverse_taken}
use Rattle.value_table.proofs.Numbering.{no_number}

-- ---- lists
-- a name isn't left where no later definition has it
none_left : (name first : List ℕ) → bytes_eq name first ≡ true → (table : NamedValues)
    → AllByRecursion (λ other. bytes_eq first other ≡ false) (keys_of table) → without name table ≡ table
none_left name first same [] later = refl
none_left name first same (d ∷ ds) later =
    let is = (bytes_eq-Decides name first).0 same in
    let other : bytes_eq name d.0 ≡ false = subst (λ bytes. bytes_eq bytes d.0 ≡ false) (sym is) later.0 in
    rw other (ap (λ rest. d ∷ rest) (none_left name first same ds later.1))

-- the list without the first of a name is that without the name
pub without-first : (name : List ℕ) (table : NamedValues) → IsDistinct bytes_eq (keys_of table)
    → remove_entry (bytes_eq name) table ≡ without name table
unfolding IsDistinct
without-first name [] distinct = refl
without-first name (d ∷ ds) distinct = by (bytes_eq name d.0) refl (without-first name ds distinct.1)
  where
    by : (b : Bool) → bytes_eq name d.0 ≡ b → remove_entry (bytes_eq name) ds ≡ without name ds
        → remove_entry (bytes_eq name) (d ∷ ds) ≡ without name (d ∷ ds)
    by true same rest = rw same (sym (none_left name d.0 same ds distinct.0))
    by false other rest = rw other (ap (λ later. d ∷ later) rest)

-- where the name isn't there nothing goes
pub without-none : (name : List ℕ) (table : NamedValues) → value_named name table ≡ None
    → (remove_entry (bytes_eq name) table ≡ table) × (without name table ≡ table)
without-none name [] none = (refl, refl)
without-none name (d ∷ ds) none = by (bytes_eq name d.0) refl none (without-none name ds)
  where
    by : (b : Bool) → bytes_eq name d.0 ≡ b → cond b (Some d.1) (value_named name ds) ≡ None
        → (value_named name ds ≡ None → (remove_entry (bytes_eq name) ds ≡ ds) × (without name ds ≡ ds))
        → (remove_entry (bytes_eq name) (d ∷ ds) ≡ d ∷ ds) × (without name (d ∷ ds) ≡ d ∷ ds)
    by true same none rest = absurd (none-some d.1 (sym none))
    by false other none rest = rw other (ap (λ later. d ∷ later) (rest none).0, ap (λ later. d ∷ later) (rest none).1)

module _ (n : ℕ) where
  -- nothing stands under a number above all
  pub none_under : (es : List (ℕ × (List ℕ × Value))) → All (λ m. m < n) (keys_of es) → lookup (is_at (nat_cmp n)) es ≡ None
  none_under [] below = refl
  none_under (e ∷ es) below =
      lookup_tail (is_at (nat_cmp n)) e es (apart n e.0 (All-head (λ m. m < n) e.0 (keys_of es) below))
      ∙ none_under es (All-tail (λ m. m < n) e.0 (keys_of es) below)
    where
      apart : (n m : ℕ) → m < n → is_at (nat_cmp n) m ≡ false
      apart n m less = grind (arith, nat_tests)

  -- what comes under such a number comes last
  pub put_last : (d : List ℕ × Value) (es : List (ℕ × (List ℕ × Value))) → All (λ m. m < n) (keys_of es)
      → values_of (insert_entry nat_cmp es n d) ≡ values_of es ++ d ∷ []
  put_last d [] below = refl
  put_last d (e ∷ es) below =
      let first = greater n e.0 (All-head (λ m. m < n) e.0 (keys_of es) below) in
      ap (λ o. values_of (match_ordering o ((n, d) ∷ e ∷ es) ((e.0, d) ∷ es) (e ∷ insert_entry nat_cmp es n d))) first
      ∙ ap (λ ds. e.1 ∷ ds) (put_last d es (All-tail (λ m. m < n) e.0 (keys_of es) below))
    where
      greater : (n m : ℕ) → m < n → nat_cmp n m ≡ Greater
      greater n m less = grind (arith, nat_tests)

-- ---- maps
-- the name of what stands under a number
abbrev name_under : BTreeMap ℕ (List ℕ × Value) → ℕ → Option (List ℕ)
name_under by_number n = option_map (λ d. d.0) (get nat_cmp by_number n)

name_under-choice : (b : Bool) (found other : Option (List ℕ × Value)) → option_map (λ d. d.0) (cond b found other)
    ≡ cond b (option_map (λ d. d.0) found) (option_map (λ d. d.0) other)
name_under-choice true found other = refl
name_under-choice false found other = refl

module _ {Y R : Type 0} (numbers : HashMap (String Y) ℕ R) (by_number : BTreeMap ℕ (List ℕ × Value)) (next : ℕ)
    (kept : IsNumbered numbers by_number next) (name : List ℕ) where
  -- a name goes with its number
  pub taken_numbered : (n : ℕ) (after : HashMap (String Y) ℕ R) (left : BTreeMap ℕ (List ℕ × Value))
      → hash.get_by_text numbers name ≡ Some n
      → hash.UpdatesBy string_eq (λ k. bytes_eq name (string_bytes k)) numbers after None
      → tree.UpdatesBy nat_cmp (nat_cmp n) by_number left None
      → left.entries ≡ remove_entry (is_at (nat_cmp n)) by_number.entries → IsOrdered nat_cmp left
      → IsNumbered after left next
  taken_numbered n after left has names_change numbers_change removed ordered = record {
    same_pairs = inverse_same _ (hash.get_by_text after) _ (name_under left)
        (inverse_taken (hash.get_by_text numbers) (name_under by_number) name n kept.same_pairs has)
        (hash_map_updates_text name numbers after None names_change)
        (λ m. ap (option_map (λ d. d.0)) (numbers_change.0 m)
        ∙ name_under-choice (is_at (nat_cmp n) m) None (get nat_cmp by_number m));
    ascending = ordered;
    next_above = subst (λ (es : List (ℕ × (List ℕ × Value))). All (λ m. m < next) (keys_of es)) (sym removed)
        (All-map-remove_entry (is_at (nat_cmp n)) (λ e. e.0) (λ m. m < next) by_number.entries kept.next_above);
  }

  -- a name comes with the next number
  pub put_numbered : (room after : HashMap (String Y) ℕ R) (more : BTreeMap ℕ (List ℕ × Value)) (key : String Y)
      (d : List ℕ × Value) (next_after : ℕ) → (IsNamed name (listed by_number) → ⊥)
      → string_bytes key ≡ name → d.0 ≡ name → room.entries ≡ numbers.entries
      → hash.Updates string_eq room after key (Some next)
      → tree.Updates nat_cmp by_number more next (Some d)
      → more.entries ≡ insert_entry nat_cmp by_number.entries next d → IsOrdered nat_cmp more → next_after ≡ next + 1
      → IsNumbered after more next_after
  put_numbered room after more key d next_after never key_is name_is stays names_change numbers_change inserted ordered follows =
      record {
        same_pairs = inverse_same _ (hash.get_by_text after) _ (name_under more)
            (inverse_put (hash.get_by_text numbers) (name_under by_number) name next kept.same_pairs
            (no_number numbers by_number next kept name never)
            (ap (option_map (λ d. d.0)) (none_under next by_number.entries kept.next_above)))
            (λ q. hash_map_updates_text (string_bytes key) room after (Some next) names_change q
            ∙ ap (λ bytes. cond (bytes_eq bytes q) (Some next) (hash.get_by_text room q)) key_is
            ∙ ap (λ es. cond (bytes_eq name q) (Some next) (lookup (λ k. bytes_eq q (string_bytes k)) es)) stays)
            (λ m. ap (option_map (λ d. d.0)) (numbers_change.0 m)
            ∙ name_under-choice (is_at (nat_cmp next) m) (Some d) (get nat_cmp by_number m)
            ∙ ap (λ own. cond (is_at (nat_cmp next) m) (Some own) (name_under by_number m)) name_is);
        ascending = ordered;
        next_above = subst (λ (es : List (ℕ × (List ℕ × Value))). All (λ m. m < next_after) (keys_of es)) (sym inserted)
            (All-keys-insert_entry nat_cmp next d (λ m. m < next_after) by_number.entries
            (All-weaker (λ m. m < next) (λ m. m < next_after) (λ m less. omega (arith, less, follows)) (keys_of by_number.entries)
            kept.next_above) (omega (arith, follows)));
      }
