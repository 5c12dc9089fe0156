-- This file shows that the counts stay those of the values where one goes, or all are copied.
use Rattle.std.proofs.Common.{◌≡◌, ℕ, ◌+◌, ◌≤◌, Bool, cond, ap, arith}
use Rattle.std.proofs.Common.{List, count_by, Some}
use Rattle.std.specs.List.{AllZip}
use Rattle.std.specs.Map.{lookup, values_of, remove_entry, count_at}
use Rattle.std.specs.BTreeMap.{BTreeMap, is_at}
use Rattle.std.specs.declared.cmp.Ordering.{Ordering}
use Rattle.std.specs.Str.{bytes_eq}
use Rattle.std.proofs.lemmas.Map.Entries.{entries_from_clone}
use Rattle.value_table.specs.declared.value.Value.{Value}
use Rattle.value_table.specs.Table.{NamedValues, value_named}
use Rattle.value_table.specs.Users.{users_in}
use Rattle.value_table.proofs.Counts.{count_removed}

-- where an entry's parts are what they were, the counts of a copied map are
pub users_copied : {K : Type 0} (cmp : K → K → Ordering) (C : K → K → Type 0) (D : ℕ → ℕ → Type 0)
    → ((x y : K) → C x y → y ≡ x) → ((m n : ℕ) → D m n → n ≡ m) → (counts copy : BTreeMap K ℕ)
    → AllZip (λ p q. C p.0 q.0 × D p.1 q.1) counts.entries copy.entries → (q : K) → users_in cmp copy q ≡ users_in cmp counts q
users_copied cmp C D keys values counts copy clones q =
    ap (λ es. count_at (λ k. lookup (is_at (cmp k)) es) q) (entries_from_clone C D keys values counts.entries copy.entries clones)

module _ {K : Type 0} (cmp : K → K → Ordering) (q : K) (passes : Value → Bool) (name : List ℕ) (v : Value) (table : NamedValues)
    (old : BTreeMap K ℕ) (counted : users_in cmp old q ≡ count_by passes (values_of table)) where
  -- a value went, and what it names is used once less
  pub counted_fewer : (new : BTreeMap K ℕ) (after : NamedValues) → value_named name table ≡ Some v
      → users_in cmp new q + cond (passes v) 1 0 ≡ users_in cmp old q → after ≡ remove_entry (bytes_eq name) table
      → users_in cmp new q ≡ count_by passes (values_of after)
  counted_fewer new after there fewer taken =
      let left = ap (λ t. count_by passes (values_of t)) taken in
      omega (arith, counted, fewer, left, count_removed passes name table v there)

  -- a value that is there uses what it names
  pub counted_enough : value_named name table ≡ Some v → cond (passes v) 1 0 ≤ users_in cmp old q
  counted_enough there = omega (arith, counted, count_removed passes name table v there)
