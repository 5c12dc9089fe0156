-- This file shows that definitions which are put one by one, in their order, have new names.
use Rattle.std.proofs.Common.{◌≡◌, ℕ, List, [], ◌∷◌, ◌++◌, map, Option, Some, None, false, refl, sym, ap, subst, ◌∙◌}
use Rattle.std.proofs.Common.{is_some, true≢false}
use Rattle.std.specs.Iterator.{Yields}
use Rattle.std.specs.List.{AllByRecursion, IsDistinct}
use Rattle.std.specs.Map.{keys_of}
use Rattle.std.specs.Map.Iter.{TakesFirst}
use Rattle.std.specs.Str.{bytes_eq}
use Rattle.std.proofs.lemmas.Bool.{false_from_ne_true}
use Rattle.std.proofs.lemmas.Map.Entries.{lookup_tail}
use Rattle.std.proofs.lemmas.Map.Iter.{rest_more, rest_so_far}
use Rattle.std.proofs.lemmas.Slice.Eq.{bytes_eq-Decides}
use Rattle.value_table.specs.declared.value.Value.{Value}
use Rattle.value_table.specs.Table.{NamedValues, value_named, IsNamed}

-- the name that differs from those of some definitions differs from that of one
other_name : (name : List ℕ) (before rest : NamedValues) (d : List ℕ × Value)
    → AllByRecursion (λ other. bytes_eq name other ≡ false) (keys_of (before ++ d ∷ rest)) → bytes_eq d.0 name ≡ false
other_name name [] rest d others = false_from_ne_true (bytes_eq d.0 name) (λ same.
    true≢false (sym ((bytes_eq-Decides name d.0).1 (sym ((bytes_eq-Decides d.0 name).0 same))) ∙ others.0))
other_name name (_ ∷ before) rest d others = other_name name before rest d others.1

-- the name of a definition isn't that of one before it
none_before : (before rest : NamedValues) (d : List ℕ × Value) → IsDistinct bytes_eq (keys_of (before ++ d ∷ rest))
    → value_named d.0 before ≡ None
unfolding IsDistinct
none_before [] rest d distinct = refl
none_before (first ∷ before) rest d distinct =
    lookup_tail (bytes_eq d.0) first before (other_name first.0 before rest d distinct.0)
    ∙ none_before before rest d distinct.1

-- the next definition has a name that none so far has
pub next_new : {A : Type 0} (shows : A → List ℕ × Value) (table s t u : NamedValues) (xs : List A) (r : Option A) (x : A)
    → s ≡ table → Yields (TakesFirst shows) s xs t → r ≡ Some x → TakesFirst shows t r u → IsDistinct bytes_eq (keys_of table)
    → IsNamed (shows x).0 (map shows xs) → ⊥
next_new shows table s t u xs r x start yields is step distinct named =
    let so_far = rest_so_far shows xs s t yields in
    let next = rest_more shows t u r x is step in
    let all : table ≡ map shows xs ++ shows x ∷ u = sym start ∙ so_far ∙ ap (λ l. map shows xs ++ l) next in
    let none = none_before (map shows xs) u (shows x)
    (subst (λ (l : NamedValues). IsDistinct bytes_eq (keys_of l)) all distinct) in
    true≢false (sym named ∙ ap is_some none)
