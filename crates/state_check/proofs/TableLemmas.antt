-- This file shows what a table of the first values of a list becomes with one value more.
use Rattle.std.proofs.Common.{◌≡◌, ℕ, ◌+◌, ◌<◌, ◌≤◌, true, List, [], ◌∷◌, ◌++◌, length, get_or, take, take_all, All}
use Rattle.std.proofs.Common.{Option, Some, None, IsSome, refl, sym, ap, subst, ◌∙◌, arith}
use Rattle.std.specs.Map.{keys_of}
use Rattle.std.specs.Str.{bytes_eq}
use Rattle.std.proofs.lemmas.List.{take_more, get_or-map, get_or-take, map-append, length-map, length-take}
use Rattle.std.proofs.lemmas.List.Elements.{All-nil, All-push}
use Rattle.std.proofs.lemmas.Map.Entries.{place_from_lookup}
use Rattle.std.proofs.lemmas.Slice.Eq.{bytes_eq-Decides}
use Rattle.std.proofs.lemmas.Option.{slice_get_within, get_or_from_slice_get}
use Rattle.grid_base.specs.Drawing.{Drawing}
use Rattle.record_codec.specs.declared.snapshot.Named.{Named}
use Rattle.value_table.specs.Table.{NamedValues, IsNamed, value_named, HasDistinctNames}
use Rattle.value_table.specs.declared.value.Value.{Value}
use Rattle.state_check.specs.Tabled.{AreTabled, AreAscending, Fits, entries_of, entry_of, parts_of}

-- the table has the first i values, which fit
pub record HasFirst (d : Drawing) (values : List Named) (i : ℕ) (table : NamedValues) : Type 0 where
  pub are : table ≡ entries_of (take i values)
  pub fit : All (Fits d) table
  pub ascend : All (λ entry. AreAscending entry.1.parts) table

pub none_there : (d : Drawing) (values : List Named) (table : NamedValues) → table ≡ [] → HasFirst d values 0 table
none_there d values table is = record {
  are = is;
  fit = subst (All (Fits d)) (sym is) (All-nil (Fits d));
  ascend = subst (All (λ entry. AreAscending entry.1.parts)) (sym is) (All-nil (λ entry. AreAscending entry.1.parts));
}

pub one_more : (d : Drawing) (values : List Named) (i : ℕ) (n : Named) (old new : NamedValues) → i < length values
    → n ≡ get_or values i n → HasFirst d values i old → new ≡ old ++ entry_of n ∷ [] → Fits d (entry_of n)
    → AreAscending (parts_of n.value.parts) → HasFirst d values (i + 1) new
one_more d values i n old new within is was now fits ascends =
    let more : take i values ++ n ∷ [] ≡ take (i + 1) values =
    ap (λ (m : Named). take i values ++ m ∷ []) is ∙ sym (take_more values i n within) in
    record {
      are = now ∙ ap (λ (t : NamedValues). t ++ entry_of n ∷ []) was.are ∙ sym (map-append entry_of (take i values) (n ∷ []))
          ∙ ap entries_of more;
      fit = subst (All (Fits d)) (sym now) (All-push (Fits d) old (entry_of n) was.fit fits);
      ascend = subst (All (λ entry. AreAscending entry.1.parts)) (sym now)
          (All-push (λ entry. AreAscending entry.1.parts) old (entry_of n) was.ascend ascends);
    }

same_names : (p q : List ℕ) → bytes_eq p q ≡ true → p ≡ q
same_names p q same = (bytes_eq-Decides p q).0 same

-- a name that is there stands at some place
place_of_name : (name : List ℕ) (table : NamedValues) → IsNamed name table
    → (k : ℕ) × (k < length table) × ((e : List ℕ × Value) → (get_or table k e).0 ≡ name)
place_of_name name table named = by (value_named name table) refl named
  where
    by : (found : Option Value) → value_named name table ≡ found → IsSome found → (k : ℕ) × (k < length table)
        × ((e : List ℕ × Value) → (get_or table k e).0 ≡ name)
    by None is some = absurd cc
    by (Some v) is some =
        let (k, other, at, same) = place_from_lookup (bytes_eq name) table v is in (
          k,
          slice_get_within table k (other, v) at,
          λ e. ap (λ (x : List ℕ × Value). x.0) (get_or_from_slice_get table k (other, v) e at) ∙ sym (same_names name other same),
        )

-- the key at a place
key_at : (values : List Named) (j : ℕ) (n : Named) → j < length values
    → get_or (keys_of (entries_of values)) j [] ≡ (get_or values j n).name
key_at values j n within =
    let long = length-map values entry_of in
    get_or-map (λ (e : List ℕ × Value). e.0) (entries_of values) j (entry_of n) [] (omega (arith, long, within))
    ∙ ap (λ (e : List ℕ × Value). e.0) (get_or-map entry_of values j n (entry_of n) within)

-- a value that may not be the next one may not be there at all
pub not_the_next : (d : Drawing) (values : List Named) (i : ℕ) (n : Named) (old : NamedValues) → i < length values
    → n ≡ get_or values i n → HasFirst d values i old
    → (Fits d (entry_of n) → AreAscending (parts_of n.value.parts) → IsNamed n.name old)
    → AreTabled d (entries_of values) → ⊥
not_the_next d values i n old within is was twice are =
    let long = length-map values entry_of in
    let at : get_or (entries_of values) i (entry_of n) ≡ entry_of n =
    get_or-map entry_of values i n (entry_of n) within ∙ ap entry_of (sym is) in
    let in_entries : i < length (entries_of values) = omega (arith, long, within) in
    let fits = subst (Fits d) at (are.fit i (entry_of n) in_entries) in
    let ascends = subst (λ (e : List ℕ × Value). AreAscending e.1.parts) at (are.ascend i (entry_of n) in_entries) in
    let (k, k_within, named) = place_of_name n.name old (twice fits ascends) in
    let old_long = ap (λ (t : NamedValues). length t) was.are in
    let first_long = length-map (take i values) entry_of in
    let taken = length-take i values in
    let less : k < i = omega (arith, k_within, old_long, first_long, taken) in
    let in_first : k < length (take i values) = omega (arith, k_within, old_long, first_long) in
    let entry = ap (λ (t : NamedValues). get_or t k (entry_of n)) was.are
    ∙ get_or-map entry_of (take i values) k n (entry_of n) in_first ∙ ap entry_of (get_or-take i values k n less) in
    let earlier : (get_or values k n).name ≡ n.name =
    sym (ap (λ (e : List ℕ × Value). e.0) entry) ∙ named (entry_of n) in
    let key_long = length-map (entries_of values) (λ (e : List ℕ × Value). e.0) in
    are.distinct k i [] less (omega (arith, key_long, long, within))
    (key_at values k n (omega (arith, less, within)) ∙ earlier ∙ ap (λ (m : Named). m.name) is ∙ sym (key_at values i n within))

-- all values are there
pub all_there : (d : Drawing) (values : List Named) (i : ℕ) (table : NamedValues) → length values ≤ i → HasFirst d values i table
    → HasDistinctNames table → (table ≡ entries_of values) × AreTabled d table
all_there d values i table past was apart = (
  was.are ∙ ap entries_of (take_all i values past),
  record { distinct = apart; fit = was.fit; ascend = was.ascend },
)
