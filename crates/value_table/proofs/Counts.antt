-- This file shows how counts change with a value, whose parts name each key at most once.
use Rattle.std.proofs.Common.{◌≡◌, ℕ, ◌+◌, ◌<◌, ◌≤◌, ◌^◌, Bool, true, false, cond, refl, ap, ◌∙◌, arith}
use Rattle.std.proofs.Common.{List, [], ◌∷◌, All, AllPairs, suc, nat_eq, Some, count_by}
use Rattle.std.specs.List.{list_any}
use Rattle.std.specs.Cmp.{IsTotalOrder}
use Rattle.std.specs.declared.cmp.Ordering.{Ordering}
use Rattle.std.proofs.lemmas.List.Elements.{All-head, All-tail}
use Rattle.std.proofs.lemmas.List.Sums.{sum_by-cons}
use Rattle.std.specs.Map.{values_of, remove_entry}
use Rattle.std.specs.Str.{bytes_eq}
use Rattle.std.specs.Ordering.{nat_cmp, eq_by_cmp}
use Rattle.std.proofs.lemmas.Cmp.{eq_by_cmp_equiv, nat_cmp_total}
use Rattle.std.proofs.lemmas.Bool.Decides.{nat_tests}
use Rattle.std.proofs.lemmas.Map.Entries.{sum_by-remove_entry}
use Rattle.grid_base.specs.Point.{GridPoint, IsBefore, is_point, point_cmp}
use Rattle.grid_base.proofs.Orders.{point_cmp-total}
use Rattle.value_table.specs.declared.value.Value.{Value}
use Rattle.value_table.specs.Value.{ids_among, points_among, names_id, names_point}
use Rattle.value_table.specs.Table.{NamedValues, value_named}
use Rattle.value_table.specs.Users.{times_among}

module _ {K : Type 0} {cmp : K → K → Ordering} (total : IsTotalOrder cmp) (B : K → K → Type 0)
    (tells : (x y : K) → B x y → eq_by_cmp cmp x y ≡ false) where
  -- a key that ties with x doesn't stand among later keys
  none_later : (q x : K) → eq_by_cmp cmp q x ≡ true → (xs : List K) → All (B x) xs
      → (times_among cmp xs q ≡ 0) × (list_any (eq_by_cmp cmp q) xs ≡ false)
  none_later q x tie [] later = (refl, refl)
  none_later q x tie (y ∷ ys) later =
      let passed : eq_by_cmp cmp q y ≡ false = (eq_by_cmp_equiv total).congr q x y tie ∙ tells x y (All-head (B x) y ys later) in
      let rest = none_later q x tie ys (All-tail (B x) y ys later) in
      let more = sum_by-cons (λ k. cond (eq_by_cmp cmp q k) 1 0) y ys in
      (more ∙ rw passed (omega (arith, rest.0)), rw passed rest.1)

  -- the later keys ascend
  rest_ascends : (x : K) (xs : List K) → AllPairs B (x ∷ xs) → AllPairs B xs
  rest_ascends x xs ascending = λ i j d before within. ascending (suc i) (suc j) d (omega (arith, before)) (omega (arith, within))

  first_before : (x : K) (xs : List K) → AllPairs B (x ∷ xs) → All (B x) xs
  first_before x xs ascending = λ k d within. ascending 0 (suc k) d (omega arith) (omega (arith, within))

  -- a key stands at most once among keys that ascend
  pub times_once : (xs : List K) → AllPairs B xs → (q : K) → times_among cmp xs q ≡ cond (list_any (eq_by_cmp cmp q) xs) 1 0
  times_once [] ascending q = refl
  times_once (x ∷ xs) ascending q =
      by (eq_by_cmp cmp q x) refl (times_once xs (rest_ascends x xs ascending) q) (λ tie. none_later q x tie xs (first_before x xs ascending))
    where
      by : (b : Bool) → eq_by_cmp cmp q x ≡ b → times_among cmp xs q ≡ cond (list_any (eq_by_cmp cmp q) xs) 1 0
          → (eq_by_cmp cmp q x ≡ true → (times_among cmp xs q ≡ 0) × (list_any (eq_by_cmp cmp q) xs ≡ false))
          → times_among cmp (x ∷ xs) q ≡ cond (list_any (eq_by_cmp cmp q) (x ∷ xs)) 1 0
      by true tie rest none = sum_by-cons (λ k. cond (eq_by_cmp cmp q k) 1 0) x xs ∙ rw tie (omega (arith, (none tie).0))
      by false other rest none = sum_by-cons (λ k. cond (eq_by_cmp cmp q k) 1 0) x xs ∙ rw other (omega (arith, rest))

  -- and so not more than once
  pub times_at_most_once : (xs : List K) → AllPairs B xs → (q : K) → times_among cmp xs q ≤ 1
  times_at_most_once xs ascending q = at_most (list_any (eq_by_cmp cmp q) xs) (times_once xs ascending q)
    where
      at_most : (b : Bool) → times_among cmp xs q ≡ cond b 1 0 → times_among cmp xs q ≤ 1
      at_most true e = omega (arith, e)
      at_most false e = omega (arith, e)

-- two tests that answer the same find the same
any_same : {K : Type 0} (f g : K → Bool) → ((k : K) → f k ≡ g k) → (xs : List K) → list_any f xs ≡ list_any g xs
any_same f g same [] = refl
any_same f g same (x ∷ xs) = rw (same x, any_same f g same xs) refl

-- numbers tie where they are equal
nat_ties : (m n : ℕ) → eq_by_cmp nat_cmp m n ≡ nat_eq m n
nat_ties m n = grind (arith, nat_tests)

-- and so do points
point_ties : (p q : GridPoint) → eq_by_cmp point_cmp p q ≡ is_point p q
point_ties p q = grind (arith, nat_tests)

-- numbers that ascend don't tie
nat_apart : (m n : ℕ) → m < n → eq_by_cmp nat_cmp m n ≡ false
nat_apart m n before = grind (arith, nat_tests)

-- nor do points
point_apart : (p q : GridPoint) → IsBefore p q → eq_by_cmp point_cmp p q ≡ false
point_apart p q before = grind (arith, nat_tests)

-- how often an id stands among the ids of a value
pub id_times : (v : Value) (ids : List ℕ) → ids ≡ ids_among v.parts → AllPairs (λ m n. m < n) ids
    → (id : ℕ) → times_among nat_cmp ids id ≡ cond (names_id id v) 1 0
id_times v ids are ascending id =
    times_once nat_cmp_total (λ m n. m < n) nat_apart ids ascending id
    ∙ ap (λ b. cond b 1 0) (any_same (eq_by_cmp nat_cmp id) (nat_eq id) (nat_ties id) ids)
    ∙ ap (λ xs. cond (list_any (nat_eq id) xs) 1 0) are

-- how often a point stands among the points of a value
pub point_times : (v : Value) (points : List GridPoint) → points ≡ points_among v.parts → AllPairs IsBefore points
    → (p : GridPoint) → times_among point_cmp points p ≡ cond (names_point p v) 1 0
point_times v points are ascending p =
    times_once point_cmp-total IsBefore point_apart points ascending p
    ∙ ap (λ b. cond b 1 0) (any_same (eq_by_cmp point_cmp p) (is_point p) (point_ties p) points)
    ∙ ap (λ xs. cond (list_any (is_point p) xs) 1 0) are

-- one value fewer
pub count_removed : (passes : Value → Bool) (name : List ℕ) (table : NamedValues) (v : Value) → value_named name table ≡ Some v
    → count_by passes (values_of (remove_entry (bytes_eq name) table)) + cond (passes v) 1 0
    ≡ count_by passes (values_of table)
count_removed passes name table v there =
    rw there at (sum_by-remove_entry (λ w. cond (passes w) 1 0) (bytes_eq name) table)

-- one use at most still fits
pub fits_once : (uses times : ℕ) → uses + 1 < 2 ^ 64 → times ≤ 1 → uses + times < 2 ^ 64
fits_once uses times fits once = omega arith

-- an id stands at most once among the ids of a value
pub id_at_most_once : (ids : List ℕ) → AllPairs (λ m n. m < n) ids → (id : ℕ) → times_among nat_cmp ids id ≤ 1
id_at_most_once = times_at_most_once nat_cmp_total (λ m n. m < n) nat_apart

-- and a point among its points
pub point_at_most_once : (points : List GridPoint) → AllPairs IsBefore points → (p : GridPoint) → times_among point_cmp points p ≤ 1
point_at_most_once = times_at_most_once point_cmp-total IsBefore point_apart
