-- This file shows what an index answers of its map, from what its tree found.
use Rattle.std.proofs.Common.{◌≡◌, ◌↔◌, ℕ, ◌≤◌, Bool, true, false, cond, IsTrue, refl, sym, ap, ◌∙◌, subst, arith}
use Rattle.std.proofs.Common.{List, [], All, Contains, Result, Ok, Err, IfOk, ◌==◌, ◌&&◌}
use Rattle.std.specs.List.{sum_by}
use Rattle.std.specs.Bool.{OnTrue, OnFalse}
use Rattle.std.specs.List.Sorted.{IsNonDecreasing}
use Rattle.std.specs.FinMap as map
use Rattle.std.proofs.lemmas.Bool.{and_parts, and_from, eqb-true, eq-eqb, false_from_ne_true}
use Rattle.std.proofs.lemmas.List.Elements.{All-contains, All-weaker}
use Rattle.std.proofs.lemmas.Map.Keys.{non_decreasing_from_sorted}
use Rattle.grid_base.specs.Grid.{grid_bits}
use Rattle.grid_base.specs.Segment.{GridSegment}
use Rattle.realm_index.specs.Square.{whole_grid}
use Rattle.realm_index.specs.Bounds.{Bounds, bounds_of, holds, is_near, fits, home}
use Rattle.realm_index.specs.Branch.{Branch, if_near, count_near, HasMore, Lacks}
use Rattle.realm_index.specs.Index.{Entries, HasKeysWhere, HasCountWhere, HasEachKeyWhere}
use Rattle.realm_index.specs.Kept.{HasEntriesOf, HoldsEntries}
use Rattle.realm_index.specs.Near.{passes, if_passed, AddsPassed}
use Rattle.realm_index.specs.declared.near.Near.{Near}
use Rattle.realm_index.specs.declared.tree.Entry.{Entry}
use Rattle.realm_index.proofs.Homes.{fits_from}
use Rattle.realm_index.proofs.Sums.{fails, all_pass, none_fails}
use Rattle.realm_index.proofs.Searches.{zero_sum}
use Rattle.realm_index.proofs.Orders.{HasSameSums, same_sorted, same_numbers, same_length}
use Rattle.realm_index.proofs.Picked.{picks, sum_picks, length_picks, sorted_picks, entries_ascend, picked_of_map}

-- ---- two facts of one result
pub both_ok : {V E : Type 0} (P Q R : V → Type 0) (r : Result V E) → IfOk r P → IfOk r Q → ((v : V) → P v → Q v → R v) → IfOk r R
both_ok P Q R (Ok v) p q f = f v p q
both_ok P Q R (Err e) p q f = tt

-- ---- an entry that is there
-- whether two entries are one
abbrev is_same : Entry → Entry → Bool
is_same x y = (x.key == y.key) && ((x.bounds.left == y.bounds.left) && ((x.bounds.right == y.bounds.right)
    && ((x.bounds.low == y.bounds.low) && (x.bounds.high == y.bounds.high))))

same_itself : (x : Entry) → is_same x x ≡ true
same_itself x = and_from _ _ (eq-eqb x.key x.key refl) (and_from _ _ (eq-eqb x.bounds.left x.bounds.left refl)
    (and_from _ _ (eq-eqb x.bounds.right x.bounds.right refl) (and_from _ _ (eq-eqb x.bounds.low x.bounds.low refl)
    (eq-eqb x.bounds.high x.bounds.high refl))))

same_from : (x y : Entry) → is_same x y ≡ true → x ≡ y
same_from x y h =
    let h1 = and_parts _ _ h in
    let h2 = and_parts _ _ h1.1 in
    let h3 = and_parts _ _ h2.1 in
    let h4 = and_parts _ _ h3.1 in
    let k = eqb-true _ _ h1.0 in
    let l = eqb-true _ _ h2.0 in
    let r = eqb-true _ _ h3.0 in
    let b = eqb-true _ _ h4.0 in
    let t = eqb-true _ _ h4.1 in
    λ i. record { key = k i; bounds = record { left = l i; right = r i; low = b i; high = t i } }

-- 1 at the entry itself
abbrev pub is_one : Entry → Entry → ℕ
is_one e x = cond (is_same x e) 1 0

pub one_itself : (e : Entry) → is_one e e ≡ 1
one_itself e = ap {B = ℕ} (λ t. cond t 1 0) (same_itself e)

pub none_there : (es : List Entry) (e : Entry) → Lacks es e → sum_by (is_one e) es ≡ 0
none_there es e lacks = zero_sum (is_one e) es (All-weaker (λ x. x ≡ e → ⊥) (λ x. is_one e x ≡ 0)
    (λ x isnt. ap {B = ℕ} (λ t. cond t 1 0) (false_from_ne_true (is_same x e) (λ is. isnt (same_from x e is)))) es lacks)

-- an entry that a list has more than another is taken out of it
pub is_taken : (mid new : List Entry) (e : Entry) (t : Bool) → (1 ≤ sum_by (is_one e) mid) → OnTrue t (HasMore new mid e)
    → OnFalse t (Lacks mid e) → HasMore new mid e
is_taken mid new e true some taken none = taken
is_taken mid new e false some taken none = let lacks = none_there mid e none in absurd (omega (arith, some, lacks))

-- ---- answers
-- whether the box of the segment passes, and whether its home is near w
abbrev is_met : Near → ℕ × GridSegment → Bool
is_met n e = passes n (bounds_of e.1)

abbrev is_home_near : Bounds → ℕ × GridSegment → Bool
is_home_near w e = is_near w (home (bounds_of e.1))

module _ (entries : List Entry) (segments : Entries) (have : HasEntriesOf entries segments) (n : Near) where
  met_sums : (ks : List ℕ) → AddsPassed n entries [] ks → HasSameSums ks (picks (is_met n) (map.entries segments))
  met_sums ks adds f =
      let found = adds f in
      let same = have (if_passed n f) in
      let picked = sum_picks (is_met n) f (map.entries segments) in
      omega (arith, found, same, picked)

  pub met_keys : (P : GridSegment → Type 0) → ((t : GridSegment) → IsTrue (passes n (bounds_of t)) ↔ P t) → (ks : List ℕ)
      → AddsPassed n entries [] ks → IsNonDecreasing ks → HasKeysWhere P segments ks
  met_keys P decides ks adds up =
      let met = picks (is_met n) (map.entries segments) in
      let all = sorted_picks (is_met n) (map.entries segments) (entries_ascend segments) in
      let same = same_sorted ks met up (non_decreasing_from_sorted met all) (met_sums ks adds) in
      subst (HasKeysWhere P segments) (sym same) (picked_of_map segments P (is_met n) (λ k t there. decides t))

  pub met_in_any_order : (P : GridSegment → Type 0) → ((t : GridSegment) → IsTrue (passes n (bounds_of t)) ↔ P t) → (ks : List ℕ)
      → AddsPassed n entries [] ks → HasEachKeyWhere P segments ks
  met_in_any_order P decides ks adds =
      let met = picks (is_met n) (map.entries segments) in
      let these = picked_of_map segments P (is_met n) (λ k t there. decides t) in
      let same = met_sums ks adds in
      record {
        exact = λ k. (
          λ there. (these.exact k).0 (same_numbers ks met k same there),
          λ is. same_numbers met ks k (λ f. sym (same f)) ((these.exact k).1 is),
        );
        once = record { keys = met; these = these; count = sym (same_length ks met same) };
      }

module _ (tree : Branch) (segments : Entries) (kept : HoldsEntries tree segments) (w : Bounds)
    (held : All (λ e. IsTrue (holds tree.square e.bounds)) tree.entries) where
  on_grid : (k : ℕ) (t : GridSegment) → Contains (map.entries segments) (k, t) → IsTrue (fits grid_bits (bounds_of t))
  on_grid k t there =
      let none = none_fails (λ (e : Entry). holds tree.square e.bounds) tree.entries held in
      let same = kept.same (fails (λ (e : Entry). holds tree.square e.bounds)) in
      let all = all_pass (λ (e : ℕ × GridSegment). holds tree.square (bounds_of e.1)) (map.entries segments) (sym same ∙ none) in
      let here = All-contains (λ (e : ℕ × GridSegment). IsTrue (holds tree.square (bounds_of e.1))) (map.entries segments) (k, t) all there in
      fits_from whole_grid (bounds_of t) (subst (λ q. IsTrue (holds q (bounds_of t))) kept.whole here)

  pub near_count : (P : GridSegment → Type 0)
      → ((t : GridSegment) → IsTrue (fits grid_bits (bounds_of t)) → IsTrue (is_near w (home (bounds_of t))) ↔ P t)
      → HasCountWhere P segments (count_near w tree.entries)
  near_count P decides = record {
    keys = picks (is_home_near w) (map.entries segments);
    these = picked_of_map segments P (is_home_near w) (λ k t there. decides t (on_grid k t there));
    count = length_picks (is_home_near w) (map.entries segments) ∙ sym (kept.same (if_near w));
  }
