-- This file shows that originals which are put one by one, in their order, come to be the same list, and so do the points of
-- a set that is cloned.
use Rattle.std.proofs.Common.{◌≡◌, ◌<◌, ℕ, List, [], ◌∷◌, ◌++◌, map, All, Less, Option, Some, nat_cmp}
use Rattle.std.proofs.Common.{sym, ap, subst, ◌∙◌, arith}
use Rattle.std.specs.Iterator.{Yields}
use Rattle.std.specs.List.{AllByRecursion, AllZip}
use Rattle.std.specs.List.Sorted.{IsStrictlySortedBy}
use Rattle.std.specs.Map.{keys_of}
use Rattle.std.specs.Map.Iter.{TakesFirst}
use Rattle.std.proofs.lemmas.Bool.Decides.{nat_tests}
use Rattle.std.proofs.lemmas.List.{map-append, map-id}
use Rattle.std.proofs.lemmas.List.Elements.{All-nil, All-cons}
use Rattle.std.proofs.lemmas.Map.Iter.{rest_more, rest_so_far}
use Rattle.std.proofs.lemmas.Map.Keys.{sorted_head, sorted_tail}
use Rattle.std.proofs.lemmas.Slice.Zip.{AllZip-map}
use Rattle.grid_base.specs.Point.{GridPoint}
use Rattle.grid_base.specs.declared.original.Original.{Original}
use Rattle.realm_drawing.specs.declared.originals.Placed.{Placed}
use Rattle.realm_drawing.specs.ById.{original_of}
use Rattle.realm_drawing.proofs.ById.{listing}

-- ---- ids
less_from : (m n : ℕ) → nat_cmp m n ≡ Less → m < n
less_from m n less = grind (arith, nat_tests)

-- an id before all of these entries is less than that of one of them
less_than_one : (id : ℕ) (es rest : List (ℕ × Placed)) (e : ℕ × Placed)
    → AllByRecursion (λ k. nat_cmp id k ≡ Less) (keys_of (es ++ e ∷ rest)) → id < e.0
less_than_one id [] rest e below = less_from id e.0 below.0
less_than_one id (f ∷ es) rest e below = less_than_one id es rest e below.1

-- the ids of the entries before one are less than its
less_before : (es rest : List (ℕ × Placed)) (e : ℕ × Placed) → IsStrictlySortedBy nat_cmp (keys_of (es ++ e ∷ rest))
    → All (λ o. o.id < e.0) (listing es)
less_before [] rest e sorted = All-nil (λ (o : Original). o.id < e.0)
less_before (f ∷ es) rest e sorted = All-cons (λ (o : Original). o.id < e.0) (original_of f) (listing es)
    (less_than_one f.0 es rest e (sorted_head nat_cmp _ _ sorted))
    (less_before es rest e (sorted_tail nat_cmp _ _ sorted))

-- ---- one more original
module _ {A : Type 0} (shows : A → ℕ × Placed) where
  -- its id is greater than those so far
  pub next_above : (es s t u : List (ℕ × Placed)) (xs : List A) (r : Option A) (x : A) → s ≡ es
      → Yields (TakesFirst shows) s xs t → r ≡ Some x → TakesFirst shows t r u → IsStrictlySortedBy nat_cmp (keys_of es)
      → All (λ o. o.id < (shows x).0) (listing (map shows xs))
  next_above es s t u xs r x start yields is step sorted =
      let so_far = rest_so_far shows xs s t yields in
      let next = rest_more shows t u r x is step in
      let all : es ≡ map shows xs ++ shows x ∷ u = sym start ∙ so_far ∙ ap (λ l. map shows xs ++ l) next in
      less_before (map shows xs) u (shows x) (subst (λ (l : List (ℕ × Placed)). IsStrictlySortedBy nat_cmp (keys_of l)) all sorted)

  listing-more : (xs : List A) (x : A) → listing (map shows (xs ++ x ∷ [])) ≡ listing (map shows xs) ++ original_of (shows x) ∷ []
  listing-more xs x = ap listing (map-append shows xs (x ∷ [])) ∙ map-append original_of (map shows xs) (shows x ∷ [])

  -- put with its own chain, it makes the copy one longer
  pub next_copied : (copy new : List Original) (xs : List A) (x : A) (chain : List GridPoint)
      → copy ≡ listing (map shows xs) → chain ≡ (shows x).1.chain
      → new ≡ copy ++ original_of ((shows x).0, record (shows x).1 { chain = chain }) ∷ []
      → new ≡ listing (map shows (xs ++ x ∷ []))
  next_copied copy new xs x chain so_far same put =
      let e = shows x in
      let with_chain = λ (points : List GridPoint). original_of (e.0, record e.1 { chain = points }) in
      put ∙ ap (λ (os : List Original). os ++ with_chain chain ∷ []) so_far
      ∙ ap (λ (points : List GridPoint). listing (map shows xs) ++ with_chain points ∷ []) same
      ∙ sym (listing-more xs x)

-- ---- points
-- a list of clones is the list, where the clone of a point is the point
pub same_points : (xs ys : List GridPoint) → AllZip (λ x y. y ≡ x) xs ys → ys ≡ xs
same_points xs ys clones = AllZip-map (λ x. x) xs ys clones ∙ map-id xs
