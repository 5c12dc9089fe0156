-- This file shows what is found in a map of originals by id, and how the list of them changes with it.
use Rattle.std.proofs.Common.{◌≡◌, ◌≢◌, ℕ, ◌<◌, ◌==◌, Bool, true, false, not, cond, Less, Greater}
use Rattle.std.proofs.Common.{List, [], ◌∷◌, ◌++◌, map, filter, All, Some, None, nat_cmp}
use Rattle.std.proofs.Common.{refl, sym, ap, subst, ◌∙◌, arith}
use Rattle.std.specs.List.{AllByRecursion}
use Rattle.std.specs.List.Sorted.{IsStrictlySortedBy}
use Rattle.std.specs.Map.{keys_of, values_of, lookup, remove_entry, set_value}
use Rattle.std.specs.Ordering.{match_ordering}
use Rattle.std.specs.BTreeMap.{insert_entry, is_at}
use Rattle.std.proofs.lemmas.Bool.Decides.{nat_tests}
use Rattle.std.proofs.lemmas.List.Elements.{All-nil, All-cons, All-head, All-tail}
use Rattle.std.proofs.lemmas.Map.Keys.{sorted_head, sorted_tail}
use Rattle.grid_base.specs.Point.{GridPoint}
use Rattle.grid_base.specs.declared.original.Original.{Original}
use Rattle.realm_drawing.specs.declared.originals.Placed.{Placed}
use Rattle.hook_chain.specs.Ids.{LacksId, IsChainAmong}
use Rattle.realm_drawing.specs.ById.{original_of, rechained}
use Rattle.chain_laws.proofs.Elements.{Any-head, Any-later, All-of_some}
use Rattle.chain_laws.proofs.Filters.{none_to_remove}

-- ---- ids
-- the originals of these entries
abbrev pub listing : List (ℕ × Placed) → List Original
listing es = map original_of es

-- whether the entry with this id is the one that is looked for
tells : (id k : ℕ) (t : Bool) → is_at (nat_cmp id) k ≡ t → (k == id) ≡ t
tells id k true at = grind (arith, nat_tests)
tells id k false at = grind (arith, nat_tests)

is_it : (id k : ℕ) → is_at (nat_cmp id) k ≡ true → k ≡ id
is_it id k at = grind (arith, nat_tests)

is_other : (id k : ℕ) → is_at (nat_cmp id) k ≡ false → k ≢ id
is_other id k at = grind (arith, nat_tests)

is_behind : (id k : ℕ) → nat_cmp id k ≡ Less → k ≢ id
is_behind id k less = grind (arith, nat_tests)

-- entries behind an id have others
lacks_behind : (id : ℕ) (es : List (ℕ × Placed)) → AllByRecursion (λ k. nat_cmp id k ≡ Less) (keys_of es)
    → LacksId (listing es) id
lacks_behind id [] below = All-nil (λ (o : Original). o.id ≢ id)
lacks_behind id (e ∷ es) below = All-cons (λ (o : Original). o.id ≢ id) (original_of e) (listing es)
    (is_behind id e.0 below.0) (lacks_behind id es below.1)

-- those behind the first entry have other ids than it
lacks_first : (id : ℕ) (e : ℕ × Placed) (es : List (ℕ × Placed)) → IsStrictlySortedBy nat_cmp (keys_of (e ∷ es)) → e.0 ≡ id
    → LacksId (listing es) id
lacks_first id e es sorted is = subst (LacksId (listing es)) is (lacks_behind e.0 es (sorted_head nat_cmp _ _ sorted))

-- ---- what is found
none_step : (t : Bool) (id : ℕ) (e : ℕ × Placed) (es : List (ℕ × Placed)) → is_at (nat_cmp id) e.0 ≡ t
    → cond t (Some e.1) (lookup (is_at (nat_cmp id)) es) ≡ None → (lookup (is_at (nat_cmp id)) es ≡ None → LacksId (listing es) id)
    → LacksId (listing (e ∷ es)) id
none_step true id e es at none rest = absurd (cc)
none_step false id e es at none rest =
    All-cons (λ (o : Original). o.id ≢ id) (original_of e) (listing es) (is_other id e.0 at) (rest none)

-- where nothing is found none has the id
pub none_found : (id : ℕ) (es : List (ℕ × Placed)) → lookup (is_at (nat_cmp id)) es ≡ None → LacksId (listing es) id
none_found id [] none = All-nil (λ (o : Original). o.id ≢ id)
none_found id (e ∷ es) none = none_step (is_at (nat_cmp id) e.0) id e es refl none (none_found id es)

-- of those that lack the id each that has it has any chain
only_of_none : (originals : List Original) (id : ℕ) (chain : List GridPoint) → LacksId originals id
    → All (λ o. o.id ≡ id → o.chain ≡ chain) originals
only_of_none originals id chain lacks k d within has = absurd (lacks k d within has)

some_step : (t : Bool) (id : ℕ) (e : ℕ × Placed) (es : List (ℕ × Placed)) (p : Placed)
    → IsStrictlySortedBy nat_cmp (keys_of (e ∷ es)) → is_at (nat_cmp id) e.0 ≡ t
    → cond t (Some e.1) (lookup (is_at (nat_cmp id)) es) ≡ Some p
    → (lookup (is_at (nat_cmp id)) es ≡ Some p → IsChainAmong (listing es) id p.chain)
    → IsChainAmong (listing (e ∷ es)) id p.chain
some_step true id e es p sorted at found rest =
    let is = is_it id e.0 at in
    let same : e.1 ≡ p = cc in
    record {
      there = Any-head (λ (o : Original). o.id ≡ id) (original_of e) (listing es) is;
      only = All-cons (λ (o : Original). o.id ≡ id → o.chain ≡ p.chain) (original_of e) (listing es)
          (λ has. ap (λ (q : Placed). q.chain) same)
          (only_of_none (listing es) id p.chain (lacks_first id e es sorted is));
    }
some_step false id e es p sorted at found rest =
    let later = rest found in
    record {
      there = Any-later (λ (o : Original). o.id ≡ id) (original_of e) (listing es) later.there;
      only = All-cons (λ (o : Original). o.id ≡ id → o.chain ≡ p.chain) (original_of e) (listing es)
          (λ has. absurd (is_other id e.0 at has)) later.only;
    }

-- what is found is placed with the id, and nothing else is
pub some_found : (id : ℕ) (es : List (ℕ × Placed)) (p : Placed) → IsStrictlySortedBy nat_cmp (keys_of es)
    → lookup (is_at (nat_cmp id)) es ≡ Some p → IsChainAmong (listing es) id p.chain
some_found id [] p sorted found = absurd (cc)
some_found id (e ∷ es) p sorted found = some_step (is_at (nat_cmp id) e.0) id e es p sorted refl found
    (some_found id es p (sorted_tail nat_cmp _ _ sorted))

-- so some has the id
pub found_not_lacking : (originals : List Original) (id : ℕ) (chain : List GridPoint) → IsChainAmong originals id chain
    → LacksId originals id → ⊥
found_not_lacking originals id chain found lacks =
    All-of_some (λ (o : Original). o.id ≢ id) (λ o. o.id ≡ id) ⊥ (λ o other same. other same) originals lacks found.there

-- ---- one more
-- an id above all others comes last
pub put_last : (id : ℕ) (p : Placed) (es : List (ℕ × Placed)) → All (λ o. o.id < id) (listing es)
    → listing (insert_entry nat_cmp es id p) ≡ listing es ++ original_of (id, p) ∷ []
put_last id p [] above = refl
put_last id p (e ∷ es) above =
    let first : nat_cmp id e.0 ≡ Greater =
    greater id e.0 (All-head (λ (o : Original). o.id < id) (original_of e) (listing es) above) in
    let rest = put_last id p es (All-tail (λ (o : Original). o.id < id) (original_of e) (listing es) above) in
    ap (λ o. listing (match_ordering o ((id, p) ∷ e ∷ es) ((e.0, p) ∷ es) (e ∷ insert_entry nat_cmp es id p))) first
    ∙ ap (λ os. original_of e ∷ os) rest
  where
    greater : (m n : ℕ) → n < m → nat_cmp m n ≡ Greater
    greater m n less = grind (arith, nat_tests)

-- ---- one less
taken_step : (t : Bool) (id : ℕ) (e : ℕ × Placed) (es : List (ℕ × Placed)) → IsStrictlySortedBy nat_cmp (keys_of (e ∷ es))
    → is_at (nat_cmp id) e.0 ≡ t
    → listing (remove_entry (is_at (nat_cmp id)) es) ≡ filter (λ o. not (o.id == id)) (listing es)
    → listing (cond t es (e ∷ remove_entry (is_at (nat_cmp id)) es))
    ≡ cond (not (e.0 == id)) (original_of e ∷ filter (λ o. not (o.id == id)) (listing es))
    (filter (λ o. not (o.id == id)) (listing es))
taken_step true id e es sorted at rest =
    let others = lacks_first id e es sorted (is_it id e.0 at) in
    sym (none_to_remove (listing es) id others)
    ∙ ap (λ t. cond (not t) (original_of e ∷ filter (λ o. not (o.id == id)) (listing es))
    (filter (λ o. not (o.id == id)) (listing es))) (sym (tells id e.0 true at))
taken_step false id e es sorted at rest =
    ap (λ os. original_of e ∷ os) rest
    ∙ ap (λ t. cond (not t) (original_of e ∷ filter (λ o. not (o.id == id)) (listing es))
    (filter (λ o. not (o.id == id)) (listing es))) (sym (tells id e.0 false at))

-- the one with the id goes
pub taken : (id : ℕ) (es : List (ℕ × Placed)) → IsStrictlySortedBy nat_cmp (keys_of es)
    → listing (remove_entry (is_at (nat_cmp id)) es) ≡ filter (λ o. not (o.id == id)) (listing es)
taken id [] sorted = refl
taken id (e ∷ es) sorted = taken_step (is_at (nat_cmp id) e.0) id e es sorted refl
    (taken id es (sorted_tail nat_cmp _ _ sorted))

-- ---- another chain
-- those that lack the id stay
pub none_rechained : (id : ℕ) (chain : List GridPoint) (originals : List Original) → LacksId originals id
    → map (rechained id chain) originals ≡ originals
none_rechained id chain [] lacks = refl
none_rechained id chain (o ∷ rest) lacks =
    let other : (o.id == id) ≡ false = differs o.id id (All-head (λ (q : Original). q.id ≢ id) o rest lacks) in
    ap (λ t. cond t (record o { chain = chain }) o ∷ map (rechained id chain) rest) other
    ∙ ap (λ os. o ∷ os) (none_rechained id chain rest (All-tail (λ (q : Original). q.id ≢ id) o rest lacks))
  where
    differs : (m n : ℕ) → m ≢ n → (m == n) ≡ false
    differs m n other = grind (arith, nat_tests)

set_step : (t : Bool) (id : ℕ) (e : ℕ × Placed) (es : List (ℕ × Placed)) (p : Placed) (chain : List GridPoint)
    → IsStrictlySortedBy nat_cmp (keys_of (e ∷ es)) → is_at (nat_cmp id) e.0 ≡ t
    → cond t (Some e.1) (lookup (is_at (nat_cmp id)) es) ≡ Some p
    → (lookup (is_at (nat_cmp id)) es ≡ Some p
    → listing (set_value (is_at (nat_cmp id)) es (record p { chain = chain })) ≡ map (rechained id chain) (listing es))
    → listing (cond t ((e.0, record p { chain = chain }) ∷ es) (e ∷ set_value (is_at (nat_cmp id)) es (record p { chain = chain })))
    ≡ cond (e.0 == id) (record (original_of e) { chain = chain }) (original_of e) ∷ map (rechained id chain) (listing es)
set_step true id e es p chain sorted at found rest =
    let others = lacks_first id e es sorted (is_it id e.0 at) in
    let same : e.1 ≡ p = cc in
    ap (λ (q : Placed). original_of (e.0, record q { chain = chain }) ∷ listing es) (sym same)
    ∙ ap (λ os. record (original_of e) { chain = chain } ∷ os) (sym (none_rechained id chain (listing es) others))
    ∙ ap (λ t. cond t (record (original_of e) { chain = chain }) (original_of e) ∷ map (rechained id chain) (listing es))
    (sym (tells id e.0 true at))
set_step false id e es p chain sorted at found rest =
    ap (λ os. original_of e ∷ os) (rest found)
    ∙ ap (λ t. cond t (record (original_of e) { chain = chain }) (original_of e) ∷ map (rechained id chain) (listing es))
    (sym (tells id e.0 false at))

-- the one with the id has another chain
pub chain_set : (id : ℕ) (es : List (ℕ × Placed)) (p : Placed) (chain : List GridPoint) → IsStrictlySortedBy nat_cmp (keys_of es)
    → lookup (is_at (nat_cmp id)) es ≡ Some p
    → listing (set_value (is_at (nat_cmp id)) es (record p { chain = chain })) ≡ map (rechained id chain) (listing es)
chain_set id [] p chain sorted found = refl
chain_set id (e ∷ es) p chain sorted found = set_step (is_at (nat_cmp id) e.0) id e es p chain sorted refl found
    (chain_set id es p chain (sorted_tail nat_cmp _ _ sorted))

-- ---- ids and chains
-- the keys of the map are the ids of the originals
pub ids_are : (es : List (ℕ × Placed)) → keys_of es ≡ map (λ (o : Original). o.id) (listing es)
ids_are [] = refl
ids_are (e ∷ es) = ap (λ ids. e.0 ∷ ids) (ids_are es)

-- the chains of what is placed are those of the originals
pub chains_are : (es : List (ℕ × Placed))
    → map (λ (p : Placed). p.chain) (values_of es) ≡ map (λ (o : Original). o.chain) (listing es)
chains_are [] = refl
chains_are (e ∷ es) = ap (λ chains. e.1.chain ∷ chains) (chains_are es)
