-- This file shows that a turned cycle is a cycle, and which links it has.
use Rattle.std.proofs.Common.{◌≡◌, ◌+◌, Bool, true, false, ◌&&◌, List, [], ◌∷◌, ◌++◌, reverse, length}
use Rattle.std.proofs.Common.{Contains, count_by, if◌then◌else◌, refl, sym, ap, ap₂, subst, ◌∙◌, ⊎_elim, arith}
use Rattle.std.proofs.lemmas.List.{reverse-append}
use Rattle.std.proofs.lemmas.List.Elements.{Contains-append_cases}
use Rattle.grid_base.specs.Point.{GridPoint, is_point}
use Rattle.grid_base.proofs.Orders.{is_point-same, is_point-itself}
use Rattle.grid_base.proofs.Elements.{Contains-here, Contains-later, Contains-cases, Contains-nil}
use Rattle.grid_base.proofs.Booleans.{both_true}
use Rattle.r_cycles.specs.Cycles.{Link, link, links, round, IsCycle}
use Rattle.r_cycles.proofs.Counts.{count_by-some, count_by-found}
use Rattle.r_cycles.proofs.Trails.{AreApart, apart-head, apart-tail, apart-append, apart-left, apart-right, apart-push}
use Rattle.r_faces.specs.Turned.{IsTurned, back_of}

-- ---- different points stay different
apart_joined : (A B : List GridPoint) → AreApart A → AreApart B → ((p : GridPoint) → Contains A p → Contains B p → ⊥) → AreApart (A ++ B)
apart_joined A [] a b none = subst AreApart (sym (none_more A)) a
  where
    none_more : (A : List GridPoint) → A ++ [] ≡ A
    none_more [] = refl
    none_more (v ∷ A) = ap (λ l. v ∷ l) (none_more A)
apart_joined A (w ∷ B) a b none =
    subst AreApart (one_by_one A w B)
    (apart_joined (A ++ w ∷ []) B (apart-push A w a (λ m. none w m (Contains-here w B))) (apart-tail w B b)
    (λ p m k. ⊎_elim (λ in_A. none p in_A (Contains-later w B p k))
    (λ last. ⊎_elim (λ same. apart-head w B b (subst (Contains B) (sym same) k)) (λ nil. Contains-nil p nil) (Contains-cases w [] p last))
    (Contains-append_cases A (w ∷ []) p m)))
  where
    one_by_one : (A : List GridPoint) (w : GridPoint) (B : List GridPoint) → (A ++ w ∷ []) ++ B ≡ A ++ (w ∷ B)
    one_by_one [] w B = refl
    one_by_one (v ∷ A) w B = ap (λ l. v ∷ l) (one_by_one A w B)

apart_turned : (A B : List GridPoint) → AreApart (A ++ B) → AreApart (B ++ A)
apart_turned A B h = apart_joined B A (apart-right A B h) (apart-left A B h) (λ p in_B in_A. apart-append A B h p in_A in_B)

in_reverse : (c : List GridPoint) (p : GridPoint) → Contains (reverse c) p → Contains c p
in_reverse [] p m = m
in_reverse (v ∷ c) p m =
    ⊎_elim (λ rest. Contains-later v c p (in_reverse c p rest))
    (λ last. ⊎_elim (λ same. subst (Contains (v ∷ c)) same (Contains-here v c)) (λ nil. absurd (Contains-nil p nil))
    (Contains-cases v [] p last))
    (Contains-append_cases (reverse c) (v ∷ []) p (subst (λ l. Contains l p) (reverse-append (v ∷ []) c) m))

apart_reversed : (c : List GridPoint) → AreApart c → AreApart (reverse c)
apart_reversed [] h = h
apart_reversed (v ∷ c) h = subst AreApart (sym (reverse-append (v ∷ []) c))
    (apart-push (reverse c) v (apart_reversed c (apart-tail v c h)) (λ m. apart-head v c h (in_reverse c v m)))

pub cycle_turned : (c t : List GridPoint) → IsCycle c → IsTurned c t → IsCycle t
cycle_turned c t h turn = record {
  three = let a = ap (λ (l : List GridPoint). length l) turn.was in
      let b = ap (λ (l : List GridPoint). length l) turn.is in
      omega (arith, h.three, a, b, longer turn.front turn.back, longer turn.back turn.front);
  once = subst AreApart (sym turn.is) (apart_turned turn.front turn.back (subst AreApart turn.was h.once));
}
  where
    longer : (A B : List GridPoint) → length (A ++ B) ≡ length A + length B
    longer [] B = omega arith
    longer (v ∷ A) B = let r = longer A B in omega (arith, r)

pub cycle_reversed : (c : List GridPoint) → IsCycle c → IsCycle (reverse c)
cycle_reversed c h = record { three = omega (arith, h.three, as_long c); once = apart_reversed c h.once }
  where
    longer : (A B : List GridPoint) → length (A ++ B) ≡ length A + length B
    longer [] B = omega arith
    longer (v ∷ A) B = let r = longer A B in omega (arith, r)

    as_long : (c : List GridPoint) → length (reverse c) ≡ length c
    as_long [] = refl
    as_long (v ∷ c) =
        let r = as_long c in
        let e = ap (λ (l : List GridPoint). length l) (reverse-append (v ∷ []) c) in
        let f = longer (reverse c) (v ∷ []) in omega (arith, r, e, f)

-- ---- one link
abbrev is_link : Link → Link → Bool
is_link l k = is_point l.from k.from && is_point l.to k.to

link_itself : (l : Link) → is_link l l ≡ true
link_itself l = ap₂ (λ b c. b && c) (is_point-itself l.from) (is_point-itself l.to)

link_same : (l k : Link) → is_link l k ≡ true → l ≡ k
link_same l k h =
    let r = both_true (is_point l.from k.from) (is_point l.to k.to) h in
    ap₂ link (is_point-same l.from k.from r.0) (is_point-same l.to k.to r.1)

-- the link as it is in the cycle that was turned
abbrev pub as_given : Bool → Link → Link
as_given forward l = if forward then l else back_of l

twice_back : (forward : Bool) (l : Link) → as_given forward (as_given forward l) ≡ l
twice_back true l = refl
twice_back false l = refl

-- the links of two cycles of which one is the other, turned
abbrev pub HaveLinks : Bool → List GridPoint → List GridPoint → Type 0
HaveLinks forward c t = (f : Link → Bool) → count_by f (links (round t)) ≡ count_by (λ l. f (as_given forward l)) (links (round c))

pub link_was : (forward : Bool) (c t : List GridPoint) (l : Link) → HaveLinks forward c t → Contains (links (round t)) l
    → Contains (links (round c)) (as_given forward l)
link_was forward c t l h there =
    let some = count_by-some (is_link l) (links (round t)) l there (link_itself l) in
    let found = count_by-found (λ k. is_link l (as_given forward k)) (links (round c)) (omega (arith, some, h (is_link l))) in
    let same = link_same l (as_given forward found.0) found.2 in
    subst (Contains (links (round c))) (sym (ap (as_given forward) same ∙ twice_back forward found.0)) found.1

pub link_is : (forward : Bool) (c t : List GridPoint) (l : Link) → HaveLinks forward c t
    → Contains (links (round c)) (as_given forward l) → Contains (links (round t)) l
link_is forward c t l h there =
    let passes = ap (is_link l) (twice_back forward l) ∙ link_itself l in
    let some = count_by-some (λ k. is_link l (as_given forward k)) (links (round c)) (as_given forward l) there passes in
    let found = count_by-found (is_link l) (links (round t)) (omega (arith, some, h (is_link l))) in
    subst (Contains (links (round t))) (sym (link_same l found.0 found.2)) found.1
