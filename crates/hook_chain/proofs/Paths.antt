-- Facts on all vertices, all links and all bends of a list of points.
use Rattle.std.proofs.Common.{◌≡◌, ◌∙◌, reverse, ℤ, List, [], ◌∷◌, ◌++◌, ◌<ℤ◌, ◌≤ℤ◌, ap, subst, refl, sym, arith}
use Rattle.std.proofs.lemmas.Int.{ints}
use Rattle.std.proofs.lemmas.List.{reverse-append}
use Rattle.std.specs.List.{AllByRecursion}
use Rattle.grid_base.specs.Point.{GridPoint}
use Rattle.hook_chain.specs.Chains.{AllLinks, AllBends, RunsFrom}
use Rattle.hook_chain.specs.Redrawing.{front}
use Rattle.hook_chain.proofs.Axes.{Axis}

-- ---- one fact from others
pub vertices_map : (P Q : GridPoint → Type 0) → ((p : GridPoint) → P p → Q p) → (path : List GridPoint) → AllByRecursion P path
    → AllByRecursion Q path
vertices_map P Q step [] all = tt
vertices_map P Q step (p ∷ path) all = (step p all.0, vertices_map P Q step path all.1)

pub vertices_both : (P Q : GridPoint → Type 0) (path : List GridPoint) → AllByRecursion P path → AllByRecursion Q path
    → AllByRecursion (λ p. P p × Q p) path
vertices_both P Q [] first second = tt
vertices_both P Q (p ∷ path) first second = ((first.0, second.0), vertices_both P Q path first.1 second.1)

pub links_map : (P Q : GridPoint → GridPoint → Type 0) → ((v w : GridPoint) → P v w → Q v w) → (path : List GridPoint) → AllLinks P path
    → AllLinks Q path
links_map P Q step [] all = tt
links_map P Q step (v ∷ []) all = tt
links_map P Q step (v ∷ w ∷ path) all = (step v w all.0, links_map P Q step (w ∷ path) all.1)

pub links_both : (P Q : GridPoint → GridPoint → Type 0) (path : List GridPoint) → AllLinks P path → AllLinks Q path
    → AllLinks (λ v w. P v w × Q v w) path
links_both P Q [] first second = tt
links_both P Q (v ∷ []) first second = tt
links_both P Q (v ∷ w ∷ path) first second = ((first.0, second.0), links_both P Q (w ∷ path) first.1 second.1)

pub bends_map : (P Q : GridPoint → GridPoint → GridPoint → Type 0) → ((u v w : GridPoint) → P u v w → Q u v w) → (path : List GridPoint)
    → AllBends P path → AllBends Q path
bends_map P Q step [] all = tt
bends_map P Q step (u ∷ []) all = tt
bends_map P Q step (u ∷ v ∷ []) all = tt
bends_map P Q step (u ∷ v ∷ w ∷ path) all = (step u v w all.0, bends_map P Q step (v ∷ w ∷ path) all.1)

-- what holds of all vertices holds of both ends of each link
pub links_of_vertices : (P : GridPoint → Type 0) (path : List GridPoint) → AllByRecursion P path → AllLinks (λ v w. P v × P w) path
links_of_vertices P [] all = tt
links_of_vertices P (v ∷ []) all = tt
links_of_vertices P (v ∷ w ∷ path) all = ((all.0, all.1.0), links_of_vertices P (w ∷ path) all.1)

-- ---- a path in two parts, which share a vertex
pub vertices_to : (P : GridPoint → Type 0) (x : GridPoint) (to from : List GridPoint) → AllByRecursion P (to ++ x ∷ from)
    → AllByRecursion P (to ++ x ∷ [])
vertices_to P x [] from all = (all.0, tt)
vertices_to P x (v ∷ to) from all = (all.0, vertices_to P x to from all.1)

pub vertices_from : (P : GridPoint → Type 0) (x : GridPoint) (to from : List GridPoint) → AllByRecursion P (to ++ x ∷ from)
    → AllByRecursion P (x ∷ from)
vertices_from P x [] from all = all
vertices_from P x (v ∷ to) from all = vertices_from P x to from all.1

pub links_to : (P : GridPoint → GridPoint → Type 0) (x : GridPoint) (to from : List GridPoint) → AllLinks P (to ++ x ∷ from)
    → AllLinks P (to ++ x ∷ [])
links_to P x [] from all = tt
links_to P x (v ∷ []) from all = (all.0, tt)
links_to P x (v ∷ w ∷ to) from all = (all.0, links_to P x (w ∷ to) from all.1)

pub links_from : (P : GridPoint → GridPoint → Type 0) (x : GridPoint) (to from : List GridPoint) → AllLinks P (to ++ x ∷ from)
    → AllLinks P (x ∷ from)
links_from P x [] from all = all
links_from P x (v ∷ []) from all = all.1
links_from P x (v ∷ w ∷ to) from all = links_from P x (w ∷ to) from all.1

-- a path from a to x and on to b leads from a to b
pub leads_on : (a x b : GridPoint) (to from : List GridPoint) → RunsFrom a x (to ++ x ∷ []) → RunsFrom x b (x ∷ from)
    → RunsFrom a b (to ++ x ∷ from)
leads_on a x b [] from first second = subst (λ (p : GridPoint). RunsFrom p b (x ∷ from)) first.0 second
leads_on a x b (v ∷ []) from first second = (first.0, second)
leads_on a x b (v ∷ w ∷ to) from first second = (first.0, leads_on w x b (w ∷ to) from first.1 second)

-- the path without its first vertex
unfoldable pub rest_of : List GridPoint → List GridPoint
rest_of [] = []
rest_of (p ∷ path) = path

-- a path from x is x and the rest
pub head_and_rest : (x b : GridPoint) (path : List GridPoint) → RunsFrom x b path → x ∷ rest_of path ≡ path
unfolding rest_of
head_and_rest x b [] leads = absurd leads
head_and_rest x b (p ∷ []) leads = ap (λ (q : GridPoint). q ∷ []) (sym leads.0)
head_and_rest x b (p ∷ q ∷ path) leads = ap (λ (r : GridPoint). r ∷ q ∷ path) (sym leads.0)

-- the path without its last point, where that is named
pub front_pushed : (path : List GridPoint) (p : GridPoint) → front (path ++ p ∷ []) ≡ path
front_pushed [] p = refl
front_pushed (q ∷ []) p = refl
front_pushed (q ∷ r ∷ path) p = ap (λ (l : List GridPoint). q ∷ l) (front_pushed (r ∷ path) p)

-- a path to x is the path without its last point, and x
pub front_and_last : (a x : GridPoint) (path : List GridPoint) → RunsFrom a x path → front path ++ x ∷ [] ≡ path
front_and_last a x [] leads = absurd leads
front_and_last a x (p ∷ []) leads = ap (λ (q : GridPoint). q ∷ []) (sym leads.1)
front_and_last a x (p ∷ q ∷ path) leads = ap (λ (l : List GridPoint). p ∷ l) (front_and_last q x (q ∷ path) leads.1)

-- ---- a path along an axis
abbrev pub IsForthAlong : Axis → GridPoint → GridPoint → Type 0
IsForthAlong axis v w = axis.along v <ℤ axis.along w

-- the link lies between a and b, by how far along its ends are
abbrev pub IsWithin : Axis → GridPoint → GridPoint → GridPoint → GridPoint → Type 0
IsWithin axis a b v w = (axis.along a ≤ℤ axis.along v) × (axis.along w ≤ℤ axis.along b)

-- a path that leads forth from a to b lies between them
pub links_within : (axis : Axis) (a b : GridPoint) (path : List GridPoint) → RunsFrom a b path → AllLinks (IsForthAlong axis) path
    → AllLinks (IsWithin axis a b) path
links_within axis a b [] leads forth = tt
links_within axis a b (v ∷ []) leads forth = tt
links_within axis a b (v ∷ w ∷ []) leads forth =
    let at_a = ap axis.along leads.0 in
    let at_b = ap axis.along leads.1.1 in
    ((omega (arith, ints, at_a), omega (arith, ints, at_b)), tt)
links_within axis a b (v ∷ w ∷ z ∷ path) leads forth =
    let at_a = ap axis.along leads.0 in
    let rest = links_within axis w b (w ∷ z ∷ path) leads.1 forth.1 in (
      (omega (arith, ints, at_a), omega (arith, ints, rest.0.0, rest.0.1, forth.1.0)),
      links_map (IsWithin axis w b) (IsWithin axis a b) (λ p q within. (omega (arith, ints, within.0, at_a, forth.0), within.1))
          (w ∷ z ∷ path) rest,
    )

-- ---- one vertex more
-- a path to z, and on to n
pub leads_push : (a z n : GridPoint) (path : List GridPoint) → RunsFrom a z path → RunsFrom a n (path ++ n ∷ [])
leads_push a z n [] leads = absurd leads
leads_push a z n (v ∷ []) leads = (leads.0, (refl, refl))
leads_push a z n (v ∷ w ∷ path) leads = (leads.0, leads_push w z n (w ∷ path) leads.1)

pub vertices_push : (P : GridPoint → Type 0) (n : GridPoint) (path : List GridPoint) → AllByRecursion P path → P n
    → AllByRecursion P (path ++ n ∷ [])
vertices_push P n [] all last = (last, tt)
vertices_push P n (v ∷ path) all last = (all.0, vertices_push P n path all.1 last)

-- and what holds of all vertices holds of the last
pub vertices_last : (P : GridPoint → Type 0) (n : GridPoint) (path : List GridPoint) → AllByRecursion P (path ++ n ∷ []) → P n
vertices_last P n [] all = all.0
vertices_last P n (v ∷ path) all = vertices_last P n path all.1

pub links_push : (P : GridPoint → GridPoint → Type 0) (a z n : GridPoint) (path : List GridPoint) → RunsFrom a z path → AllLinks P path
    → P z n → AllLinks P (path ++ n ∷ [])
links_push P a z n [] leads all last = tt
links_push P a z n (v ∷ []) leads all last = (subst (λ (p : GridPoint). P p n) (sym leads.1) last, tt)
links_push P a z n (v ∷ w ∷ path) leads all last = (all.0, links_push P w z n (w ∷ path) leads.1 all.1 last)

-- P holds of the last link of the path and n
abbrev pub LastLink : (GridPoint → GridPoint → GridPoint → Type 0) → List GridPoint → GridPoint → Type 0
LastLink P [] n = Unit {0}
LastLink P (v ∷ []) n = Unit {0}
LastLink P (v ∷ w ∷ []) n = P v w n
LastLink P (v ∷ w ∷ z ∷ path) n = LastLink P (w ∷ z ∷ path) n

pub bends_push : (P : GridPoint → GridPoint → GridPoint → Type 0) (n : GridPoint) (path : List GridPoint) → AllBends P path
    → LastLink P path n
    → AllBends P (path ++ n ∷ [])
bends_push P n [] all last = tt
bends_push P n (v ∷ []) all last = tt
bends_push P n (v ∷ w ∷ []) all last = (last, tt)
bends_push P n (v ∷ w ∷ z ∷ path) all last = (all.0, bends_push P n (w ∷ z ∷ path) all.1 last)

-- the last link of a path that was pushed
pub last_pushed : (P : GridPoint → GridPoint → GridPoint → Type 0) (a z n m : GridPoint) (path : List GridPoint) → RunsFrom a z path
    → P z n m → LastLink P (path ++ n ∷ []) m
last_pushed P a z n m [] leads last = absurd leads
last_pushed P a z n m (v ∷ []) leads last = subst (λ (p : GridPoint). P p n m) (sym leads.1) last
last_pushed P a z n m (v ∷ w ∷ []) leads last = last_pushed P w z n m (w ∷ []) leads.1 last
last_pushed P a z n m (v ∷ w ∷ y ∷ path) leads last = last_pushed P w z n m (w ∷ y ∷ path) leads.1 last

-- ---- two paths to one
pub vertices_join : (P : GridPoint → Type 0) (x : GridPoint) (to from : List GridPoint) → AllByRecursion P (to ++ x ∷ [])
    → AllByRecursion P (x ∷ from)
    → AllByRecursion P (to ++ x ∷ from)
vertices_join P x [] from first second = second
vertices_join P x (v ∷ to) from first second = (first.0, vertices_join P x to from first.1 second)

pub links_join : (P : GridPoint → GridPoint → Type 0) (x : GridPoint) (to from : List GridPoint) → AllLinks P (to ++ x ∷ [])
    → AllLinks P (x ∷ from)
    → AllLinks P (to ++ x ∷ from)
links_join P x [] from first second = second
links_join P x (v ∷ []) from first second = (first.0, second)
links_join P x (v ∷ w ∷ to) from first second = (first.0, links_join P x (w ∷ to) from first.1 second)

-- ---- the other way along a path
-- the path from its end to its start
pub backwards : List GridPoint → List GridPoint
backwards [] = []
backwards (v ∷ path) = backwards path ++ v ∷ []

pub leads_back : (a b : GridPoint) (path : List GridPoint) → RunsFrom a b path → RunsFrom b a (backwards path)
unfolding backwards
leads_back a b [] leads = leads
leads_back a b (v ∷ []) leads = (leads.1, leads.0)
leads_back a b (v ∷ w ∷ path) leads =
    subst (λ (p : GridPoint). RunsFrom b p (backwards (w ∷ path) ++ v ∷ [])) leads.0
    (leads_push b w v (backwards (w ∷ path)) (leads_back w b (w ∷ path) leads.1))

pub vertices_back : (P : GridPoint → Type 0) (path : List GridPoint) → AllByRecursion P path → AllByRecursion P (backwards path)
unfolding backwards
vertices_back P [] all = tt
vertices_back P (v ∷ path) all = vertices_push P v (backwards path) (vertices_back P path all.1) all.0

pub links_back : (P Q : GridPoint → GridPoint → Type 0) → ((v w : GridPoint) → P v w → Q w v)
    → (a b : GridPoint) (path : List GridPoint) → RunsFrom a b path
    → AllLinks P path → AllLinks Q (backwards path)
unfolding backwards
links_back P Q turned a b [] leads all = tt
links_back P Q turned a b (v ∷ []) leads all = tt
links_back P Q turned a b (v ∷ w ∷ path) leads all =
    links_push Q b w v (backwards (w ∷ path)) (leads_back w b (w ∷ path) leads.1) (links_back P Q turned w b (w ∷ path) leads.1 all.1)
    (turned v w all.0)

pub bends_back : (P Q : GridPoint → GridPoint → GridPoint → Type 0) → ((u v w : GridPoint) → P u v w → Q w v u)
    → (a b : GridPoint) (path : List GridPoint)
    → RunsFrom a b path → AllBends P path → AllBends Q (backwards path)
unfolding backwards
bends_back P Q turned a b [] leads all = tt
bends_back P Q turned a b (u ∷ []) leads all = tt
bends_back P Q turned a b (u ∷ v ∷ []) leads all = tt
bends_back P Q turned a b (u ∷ v ∷ w ∷ path) leads all =
    bends_push Q u (backwards (v ∷ w ∷ path)) (bends_back P Q turned v b (v ∷ w ∷ path) leads.1 all.1)
    (last_pushed Q b w v u (backwards (w ∷ path)) (leads_back w b (w ∷ path) leads.1.1) (turned u v w all.0))

-- it is the list reversed
pub reverse_is : (path : List GridPoint) → reverse path ≡ backwards path
unfolding backwards
reverse_is [] = refl
reverse_is (v ∷ path) = reverse-append (v ∷ []) path ∙ ap (λ (l : List GridPoint). l ++ v ∷ []) (reverse_is path)

-- ---- how far along the vertices of a path are
-- p lies between a and b
abbrev pub IsPointWithin : (GridPoint → ℤ) → GridPoint → GridPoint → GridPoint → Type 0
IsPointWithin along a b p = (along a ≤ℤ along p) × (along p ≤ℤ along b)

pub vertices_within : (along : GridPoint → ℤ) (a b : GridPoint) (path : List GridPoint) → RunsFrom a b path
    → AllLinks (λ v w. along v <ℤ along w) path
    → AllByRecursion (IsPointWithin along a b) path
vertices_within along a b [] leads forth = tt
vertices_within along a b (v ∷ []) leads forth =
    let at_a = ap along leads.0 in
    let at_b = ap along leads.1 in
    ((omega (arith, ints, at_a, at_b), omega (arith, ints, at_a, at_b)), tt)
vertices_within along a b (v ∷ w ∷ path) leads forth =
    let at_a = ap along leads.0 in
    let rest = vertices_within along w b (w ∷ path) leads.1 forth.1 in (
      (omega (arith, ints, at_a), omega (arith, ints, rest.0.1, forth.0)),
      vertices_map (IsPointWithin along w b) (IsPointWithin along a b)
          (λ p within. (omega (arith, ints, within.0, at_a, forth.0), within.1))
          (w ∷ path) rest,
    )
