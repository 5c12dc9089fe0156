-- This file shows that a cycle keeps its links as it is turned, and has them the other way as it is reversed.
use Rattle.std.proofs.Common.{◌≡◌, ◌≢◌, ℕ, suc, ◌<◌, Bool, true, false, cond, List, [], ◌∷◌, ◌++◌, reverse, length, get_or, take, drop}
use Rattle.std.proofs.Common.{All, Contains, count_by, refl, sym, ap, ap₂, subst, ◌∙◌, inl, inr, ⊎_elim, arith, append_assoc}
use Rattle.std.proofs.lemmas.Bool.{cases_lt, cases_eq}
use Rattle.std.proofs.lemmas.List.{append-nil, reverse-append}
use Rattle.std.proofs.lemmas.List.Elements.{All-contains, Contains-append_cases, Contains-append_left}
use Rattle.std.proofs.lemmas.List.Elements.{Contains-append_right, Contains-get_or}
use Rattle.grid_base.specs.Point.{GridPoint, point_at, IsBefore}
use Rattle.r_cycles.specs.Cycles.{Link, link, links, round}
use Rattle.grid_base.proofs.Elements.{Contains-here, Contains-later, same_place}
use Rattle.r_cycles.proofs.Counts.{count_by-cons}
use Rattle.r_cycles.proofs.Trails.{AreApart, apart-head, apart-append, apart-right, split_at}
use Rattle.r_cycles.proofs.Joins.{count_by-links_split}
use Rattle.r_faces.specs.Turned.{IsTurned, BeginsLeast, back_of}

-- ---- links
-- a cycle whose front part comes last has the same links
pub links-turned : (f : Link → Bool) (front back : List GridPoint)
    → count_by f (links (round (back ++ front))) ≡ count_by f (links (round (front ++ back)))
links-turned f [] back = ap (λ c. count_by f (links (round c))) (append-nil back)
links-turned f (a ∷ front) [] = ap (λ c. count_by f (links (round c))) (sym (append-nil (a ∷ front)))
links-turned f (a ∷ front) (b ∷ back) =
    let first = ap (λ c. count_by f (links (b ∷ c))) (append_assoc back (a ∷ front) (b ∷ []))
    ∙ count_by-links_split f (b ∷ back) a (front ++ b ∷ []) in
    let second = ap (λ c. count_by f (links (a ∷ c))) (append_assoc front (b ∷ back) (a ∷ []))
    ∙ count_by-links_split f (a ∷ front) b (back ++ a ∷ []) in
    omega (arith, first, second)

-- a reversed way has its links the other way
links-reversed : (f : Link → Bool) (way : List GridPoint)
    → count_by f (links (reverse way)) ≡ count_by (λ l. f (back_of l)) (links way)
links-reversed f [] = refl
links-reversed f (v ∷ []) = refl
links-reversed f (v ∷ w ∷ way) =
    let rest = links-reversed f (w ∷ way) in
    let whole : reverse (v ∷ w ∷ way) ≡ reverse way ++ w ∷ v ∷ [] =
    reverse-append (v ∷ w ∷ []) way in
    let tail : reverse (w ∷ way) ≡ reverse way ++ w ∷ [] = reverse-append (w ∷ []) way in
    let split = ap (λ c. count_by f (links c)) whole ∙ count_by-links_split f (reverse way) w (v ∷ []) in
    let before = ap (λ c. count_by f (links c)) tail in
    omega (arith, rest, split, before, count_by-cons f (link w v) [], count_by-cons (λ l. f (back_of l)) (link v w) (links (w ∷ way)))

-- and so has a reversed cycle
pub links-reversed_round : (f : Link → Bool) (cycle : List GridPoint)
    → count_by f (links (round (reverse cycle))) ≡ count_by (λ l. f (back_of l)) (links (round cycle))
links-reversed_round f [] = refl
links-reversed_round f (v ∷ cycle) =
    let last : reverse (v ∷ cycle) ≡ reverse cycle ++ v ∷ [] = reverse-append (v ∷ []) cycle in
    let turned = links-turned f (reverse cycle) (v ∷ []) in
    let way : reverse (round (v ∷ cycle)) ≡ round (v ∷ reverse cycle) =
    reverse-append (v ∷ []) (cycle ++ v ∷ []) ∙ ap (λ c. c ++ v ∷ []) (reverse-append cycle (v ∷ [])) in
    ap (λ c. count_by f (links (round c))) last ∙ sym turned ∙ ap (λ c. count_by f (links c)) (sym way)
    ∙ links-reversed f (round (v ∷ cycle))

-- ---- the least vertex
-- one of two different points is before the other
before_or_after : (p q : GridPoint) → p ≢ q → (IsBefore q p → ⊥) → IsBefore p q
before_or_after p q other not_after = elim (cases_lt p.x q.x) [
  | inl left ↦ inl left
  | inr not_left ↦ elim (cases_eq p.x q.x) [
    | inl column ↦ elim (cases_lt p.y q.y) [
      | inl low ↦ inr (column, low)
      | inr not_low ↦ elim (cases_eq p.y q.y) [
        | inl row ↦ absurd (other (ap₂ point_at column row))
        | inr apart ↦ absurd (not_after (inr (sym column, omega (arith, not_low, apart))))
      ]
    ]
    | inr apart ↦ absurd (not_after (inl (omega (arith, not_left, apart))))
  ]
]

-- a list of different points is what stands before its point at a place, that point, and what stands behind it
pub record IsParted (list front : List GridPoint) (v : GridPoint) (back : List GridPoint) : Type 0 where
  pub is : list ≡ front ++ v ∷ back
  pub apart : AreApart list
  pub least : All (λ p. IsBefore p v → ⊥) list

-- each other point comes after the least one
after_least : (list front : List GridPoint) (v : GridPoint) (back : List GridPoint) → IsParted list front v back
    → (w : GridPoint) → Contains (back ++ front) w → IsBefore v w
after_least list front v back parted w there =
    let whole = subst AreApart parted.is parted.apart in
    let not_before = subst (All (λ p. IsBefore p v → ⊥)) parted.is parted.least in
    ⊎_elim
    (λ behind.
    let in_list = Contains-append_right front (v ∷ back) w (Contains-later v back w behind) in
    let other = λ (same : v ≡ w). apart-head v back (apart-right front (v ∷ back) whole) (subst (Contains back) (sym same) behind) in
    before_or_after v w other (All-contains (λ p. IsBefore p v → ⊥) (front ++ v ∷ back) w not_before in_list))
    (λ before.
    let in_list = Contains-append_left front (v ∷ back) w before in
    let other = λ (same : v ≡ w). apart-append front (v ∷ back) whole w before (subst (Contains (v ∷ back)) same (Contains-here v back)) in
    before_or_after v w other (All-contains (λ p. IsBefore p v → ⊥) (front ++ v ∷ back) w not_before in_list))
    (Contains-append_cases back front w there)

-- a list of different points, turned to its least one, begins least
pub begins_least : (list : List GridPoint) (at : ℕ) → at < length list → AreApart list
    → ((d : GridPoint) → All (λ p. IsBefore p (get_or list at d) → ⊥) list) → BeginsLeast (drop at list ++ take at list)
begins_least [] at within apart least = absurd (omega (arith, within))
begins_least (u ∷ points) at within apart least =
    let list = u ∷ points in
    let v = get_or list at u in
    let itself : get_or list at v ≡ v = same_place list at v u within in
    let parts = split_at list at v within itself in
    let parted : IsParted list (take at list) v (drop (suc at) list) = record { is = parts.0; apart = apart; least = least u } in
    subst (λ back. BeginsLeast (back ++ take at list)) (sym parts.1)
    (λ k d below. after_least list (take at list) v (drop (suc at) list) parted _
    (Contains-get_or (drop (suc at) list ++ take at list) k d below))

-- ---- a turned list, in one direction or the other
links_of_turn : (f : Link → Bool) (list turned : List GridPoint) → IsTurned list turned
    → count_by f (links (round turned)) ≡ count_by f (links (round list))
links_of_turn f list turned turn =
    ap (λ c. count_by f (links (round c))) turn.is ∙ links-turned f turn.front turn.back
    ∙ ap (λ c. count_by f (links (round c))) (sym turn.was)

pub links_forward : (f : Link → Bool) (cycle list turned : List GridPoint) (forward : Bool) → forward ≡ true → list ≡ cycle
    → IsTurned list turned
    → count_by f (links (round turned)) ≡ count_by (λ l. f (cond forward l (back_of l))) (links (round cycle))
links_forward f cycle list turned forward e same turn =
    subst (λ b. count_by f (links (round turned)) ≡ count_by (λ l. f (cond b l (back_of l))) (links (round cycle))) (sym e)
    (links_of_turn f list turned turn ∙ ap (λ c. count_by f (links (round c))) same)

pub links_backward : (f : Link → Bool) (cycle list turned : List GridPoint) (forward : Bool) → forward ≡ false
    → list ≡ reverse cycle → IsTurned list turned
    → count_by f (links (round turned)) ≡ count_by (λ l. f (cond forward l (back_of l))) (links (round cycle))
links_backward f cycle list turned forward e same turn =
    subst (λ b. count_by f (links (round turned)) ≡ count_by (λ l. f (cond b l (back_of l))) (links (round cycle))) (sym e)
    (links_of_turn f list turned turn ∙ ap (λ c. count_by f (links (round c))) same ∙ links-reversed_round f cycle)
