-- This file shows what one change of a set of ways does to how many there are of each sort, and what its order finds.
use Rattle.std.proofs.Common.{◌≡◌, ◌≢◌, ◌↔◌, ◌+◌, Bool, true, false, refl, sym, ap, ap₂, ◌∙◌, subst, arith}
use Rattle.std.proofs.Common.{List, [], ◌∷◌, Contains, IsTrue, true≢false, count_by, Ordering, Less, Equal, Greater, Option, Some, None}
use Rattle.std.specs.Cmp.{IsTotalOrder}
use Rattle.std.specs.Ordering.{ordering_then, is_gt}
use Rattle.std.specs.BTreeMap.{is_at}
use Rattle.std.specs.declared.ops.Bound.{Bound}
use Rattle.std.specs.declared.ops.Bound.TheVariants.{Included, Unbounded}
use Rattle.std.specs.BTreeSet.{BTreeSet, insert_key, contains, IsKeyRangeOf}
use Rattle.std.specs.BTreeMap.Range.{IsInRange}
use Rattle.std.specs.Option.{MatchOption, option_copied}
use denote.Ref.{Bor}
use Rattle.std.proofs.lemmas.Map.Views.{btree_set_contains_iff}
use Rattle.std.specs.Set.{remove_key}
use Rattle.std.specs.List.{list_any}
use Rattle.std.proofs.lemmas.Cmp.{on_total, then_total}
use Rattle.std.proofs.lemmas.Bool.Decides.{nat_tests}
use Rattle.grid_base.specs.Point.{GridPoint, point_at, point_cmp}
use Rattle.grid_base.proofs.Orders.{point_cmp-total, point_cmp-Equal}
use Rattle.r_cycles.specs.declared.ways.Way.{Way}
use Rattle.r_cycles.specs.Left.{way_of, begins, one_if}
use Rattle.grid_base.proofs.Elements.{Contains-here, Contains-later}
use Rattle.r_cycles.proofs.Counts.{count_by-cons, count_by-none}

-- ways compare by where they begin and then by where they lead
abbrev pub way_cmp : Way → Way → Ordering
way_cmp v w = ordering_then (point_cmp v.from w.from) (point_cmp v.to w.to)

then-Equal : (o r : Ordering) → ordering_then o r ≡ Equal → (o ≡ Equal) × (r ≡ Equal)
then-Equal Less r h = cc
then-Equal Equal r h = (refl, h)
then-Equal Greater r h = cc

-- ways that compare equal are one way
pub way_cmp-Equal : (v w : Way) → way_cmp v w ≡ Equal → v ≡ w
way_cmp-Equal v w h =
    let both = then-Equal (point_cmp v.from w.from) (point_cmp v.to w.to) h in
    ap₂ way_of ((point_cmp-Equal v.from w.from).0 both.0) ((point_cmp-Equal v.to w.to).0 both.1)

-- one more way, which wasn't there
pub count_by-insert : (f : Way → Bool) (ways : List Way) (way : Way) → (Contains ways way → ⊥)
    → count_by f (insert_key way_cmp ways way) ≡ count_by f ways + one_if (f way)
count_by-insert f [] way new = omega (arith, count_by-cons f way [])
count_by-insert f (w ∷ ways) way new =
    by (way_cmp way w) refl (count_by-insert f ways way (λ there. new (Contains-later w ways way there)))
  where
    by : (o : Ordering) → way_cmp way w ≡ o
        → count_by f (insert_key way_cmp ways way) ≡ count_by f ways + one_if (f way)
        → count_by f (insert_key way_cmp (w ∷ ways) way) ≡ count_by f (w ∷ ways) + one_if (f way)
    by Less e rest = rw e (omega (arith, count_by-cons f way (w ∷ ways)))
    by Equal e rest = absurd (new (subst (Contains (w ∷ ways)) (sym (way_cmp-Equal way w e)) (Contains-here w ways)))
    by Greater e rest = rw e (omega (arith, rest, count_by-cons f w (insert_key way_cmp ways way), count_by-cons f w ways))

-- one way fewer, which was there
pub count_by-remove : (f : Way → Bool) (ways : List Way) (way : Way) → list_any (is_at (way_cmp way)) ways ≡ true
    → count_by f (remove_key (is_at (way_cmp way)) ways) + one_if (f way) ≡ count_by f ways
count_by-remove f [] way there = cc
count_by-remove f (w ∷ ways) way there = by (way_cmp way w) refl (count_by-remove f ways way) there
  where
    by : (o : Ordering) → way_cmp way w ≡ o
        → (list_any (is_at (way_cmp way)) ways ≡ true
        → count_by f (remove_key (is_at (way_cmp way)) ways) + one_if (f way) ≡ count_by f ways)
        → list_any (is_at (way_cmp way)) (w ∷ ways) ≡ true
        → count_by f (remove_key (is_at (way_cmp way)) (w ∷ ways)) + one_if (f way) ≡ count_by f (w ∷ ways)
    by Less e rest any =
        let fewer = rest (rw e at any) in
        let rest_counted = count_by-cons f w (remove_key (is_at (way_cmp way)) ways) in
        rw e (omega (arith, fewer, rest_counted, count_by-cons f w ways))
    by Equal e rest any =
        let same = ap (λ v. one_if (f v)) (way_cmp-Equal way w e) in rw e (omega (arith, same, count_by-cons f w ways))
    by Greater e rest any =
        let fewer = rest (rw e at any) in
        let rest_counted = count_by-cons f w (remove_key (is_at (way_cmp way)) ways) in
        rw e (omega (arith, fewer, rest_counted, count_by-cons f w ways))

pub way_cmp-total : IsTotalOrder way_cmp
way_cmp-total = then_total (on_total (λ w. w.from) point_cmp-total) (on_total (λ w. w.to) point_cmp-total)

-- a set has a way by its own test exactly where its list has
pub has_way : (s : BTreeSet Way) (way : Way) → IsTrue (contains way_cmp s way) ↔ Contains s.keys way
has_way s way = btree_set_contains_iff way_cmp-total way_cmp-Equal s way

-- where the ways from p begin in the order of ways, o being the least point
abbrev pub from_here : GridPoint → GridPoint → Bound Way
from_here p o = Included (way_of p o)

-- what was found is the first of the ways from p, or there is none
abbrev pub FirstOf : GridPoint → List Way → Option (Bor Way) → Type 0
FirstOf p ways o = MatchOption (option_copied o) (count_by (begins p) ways ≡ 0)
    (λ way. Contains ways way × (way.from ≢ p → count_by (begins p) ways ≡ 0))

not_first_part : (o r : Ordering) → is_gt (ordering_then o r) ≡ false → is_gt o ≡ false
not_first_part Less r h = refl
not_first_part Equal r h = refl
not_first_part Greater r h = h

not_after_then : (o r : Ordering) → o ≡ Equal → is_gt r ≡ false → is_gt (ordering_then o r) ≡ false
not_after_then o r same h = rw same h

origin_first : (q : GridPoint) → is_gt (point_cmp (point_at 0 0) q) ≡ false
origin_first q = grind (arith, nat_tests)

between_same : (p q : GridPoint) → is_gt (point_cmp p q) ≡ false → is_gt (point_cmp q p) ≡ false → q ≡ p
between_same p q h k =
    let same : (q.x ≡ p.x) × (q.y ≡ p.y) = grind (arith, nat_tests) in
    ap₂ point_at same.0 same.1

-- whether a way begins at p
begins_at : (p : GridPoint) (way : Way) (P : Type 0) → (way.from ≡ p → P) → (begins p way ≡ false → P) → P
begins_at p way P begun elsewhere = by (begins p way) refl
  where
    by : (b : Bool) → begins p way ≡ b → P
    by true e =
        let same : (way.from.x ≡ p.x) × (way.from.y ≡ p.y) = grind (arith, nat_tests) in
        begun (ap₂ point_at same.0 same.1)
    by false e = elsewhere e

-- a way from p is in the range from p on
in_range : (p o : GridPoint) (way : Way) → o ≡ point_at 0 0 → way.from ≡ p → IsInRange way_cmp (from_here p o) Unbounded way
in_range p o way origin same = (
  not_after_then _ _ ((point_cmp-Equal p way.from).1 (sym same)) (rw origin (origin_first way.to)),
  tt,
)

-- a way in that range begins at p or after it, and one that isn't after a way from p begins at p
pub found_from : (s : BTreeSet Way) (p o : GridPoint) (r : List Way) (n : Option (Bor Way)) (t : List Way) → o ≡ point_at 0 0
    → IsKeyRangeOf way_cmp (from_here p o) Unbounded s r → MatchOption n ((r ≡ []) × (t ≡ [])) (λ w. r ≡ w.now ∷ t)
    → FirstOf p s.keys n
found_from s p o r None t origin of_range first =
    count_by-none (begins p) s.keys (λ way there. begins_at p way (begins p way ≡ false)
    (λ same. absurd (true≢false (sym ((has_way s way).1 there) ∙ of_range.5 first.0 way (in_range p o way origin same))))
    (λ e. e))
found_from s p o r (Some w) t origin of_range first =
    let whole = rw first at of_range in
    let this = whole.0 0 w.now (grind arith) in (
      (has_way s w.now).0 this.1,
      λ other. count_by-none (begins p) s.keys (λ way there. begins_at p way (begins p way ≡ false)
          (λ same.
          let before = whole.2 way (in_range p o way origin same) ((has_way s way).1 there) in
          let after = not_first_part (point_cmp w.now.from way.from) (point_cmp w.now.to way.to) before in
          absurd (other (between_same p w.now.from (not_first_part _ _ this.0.0) (rw same at after))))
          (λ e. e)),
    )
