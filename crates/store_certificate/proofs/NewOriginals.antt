-- This file shows that the new originals of a change are those with its first id and all later ones.
use Rattle.std.proofs.Common.{◌≡◌, ◌⊎◌, ℕ, ◌+◌, ◌<◌, ◌≤◌, nat_le, nat_lt, not, true, cond, List, [], ◌∷◌, ◌++◌, map, All, Contains}
use Rattle.std.proofs.Common.{inl, inr, sym, ap, ◌∙◌, arith, append_assoc}
use Rattle.std.proofs.lemmas.Bool.Decides.{nat_tests}
use Rattle.std.proofs.lemmas.List.{map-append}
use Rattle.std.proofs.lemmas.List.Elements.{All-contains, filter-append}
use Rattle.std.proofs.lemmas.List.Kept.{AllPairs-filter}
use Rattle.grid_base.specs.Drawing.{Drawing}
use Rattle.grid_base.specs.declared.original.Original.{Original}
use Rattle.realm_audit.specs.declared.item.Item.{Item}
use Rattle.hook_chain.specs.Ids.{IsAscending}
use Rattle.chain_laws.proofs.PointSets.{Contains-filter}
use Rattle.realm_insert.specs.Differences.{has_id, originals_besides}
use Rattle.rose_overlay.proofs.Sorts.{one_list}
use Rattle.certificate_law.specs.Certificates.{segment_item}
use Rattle.store_certificate.specs.Telling.{from_id, HasSegmentToo}
use Rattle.store_certificate.proofs.RisingIds.{below, all_below, lacks_next, has_next_id}
use Rattle.store_certificate.proofs.Ids.{nothing, ids, has_its_id, with_id, besides_has}

-- where all old ids are less, the originals whose ids the old ones lack have this id or a later one
pub new_are : (os after : List Original) (first : ℕ) → IsAscending after → All (λ o. (1 ≤ o.id) × (o.id < first)) os
    → ((n : ℕ) → Contains (ids after) n → Contains (ids os) n ⊎ (first ≤ n)) → originals_besides after os ≡ from_id first after
new_are os after first rising less come =
    one_list (λ (p q : Original). p.id < q.id) (λ p q one other. omega (arith, one, other))
    (originals_besides after os) (from_id first after)
    (AllPairs-filter (λ (p q : Original). p.id < q.id) (λ o. not (has_id os o.id)) after rising)
    (AllPairs-filter (λ (p q : Original). p.id < q.id) (λ o. nat_le first o.id) after rising)
    (λ o there.
    let both = (besides_has after os o).0 there in
    elim (come o.id (has_its_id after o both.0)) [
      | inl old ↦ absurd (both.1 old)
      | inr later ↦ (Contains-filter (λ q. nat_le first q.id) after o).1 (both.0, grind (arith, nat_tests, later))
    ])
    (λ o there.
    let both = (Contains-filter (λ q. nat_le first q.id) after o).0 there in
    (besides_has after os o).1 (
      both.0,
      λ old.
          let found = with_id os o.id old in
          let before = All-contains (λ q. (1 ≤ q.id) × (q.id < first)) os found.0 less found.1 in
          grind (arith, nat_tests, both.1, before.1, found.2),
    ))

-- ---- one after the other
-- the lines of those with an id from `first` on and below n
abbrev pub told_below : ℕ → ℕ → List Original → List Item
told_below first n os = map segment_item (from_id first (below n os))

pub none_told : (first : ℕ) (os : List Original) → told_below first first os ≡ []
none_told first os = ap (λ (l : List Original). map segment_item l) (none_left os)
  where
    none_left : (qs : List Original) → from_id first (below first qs) ≡ []
    none_left qs = nothing (from_id first (below first qs)) (λ o there.
        let later = (Contains-filter (λ q. nat_le first q.id) (below first qs) o).0 there in
        let less = (Contains-filter (λ q. nat_lt q.id first) qs o).0 later.0 in
        grind (arith, nat_tests, later.1, less.1))

-- one id more
pub one_id_more : (d : Drawing) (first n : ℕ) (start list new : List Item) → first ≤ n
    → IsAscending d.originals → HasSegmentToo d n list new → list ≡ start ++ told_below first n d.originals → new ≡ start ++ told_below first (n + 1) d.originals
one_id_more d first n start list new late rising (inl (o, there, is, pushed)) was =
    let passes : nat_le first o.id ≡ true = grind (arith, nat_tests, late, is) in
    let alone : from_id first (o ∷ []) ≡ o ∷ [] = ap (λ b. cond b (o ∷ []) []) passes in
    let further : from_id first (below (n + 1) d.originals) ≡ from_id first (below n d.originals) ++ o ∷ [] =
    ap (from_id first) (has_next_id n d.originals o rising there is)
    ∙ filter-append (λ q. nat_le first q.id) (below n d.originals) (o ∷ [])
    ∙ ap (λ (l : List Original). from_id first (below n d.originals) ++ l) alone in
    pushed ∙ ap (λ (l : List Item). l ++ segment_item o ∷ []) was
    ∙ append_assoc start (told_below first n d.originals) (segment_item o ∷ [])
    ∙ ap (λ (l : List Item). start ++ l) (sym (map-append segment_item (from_id first (below n d.originals)) (o ∷ [])))
    ∙ ap (λ (l : List Original). start ++ map segment_item l) (sym further)
one_id_more d first n start list new late rising (inr (lacks, same)) was =
    same ∙ was ∙ ap (λ (l : List Original). start ++ map segment_item (from_id first l)) (sym (lacks_next n d.originals lacks))

-- at the end all are told
pub all_told : (first n : ℕ) (os : List Original) → All (λ o. (1 ≤ o.id) × (o.id < n)) os
    → told_below first n os ≡ map segment_item (from_id first os)
all_told first n os less =
    ap (λ (l : List Original). map segment_item (from_id first l)) (all_below n os (λ k d within. (less k d within).1))
