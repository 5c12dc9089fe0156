-- This file shows that lines take originals out one after another, and put originals in.
use Rattle.std.proofs.Common.{◌≡◌, ◌≢◌, ℕ, ◌+◌, ◌<◌, Bool, true, false, not, ◌&&◌, ◌||◌, ◌==◌, List, [], ◌∷◌, ◌++◌, length}
use Rattle.std.proofs.Common.{filter, map, get_or, All, Contains, refl, sym, ap, subst, ◌∙◌, inl, inr, append_assoc, arith}
use Rattle.std.proofs.lemmas.List.{append-nil}
use Rattle.std.proofs.lemmas.List.Elements.{All-head, All-tail, All-contains, filter_agree}
use Rattle.grid_base.specs.Point.{GridPoint, IsBefore}
use Rattle.grid_base.specs.Segment.{GridSegment}
use Rattle.grid_base.specs.declared.original.Original.{Original}
use Rattle.grid_base.proofs.Booleans.{same_number, number_itself}
use Rattle.hook_chain.specs.StandingChains.{HasValidChain}
use Rattle.hook_chain.specs.Ids.{IsAscending}
use Rattle.hook_chain.specs.Straight.{straight, along}
use Rattle.realm_audit.specs.Audits.{Audit, Runs}
use Rattle.realm_audit.specs.Outcomes.{audit_of}
use Rattle.realm_audit.specs.declared.item.Item.TheVariants as items
use Rattle.realm_audit.specs.declared.phase.Phase.TheVariants.{Opening, Placing}
use Rattle.chain_laws.proofs.PointSets.{Contains-filter}
use Rattle.state_check.specs.Drawable.{drawing_with}
use Rattle.value_geometry.proofs.Counts.{AllPairs-head, AllPairs-tail}
use Rattle.certificate_law.specs.Certificates.{chain_item, segment_item}
use Rattle.realm_insert.specs.Differences.{has_id, originals_besides}
use Rattle.certificate_law.proofs.Filters.{filter_all, filter_same, filter_twice, id_is, not_is, is_not, same_test, passes_or_not}

-- ---- originals go
-- what is left of the originals without those with the ids of these
abbrev pub without_all : List Original → List Original → List Original
without_all originals gone = filter (λ o. not (has_id gone o.id)) originals

same_either_way : (m n : ℕ) (c : Bool) → (not (m == n) && not c) ≡ not ((n == m) || c)
same_either_way m n c =
    let turned = same_test (m == n) (n == m) (λ is. number_itself n m (sym (same_number m n is)))
    (λ is. number_itself m n (sym (same_number n m is))) in
    ap (λ b. not b && not c) turned ∙ not_either (n == m) c
  where
    not_either : (b c : Bool) → (not b && not c) ≡ not (b || c)
    not_either true c = refl
    not_either false c = refl

abbrev without : List Original → ℕ → List Original
without originals id = filter (λ o. not (o.id == id)) originals

one_then_others : (originals gone : List Original) (r : Original)
    → without_all (without originals r.id) gone ≡ without_all originals (r ∷ gone)
one_then_others originals gone r =
    filter_twice (λ o. not (has_id gone o.id)) (λ o. not (o.id == r.id)) originals
    ∙ filter_agree (λ o. not (o.id == r.id) && not (has_id gone o.id)) (λ o. not (has_id (r ∷ gone) o.id))
    (λ o. same_either_way o.id r.id (has_id gone o.id)) originals

still_there : (originals gone : List Original) (r : Original) → All (Contains originals) (r ∷ gone) → IsAscending (r ∷ gone)
    → All (Contains (without originals r.id)) gone
still_there originals gone r there rise = λ k d within.
    let o = get_or gone k d in
    let is_in = All-tail (Contains originals) r gone there k d within in
    let before : r.id < o.id = AllPairs-head (λ o p. o.id < p.id) r gone rise k d within in
    (Contains-filter (λ p. not (p.id == r.id)) originals o).1
    (is_in, not_is (o.id == r.id) (λ same. let equal = same_number o.id r.id same in omega (arith, equal, before)))

module _ (points : List GridPoint) (greatest changes steps : ℕ) where
  -- while a change places points and originals
  abbrev placing : List Original → Audit
  placing originals = audit_of (drawing_with points originals) greatest Placing changes steps

  pub originals_go : (originals gone : List Original) → IsAscending gone → All (Contains originals) gone
      → Runs (placing originals) (map (λ o. items.Remove o.id) gone) (placing (without_all originals gone))
  originals_go originals [] rise there = ap placing (sym (filter_all (λ o. not (has_id [] o.id)) originals (λ o is_in. refl)))
  originals_go originals (r ∷ gone) rise there =
      let left = without originals r.id in
      let rest = originals_go left gone (AllPairs-tail (λ o p. o.id < p.id) r gone rise) (still_there originals gone r there rise) in (
        placing left,
        (
          refl,
          λ lacks. All-contains (λ o. o.id ≢ r.id) originals r lacks (All-head (Contains originals) r gone there) refl,
          refl,
        ),
        subst (λ l. Runs (placing left) (map (λ o. items.Remove o.id) gone) (placing l)) (one_then_others originals gone r) rest,
      )

-- without those that the others lack, the originals are those whose ids the others have
pub both_have : (originals others : List Original)
    → without_all originals (originals_besides originals others) ≡ filter (λ o. has_id others o.id) originals
both_have originals others =
    let gone = originals_besides originals others in
    filter_same (λ o. not (has_id gone o.id)) (λ o. has_id others o.id) originals (λ o there.
    same_test (not (has_id gone o.id)) (has_id others o.id)
    (λ stays. elim (passes_or_not (has_id others o.id)) [
      | inl has ↦ has
      | inr lacks ↦
          let besides = (Contains-filter (λ p. not (has_id others p.id)) originals o).1 (there, ap not lacks) in
          absurd (is_not (has_id gone o.id) stays ((id_is gone o.id).1 (o, besides, refl)))
    ])
    (λ has. not_is (has_id gone o.id) (λ found.
    let (p, besides, same) = (id_is gone o.id).0 found in
    let lacks = ((Contains-filter (λ q. not (has_id others q.id)) originals p).0 besides).1 in
    is_not (has_id others p.id) lacks (subst (λ id. has_id others id ≡ true) (sym same) has))))

-- ---- straight originals come
-- those along these segments, the first with this id, and each further one with the next
abbrev pub straight_all : ℕ → List GridSegment → List Original
straight_all id [] = []
straight_all id (s ∷ list) = straight id s ∷ straight_all (id + 1) list

-- the greatest id once they have come
abbrev pub greatest_id : ℕ → ℕ → List GridSegment → ℕ
greatest_id greatest id [] = greatest
greatest_id greatest id (s ∷ list) = greatest_id id (id + 1) list

pub greatest_below : (greatest id : ℕ) (list : List GridSegment) → greatest < id → greatest_id greatest id list < id + length list
greatest_below greatest id [] below = omega (arith, below)
greatest_below greatest id (s ∷ list) below =
    let rest = greatest_below id (id + 1) list (omega arith) in omega (arith, rest)

pub segments_come : (points : List GridPoint) (changes steps greatest id : ℕ) (originals : List Original) (list : List GridSegment)
    → greatest < id → All (λ s. IsBefore s.a s.b) list
    → Runs (audit_of (drawing_with points originals) greatest Placing changes steps) (map segment_item (straight_all id list))
    (audit_of (drawing_with points (originals ++ straight_all id list)) (greatest_id greatest id list) Placing changes steps)
segments_come points changes steps greatest id originals [] below ordered =
    ap (λ l. audit_of (drawing_with points l) greatest Placing changes steps) (sym (append-nil originals))
segments_come points changes steps greatest id originals (s ∷ list) below ordered =
    let more = originals ++ straight id s ∷ [] in
    let mid = audit_of (drawing_with points more) id Placing changes steps in
    let rest = segments_come points changes steps id (id + 1) more list (omega arith)
    (All-tail (λ t. IsBefore t.a t.b) s list ordered) in (
      mid,
      (refl, below, All-head (λ t. IsBefore t.a t.b) s list ordered, refl),
      subst (λ l. Runs mid (map segment_item (straight_all (id + 1) list))
          (audit_of (drawing_with points l) (greatest_id id (id + 1) list) Placing changes steps))
          (append_assoc originals (straight id s ∷ []) (straight_all (id + 1) list)) rest,
    )

-- ---- originals that are there at the beginning
-- the greatest id once they have come
abbrev pub last_id : ℕ → List Original → ℕ
last_id greatest [] = greatest
last_id greatest (o ∷ originals) = last_id o.id originals

pub last_below : (greatest n : ℕ) (originals : List Original) → greatest < n → All (λ o. o.id < n) originals
    → last_id greatest originals < n
last_below greatest n [] below all = below
last_below greatest n (o ∷ originals) below all =
    last_below o.id n originals (All-head (λ p. p.id < n) o originals all) (All-tail (λ p. p.id < n) o originals all)

pub originals_open : (points : List GridPoint) (changes steps greatest : ℕ) (before originals : List Original)
    → All HasValidChain originals → IsAscending originals → All (λ o. greatest < o.id) originals
    → Runs (audit_of (drawing_with points before) greatest Opening changes steps) (map chain_item originals)
    (audit_of (drawing_with points (before ++ originals)) (last_id greatest originals) Opening changes steps)
originals_open points changes steps greatest before [] valid rise above =
    ap (λ l. audit_of (drawing_with points l) greatest Opening changes steps) (sym (append-nil before))
originals_open points changes steps greatest before (o ∷ originals) valid rise above =
    let more = before ++ o ∷ [] in
    let mid = audit_of (drawing_with points more) o.id Opening changes steps in
    let rest = originals_open points changes steps o.id more originals (All-tail HasValidChain o originals valid)
    (AllPairs-tail (λ p q. p.id < q.id) o originals rise) (AllPairs-head (λ p q. p.id < q.id) o originals rise) in (
      mid,
      (
        refl,
        All-head (λ p. greatest < p.id) o originals above,
        drawing_with points more,
        (along o, All-head HasValidChain o originals valid, refl),
        refl,
      ),
      subst (λ l. Runs mid (map chain_item originals)
          (audit_of (drawing_with points l) (last_id o.id originals) Opening changes steps))
          (append_assoc before (o ∷ []) originals) rest,
    )
