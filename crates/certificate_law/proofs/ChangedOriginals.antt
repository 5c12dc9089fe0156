-- This file shows which originals a change takes away and which it adds.
use Rattle.std.proofs.Common.{◌≡◌, ℕ, ◌+◌, ◌<◌, ◌≤◌, true, not, ◌==◌, List, [], ◌∷◌, ◌++◌, length, filter}
use Rattle.std.proofs.Common.{All, AllPairs, Contains, refl, sym, ap, ap₂, subst, ◌∙◌, inl, inr, append_assoc, arith}
use Rattle.std.proofs.lemmas.List.{append-nil}
use Rattle.std.proofs.lemmas.List.Elements.{All-nil, All-push, All-head, All-tail, All-weaker, All-contains, All-filter}
use Rattle.std.proofs.lemmas.List.Elements.{filter-append, Contains-append_left}
use Rattle.std.proofs.lemmas.List.Kept.{AllPairs-cons, AllPairs-filter}
use Rattle.grid_base.specs.Point.{IsBefore}
use Rattle.grid_base.specs.Segment.{GridSegment}
use Rattle.grid_base.specs.Drawing.{Drawing}
use Rattle.grid_base.specs.declared.original.Original.{Original}
use Rattle.grid_base.proofs.Elements.{Contains-cases, Contains-nil}
use Rattle.line_grammar.specs.declared.command.Change.{Change}
use Rattle.line_grammar.specs.declared.command.Change.TheVariants.{Unpoint, Delete}
use Rattle.hook_chain.specs.Ids.{IsAscending}
use Rattle.hook_chain.specs.Straight.{straight, placed}
use Rattle.chain_laws.proofs.PointSets.{Contains-filter}
use Rattle.value_geometry.proofs.Counts.{AllPairs-head, AllPairs-tail}
use Rattle.realm_insert.specs.Changes.{IsChangedTo, placed_all}
use Rattle.realm_insert.specs.Figures.{Figure}
use Rattle.realm_insert.specs.Differences.{has_id, originals_besides}
use Rattle.certificate_law.proofs.Filters.{filter_all, filter_none, filter_same, id_is, not_is, same_test}
use Rattle.certificate_law.proofs.OriginalLines.{straight_all}

-- each id is from 1 on and below this one
abbrev pub AreBelow : ℕ → List Original → Type 0
AreBelow n originals = All (λ o. (1 ≤ o.id) × (o.id < n)) originals

-- Of the originals those stay whose ids are still there. Straight ones come behind them, with ids from the first on.
pub record AreRedrawn (old new : List Original) (first count : ℕ) : Type 0 where
  pub segments : List GridSegment
  pub ordered : All (λ s. IsBefore s.a s.b) segments
  pub few : length segments ≤ count
  pub added : originals_besides new old ≡ straight_all first segments
  pub whole : new ≡ filter (λ o. has_id new o.id) old ++ straight_all first segments
  pub rise : IsAscending new
  pub below : AreBelow (first + count) new

-- ---- an element and its id
has_own : (originals : List Original) (o : Original) → Contains originals o → has_id originals o.id ≡ true
has_own originals o there = (id_is originals o.id).1 (o, there, refl)

-- where each new original is an old one, none is added
none_added : (old new : List Original) → ((o : Original) → Contains new o → Contains old o) → originals_besides new old ≡ []
none_added old new are = filter_none (λ o. not (has_id old o.id)) new (λ o there. ap not (has_own old o (are o there)))

below_more : (n m : ℕ) (originals : List Original) → n ≤ m → AreBelow n originals → AreBelow m originals
below_more n m originals most below =
    All-weaker (λ o. (1 ≤ o.id) × (o.id < n)) (λ o. (1 ≤ o.id) × (o.id < m))
    (λ o bounds. (bounds.0, omega (arith, bounds.1, most))) originals below

no_segments : All (λ (s : GridSegment). IsBefore s.a s.b) []
no_segments = All-nil (λ (s : GridSegment). IsBefore s.a s.b)

-- ---- nothing is drawn
untouched : (old : List Original) (first count : ℕ) → IsAscending old → AreBelow first old → AreRedrawn old old first count
untouched old first count rise below = record {
  segments = [];
  ordered = no_segments;
  few = omega arith;
  added = none_added old old (λ o there. there);
  whole = sym (append-nil (filter (λ o. has_id old o.id) old) ∙ filter_all (λ o. has_id old o.id) old (has_own old));
  rise = rise;
  below = below_more first (first + count) old (omega arith) below;
}

-- ---- the original with this id goes
abbrev without : List Original → ℕ → List Original
without originals id = filter (λ o. not (o.id == id)) originals

-- those that stay are those with another id
staying : (old : List Original) (id : ℕ) → without old id ≡ filter (λ o. has_id (without old id) o.id) old
staying old id = filter_same (λ o. not (o.id == id)) (λ o. has_id (without old id) o.id) old (λ o there.
    same_test (not (o.id == id)) (has_id (without old id) o.id)
    (λ other. has_own (without old id) o ((Contains-filter (λ p. not (p.id == id)) old o).1 (there, other)))
    (λ has.
    let (p, left, same) = (id_is (without old id) o.id).0 has in
    let other = ((Contains-filter (λ q. not (q.id == id)) old p).0 left).1 in
    subst (λ n. not (n == id) ≡ true) same other))

removed : (old : List Original) (id first count : ℕ) → IsAscending old → AreBelow first old
    → AreRedrawn old (without old id) first count
removed old id first count rise below = record {
  segments = [];
  ordered = no_segments;
  few = omega arith;
  added = none_added old (without old id) (λ o there. ((Contains-filter (λ p. not (p.id == id)) old o).0 there).0);
  whole = staying old id ∙ sym (append-nil (filter (λ o. has_id (without old id) o.id) old));
  rise = AllPairs-filter (λ o p. o.id < p.id) (λ o. not (o.id == id)) old rise;
  below = below_more first (first + count) (without old id) (omega arith)
      (All-filter (λ o. not (o.id == id)) (λ o. (1 ≤ o.id) × (o.id < first)) old below);
}

-- ---- straight originals come
placed_are : (d : Drawing) (id : ℕ) (list : List GridSegment)
    → (placed_all d id list).originals ≡ d.originals ++ straight_all id list
placed_are d id [] = sym (append-nil d.originals)
placed_are d id (s ∷ list) =
    placed_are (placed d id s) (id + 1) list ∙ append_assoc d.originals (straight id s ∷ []) (straight_all (id + 1) list)

-- their ids are none that was there
above_first : (id : ℕ) (list : List GridSegment) (o : Original) → Contains (straight_all id list) o → id ≤ o.id
above_first id [] o there = absurd (Contains-nil o there)
above_first id (s ∷ list) o there = elim (Contains-cases (straight id s) (straight_all (id + 1) list) o there) [
  | inl same ↦ let is : id ≡ o.id = ap (λ (p : Original). p.id) same in omega (arith, is)
  | inr later ↦ let more = above_first (id + 1) list o later in omega (arith, more)
]

pairs_push : {X : Type 0} (R : X → X → Type 0) (xs : List X) (x : X) → AllPairs R xs → All (λ y. R y x) xs
    → AllPairs R (xs ++ x ∷ [])
pairs_push R [] x pairs all = λ i j d before within. absurd (omega arith)
pairs_push R (y ∷ xs) x pairs all =
    AllPairs-cons R y (xs ++ x ∷ [])
    (All-push (R y) xs x (AllPairs-head R y xs pairs) (All-head (λ z. R z x) y xs all))
    (pairs_push R xs x (AllPairs-tail R y xs pairs) (All-tail (λ z. R z x) y xs all))

-- originals by rising id, all below n
record AreInOrder (n : ℕ) (originals : List Original) : Type 0 where
  rise : IsAscending originals
  below : AreBelow n originals

in_order : (n : ℕ) (originals : List Original) (list : List GridSegment) → 1 ≤ n → AreInOrder n originals
    → AreInOrder (n + length list) (originals ++ straight_all n list)
in_order n originals [] first is =
    subst (AreInOrder (n + length {A = GridSegment} [])) (sym (append-nil originals))
    (record { rise = is.rise; below = below_more n (n + length {A = GridSegment} []) originals (omega arith) is.below })
in_order n originals (s ∷ list) first is =
    let here : AreInOrder (n + 1) (originals ++ straight n s ∷ []) = record {
      rise = pairs_push (λ o p. o.id < p.id) originals (straight n s) is.rise
          (All-weaker (λ o. (1 ≤ o.id) × (o.id < n)) (λ o. o.id < n) (λ o bounds. bounds.1) originals is.below);
      below = All-push (λ o. (1 ≤ o.id) × (o.id < n + 1)) originals (straight n s)
          (below_more n (n + 1) originals (omega arith) is.below) (first, omega arith);
    } in
    let rest = in_order (n + 1) (originals ++ straight n s ∷ []) list (omega arith) here in
    let all = originals ++ straight_all n (s ∷ list) in
    let joined = subst (AreInOrder ((n + 1) + length list))
    (append_assoc originals (straight n s ∷ []) (straight_all (n + 1) list)) rest in
    record {
      rise = joined.rise;
      below = below_more ((n + 1) + length list) (n + length (s ∷ list)) all (omega arith) joined.below;
    }

drawn : (old : List Original) (first : ℕ) (list : List GridSegment) → 1 ≤ first → All (λ s. IsBefore s.a s.b) list
    → IsAscending old → AreBelow first old → AreRedrawn old (old ++ straight_all first list) first (length list)
drawn old first list least ordered rise below =
    let more = straight_all first list in
    let new = old ++ more in
    let all = in_order first old list least (record { rise = rise; below = below }) in
    let fresh : (o : Original) → Contains more o → not (has_id old o.id) ≡ true = λ o there.
    not_is (has_id old o.id) (λ found.
    let (p, was, same) = (id_is old o.id).0 found in
    let low = All-contains (λ q. (1 ≤ q.id) × (q.id < first)) old p below was in
    let high = above_first first list o there in
    omega (arith, same, low.1, high)) in
    record {
      segments = list;
      ordered = ordered;
      few = omega arith;
      added = filter-append (λ o. not (has_id old o.id)) old more
          ∙ ap₂ (λ (l m : List Original). l ++ m) (none_added old old (λ o there. there))
          (filter_all (λ o. not (has_id old o.id)) more fresh);
      whole = ap (λ l. l ++ more)
          (sym (filter_all (λ o. has_id new o.id) old (λ o there. has_own new o (Contains-append_left old more o there))));
      rise = all.rise;
      below = all.below;
    }

-- ---- a change
-- originals that are equal are redrawn alike
abbrev Redraws : List Original → ℕ → ℕ → List Original → Type 0
Redraws old first count new = AreRedrawn old new first count

pub redrawn_by : (c : Change) (figure : Figure) (d : Drawing) (first : ℕ) (changed : Drawing)
    → IsChangedTo c figure d first changed → All (λ s. IsBefore s.a s.b) figure.segments → 1 ≤ first → IsAscending d.originals
    → AreBelow first d.originals → AreRedrawn d.originals changed.originals first (length figure.segments)
redrawn_by (Unpoint p) figure d first changed is ordered least rise below =
    subst (Redraws d.originals first (length figure.segments)) (sym is.originals)
    (untouched d.originals first (length figure.segments) rise below)
redrawn_by (Delete id) figure d first changed is ordered least rise below =
    subst (Redraws d.originals first (length figure.segments)) (sym is.originals)
    (removed d.originals id first (length figure.segments) rise below)
redrawn_by c figure d first changed is ordered least rise below =
    subst (Redraws d.originals first (length figure.segments)) (sym (is.originals ∙ placed_are d first figure.segments))
    (drawn d.originals first figure.segments least ordered rise below)
