-- This file shows that an entry comes into its place, whether into the square itself or below it.
use Rattle.std.proofs.Common.{◌≡◌, IsTrue, sym, ap, subst, arith, ◌<◌, ℕ, [], ◌∷◌, ◌++◌}
use Rattle.std.proofs.lemmas.Result.{MatchResult-from_err, MatchResult-weaker}
use Rattle.std.specs.List.{slice_set}
use Rattle.std.proofs.lemmas.List.Elements.{All-set}
use Rattle.grid_base.specs.Grid.{grid_bits}
use Rattle.realm_index.specs.Square.{GridSquare}
use Rattle.std.proofs.lemmas.Bool.{lt-ltb}
use Rattle.realm_index.specs.Bounds.{holds, home}
use Rattle.realm_index.proofs.Homes.{least_le, fits_from}
use Rattle.realm_index.specs.Branch.{Branch, flatten, HasMore, HasSame}
use Rattle.realm_index.proofs.Sums.{either, branch_own_more, branch_parts_more, branch_parts_same}
use Rattle.realm_index.proofs.Sums.{same_then_more, same_then_same, more_behind, same_behind, more_before}
use Rattle.realm_index.proofs.Parts.{more_parts, same_parts}
use Rattle.realm_index.proofs.tree.Tree.+put.Goals as goal

-- the entry is the square's own
pub invariant_of-self-in_default : goal.invariant_of-self-in_default
invariant_of-self-in_default t c =
    let sq = ap (λ (b : Branch). b.square) c.self.view_is in
    let within = subst (λ q. IsTrue (holds q c.args.entry.bounds)) (sym sq) c.requires.held in
    rw c.in_ok-add_own.ensures.added (branch_own_more c.self.inside.square c.self.inside.own.items c.self.inside.parts.items
    c.self.invariant c.args.entry c.in_default.ensures within)

pub returns-in_default-clause-entries : goal.returns-in_default-clause-entries
returns-in_default-clause-entries t c =
    let own = c.self.inside.own.items in
    let below = flatten c.self.inside.parts.items in
    let seen = ap (λ (b : Branch). b.entries) c.self.view_is in
    rw c.in_ok-add_own.ensures.added
    (subst (λ es. HasMore es ((own ++ c.args.entry ∷ []) ++ below) c.args.entry) seen (more_before own below c.args.entry))

-- there was no memory for a part
pub invariant_of-self-in_err-place : goal.invariant_of-self-in_err-place
invariant_of-self-in_err-place t c =
    branch_parts_same c.self.inside.square c.self.inside.own.items c.self.inside.parts.items c.self.invariant
    c.place_for.new.parts.items c.place_for.ensures.same
    (c.place_for.ensures.lower c.self.inside.square.level c.in-Some.ensures.1 c.self.invariant.lower)

pub returns-in_err-place-clause-entries : goal.returns-in_err-place-clause-entries
returns-in_err-place-clause-entries t c =
    let own = c.self.inside.own.items in
    let new = c.place_for.new.parts.items in
    let seen = ap (λ (b : Branch). b.entries) c.self.view_is in
    let same = subst (λ es. HasSame es (own ++ flatten new)) seen
    (same_behind own (flatten c.self.inside.parts.items) (flatten new) c.place_for.ensures.same) in
    MatchResult-from_err c.from_residual-in_err-place.result (λ _. HasMore c.args.self.now.entries (own ++ flatten new) c.args.entry)
    (λ _. HasSame c.args.self.now.entries (own ++ flatten new)) c.from_residual-in_err-place.ensures.0 (λ _. same)

-- the part holds the box, and is less
pub put-requires : goal.put-requires
put-requires t c =
    let level : c.self.inside.square.level ≡ c.args.self.now.square.level = ap {B = ℕ} (λ (b : Branch). b.square.level) c.self.view_is in
    let at = c.index_mut-below.ensures.value in
    let lower = c.place_for.ensures.lower c.self.inside.square.level c.in-Some.ensures.1 c.self.invariant.lower
    c.in_ok-place.place c.index_mut-below.result.now c.in_ok-place.ensures.place.within in
    let less : c.index_mut-below.result.now.square.level < c.self.inside.square.level =
    subst (λ (b : Branch). b.square.level < c.self.inside.square.level) (sym at) lower in
    let held = subst (λ (b : Branch). IsTrue (holds b.square c.args.entry.bounds)) (sym at)
    (c.in_ok-place.ensures.place.held c.index_mut-below.result.now) in
    (omega (arith, less, level, c.decreases), held)

pub invariant_of-self-2 : goal.invariant_of-self-2
invariant_of-self-2 t c =
    let q = c.self.inside.square in
    let own = c.self.inside.own.items in
    let old = c.self.inside.parts.items in
    let parts = c.place_for.new.parts.items in
    let i = c.in_ok-place.place in
    let below = c.index_mut-below.result.now in
    let at = c.index_mut-below.ensures.value in
    let within = c.in_ok-place.ensures.place.within in
    let sq = ap (λ (b : Branch). b.square) c.self.view_is in
    let held = subst (λ r. IsTrue (holds r c.args.entry.bounds)) (sym sq) c.requires.held in
    let lower = c.place_for.ensures.lower q.level c.in-Some.ensures.1 c.self.invariant.lower in
    let part = subst (λ (b : Branch). b.square.level < q.level) (sym at) (lower i below within) in
    let part2 = subst (λ (r : GridSquare). r.level < q.level) (sym c.put.ensures.square) part in
    let lower2 = All-set (λ (b : Branch). b.square.level < q.level) parts i c.put.new.self part2 lower in
    let least = least_le grid_bits c.in-Some.part.level c.args.entry.bounds (fits_from c.in-Some.part c.args.entry.bounds c.in-Some.ensures.0) in
    let deeper = lt-ltb (home c.args.entry.bounds).level q.level (omega (arith, least, c.in-Some.ensures.1)) in
    either c.put.result c.put.ensures.entries
    (λ more. branch_parts_more q own old c.self.invariant (slice_set parts i c.put.new.self) c.args.entry
    (same_then_more (flatten old) (flatten parts) (flatten (slice_set parts i c.put.new.self)) c.args.entry c.place_for.ensures.same
    (more_parts parts i below c.put.new.self c.args.entry within at more)) held deeper lower2)
    (λ same. branch_parts_same q own old c.self.invariant (slice_set parts i c.put.new.self)
    (same_then_same (flatten old) (flatten parts) (flatten (slice_set parts i c.put.new.self)) c.place_for.ensures.same
    (same_parts parts i below c.put.new.self within at same)) lower2)

pub returns-clause-entries : goal.returns-clause-entries
returns-clause-entries t c =
    let own = c.self.inside.own.items in
    let old = c.self.inside.parts.items in
    let parts = c.place_for.new.parts.items in
    let i = c.in_ok-place.place in
    let below = c.index_mut-below.result.now in
    let at = c.index_mut-below.ensures.value in
    let within = c.in_ok-place.ensures.place.within in
    let new = slice_set parts i c.put.new.self in
    let seen = ap (λ (b : Branch). b.entries) c.self.view_is in
    MatchResult-weaker c.put.result c.put.ensures.entries
    (λ _ more. subst (λ es. HasMore es (own ++ flatten new) c.args.entry) seen
    (more_behind own (flatten old) (flatten new) c.args.entry
    (same_then_more (flatten old) (flatten parts) (flatten new) c.args.entry c.place_for.ensures.same
    (more_parts parts i below c.put.new.self c.args.entry within at more))))
    (λ _ same. subst (λ es. HasSame es (own ++ flatten new)) seen
    (same_behind own (flatten old) (flatten new)
    (same_then_same (flatten old) (flatten parts) (flatten new) c.place_for.ensures.same
    (same_parts parts i below c.put.new.self within at same))))
