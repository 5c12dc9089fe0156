-- This file shows that an entry is taken from its place, whether from the square itself or from below it.
use Rattle.std.proofs.Common.{◌≡◌, ℕ, ◌<◌, Vec, Global, Bool, false, IsTrue, sym, ap, subst, ◌∙◌, arith}
use Rattle.std.proofs.Common.{List, ◌++◌, length, All}
use Rattle.std.proofs.lemmas.Bool.{OnTrue_at, OnFalse_at, OnTrue_from, OnFalse_from, ltb-true, both_ways}
use Rattle.std.proofs.lemmas.List.Elements.{All-append, All-weaker}
use Rattle.grid_base.specs.Grid.{grid_bits}
use Rattle.realm_index.specs.Square.{GridSquare}
use Rattle.std.specs.List.{slice_set}
use Rattle.std.proofs.lemmas.List.{take_all}
use Rattle.realm_index.specs.Bounds.{home, holds}
use Rattle.realm_index.specs.Branch.{Branch, branch_of, flatten, is_below, IsBranch, HasMore, Lacks}
use Rattle.realm_index.specs.declared.tree.Entry.{Entry}
use Rattle.realm_index.proofs.Homes.{least_le, fits_from}
use Rattle.realm_index.proofs.Sums.{branch_own_fewer, branch_parts_fewer, more_in_front, more_behind}
use Rattle.realm_index.proofs.Parts.{either_bool, flatten_lacks, put_back, fewer, fewer_still, more_lack}
use Rattle.realm_index.proofs.tree.+take.Goals.{take_below-else-holds-via-then-holds+else-take, take_below-else-holds-via-else-holds}
use Rattle.realm_index.proofs.tree.+take.Goals as goal

-- entries with homes below a level lack one whose home isn't
lack_below : (es : List Entry) (n : ℕ) (e : Entry) → All (λ x. IsTrue (is_below n x)) es → (home e.bounds).level ≡ n → Lacks es e
lack_below es n e below at = All-weaker (λ x. IsTrue (is_below n x)) (λ x. x ≡ e → ⊥)
    (λ x h same.
    let less = ltb-true (home x.bounds).level n h in
    let one = ap {B = ℕ} (λ (y : Entry). (home y.bounds).level) same in
    omega (arith, less, one, at)) es below

-- entries with one home lack one whose home is below it
lack_home : (es : List Entry) (q : GridSquare) (e : Entry) → All (λ x. home x.bounds ≡ q) es → (home e.bounds).level < q.level
    → Lacks es e
lack_home es q e at less = All-weaker (λ x. home x.bounds ≡ q) (λ x. x ≡ e → ⊥)
    (λ x h same.
    let here = ap {B = ℕ} (λ (s : GridSquare). s.level) h in
    let one = ap {B = ℕ} (λ (y : Entry). (home y.bounds).level) same in
    omega (arith, less, here, one)) es at

-- ---- from the square itself
pub Tree::take-invariant_of-self : goal.Tree::take-invariant_of-self
Tree::take-invariant_of-self t c =
    let q = c.self.inside.square in
    let own = c.self.inside.own.items in
    let parts = c.self.inside.parts.items in
    either_bool c.take_own.result c.take_own.ensures.taken c.take_own.ensures.unchanged
    (λ more. branch_own_fewer q own parts c.self.invariant c.take_own.new.own.items c.args.entry.now more)
    (λ same. subst (λ o. IsBranch q o parts) (sym same) c.self.invariant)

pub Tree::take-returns-in-None-clause-taken : goal.Tree::take-returns-in-None-clause-taken
Tree::take-returns-in-None-clause-taken t c =
    let new = c.take_own.new.own.items in
    let back = flatten c.self.inside.parts.items in
    let seen = ap (λ (b : Branch). b.entries) c.self.view_is in
    OnTrue_from c.take_own.result (HasMore (new ++ back) c.args.self.now.entries c.args.entry.now) (λ is.
    subst (λ es. HasMore (new ++ back) es c.args.entry.now) seen
    (more_in_front new c.self.inside.own.items back c.args.entry.now (OnTrue_at is c.take_own.ensures.taken)))

pub Tree::take-returns-in-None-clause-none : goal.Tree::take-returns-in-None-clause-none
Tree::take-returns-in-None-clause-none t c =
    let own = c.self.inside.own.items in
    let back = flatten c.self.inside.parts.items in
    let seen = ap (λ (b : Branch). b.entries) c.self.view_is in
    let at = ap {B = ℕ} (λ (s : GridSquare). s.level) c.in-None.ensures in
    OnFalse_from c.take_own.result (Lacks c.args.self.now.entries c.args.entry.now) (λ is.
    subst (λ es. Lacks es c.args.entry.now) seen
    (All-append (λ x. x ≡ c.args.entry.now → ⊥) own back (OnFalse_at is c.take_own.ensures.none)
    (lack_below back c.self.inside.square.level c.args.entry.now c.self.invariant.deeper at)))

pub Tree::take-returns-in-None-clause-unchanged : goal.Tree::take-returns-in-None-clause-unchanged
Tree::take-returns-in-None-clause-unchanged t c = OnFalse_from c.take_own.result _ (λ is.
    ap (λ (o : List Entry). branch_of c.self.inside.square o c.self.inside.parts.items) (OnFalse_at is c.take_own.ensures.unchanged)
    ∙ c.self.view_is)

-- ---- from below it
pub Tree::take-invariant_of-self-in-Some : goal.Tree::take-invariant_of-self-in-Some
Tree::take-invariant_of-self-in-Some t c =
    let q = c.self.inside.square in
    let own = c.self.inside.own.items in
    let parts = c.self.inside.parts.items in
    either_bool c.take_below.result c.take_below.ensures.taken c.take_below.ensures.unchanged
    (λ more. branch_parts_fewer q own parts c.self.invariant c.take_below.new.parts.items c.args.entry.now more
    (c.take_below.ensures.lower q.level c.self.invariant.lower))
    (λ same. subst (λ ps. IsBranch q own ps) (sym same) c.self.invariant)

pub Tree::take-returns-in-Some-clause-taken : goal.Tree::take-returns-in-Some-clause-taken
Tree::take-returns-in-Some-clause-taken t c =
    let own = c.self.inside.own.items in
    let new = flatten c.take_below.new.parts.items in
    let seen = ap (λ (b : Branch). b.entries) c.self.view_is in
    OnTrue_from c.take_below.result (HasMore (own ++ new) c.args.self.now.entries c.args.entry.now) (λ is.
    subst (λ es. HasMore (own ++ new) es c.args.entry.now) seen
    (more_behind own new (flatten c.self.inside.parts.items) c.args.entry.now (OnTrue_at is c.take_below.ensures.taken)))

pub Tree::take-returns-in-Some-clause-none : goal.Tree::take-returns-in-Some-clause-none
Tree::take-returns-in-Some-clause-none t c =
    let own = c.self.inside.own.items in
    let back = flatten c.self.inside.parts.items in
    let seen = ap (λ (b : Branch). b.entries) c.self.view_is in
    let least = least_le grid_bits c.in-Some.field-0.level c.args.entry.now.bounds
    (fits_from c.in-Some.field-0 c.args.entry.now.bounds c.in-Some.ensures.0) in
    OnFalse_from c.take_below.result (Lacks c.args.self.now.entries c.args.entry.now) (λ is.
    subst (λ es. Lacks es c.args.entry.now) seen
    (All-append (λ x. x ≡ c.args.entry.now → ⊥) own back
    (lack_home own c.self.inside.square c.args.entry.now c.self.invariant.own_home (omega (arith, least, c.in-Some.ensures.1)))
    (OnFalse_at is c.take_below.ensures.none)))

pub Tree::take-returns-in-Some-clause-unchanged : goal.Tree::take-returns-in-Some-clause-unchanged
Tree::take-returns-in-Some-clause-unchanged t c = OnFalse_from c.take_below.result _ (λ is.
    ap (λ (ps : List Branch). branch_of c.self.inside.square c.self.inside.own.items ps) (OnFalse_at is c.take_below.ensures.unchanged)
    ∙ c.self.view_is)

-- ---- from the parts
-- a part whose square doesn't hold the box lacks the entry
part_lacks : (c : Branch) (e : Entry) → All (λ x. IsTrue (holds c.square x.bounds)) c.entries → holds c.square e.bounds ≡ false
    → Lacks c.entries e
part_lacks c e all none = All-weaker (λ x. IsTrue (holds c.square x.bounds)) (λ x. x ≡ e → ⊥)
    (λ x h same. both_ways (holds c.square x.bounds) (ap {B = Bool} (λ (y : Entry). holds c.square y.bounds) same ∙ none) h) c.entries all

pub take_below-returns-then-take-clause-taken : goal.take_below-returns-then-take-clause-taken
take_below-returns-then-take-clause-taken t c =
    let set = slice_set c.loop-i.parts.items c.loop-i.i c.take.new.self in
    fewer_still (flatten set) (flatten c.args.parts.now.items) (flatten c.drop_bare.new.parts.items) c.args.entry.now
    (fewer c.loop-i.parts.items c.args.parts.now.items c.loop-i.i c.index_mut-part.result.now c.take.new.self c.args.entry.now
    c.loop-i.invariant.parts (omega (arith, c.loop-i-test.true, c.len-i-end.ensures)) c.index_mut-part.ensures.value
    c.if-take.ensures.taken)
    c.drop_bare.ensures.same

pub take_below-loop-i-preserved : goal.take_below-loop-i-preserved
take_below-loop-i-preserved t c =
    let xs = c.loop-i.parts.items in
    let i = c.loop-i.i in
    let old = c.index_mut-part.result.now in
    let at = c.index_mut-part.ensures.value in
    let length_is = ap (λ (l : List Branch). length l) c.loop-i.invariant.parts in
    let within : i < length xs = omega (arith, c.loop-i-test.true, c.len-i-end.ensures, length_is) in
    elim c.else-holds.branch [
      | take_below-else-holds-via-then-holds+else-take w ↦
          let set = ap (λ (v : Vec Branch Global). v.items) w.parts-is ∙ ap (λ x. slice_set xs i x) w.if-take.ensures.unchanged in
          let back = put_back xs c.else-holds.parts.items i old set at in
          record {
            parts = back ∙ c.loop-i.invariant.parts;
            lacks = more_lack xs c.else-holds.parts.items i old c.args.entry.now back within at c.loop-i.invariant.lacks
                w.if-take.ensures.none;
          }
      | take_below-else-holds-via-else-holds w ↦
          let set = ap (λ (v : Vec Branch Global). v.items) w.parts-is in
          let back = put_back xs c.else-holds.parts.items i old set at in
          let none = sym c.holds.ensures.held ∙ w.if-holds.false in
          record {
            parts = back ∙ c.loop-i.invariant.parts;
            lacks = more_lack xs c.else-holds.parts.items i old c.args.entry.now back within at c.loop-i.invariant.lacks
                (part_lacks old c.args.entry.now c.holds.ensures.all none);
          }
    ]

pub take_below-returns-clause-none : goal.take_below-returns-clause-none
take_below-returns-clause-none t c =
    let same = c.loop-i.invariant.parts in
    let length_is = ap (λ (l : List Branch). length l) same in
    let all = subst (λ l. All (λ (b : Branch). Lacks b.entries c.args.entry.now) l)
    (take_all c.loop-i.i c.loop-i.parts.items (omega (arith, c.loop-i-test.false, c.len-i-end.ensures, length_is)) ∙ same)
    c.loop-i.invariant.lacks in
    flatten_lacks c.args.parts.now.items c.args.entry.now all
