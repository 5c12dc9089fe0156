use Rattle.std.proofs.Common.{List, sym, subst, refl, ◌∙◌, true≢false, All}
use Rattle.record_codec.specs.Traces.{IsTrace}
use Rattle.realm_insert.specs.State.{KeptTrace, AreLatest}
use Rattle.realm_insert.proofs.RestoredStates.{has_fitting_numbers, has_valid_parts, is_valid, begins, the_state}
use Rattle.realm_insert.proofs.engine.engine_of.Goals as goal

-- a number is past its bounds
pub returns-then-not-numbers_in : goal.returns-then-not-numbers_in
returns-then-not-numbers_in c = λ valid.
    true≢false (sym (c.numbers_in.ensures.1 (has_fitting_numbers c.args.s.now valid)) ∙ c.if-not-numbers_in.true)

-- the traces aren't the latest
pub returns-in_default : goal.returns-in_default
returns-in_default c = λ valid. (rw c.in_default.is at c.in_ok-listed.ensures) valid.latest

-- the drawing or a value isn't valid
pub returns-in_default-made : goal.returns-in_default-made
returns-in_default-made c = λ valid. (rw c.in_default-made.is at c.in_ok-made.ensures) (has_valid_parts c.args.s.now valid)

-- the engine may begin so
pub invariant_of-engine : goal.invariant_of-engine
invariant_of-engine c = λ unspent.
    let fitting = c.numbers_in.ensures.0 c.if-not-numbers_in.false in
    let (same, latest, texts) = rw c.in-Some.is at c.in_ok-listed.ensures in
    let made = rw c.in-Some-made.is at c.in_ok-made.ensures in
    begins c.args.s.now c.in-Some-made.parts.drawing c.in-Some-made.parts.index c.in-Some-made.parts.table c.in-Some.traces.items made
    fitting same latest texts

-- and has the state
pub returns : goal.returns
returns c =
    let s = c.args.s.now in
    let fitting = c.numbers_in.ensures.0 c.if-not-numbers_in.false in
    let (same, latest, texts) = rw c.in-Some.is at c.in_ok-listed.ensures in
    let made = rw c.in-Some-made.is at c.in_ok-made.ensures in (
      refl,
      the_state s c.in-Some-made.parts.drawing.drawing c.in-Some-made.parts.table c.in-Some.traces.items made.drawing made.named same,
      is_valid s fitting made.parts (subst (AreLatest s.changes) same latest)
          (subst (λ (l : List KeptTrace). All (λ kept. IsTrace kept.steps) l) same texts),
    )
