use Rattle.std.proofs.Common.{◌-◌, ◌∙◌, length, take_all, All, sym, subst, arith, true≢false}
use Rattle.std.proofs.lemmas.List.Elements.{All-nil, All-push}
use Rattle.record_codec.specs.Traces.{IsTrace}
use Rattle.realm_insert.specs.State.{AreLatest, kept_trace}
use Rattle.realm_insert.proofs.RestoredStates.{one_more_trace, one_more_numbered, are_latest, not_latest, other_count}
use Rattle.realm_insert.proofs.engine.traces_of.Goals as goal

-- another number of them
pub returns-then-not-is_count : goal.returns-then-not-is_count
returns-then-not-is_count c = λ latest.
    other_count c.args.changes c.args.list.now
    (λ same. true≢false (sym (c.is_count.ensures.1 (omega (arith, same))) ∙ c.if-not-is_count.true)) latest

pub loop-i-init : goal.loop-i-init
loop-i-init c =
    let count = c.is_count.ensures.0 c.if-not-is_count.false in
    record {
      count = omega (arith, count);
      whole = omega (arith, count);
      are = c.new-traces.ensures.items;
      numbered = λ j other less. absurd (omega (arith, less));
      texts = subst (All (λ kept. IsTrace kept.steps)) (sym c.new-traces.ensures.items) (All-nil (λ kept. IsTrace kept.steps));
    }

-- another number than the next
pub returns-then-not-is_numbered : goal.returns-then-not-is_numbered
returns-then-not-is_numbered c = λ latest.
    not_latest c.args.changes (c.args.changes - length c.args.list.now) c.args.list.now c.loop-i.i c.index-list-i.result
    c.loop-i-test.true c.index-list-i.is c.loop-i.invariant.whole
    (λ same. true≢false (sym (c.is_numbered.ensures.1 same) ∙ c.if-not-is_numbered.true)) latest

-- one more
pub loop-i-preserved : goal.loop-i-preserved
loop-i-preserved c =
    let list = c.args.list.now in
    let i = c.loop-i.i in
    let kept = c.index-list-i.result in
    let was = c.loop-i.invariant in
    let added = c.in_ok-push_trace.ensures.added in
    record {
      count = was.count;
      whole = was.whole;
      are = one_more_trace list i kept c.loop-i.traces.items c.push_trace.new.traces.items c.loop-i-test.true c.index-list-i.is
          was.are added;
      numbered = one_more_numbered (c.args.changes - length c.args.list.now) list i kept c.loop-i-test.true c.index-list-i.is
          (c.is_numbered.ensures.0 c.if-not-is_numbered.false) was.numbered;
      texts = subst (All (λ kept. IsTrace kept.steps)) (sym added)
          (All-push (λ kept. IsTrace kept.steps) c.loop-i.traces.items (kept_trace kept.number kept.steps) was.texts
          c.in_ok-push_trace.ensures.fits);
    }

-- at the end all are
pub returns : goal.returns
returns c =
    let past = c.loop-i-test.false in
    let was = c.loop-i.invariant in
    let same = rw take_all at was.are in (
      same,
      subst (AreLatest c.args.changes) (sym same)
          (are_latest c.args.changes (c.args.changes - length c.args.list.now) c.args.list.now was.count was.whole
          (λ j other less. was.numbered j other (omega (arith, past, less)))),
      was.texts,
    )
