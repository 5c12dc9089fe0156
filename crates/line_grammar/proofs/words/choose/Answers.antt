use Rattle.std.proofs.Common.{sym, ◌∙◌}
use Rattle.line_grammar.proofs.Choices.{choose_found, choose_passed, choose_ended}
use Rattle.line_grammar.proofs.words.choose.Goals as goal

-- the word of this entry is at the front
pub returns-in-Ok : goal.returns-in-Ok
returns-in-Ok g c =
    sym c.loop-word.invariant
    ∙ choose_found (λ e. (e.0.now, e.1)) c.loop-word.left c.args.table.now c.loop-word.word-index c.loop-word-item.result
    c.args.line.now c.as_bytes.result.now c.in-Ok.rest.now
    c.loop-word-test.true c.loop-word-item.is c.as_bytes.ensures.value c.in-Ok.ensures

-- the word of this entry stops, and the others are tried
pub loop-word-preserved : goal.loop-word-preserved
loop-word-preserved g c =
    let stopped = rw (c.in-Err-Stopped.field-0-is) at c.in-Err-Stopped.ensures in
    let passed =
    choose_passed (λ e. (e.0.now, e.1)) c.loop-word.left c.args.table.now c.loop-word.word-index c.loop-word-item.result
    c.args.line.now c.as_bytes.result.now c.in-Err-Stopped.there
    c.loop-word-test.true c.loop-word-item.is c.as_bytes.ensures.value stopped in
    rw (c.min-left.ensures, c.in-Err-Stopped.there-is) (sym passed ∙ c.loop-word.invariant)

-- no entry is left
pub returns : goal.returns
returns g c =
    sym c.loop-word.invariant
    ∙ choose_ended (λ e. (e.0.now, e.1)) c.loop-word.left c.args.table.now c.loop-word.word-index c.args.line.now c.loop-word-test.false
