use Rattle.std.proofs.Common.{Some, ap, ◌∙◌}
use Rattle.std.proofs.lemmas.Result.{IfOk-weaker}
use Rattle.rose_query.specs.Replies.{number_reply}
use Rattle.rose_query.proofs.Told.{components_measured}
use Rattle.rose_query.proofs.measuring.list_measure.Goals as goal

-- each value has a number of components
pub returns-in_ok-components-in-NoOfComponents-None : goal.returns-in_ok-components-in-NoOfComponents-None
returns-in_ok-components-in-NoOfComponents-None c =
    let counted = c.in_ok-components-in-NoOfComponents-None in
    rw (c.in-NoOfComponents-None.is-0, c.in-NoOfComponents-None.is-1)
    (IfOk-weaker c.list_number-in-NoOfComponents-None.result _ _
    (λ reply is. components_measured c.args.first.now counted.field-0 counted.ensures reply
    (is ∙ ap (λ n. number_reply (Some n)) c.from.ensures))
    c.list_number-in-NoOfComponents-None.ensures)
