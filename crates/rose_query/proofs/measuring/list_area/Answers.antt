use Rattle.std.proofs.Common.{Some, refl, inr}
use Rattle.std.proofs.lemmas.Result.{IfOk-weaker}
use Rattle.rose_query.proofs.measuring.list_area.Goals as goal

-- a region has an area
pub returns-in_ok-area2-in-R : goal.returns-in_ok-area2-in-R
returns-in_ok-area2-in-R c =
    rw c.in-R.is
    (IfOk-weaker c.list_number.result _ _
    (λ reply is. inr (refl, Some c.in_ok-area2-in-R.field-0, c.in_ok-area2-in-R.ensures, is))
    c.list_number.ensures)
