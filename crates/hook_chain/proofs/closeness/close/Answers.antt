use Rattle.hook_chain.proofs.Exchange.{close_by_rows, rows_by_close}
use Rattle.hook_chain.proofs.closeness.close.Goals as goal

-- a piece of a steep original is close by rows, which are the columns of the exchanged segments
pub returns-else-is_flat : goal.returns-else-is_flat
returns-else-is_flat c =
    let steep = c.if-is_flat.ensures.flat in
    let answer = rw (c.exchange.ensures, c.exchange-else-is_flat.ensures) at c.is_close_up-else-is_flat.ensures in
    (λ found. close_by_rows _ _ steep (answer.0 found), λ close. answer.1 (rows_by_close _ _ steep close))
