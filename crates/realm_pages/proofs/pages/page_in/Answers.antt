use Rattle.std.proofs.Common.{◌≡◌, ◌*◌, ℕ, List, length, take, drop, min, ap, ◌∙◌}
use Rattle.std.proofs.lemmas.List.{take_min, drop_min, take_rest}
use Rattle.realm_pages.proofs.pages.page_in.Goals as goal

-- the rest is what stands from the page on, and the front of it is the page
page_is : (piece rest : List ℕ) (from size : ℕ) → rest ≡ drop (min from (length piece)) piece → size ≡ min 4096 (length rest)
    → take size rest ≡ take 4096 (drop from piece)
page_is piece rest from size rest_is size_is =
    ap (λ m. take m rest) size_is ∙ take_min 4096 rest ∙ ap (λ l. take 4096 l) (rest_is ∙ drop_min from piece)

pub returns-clause-page : goal.returns-clause-page
returns-clause-page c =
    page_is c.args.piece.now _ (4096 * c.args.page) c.min-2.result
    (take_rest c.args.piece.now c.min.result ∙ ap (λ m. drop m c.args.piece.now) c.min.ensures) c.min-2.ensures
