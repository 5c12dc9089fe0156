use Rattle.std.proofs.Common.{◌+◌, ◌-◌, ◌≢◌, All, true≢false, subst, sym, ◌∙◌}
use Rattle.grid_base.specs.Point.{GridPoint}
use Rattle.realm_drawing.specs.Passages.{IsPlaceAt}
use Rattle.realm_drawing.proofs.Passings.{without_end, without_neighbour}
use Rattle.realm_drawing.proofs.passages.passage_of.Goals as goal

-- the chain doesn't come by an end of the piece
pub returns-in_err-place : goal.returns-in_err-place
returns-in_err-place c =
    let chain = c.args.chain.now in
    let never = subst (λ (p : GridPoint). All (λ q. q ≢ p) chain) c.a.ensures.end c.in_err-place.ensures in
    rw c.from_residual.ensures (without_end chain c.args.piece.now never)

-- the other end stands neither behind the one nor before it
pub returns-else-is_before : goal.returns-else-is_before
returns-else-is_before c =
    let chain = c.args.chain.now in
    let i = c.in_ok-place.place in
    let is_a = c.a.ensures.end in
    let is_b = sym c.b-other.ensures.end in
    without_neighbour chain c.requires.chain c.args.piece.now i
    (subst (λ (p : GridPoint). IsPlaceAt chain p i) is_a c.in_ok-place.ensures)
    (λ behind.
    let there = c.is_at.ensures.1 (subst (λ (p : GridPoint). IsPlaceAt chain p (i + 1)) is_b behind) in
    true≢false (sym there ∙ c.if-is_at.false))
    (λ before.
    let there = c.is_before.ensures.1 (before.0, subst (λ (p : GridPoint). IsPlaceAt chain p (i - 1)) is_b before.1) in
    true≢false (sym there ∙ c.if-is_before.false))
