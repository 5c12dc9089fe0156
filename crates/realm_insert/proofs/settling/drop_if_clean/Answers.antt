use Rattle.std.proofs.Common.{◌≡◌, ℕ, ◌-◌, not, Some, length, get_or, sym, subst, ◌∙◌, ap, arith}
use Rattle.std.proofs.lemmas.Option.{slice_get_within, get_or_from_slice_get}
use Rattle.grid_base.specs.Segment.{GridSegment}
use Rattle.hook_chain.specs.Mending.{IsPermitted}
use Rattle.realm_insert.specs.Work.{IsClean}
use Rattle.realm_insert.proofs.Covering.{covered_after_pop}
use Rattle.realm_insert.proofs.FoundSteps.{where_none}
use Rattle.realm_insert.proofs.settling.drop_if_clean.Goals as goal

-- the piece that is found clean comes off
pub returns-then-is_none-clause-covered : goal.returns-then-is_none-clause-covered
returns-then-is_none-clause-covered c =
    let d = c.args.drawing.now.drawing in
    let piece = c.args.piece.now in
    let list = c.args.fresh.now.items in
    let clean = where_none (IsClean d piece) (IsPermitted d) c.args.found.now (sym (c.is_none.ensures ∙ ap not c.if-is_none.true))
    c.requires.found in
    let within = slice_get_within list (length list - 1) piece c.requires.last in
    let at = get_or_from_slice_get list (length list - 1) piece piece c.requires.last in
    let from = subst (λ (n : ℕ). get_or list (n - 1) piece ≡ piece) (sym c.args.fresh.now.ok.0) at in
    let popped = c.pop.ensures.value piece (omega (arith, within, c.args.fresh.now.ok.0)) ∙ ap (λ (s : GridSegment). Some s) from in
    covered_after_pop d list c.pop.new.self.items piece c.pop.result c.pop.ensures.items popped c.requires.covered clean
