use Rattle.std.proofs.Common.{arith, subst, ◌∙◌}
use Rattle.std.proofs.lemmas.Result.{err_from_is_err_and, IfOk-from_err}
use Rattle.realm_pages.specs.ReadingPages.{IsPieceOf}
use Rattle.realm_pages.proofs.Asks.{asks_then}
use Rattle.realm_pages.proofs.Counting.{fewest_once}
use Rattle.realm_pages.proofs.Pieces.{fault_upto}
use Rattle.realm_pages.proofs.pages.read_pages.Goals as goal

-- the head has as many pages as the payload needs
pub take_pages-requires-clause-count : goal.take_pages-requires-clause-count
take_pages-requires-clause-count g c =
    let head = c.args.head.now in
    omega (arith, fewest_once head.length head.pages c.requires.head.pages.0, c.min-count.ensures, c.loop-pages-test.true)

-- a page of the piece is at fault
pub returns-in_err-take_pages-clause-told : goal.returns-in_err-take_pages-clause-told
returns-in_err-take_pages-clause-told g c = λ t.
    let inv = c.loop-pages.invariant in
    let ens = c.in_ok-piece.ensures in
    let t0 = ens.goes_on.tells t in
    let read = ens.told t in
    let asks = inv.asks t0 in
    let head = c.args.head.now in
    let whole = (g.W.Outside.view c.args.world.now).reads c.args.file in
    let piece =
    subst (λ l. IsPieceOf l c.loop-pages.pages c.min-count.result c.in_ok-piece.piece.items) (asks.files.reads c.args.file) read.bytes in
    let (y, is, gives) = err_from_is_err_and c.from_residual-in_err-take_pages.result c.from_residual-in_err-take_pages.ensures.1 in
    record {
      asks = asks_then asks read.asks;
      hold = IfOk-from_err c.from_residual-in_err-take_pages.result _ c.from_residual-in_err-take_pages.ensures.0;
      fault = λ d told.
          let fault = c.in_err-take_pages.ensures.fault d (cc) whole (c.deref.ensures.value ∙ piece) (inv.hold t0) in
          fault_upto (omega (arith, c.min-count.ensures, c.loop-pages-test.true)) fault;
    }
