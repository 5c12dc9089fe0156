use Rattle.std.proofs.Common.{◌≡◌, ◌+◌, ◌*◌, ◌<◌, min, arith, ap, subst, ◌∙◌}
use Rattle.std.proofs.lemmas.Result.{err_from_is_err_and}
use Rattle.realm_pages.specs.Generations.{page_count}
use Rattle.realm_pages.specs.Files.{HoldsFirst}
use Rattle.realm_pages.proofs.Counting.{below}
use Rattle.realm_pages.proofs.Pieces.{page_of_piece, fault_at}
use Rattle.realm_pages.proofs.pages.take_pages.Goals as goal

-- some of the payload stands behind the pages before
pub overflow_add-before : goal.overflow_add-before
overflow_add-before c =
    let more : c.args.before + c.loop-page.page < page_count c.args.size = omega (arith, c.loop-page-test.true, c.requires.count) in
    omega (arith, below c.args.size (c.args.before + c.loop-page.page) more)

-- the page behind those that were taken is at fault
pub returns-in_err-take_page-clause-fault : goal.returns-in_err-take_page-clause-fault
returns-in_err-take_page-clause-fault c = λ damage told whole piece hold.
    let (y, is, gives) = err_from_is_err_and c.from_residual.result c.from_residual.ensures.1 in
    fault_at c.args.file whole c.args.piece.now c.page_in.result.now c.loop-page.payload.items c.args.size c.args.before c.args.count
    c.loop-page.page damage piece c.loop-page-test.true c.page_in.ensures.page (c.loop-page.invariant.taken whole piece hold)
    (c.in_err-take_page.ensures.fault damage (cc))

-- one page more
pub loop-page-preserved : goal.loop-page-preserved
loop-page-preserved c =
    let next : c.args.before + c.loop-page.page + 1 ≡ c.args.before + (c.loop-page.page + 1) = omega arith in
    record {
      so_far = c.in_ok-take_page.ensures.so_far ∙ ap (λ k. min (4054 * k) c.args.size) next;
      taken = λ whole piece hold.
          subst (λ k. HoldsFirst whole c.args.size k c.take_page.new.payload.items) next
          (c.in_ok-take_page.ensures.taken whole
          (c.page_in.ensures.page
          ∙ page_of_piece whole c.args.piece.now c.args.before c.args.count c.loop-page.page piece c.loop-page-test.true)
          (c.loop-page.invariant.taken whole piece hold));
    }
