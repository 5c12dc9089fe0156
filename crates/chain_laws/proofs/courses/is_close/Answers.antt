use Rattle.std.proofs.Common.{sym, subst}
use Rattle.hook_chain.specs.Close.{Close}
use Rattle.chain_laws.proofs.CloseChains.{close_sorted}
use Rattle.chain_laws.proofs.courses.is_close.Goals as goal

-- the segment between the two points is close where the way is
pub returns : goal.returns
returns c =
    let o = c.args.o.now in
    let ends = c.in-Some.ensures.ends in
    let sorted = close_sorted o c.args.v.now c.args.w.now in (
      λ h. sorted.0 (subst (Close o) ends (c.close.ensures.0 h)),
      λ close. c.close.ensures.1 (subst (Close o) (sym ends) (sorted.1 close)),
    )
