use Rattle.std.proofs.Common.{◌<◌, slice_index_or, refl, sym, subst, arith}
use Rattle.std.proofs.lemmas.Bool.{true≢false}
use Rattle.grid_base.specs.Odd.{AreSides}
use Rattle.grid_base.proofs.Elements.{same_place}
use Rattle.plane_cells.specs.Numbered.{nowhere}
use Rattle.rose_predicates.proofs.OpenSides.{not_all, one_more, zip_at}
use Rattle.rose_predicates.proofs.Truths.{not_held}
use Rattle.rose_predicates.proofs.enclosing.none_is_open.Goals as goal

-- the segment at hand has an open side
pub returns-then-is_open : goal.returns-then-is_open
returns-then-is_open c =
    let B = c.args.border.now in
    let i = c.loop-i.i in
    let s = slice_index_or B i nowhere in (
      λ e. absurd (true≢false (sym e)),
      λ none. absurd
          (not_all B c.args.outer.now i s _ (same_place B i nowhere s c.loop-i-test.true) c.loop-i-test.true
          ((c.is_open.ensures B s (zip_at (AreSides B) B c.args.odd.now i nowhere _ c.requires.odd c.loop-i-test.true)).0 c.if-is_open.true)
          none),
    )

-- it has none
pub loop-i-preserved : goal.loop-i-preserved
loop-i-preserved c =
    let B = c.args.border.now in
    let i = c.loop-i.i in
    let s = slice_index_or B i nowhere in
    one_more B c.args.outer.now i s _ c.loop-i.invariant (same_place B i nowhere s c.loop-i-test.true) c.loop-i-test.true
    (subst (λ n. i < n) (sym c.requires.one_each) c.loop-i-test.true)
    (not_held (c.is_open.ensures B s (zip_at (AreSides B) B c.args.odd.now i nowhere _ c.requires.odd c.loop-i-test.true)) c.if-is_open.false)

-- all segments are gone through
pub returns : goal.returns
returns c = (λ e k s o within. c.loop-i.invariant k s o (omega (arith, within, c.loop-i-test.false)), λ none. refl)
