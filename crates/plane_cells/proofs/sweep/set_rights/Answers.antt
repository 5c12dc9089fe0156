use Rattle.std.proofs.Common.{refl, sym, subst, ◌<◌, length, arith}
use Rattle.plane_cells.proofs.Parts.{each_read}
use Rattle.plane_cells.proofs.Rights.{rights_more, all_rights}
use Rattle.plane_cells.proofs.sweep.set_rights.Goals as goal

pub loop-k-preserved : goal.loop-k-preserved
loop-k-preserved c =
    let fan = c.args.fan.now in
    let k = c.loop-k.k in
    let x = c.index-i.result.now in
    let l : k < length fan = omega (arith, c.loop-k-test.true, c.len-k-end.ensures) in
    rights_more fan c.args.under k x c.args.right.now.items c.loop-k.right.items _ c.loop-k.label _ c.requires.once
    c.loop-k.invariant l c.index-i.ensures
    (subst (λ i. i < length c.args.right.now.items) (sym c.index-i.ensures)
    (each_read (λ i. i < length c.args.right.now.items) fan k x c.requires.places l)) refl refl

pub returns-clause-rights : goal.returns-clause-rights
returns-clause-rights c =
    (all_rights c.args.fan.now c.args.under c.loop-k.k c.args.right.now.items c.loop-k.right.items c.loop-k.label
    (omega (arith, c.loop-k-test.false, c.len-k-end.ensures)) c.loop-k.invariant).rights

pub returns-clause-kept : goal.returns-clause-kept
returns-clause-kept c =
    (all_rights c.args.fan.now c.args.under c.loop-k.k c.args.right.now.items c.loop-k.right.items c.loop-k.label
    (omega (arith, c.loop-k-test.false, c.len-k-end.ensures)) c.loop-k.invariant).kept
