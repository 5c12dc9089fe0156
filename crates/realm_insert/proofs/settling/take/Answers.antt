use Rattle.std.proofs.Common.{◌++◌, List, ◌∙◌, ap, sym, subst, map}
use Rattle.realm_drawing.specs.Draws.{DrawsAnew}
use Rattle.hook_chain.specs.Mending.{IsPieceOf}
use Rattle.realm_drawing.specs.declared.keyed.KeyedPiece.{KeyedPiece}
use Rattle.realm_insert.specs.Indexing.{ListsKeyed}
use Rattle.realm_insert.specs.Work.{IsCoveredBy}
use Rattle.realm_insert.proofs.Covering.{covered_after}
use Rattle.realm_insert.proofs.IndexAfter.{keys_are_new, indexed_after}
use Rattle.realm_insert.proofs.settling.take.Goals as goal

-- nothing is under the keys of what is drawn anew
pub put_in_index-requires : goal.put_in_index-requires
put_in_index-requires c =
    let old = c.args.drawing.now in
    let new = c.redraw.new.self in
    let done = c.in_ok-drawn.ensures in
    let draws = subst (DrawsAnew c.args.step.now old new) (sym c.as_slice-2.ensures.value) done.anew in
    let noted = subst (ListsKeyed old (IsPieceOf c.args.step.now)) (sym c.as_slice.ensures.value) c.in_ok-replaced.ensures in
    record {
      new_keys = keys_are_new old new done.keys c.requires.keyed done.keyed c.args.step.now c.as_slice-2.result.now
          c.as_slice.result.now c.args.index.now c.forget_gone.new.index draws c.requires.indexed noted c.forget_gone.ensures;
      once = draws.once;
    }

-- what is gone is out of the index, and what was drawn anew is in it
pub returns-clause-indexed : goal.returns-clause-indexed
returns-clause-indexed c =
    let old = c.args.drawing.now in
    let new = c.redraw.new.self in
    let done = c.in_ok-drawn.ensures in
    let draws = subst (DrawsAnew c.args.step.now old new) (sym c.as_slice-2.ensures.value) done.anew in
    let noted = subst (ListsKeyed old (IsPieceOf c.args.step.now)) (sym c.as_slice.ensures.value) c.in_ok-replaced.ensures in
    indexed_after old new done.keys c.requires.keyed done.keyed c.args.step.now c.as_slice-2.result.now c.as_slice.result.now
    c.args.index.now c.forget_gone.new.index draws c.requires.indexed noted c.forget_gone.ensures c.put_in_index.new.index
    c.in_ok-put_in_index.ensures

-- what was drawn anew is listed
pub returns-clause-covered : goal.returns-clause-covered
returns-clause-covered c =
    let fresh = c.args.fresh.now.items in
    let new = c.redraw.new.self in
    let done = c.in_ok-drawn.ensures in
    let covered = covered_after c.args.drawing.now new c.args.step.now fresh c.in_ok-drawn.drawn.items done.keyed
    c.requires.covered done.anew in
    let longer = c.in_ok-list_pieces.ensures
    ∙ ap (λ (l : List KeyedPiece). fresh ++ map (λ (f : KeyedPiece). f.piece) l) c.as_slice-3.ensures.value in
    subst (IsCoveredBy new.drawing) (sym longer) covered
