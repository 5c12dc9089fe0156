use Rattle.std.proofs.Common.{get_or, sym, ◌∙◌, ap, subst, true≢false, arith}
use Rattle.grid_base.specs.Segment.{BoxesMeet}
use Rattle.realm_insert.proofs.ListedPieces.{nothing_listed, one_listed, none_listed, all_listed}
use Rattle.realm_insert.proofs.searching.pieces_met.Goals as goal
use Rattle.realm_insert.proofs.searching.pieces_met.Goals.{in-Some+then-box_meets+in_ok-push, in-Some+else-box_meets, in_default}

pub loop-key-init : goal.loop-key-init
loop-key-init c =
    nothing_listed (BoxesMeet c.args.near.now) c.args.drawing.now c.args.keys.now c.in_ok-list.list.items c.in_ok-list.ensures.items

-- the piece with this key is listed, or its box isn't met; or there is none
pub loop-key-preserved : goal.loop-key-preserved
loop-key-preserved c =
    let wanted = BoxesMeet c.args.near.now in
    let d = c.args.drawing.now in
    let keys = c.args.keys.now in
    let i = c.loop-key.key-index in
    let old = c.loop-key.list.items in
    let new = c.match-piece.list.items in
    let keyed = c.piece.ensures.keyed in
    elim c.match-piece.branch [
      | in-Some+then-box_meets+in_ok-push w ↦
          let t = w.in-Some.t in
          let has = (c.piece.ensures.piece t).0 w.in-Some.is in
          one_listed wanted d keys i t old new keyed c.loop-key-test.true has (w.box_meets.ensures.0 w.if-box_meets.true)
          (ap (λ v. v.items) w.list-is ∙ w.in_ok-push.ensures.items) c.loop-key.invariant
      | in-Some+else-box_meets w ↦
          let t = w.in-Some.t in
          let has = (c.piece.ensures.piece t).0 w.in-Some.is in
          none_listed wanted d keys i old new c.loop-key-test.true
          (λ u has_u is.
          let one = keyed.one_piece u t (get_or keys i 0) has_u has in
          true≢false (sym (w.box_meets.ensures.1 (subst wanted one is)) ∙ w.if-box_meets.false))
          (ap (λ v. v.items) w.list-is) c.loop-key.invariant
      | in_default w ↦
          none_listed wanted d keys i old new c.loop-key-test.true
          (λ u has_u is. w.in_default.not-Some u ((c.piece.ensures.piece u).1 has_u))
          (ap (λ v. v.items) w.list-is) c.loop-key.invariant
    ]

-- the keys of all pieces that are met are gone through
pub returns : goal.returns
returns c =
    let list = c.loop-key.list.items in
    all_listed (BoxesMeet c.args.near.now) c.args.drawing.now c.args.keys.now c.loop-key.key-index list list c.requires.keyed
    c.requires.round (omega (arith, c.loop-key-test.false)) c.loop-key.invariant (λ t. (λ there. there, λ there. there))
