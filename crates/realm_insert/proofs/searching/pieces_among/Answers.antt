use Rattle.std.proofs.Common.{get_or, sym, ◌∙◌, ap, subst, true≢false, arith}
use Rattle.grid_base.specs.Crossing.{Inside}
use Rattle.realm_insert.proofs.ListedPieces.{nothing_listed, one_listed, none_listed, all_listed}
use Rattle.realm_insert.proofs.searching.pieces_among.Goals as goal
use Rattle.realm_insert.proofs.searching.pieces_among.Goals.{in-Some+then-in_side+in_ok-push, in-Some+else-in_side, in_default}

pub loop-key-init : goal.loop-key-init
loop-key-init c =
    nothing_listed (Inside c.args.p.now) c.args.drawing.now c.args.keys.now c.new-list.result.items c.new-list.ensures.items

-- the piece with this key is listed, or hasn't the point inside; or there is none
pub loop-key-preserved : goal.loop-key-preserved
loop-key-preserved c =
    let wanted = Inside c.args.p.now in
    let d = c.args.drawing.now in
    let keys = c.args.keys.now in
    let i = c.loop-key.key-index in
    let old = c.loop-key.list.items in
    let new = c.match-piece.list.items in
    let keyed = c.piece.ensures.keyed in
    elim c.match-piece.branch [
      | in-Some+then-in_side+in_ok-push w ↦
          let t = w.in-Some.t in
          let has = (c.piece.ensures.piece t).0 w.in-Some.is in
          one_listed wanted d keys i t old new keyed c.loop-key-test.true has (w.in_side.ensures.0 w.if-in_side.true)
          (ap (λ v. v.items) w.list-is ∙ w.in_ok-push.ensures.items) c.loop-key.invariant
      | in-Some+else-in_side w ↦
          let t = w.in-Some.t in
          let has = (c.piece.ensures.piece t).0 w.in-Some.is in
          none_listed wanted d keys i old new c.loop-key-test.true
          (λ u has_u is.
          let one = keyed.one_piece u t (get_or keys i 0) has_u has in
          true≢false (sym (w.in_side.ensures.1 (subst wanted one is)) ∙ w.if-in_side.false))
          (ap (λ v. v.items) w.list-is) c.loop-key.invariant
      | in_default w ↦
          none_listed wanted d keys i old new c.loop-key-test.true
          (λ u has_u is. w.in_default.not-Some u ((c.piece.ensures.piece u).1 has_u))
          (ap (λ v. v.items) w.list-is) c.loop-key.invariant
    ]

-- a point inside a piece is in its box, so the key of the piece is listed
pub returns-clause-round : goal.returns-clause-round
returns-clause-round c =
    all_listed (Inside c.args.p.now) c.args.drawing.now c.args.keys.now c.loop-key.key-index c.loop-key.list.items
    c.ascending_segments.result.items c.requires.keyed (λ t k has inside. c.requires.round t k has inside.on.box)
    (omega (arith, c.loop-key-test.false)) c.loop-key.invariant c.ascending_segments.ensures.same
