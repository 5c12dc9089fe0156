use Rattle.std.proofs.Common.{Contains, get_or, ◌∙◌, ap, subst, arith}
use Rattle.std.proofs.lemmas.List.Elements.{Contains-get_or}
use Rattle.realm_insert.specs.Clashes.{HasKeyAmong}
use Rattle.realm_insert.proofs.ListedPieces.{nothing_listed, one_listed, none_listed, all_listed}
use Rattle.realm_insert.proofs.searching.pieces_of.Goals as goal
use Rattle.realm_insert.proofs.searching.pieces_of.Goals.{in-Some+in_ok-push, in_default}

pub loop-key-init : goal.loop-key-init
loop-key-init c =
    let d = c.args.drawing.now in
    let keys = c.args.keys.now in
    nothing_listed (HasKeyAmong d keys) d keys c.in_ok-list.list.items c.in_ok-list.ensures.items

-- the piece with this key is listed, or there is none
pub loop-key-preserved : goal.loop-key-preserved
loop-key-preserved c =
    let d = c.args.drawing.now in
    let keys = c.args.keys.now in
    let wanted = HasKeyAmong d keys in
    let i = c.loop-key.key-index in
    let old = c.loop-key.list.items in
    let new = c.match-piece.list.items in
    elim c.match-piece.branch [
      | in-Some+in_ok-push w ↦
          let t = w.in-Some.t in
          let has = (c.piece.ensures.piece t).0 w.in-Some.is in
          one_listed wanted d keys i t old new c.piece.ensures.keyed c.loop-key-test.true has
          (get_or keys i 0, (Contains-get_or keys i 0 c.loop-key-test.true, has))
          (ap (λ v. v.items) w.list-is ∙ w.in_ok-push.ensures.items) c.loop-key.invariant
      | in_default w ↦
          none_listed wanted d keys i old new c.loop-key-test.true
          (λ u has_u is. w.in_default.not-Some u ((c.piece.ensures.piece u).1 has_u))
          (ap (λ v. v.items) w.list-is) c.loop-key.invariant
    ]

-- all keys are gone through, and each piece has one key
pub returns : goal.returns
returns c = λ t.
    let d = c.args.drawing.now in
    let keys = c.args.keys.now in
    let keyed = c.requires.keyed in
    let list = c.loop-key.list.items in
    let all = all_listed (HasKeyAmong d keys) d keys c.loop-key.key-index list list keyed
    (λ u k has among. subst (Contains keys) (keyed.one_key u among.0 k among.1.1 has) among.1.0)
    (omega (arith, c.loop-key-test.false)) c.loop-key.invariant (λ u. (λ there. there, λ there. there)) t in
    (λ there. (all.0 there).1, λ among. all.1 (keyed.of_pieces t among.0 among.1.1, among))
