use Rattle.std.proofs.Common.{◌≡◌, ◌↔◌, ℕ, IfOk, Contains, refl, subst, arith}
use Rattle.std.proofs.lemmas.Result.{IfOk-weaker}
use Rattle.realm_audit.specs.Shelves.{HasShare}
use Rattle.realm_audit.specs.Ranges.{ids_among}
use Rattle.realm_audit.specs.declared.shelves.Shelf.{Shelf}
use Rattle.realm_audit.specs.declared.shares.Share.{Share}
use Rattle.realm_audit.proofs.ShareOrder.{in_order}
use Rattle.realm_audit.proofs.ShareSets.{mark, owner_ids}
use Rattle.realm_audit.proofs.shares.Shares.owners.Goals as goal

-- the least id comes before the greatest
pub ids_between-requires : goal.ids_between-requires
ids_between-requires c =
    let shelf = c.shelf_of-shelf.result in
    let piece = c.args.piece.now in
    let first : Share = record { shelf = shelf; piece = piece; id = 0 } in
    let last : Share = record { shelf = shelf; piece = piece; id = 4294967295 } in
    record { forward = in_order first last refl refl (omega arith) }

-- between them are the shares of the piece
pub returns : goal.returns
returns c =
    let s = c.args.piece.now in
    let keys = c.args.self.now in
    let Read = λ (p : Shelf). IfOk c.ids_between.result (λ v. v.items
    ≡ ids_among keys (record { shelf = p; piece = s; id = 0 }) (record { shelf = p; piece = s; id = 4294967295 })) in
    IfOk-weaker c.ids_between.result (λ v. v.items ≡ ids_among keys (mark s 0) (mark s 4294967295))
    (λ v. (x : ℕ) → Contains v.items x ↔ HasShare keys s x)
    (λ v is x. rw is (owner_ids keys s x c.ids_between.ensures.shelved))
    (subst Read c.shelf_of-shelf.ensures.shelf c.ids_between.ensures.ids)
