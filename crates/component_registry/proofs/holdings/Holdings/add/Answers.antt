use Rattle.std.proofs.Common.{◌≡◌, ◌∙◌, sym, ap, rules, ◌∷◌, [], Some, None, arith}
use Rattle.std.specs.HashMap.Entry.{map_with_value}
use Rattle.component_registry.specs.Registry.{Holding, holding_of}
use Rattle.component_registry.specs.Kept.{held_in, IsHeld}
use Rattle.component_registry.proofs.Seen.{sound_seen, owners_there}
use Rattle.component_registry.proofs.Changes.{Puts, puts, kept_write, seen_again, OneMore, adds_write}
use Rattle.component_registry.proofs.Changes.{kept_room, kept_insert, adds_insert}
use Rattle.component_registry.proofs.holdings.Holdings.add.Goals as goal

-- without memory for an entry the map has what it had
pub returns-in_err-entry-clause-sound : goal.returns-in_err-entry-clause-sound
returns-in_err-entry-clause-sound c =
    let sound = sound_seen _ _ c.self.invariant in
    search (rules, sound)

-- an id that doesn't own the piece isn't in the list that the map has
pub add_owner-requires : goal.add_owner-requires
add_owner-requires c = λ owner.
    let h = c.into_mut-holding.result.now in
    let there : held_in c.self.inside.pieces c.args.piece ≡ Some h = search rules in
    let owners = owners_there c.self.inside.pieces _ c.self.view_is c.args.piece h there in
    c.requires.new_owner (rw owners owner)

-- without memory for an owner the map has again what it had
pub invariant_of-self-in_err-add_owner-in-Occupied :
    goal.invariant_of-self-in_err-add_owner-in-Occupied
invariant_of-self-in_err-add_owner-in-Occupied c =
    let s = c.args.piece in
    let h = c.into_mut-holding.result.now in
    let g = c.add_owner.new.self in
    let there : held_in c.self.inside.pieces s ≡ Some h = search rules in
    let put = puts c.self.inside.pieces (map_with_value c.in_ok-entry.field-0 g) s (Some g) (c.in_ok-entry.ensures.update.0 g) in
    let same = c.in_err-add_owner-in-Occupied.ensures.unchanged in
    let held : IsHeld g = rw same (c.self.invariant.owners s h there) in
    let kept = kept_write _ _ _ s h g c.self.invariant there put (ap (λ x. x.key) same) held in
    search (rules, kept)

pub returns-in_err-add_owner-in-Occupied-clause-unchanged :
    goal.returns-in_err-add_owner-in-Occupied-clause-unchanged
returns-in_err-add_owner-in-Occupied-clause-unchanged c =
    let s = c.args.piece in
    let h = c.into_mut-holding.result.now in
    let g = c.add_owner.new.self in
    let there : held_in c.self.inside.pieces s ≡ Some h = search rules in
    let put = puts c.self.inside.pieces (map_with_value c.in_ok-entry.field-0 g) s (Some g) (c.in_ok-entry.ensures.update.0 g) in
    let same = seen_again _ _ s h g there put c.in_err-add_owner-in-Occupied.ensures.unchanged ∙ c.self.view_is in
    search (rules, same)

pub returns-in_err-add_owner-in-Occupied-clause-sound :
    goal.returns-in_err-add_owner-in-Occupied-clause-sound
returns-in_err-add_owner-in-Occupied-clause-sound c = sound_seen _ _ (invariant_of-self-in_err-add_owner-in-Occupied c)

-- with memory it has one owner more of the piece
pub invariant_of-self-in-Occupied : goal.invariant_of-self-in-Occupied
invariant_of-self-in-Occupied c =
    let s = c.args.piece in
    let h = c.into_mut-holding.result.now in
    let g = c.add_owner.new.self in
    let there : held_in c.self.inside.pieces s ≡ Some h = search rules in
    let put = puts c.self.inside.pieces (map_with_value c.in_ok-entry.field-0 g) s (Some g) (c.in_ok-entry.ensures.update.0 g) in
    let added = c.in_ok-add_owner-in-Occupied.ensures in
    let kept = kept_write _ _ _ s h g c.self.invariant there put added.key (record {
      owned = omega (arith, added.count);
      ascending = added.ascending;
    }) in
    search (rules, kept)

pub returns-in_ok-add_owner-in-Occupied-clause-ok :
    goal.returns-in_ok-add_owner-in-Occupied-clause-ok
returns-in_ok-add_owner-in-Occupied-clause-ok c =
    let s = c.args.piece in
    let h = c.into_mut-holding.result.now in
    let g = c.add_owner.new.self in
    let there : held_in c.self.inside.pieces s ≡ Some h = search rules in
    let put = puts c.self.inside.pieces (map_with_value c.in_ok-entry.field-0 g) s (Some g) (c.in_ok-entry.ensures.update.0 g) in
    let added = c.in_ok-add_owner-in-Occupied.ensures in
    let more : OneMore c.args.id h.owners g.owners = (added.owners, added.count) in
    let adds = adds_write _ _ _ c.self.view_is s c.args.id h g there put added.key more in
    search (rules, adds)

pub returns-in_ok-add_owner-in-Occupied-clause-sound :
    goal.returns-in_ok-add_owner-in-Occupied-clause-sound
returns-in_ok-add_owner-in-Occupied-clause-sound c = sound_seen _ _ (invariant_of-self-in-Occupied c)

-- without memory for a key the map has what it had
pub returns-in_err-reserve-in-Vacant-clause-sound :
    goal.returns-in_err-reserve-in-Vacant-clause-sound
returns-in_err-reserve-in-Vacant-clause-sound c =
    let sound = sound_seen _ _ c.self.invariant in
    search (rules, sound)

-- what is held of a new piece, under the key that the slab gave
abbrev first_held : goal.After-insert_reserved → Holding
first_held c = holding_of c.insert_reserved.result (c.args.id ∷ [])

holds : (c : goal.After-insert_reserved) → c.new.result ≡ first_held c
holds c =
    let key = c.vacant_key.ensures.value ∙ sym c.insert_reserved.ensures.key in
    c.new.ensures ∙ ap (λ k. holding_of k (c.args.id ∷ [])) key

-- the map has it, and of other pieces what it had
put : (c : goal.After-insert_reserved)
    → Puts c.self.inside.pieces (map_with_value c.in_ok-entry.field-0 (first_held c)) c.args.piece (Some (first_held c))
put c =
    let h = first_held c in
    puts c.self.inside.pieces (map_with_value c.in_ok-entry.field-0 h) c.args.piece (Some h) (c.in_ok-entry.ensures.update.0 h)

-- there was no such piece
none : (c : goal.After-insert_reserved) → held_in c.self.inside.pieces c.args.piece ≡ None
none c = search rules

pub invariant_of-self-in-Vacant : goal.invariant_of-self-in-Vacant
invariant_of-self-in-Vacant c =
    let room = ap (λ s. s.slots) c.in_ok-reserve-in-Vacant.ensures.rest_kept in
    let kept = kept_room _ _ c.reserve.new.self c.self.invariant room in
    let given = c.insert_reserved.ensures in
    let more = kept_insert _ _ _ _ c.args.piece (first_held c) kept (none c) given.was_vacant (put c) given.updates (record {
      owned = omega arith;
      ascending = λ k within. absurd (omega (arith, within));
    }) in
    search (rules, more, holds c)

pub returns-in_ok-reserve-in-Vacant-clause-ok : goal.returns-in_ok-reserve-in-Vacant-clause-ok
returns-in_ok-reserve-in-Vacant-clause-ok c =
    let adds = adds_insert _ _ _ c.self.view_is c.args.piece c.args.id c.insert_reserved.result (none c) (put c) in
    search (rules, adds, holds c)

pub returns-in_ok-reserve-in-Vacant-clause-sound :
    goal.returns-in_ok-reserve-in-Vacant-clause-sound
returns-in_ok-reserve-in-Vacant-clause-sound c = sound_seen _ _ (invariant_of-self-in-Vacant c)
