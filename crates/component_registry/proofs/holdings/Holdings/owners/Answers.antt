use Rattle.std.proofs.Common.{◌≡◌, ◌∙◌, sym, Some}
use Rattle.component_registry.specs.Registry.{key_of}
use Rattle.component_registry.specs.Kept.{seen_of}
use Rattle.std.proofs.lemmas.Option.{none-some}
use Rattle.component_registry.proofs.Seen.{piece_has_key, owners_by_key}
use Rattle.component_registry.proofs.holdings.Holdings.owners.Goals as goal

-- the slab has nothing under the key, so no piece has it
pub returns-in_default-clause-owners : goal.returns-in_default-clause-owners
returns-in_default-clause-owners c = λ s is.
    let stored = piece_has_key _ _ c.self.invariant c.args.key s in
    absurd (none-some s (c.in_default.ensures ∙ stored.1 (rw c.self.view_is is)))

-- the map has the owners of the piece under the key
pub returns-in-Some-get-clause-owners : goal.returns-in-Some-get-clause-owners
returns-in-Some-get-clause-owners c = λ s is.
    let m = c.self.inside.pieces in
    let stored = sym c.in-Some.ensures in
    let there = sym c.in-Some-get.ensures.value in
    let key : key_of (seen_of m) s ≡ Some c.args.key = rw c.self.view_is is in
    let h = c.in-Some-get.holding.now in
    let found = owners_by_key m _ c.self.invariant c.args.key c.in-Some.piece.now h stored there s key in
    rw (c.owners.ensures.owners, ← c.self.view_is) found

-- that piece has the key
pub returns-in-Some-get-clause-empty : goal.returns-in-Some-get-clause-empty
returns-in-Some-get-clause-empty c = λ none.
    let s = c.in-Some.piece.now in
    let stored = piece_has_key _ _ c.self.invariant c.args.key s in
    absurd (none s (rw (← c.self.view_is) (stored.0 (sym c.in-Some.ensures))))
