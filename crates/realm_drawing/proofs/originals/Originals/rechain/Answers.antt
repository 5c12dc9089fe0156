use Rattle.std.proofs.Common.{ap, sym, ◌∙◌}
use Rattle.realm_drawing.specs.declared.originals.Placed.{Placed}
use Rattle.realm_drawing.proofs.ById.{listing, none_found, none_rechained, chain_set}
use Rattle.realm_drawing.proofs.originals.Originals.rechain.Goals as goal
use Rattle.realm_drawing.proofs.originals.Originals.rechain.Goals.{in-Some, in_default}

-- the one with the id has the chain, where there is one
pub returns : goal.returns
returns c =
    let id = c.args.id in
    let chain = c.args.chain in
    let entries = c.self.inside.by_id.entries in
    elim c.match-get_mut.branch [
      | in-Some w ↦
          let p = w.in-Some.placed.now in
          let wrote = (c.get_mut.follows.holds (record p { chain = chain })).0 in
          rw (w.self-inside-is, ← c.self.view_is)
          (ap listing wrote ∙ chain_set id entries p chain c.self.invariant (sym w.in-Some.ensures.value))
      | in_default w ↦
          let none = none_found id entries (sym w.in_default.ensures.value) in
          rw (w.self-inside-is, c.get_mut.follows.holds-at-none, ← c.self.view_is) (sym (none_rechained id chain (listing entries) none))
    ]
