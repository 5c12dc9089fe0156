use Rattle.value_geometry.proofs.SortedLinks.{oddly_on_chains, oddly_noded, oddly_even}
use Rattle.value_geometry.proofs.geometry.region_of.Goals as goal

-- the border is of pieces of a realm
pub new-requires-clause-noded : goal.new-requires-clause-noded
new-requires-clause-noded c =
    let d = c.args.drawing.now.drawing in
    let (parts, are, even) = c.requires.even in
    let all = (rw c.ids.ensures.ids at c.in_ok-links.ensures) parts are in
    let parity = rw c.deref.ensures.value at c.in_ok-odd_ones.ensures.parity in
    oddly_noded d c.args.ids.now parts are c.in_ok-links.links.items c.sort_unstable.new.self.items all
    c.sort_unstable.ensures.permutation _ c.in_ok-odd_ones.ensures.ascending parity c.ids.ensures.ascending c.requires.realm

-- it is even as the parts were given
pub new-requires-clause-even : goal.new-requires-clause-even
new-requires-clause-even c =
    let d = c.args.drawing.now.drawing in
    let (parts, are, even) = c.requires.even in
    let all = (rw c.ids.ensures.ids at c.in_ok-links.ensures) parts are in
    let parity = rw c.deref.ensures.value at c.in_ok-odd_ones.ensures.parity in
    oddly_even d c.args.ids.now parts are c.in_ok-links.links.items c.sort_unstable.new.self.items all
    c.sort_unstable.ensures.permutation _ c.in_ok-odd_ones.ensures.ascending parity even

-- those on an odd number of chains
pub returns : goal.returns
returns c = λ s.
    let d = c.args.drawing.now.drawing in
    let (parts, are, even) = c.requires.even in
    let all = (rw c.ids.ensures.ids at c.in_ok-links.ensures) parts are in
    let parity = rw c.deref.ensures.value at c.in_ok-odd_ones.ensures.parity in
    rw c.new.ensures
    (oddly_on_chains d c.args.ids.now parts are c.in_ok-links.links.items c.sort_unstable.new.self.items all
    c.sort_unstable.ensures.permutation _ c.in_ok-odd_ones.ensures.ascending parity c.ids.ensures.ascending s)
