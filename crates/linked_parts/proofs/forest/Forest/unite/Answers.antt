use Rattle.std.proofs.Common.{◌<◌, min, max, length, arith}
use Rattle.linked_parts.proofs.Forests.{names_united, root_of_min, root_of_max}
use Rattle.linked_parts.proofs.forest.Forest.unite.Goals as goal

-- both searches end at a least, which names itself, and the greater of them names the lesser now
pub returns-clause-united : goal.returns-clause-united
returns-clause-united c = λ least names.
    let a = c.least_of-a.result in
    let b = c.least_of-b.result in
    let first = c.least_of-a.ensures.names least names in
    let second = c.least_of-b.ensures.names least first in
    let a_is = c.least_of-a.ensures.least least names in
    let b_is = c.least_of-b.ensures.least least first in
    let a_root = first.root a c.least_of-a.ensures.inside c.least_of-a.ensures.root in
    let b_root = second.root b c.least_of-b.ensures.inside c.least_of-b.ensures.root in
    let inside : max a b < length c.least_of-b.new.self.above.items =
    omega (arith, c.least_of-a.ensures.inside, c.least_of-b.ensures.length, c.least_of-b.ensures.inside) in
    rw (c.max.ensures, c.min.ensures)
    (names_united c.least_of-b.new.self.above.items least c.args.i c.args.j (min a b) (max a b) second inside
    (omega (arith, a_is, b_is)) (omega (arith, a_is, b_is)) (root_of_min least a b a_root b_root) (root_of_max least a b a_root b_root))
