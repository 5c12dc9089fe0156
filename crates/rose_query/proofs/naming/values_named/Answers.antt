use Rattle.r_faces.proofs.FaceLists.{zip_more}
use Rattle.rose_query.specs.Sets.{IsPresentValue}
use Rattle.rose_query.proofs.naming.values_named.Goals as goal

-- the value of one name more
pub loop-name-preserved : goal.loop-name-preserved
loop-name-preserved c =
    zip_more (IsPresentValue c.args.state.now.state) c.args.names.now c.loop-name.list.items c.push.new.self.items c.loop-name.name-index
    c.name-item.result c.in-Some.geometry c.loop-name-test.true c.name-item.is c.in_ok-push.ensures.items c.loop-name.invariant
    (rw c.in-Some.is at c.in_ok-geometry.ensures)
