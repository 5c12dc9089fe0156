-- This file shows that the answer is told of the map.
use Rattle.std.proofs.Common.{ℕ, Vec, Global, []}
use Rattle.std.proofs.lemmas.Result.{IfOk-weaker}
use Rattle.realm_index.specs.Aside.{IsAlong}
use Rattle.realm_index.specs.Near.{along_line, AddsPassed}
use Rattle.realm_index.specs.Index.{HasEachKeyWhere}
use Rattle.realm_index.proofs.Sides.{along_passes}
use Rattle.realm_index.proofs.Found.{met_in_any_order}
use Rattle.realm_index.proofs.near_index.NearIndex.along.Goals as goal

pub returns : goal.returns
returns c =
    let entries = c.self.inside.root.entries in
    let w = along_line c.args.s.now in
    let found = rw c.along.ensures.near at c.keys_found.ensures in
    record {
      keys = rw (← c.self.view_is) (IfOk-weaker c.keys_found.result (λ (v : Vec ℕ Global). AddsPassed w entries [] v.items)
          (λ (v : Vec ℕ Global). HasEachKeyWhere (IsAlong c.args.s.now) c.self.inside.segments v.items)
          (λ v adds. met_in_any_order entries c.self.inside.segments c.self.invariant.same w (IsAlong c.args.s.now)
          (along_passes c.args.s.now c.along.ensures.ordered) v.items adds)
          found);
    }
