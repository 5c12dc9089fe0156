-- This file shows that the answer is told of the map.
use Rattle.std.proofs.Common.{ℕ, Vec, Global, []}
use Rattle.std.proofs.lemmas.Result.{IfOk-weaker}
use Rattle.grid_base.specs.Segment.{BoxesMeet}
use Rattle.realm_index.specs.Bounds.{bounds_of}
use Rattle.realm_index.specs.Near.{at_box, AddsPassed}
use Rattle.realm_index.specs.Index.{HasEachKeyWhere}
use Rattle.realm_index.proofs.Boxes.{boxes_meet}
use Rattle.realm_index.proofs.Found.{met_in_any_order}
use Rattle.realm_index.proofs.near_index.NearIndex.meeting_unordered.Goals as goal

pub returns : goal.returns
returns c =
    let entries = c.self.inside.root.entries in
    let w = at_box (bounds_of c.args.s.now) in
    let found = rw (c.at_box.ensures, c.of.ensures.bounds) at c.keys_found.ensures in
    record {
      keys = rw (← c.self.view_is) (IfOk-weaker c.keys_found.result (λ (v : Vec ℕ Global). AddsPassed w entries [] v.items)
          (λ (v : Vec ℕ Global). HasEachKeyWhere (BoxesMeet c.args.s.now) c.self.inside.segments v.items)
          (λ v adds. met_in_any_order entries c.self.inside.segments c.self.invariant.same w (BoxesMeet c.args.s.now)
          (boxes_meet c.args.s.now) v.items adds)
          found);
    }
