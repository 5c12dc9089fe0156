-- This file shows that the segments of each realm are swept.
use Rattle.std.proofs.Common.{◌≡◌, ◌⊎◌, ℕ, ◌+◌, ◌*◌, ◌<◌, List, [], map, length, Contains, refl, ap, arith, inl, inr}
use Rattle.grid_base.specs.Grid.{grid_side}
use Rattle.grid_base.specs.Point.{GridPoint}
use Rattle.grid_base.specs.Segment.{GridSegment, IsEnd}
use Rattle.plane_classes.specs.Shear.{sheared}
use Rattle.plane_cells.specs.Sheared.{sheared_number, AreOfRealm}
use Rattle.plane_cells.specs.Steps.{Step, links}
use Rattle.plane_cells.specs.Walks.{None}
use Rattle.plane_cells.proofs.Chains.{first_here}
use Rattle.plane_cells.proofs.Inserts.{once_sheared}
use Rattle.plane_cells.proofs.ShearedRealm.{IsRealmBelow, position, realm_below, within}
use Rattle.plane_cells.proofs.ShearedSides.{IsRealmSweep}
use Rattle.class_borders.proofs.RealmSweeps.{IsWalked, walked}
use Rattle.class_borders.proofs.RightLabels.{IsLabel, right_in, have_rights, right_is_label, link_is_label}

pub record HasSweep (B : List GridSegment) : Type 0 where
  pub steps : List Step
  pub right : ℕ → ℕ
  pub sweep : IsRealmSweep grid_side B steps right
  pub right_labels : (i : ℕ) → IsLabel (length B) (right i)
  pub link_labels : (l : ℕ × ℕ) → Contains (links steps) l → IsLabel (length B) l.0 × IsLabel (length B) l.1

end_within : (a b c D : ℕ) → a < b → b < D → (c ≡ a) ⊎ (c ≡ b) → c < 0 + D
end_within a b c D h k (inl e) = omega (arith, h, k, e)
end_within a b c D h k (inr e) = omega (arith, h, k, e)

walk_has : (B : List GridSegment) → IsRealmBelow grid_side B → IsWalked (length B) (sheared_number B) None [] → HasSweep B
walk_has B r w = record {
  steps = w.steps;
  right = right_in w.steps;
  sweep = record {
    realm = r;
    walk = w.walk;
    rights = have_rights (length B) (sheared_number B) (right_in w.steps) None [] w.steps w.walk (λ i l. refl);
  };
  right_labels = λ i. right_is_label (length B) (sheared_number B) None [] w.steps i w.walk;
  link_labels = λ l m. link_is_label (length B) (sheared_number B) None [] w.steps l w.walk m;
}

pub has_sweep : (B : List GridSegment) → AreOfRealm B → HasSweep B
has_sweep B realm =
    let r = realm_below B realm in
    let P = position grid_side B r in
    walk_has B r
    (walked (map (sheared grid_side) B) (length B) (sheared_number B) P (λ i j hi hj e f. once_sheared B i j realm hi hj e f)
    (grid_side * grid_side) None [] (first_here (length B) (sheared_number B))
    (λ p m. end_within (sheared_number B m.0).a.x (sheared_number B m.0).b.x p.x (grid_side * grid_side) (P.slanted m.0 m.1)
    (within grid_side B r m.0 m.1) (end_x (sheared_number B m.0) p m.2)))
  where
    end_x : (s : GridSegment) (v : GridPoint) → IsEnd v s → (v.x ≡ s.a.x) ⊎ (v.x ≡ s.b.x)
    end_x s v (inl e) = inl (ap (λ (p : GridPoint). p.x) e)
    end_x s v (inr e) = inr (ap (λ (p : GridPoint). p.x) e)
