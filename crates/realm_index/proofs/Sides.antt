-- This file shows that the tests of a search along a segment decide what its public clause says.
use Rattle.std.proofs.Common.{◌↔◌, true, false, not, Bool, IsTrue, refl, sym, true≢false}
use Rattle.std.proofs.lemmas.Bool.{and_parts, and_from}
use Rattle.grid_base.specs.Point.{IsBefore}
use Rattle.grid_base.specs.Segment.{GridSegment}
use Rattle.realm_index.specs.Aside.{is_aside, IsAside, IsAlong}
use Rattle.realm_index.specs.Bounds.{bounds_of}
use Rattle.realm_index.specs.Near.{along_line, passes}
use Rattle.realm_index.proofs.Asides.{aside_says, aside_from}
use Rattle.realm_index.proofs.Boxes.{boxes_meet}

-- a test that fails, and what it would say
fails_means : (x : Bool) (P : Type 0) → (P → IsTrue x) → IsTrue (not x) → P → ⊥
fails_means true P from none is = true≢false (sym none)
fails_means false P from none is = true≢false (sym (from is))

means_fails : (x : Bool) (P : Type 0) → (IsTrue x → P) → (P → ⊥) → IsTrue (not x)
means_fails true P says none = absurd (none (says refl))
means_fails false P says none = refl

-- a box passes exactly where it meets that of the segment and doesn't lie off its line
pub along_passes : (s : GridSegment) → IsBefore s.a s.b → (t : GridSegment)
    → IsTrue (passes (along_line s) (bounds_of t)) ↔ IsAlong s t
along_passes s ordered t = (
  λ p.
      let both = and_parts _ _ p in
      ((boxes_meet s t).0 both.1, fails_means (is_aside s (bounds_of t)) (IsAside s t) (aside_from s t) both.0),
  λ is. and_from _ _ (means_fails (is_aside s (bounds_of t)) (IsAside s t) (aside_says s t ordered) is.1) ((boxes_meet s t).1 is.0),
)
