-- This file shows that what is sought among all pieces is found among those near.
use Rattle.std.proofs.Common.{◌≡◌, ◌↔◌, ℕ, Bool, IsTrue, List, Contains, Any, sym, subst}
use Rattle.grid_base.specs.Point.{IsBefore}
use Rattle.grid_base.specs.Segment.{GridSegment}
use Rattle.realm_audit.specs.Shelves.{HasShare, MeetsBounds}
use Rattle.realm_audit.specs.Clashes.{IsOwned}
use Rattle.realm_audit.specs.declared.bounds.Bounds.{Bounds}
use Rattle.realm_audit.specs.declared.shares.Share.{Share}

-- where all pieces with P reach the bounds, some piece has P exactly where one of the list has it
pub found_near : (P : GridSegment → Type 0) (shares : List Share) (near : List GridSegment) (b : Bounds)
    → ((s : GridSegment) → Contains near s → (x : ℕ) × HasShare shares s x)
    → ((s : GridSegment) (x : ℕ) → HasShare shares s x → MeetsBounds b s → Contains near s)
    → ((s : GridSegment) (x : ℕ) → HasShare shares s x → IsBefore s.a s.b)
    → ((s : GridSegment) → IsBefore s.a s.b → P s → MeetsBounds b s)
    → Any P near ↔ ((u : GridSegment) × IsOwned shares u × P u)
found_near P shares near b shared all ordered reach = (
  λ (k, u, within, is, p). (u, shared u (k, within, is), p),
  λ (u, (x, has), p).
      let (k, within, is) = all u x has (reach u (ordered u x has) p) in
      (k, u, within, is, p),
)

-- so a test of the list tells it
pub found_by : (test : Bool) (P : GridSegment → Type 0) (shares : List Share) (list near : List GridSegment) (b : Bounds)
    → list ≡ near → (IsTrue test ↔ Any P list)
    → ((s : GridSegment) → Contains near s → (x : ℕ) × HasShare shares s x)
    → ((s : GridSegment) (x : ℕ) → HasShare shares s x → MeetsBounds b s → Contains near s)
    → ((s : GridSegment) (x : ℕ) → HasShare shares s x → IsBefore s.a s.b)
    → ((s : GridSegment) → IsBefore s.a s.b → P s → MeetsBounds b s)
    → IsTrue test ↔ ((u : GridSegment) × IsOwned shares u × P u)
found_by test P shares list near b same says shared all ordered reach =
    let found = found_near P shares near b shared all ordered reach in (
      λ holds. found.0 (subst (λ (l : List GridSegment). Any P l) same (says.0 holds)),
      λ some. says.1 (subst (λ (l : List GridSegment). Any P l) same_back (found.1 some)),
    )
  where
    same_back : near ≡ list
    same_back = sym same
