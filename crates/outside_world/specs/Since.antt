-- What came to be since a moment, over many calls.
use Rattle.std.specs.Prelude.{◌≡◌, ◌≢◌, ◌⊎◌, ◌≤◌, ℕ, List}
use Rattle.outside_world.specs.declared.world.FileName.{FileName}
use Rattle.outside_world.specs.View.{View, Moment}

-- since now, no other facts than these have come to those that held
pub record OnlyAdds {X : Type 0} (now : ℕ) (past since : ℕ → X → Type 0) (these : X → Type 0) : Type 0 where
  pub nothing_else : (t : ℕ) (x : X) → t ≤ now → since t x → past t x ⊎ these x

-- of a run of calls: the clock goes on, no take began, and the input stays
pub record TakesNone (old new : View) : Type 0 where
  pub later : old.moment ≤ new.moment
  pub left : new.left ≡ old.left
  pub taken : new.taken ≡ old.taken
  pub asked : OnlyAdds old.moment old.asked_since new.asked_since (λ _. ⊥)

-- of a run of calls: each crash since leaves this
abbrev pub LeavesOnly : View → View → (Moment → Type 0) → Type 0
LeavesOnly old new these = OnlyAdds old.moment old.left_since new.left_since these

-- a moment of a run that writes one file: nothing was given, the other file is such as a crash could have
-- left before, and this one is as it may be meanwhile
pub record IsWriting (old : View) (file : FileName) (may_be : List ℕ → Type 0) (m : Moment) : Type 0 where
  pub given : m.given ≡ old.given
  pub others : (f : FileName) → f ≢ file → old.image f (m.files f)
  pub named : may_be (m.files file)

-- of a run of calls that writes one file: nothing is taken or given, and each crash since leaves of the file
-- what it may be meanwhile
pub record WritesOnly (old new : View) (file : FileName) (may_be : List ℕ → Type 0) : Type 0 where
  pub takes : TakesNone old new
  pub given : new.given ≡ old.given
  pub others : (f : FileName) (c : List ℕ) → f ≢ file → new.image f c → old.image f c
  pub other_reads : (f : FileName) → f ≢ file → new.reads f ≡ old.reads f
  pub crash : LeavesOnly old new (IsWriting old file may_be)
  pub named : (c : List ℕ) → new.image file c → may_be c
