-- What each call does to what a world tells.
use Rattle.std.specs.Prelude.{◌≡◌, ◌≢◌, ◌⊎◌, ◌+◌, ◌<◌, ◌≤◌, ℕ, List, [], ◌++◌, length, take, drop, max}
use Rattle.std.specs.Prelude.{Result, OnOk, IfOk, OnErr}
use Rattle.outside_world.specs.declared.world.FileName.{FileName}
use Rattle.outside_world.specs.declared.world.Failed.{Failed}
use Rattle.outside_world.specs.View.{View, Asked, MayLeave}

-- to the facts of a kind that hold since a moment a call adds these at most, and takes none away
pub record Adds {X : Type 0} (now : ℕ) (past since : ℕ → X → Type 0) (these : X → Type 0) : Type 0 where
  pub nothing_else : (t : ℕ) (x : X) → t ≤ now → since t x → past t x ⊎ these x
  pub keeps : (t : ℕ) (x : X) → t ≤ now → past t x → since t x

-- One call, at which these takes began. The clock goes on, but for a call that fails and leaves no trace.
pub record Ticks (asks : Asked → Type 0) (old new : View) : Type 0 where
  pub clock : old.moment ≤ new.moment
  pub asked : Adds old.moment old.asked_since new.asked_since asks
  pub crash : Adds old.moment old.left_since new.left_since (MayLeave new)

-- a call that is no take
abbrev pub Passes : View → View → Type 0
Passes = Ticks (λ _. ⊥)

-- a take that began with these bytes taken and given
abbrev pub Asks : View → Asked → Type 0
Asks v a = (a.taken ≡ v.taken) × (a.given ≡ v.given)

-- the files stay, and no image is added
pub record SameFiles (old new : View) : Type 0 where
  pub reads : (f : FileName) → new.reads f ≡ old.reads f
  pub images : (f : FileName) (c : List ℕ) → new.image f c → old.image f c

-- these bytes went from the input to the buffer
pub record Moves (old new : View) (bytes : List ℕ) : Type 0 where
  pub left : old.left ≡ bytes ++ new.left
  pub taken : new.taken ≡ old.taken ++ bytes

-- a take filled the buffer's front, or failed and moved no byte
pub record Took (old new : View) (buf : List ℕ) (result : Result ℕ Failed) : Type 0 where
  pub ticks : Ticks (Asks old) old new
  pub files : SameFiles old new
  pub given : new.given ≡ old.given
  pub moved : IfOk result (λ n. Moves old new (take n buf))
  pub began : OnOk result ((t : ℕ) (a : Asked) → t ≤ old.moment → Asks old a → new.asked_since t a)
  pub ended : IfOk result (λ n. n ≡ 0 → 0 < length buf → old.left ≡ [])
  pub failed : OnErr result (Moves old new [])

-- a give appended the bytes' front, or failed and moved no byte
pub record Gave (old new : View) (bytes : List ℕ) (result : Result ℕ Failed) : Type 0 where
  pub ticks : Passes old new
  pub files : SameFiles old new
  pub left : new.left ≡ old.left
  pub taken : new.taken ≡ old.taken
  pub given : IfOk result (λ n. new.given ≡ old.given ++ take n bytes)
  pub failed : OnErr result (new.given ≡ old.given)

-- the input and the output stay
pub record SameStreams (old new : View) : Type 0 where
  pub left : new.left ≡ old.left
  pub taken : new.taken ≡ old.taken
  pub given : new.given ≡ old.given

-- a call that only asks of a file, or makes it last: all that is told stays, and no image is added
pub record LeavesAll (old new : View) : Type 0 where
  pub ticks : Passes old new
  pub files : SameFiles old new
  pub streams : SameStreams old new

-- a call told the length of a file, or failed
pub record Sized (old new : View) (file : FileName) (result : Result ℕ Failed) : Type 0 where
  pub leaves : LeavesAll old new
  pub size : IfOk result (λ n. n ≡ length (old.reads file))

-- a read filled the buffer's front, shorter than the buffer only at the file's end, or failed
pub record Read (old new : View) (file : FileName) (at : ℕ) (buf : List ℕ)
    (result : Result ℕ Failed) : Type 0 where
  pub leaves : LeavesAll old new
  pub bytes : IfOk result (λ n. take n buf ≡ take (length buf) (drop at (old.reads file)))

-- a file with these bytes from this place on
abbrev pub overwritten : ℕ → List ℕ → List ℕ → List ℕ
overwritten at bytes file = take at file ++ (bytes ++ drop (at + length bytes) file)

-- After a write of n bytes that isn't synced a crash leaves any bytes in its range and past the old end, and
-- the same elsewhere.
pub record Torn (at n : ℕ) (old new : List ℕ) : Type 0 where
  pub before : take at new ≡ take at old
  pub after : drop (at + n) new ≡ drop (at + n) old
  pub no_shorter : length old ≤ length new
  pub no_longer : length new ≤ max (length old) (at + n)

-- A write put all the bytes there, or failed and may have put any bytes into their range. Until the next sync
-- a crash leaves any bytes in it.
pub record Wrote (old new : View) (file : FileName) (at : ℕ) (bytes : List ℕ)
    (result : Result Unit Failed) : Type 0 where
  pub ticks : Passes old new
  pub streams : SameStreams old new
  pub other_reads : (f : FileName) → f ≢ file → new.reads f ≡ old.reads f
  pub other_images : (f : FileName) (c : List ℕ) → f ≢ file → new.image f c → old.image f c
  pub images : (c : List ℕ) → new.image file c
      → (d : List ℕ) × old.image file d × Torn at (length bytes) d c
  pub written : OnOk result (new.reads file ≡ overwritten at bytes (old.reads file))
  pub failed : OnErr result (Torn at (length bytes) (old.reads file) (new.reads file))

-- after a sync a crash leaves what a read gives; one that failed leaves all as it was
pub record Synced (old new : View) (file : FileName) (result : Result Unit Failed) : Type 0 where
  pub leaves : LeavesAll old new
  pub stable : OnOk result ((c : List ℕ) → new.image file c → c ≡ old.reads file)
