-- This file shows that files which were synced before they were read are left by a crash as they read.
use Rattle.std.proofs.Common.{◌≡◌, ℕ, ◌≤◌, List, refl, sym, ◌∙◌}
use Rattle.outside_world.specs.declared.world.FileName.{FileName}
use Rattle.outside_world.specs.declared.world.FileName.TheVariants.{A, B}
use Rattle.outside_world.specs.View.{View, Moment, MayLeave, AllStable}
use Rattle.outside_world.specs.Calls.{SameFiles}
use Rattle.realm_files.specs.Syncing.{IsOpened}

-- the two files, A first
abbrev both : List ℕ → List ℕ → FileName → List ℕ
both a b A = a
both a b B = b

-- a crash now is one of those from the moment on from which a crash leaves the files as they were read
module _ {old new : View} (now : (t : ℕ) (m : Moment) → t ≤ new.moment → MayLeave new m → new.left_since t m)
    (reads : (f : FileName) → new.image f (new.reads f)) (same : SameFiles old new) (opened : IsOpened old new) where
  left_as_read : (a b : List ℕ) → new.image A a → new.image B b → (f : FileName) → both a b f ≡ new.reads f
  left_as_read a b may_a may_b f =
      (opened.settled (record { given = new.given; files = both a b })
      (now opened.since (record { given = new.given; files = both a b }) opened.by_now (refl, may))).1 f ∙ sym (same.reads f)
    where
      may : (g : FileName) → new.image g (both a b g)
      may A = may_a
      may B = may_b

  pub stable_by : AllStable new
  stable_by A c may = left_as_read c (new.reads B) may (reads B) A
  stable_by B c may = left_as_read (new.reads A) c (reads A) may B
