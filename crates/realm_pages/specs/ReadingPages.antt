-- The pages of a file are read piece by piece.
use Rattle.std.specs.Prelude.{◌≡◌, ℕ, ◌+◌, ◌*◌, List, take, drop, Result, Err, IfOk, Vec}
use Rattle.std.specs.declared.alloc.Global.{Global}
use Rattle.outside_world.specs.declared.world.FileName.{FileName}
use Rattle.outside_world.specs.View.{View}
use Rattle.record_codec.specs.declared.header.Header.{Header}
use Rattle.realm_journal.specs.Reading.{OnlyAsks}
use Rattle.realm_pages.specs.Files.{HoldsFirst}
use Rattle.realm_pages.specs.Damages.{HasPageFault}
use Rattle.realm_pages.specs.declared.damage.Damage.{Damage}
use Rattle.realm_pages.specs.declared.error.PagesError.{PagesError}
use Rattle.realm_pages.specs.declared.error.PagesError.TheVariants.{Damaged}

-- the bytes of so many pages of a file behind others, or fewer where the file ends before
abbrev pub IsPieceOf : List ℕ → ℕ → ℕ → List ℕ → Type 0
IsPieceOf whole before count piece = piece ≡ take (4096 * count) (drop (4096 * (before + 1)) whole)

-- they were read, or the disk failed or memory ran out
pub record PieceRead (old new : View) (file : FileName) (before count : ℕ)
    (result : Result (Vec ℕ Global) PagesError) : Type 0 where
  pub asks : OnlyAsks old new
  pub bytes : IfOk result (λ v. IsPieceOf (old.reads file) before count v.items)

-- the payload of a file with this head was read, or one of its pages is at fault
pub record PagesRead (old new : View) (file : FileName) (head : Header)
    (result : Result (Vec ℕ Global) PagesError) : Type 0 where
  pub asks : OnlyAsks old new
  pub hold : IfOk result (λ v. HoldsFirst (old.reads file) head.length head.pages v.items)
  pub fault : (damage : Damage) → result ≡ Err (Damaged damage)
      → HasPageFault file (old.reads file) head.length head.pages damage
