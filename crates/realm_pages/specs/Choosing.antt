-- The newest file is chosen by the heads of both.
use Rattle.std.specs.Prelude.{◌≡◌, ◌⊎◌, ℕ, List, Option, MatchOption, Result, Err, IfOk}
use Rattle.outside_world.specs.declared.world.FileName.{FileName}
use Rattle.outside_world.specs.View.{View}
use Rattle.record_codec.specs.declared.header.Header.{Header}
use Rattle.realm_journal.specs.Reading.{OnlyAsks}
use Rattle.realm_pages.specs.Files.{Counts, HasHead}
use Rattle.realm_pages.specs.Damages.{CountsWith, IsNewest, LacksHead, AreTwins}
use Rattle.realm_pages.specs.declared.damage.Damage.{Damage}
use Rattle.realm_pages.specs.declared.damage.Damage.TheVariants.{BadPage}
use Rattle.realm_pages.specs.declared.error.PagesError.{PagesError}
use Rattle.realm_pages.specs.declared.error.PagesError.TheVariants.{Damaged}

-- the file counts with this head, or it doesn't count and there is none
abbrev pub IsHeadOf : List ℕ → Option Header → Type 0
IsHeadOf file head = MatchOption head (Counts file → ⊥) (CountsWith file)

-- the file counts and lacks a head
pub record LacksHeadOf (file : FileName) (whole : List ℕ) (damage : Damage) : Type 0 where
  pub is : damage ≡ BadPage file 0
  pub counts : Counts whole
  pub lacks : (h : Header) → HasHead whole h → ⊥

-- the front of a file was read, and its head is known or lacks
pub record HeadRead (old new : View) (file : FileName)
    (result : Result (Option Header) PagesError) : Type 0 where
  pub asks : OnlyAsks old new
  pub head : IfOk result (IsHeadOf (old.reads file))
  pub lacks : (damage : Damage) → result ≡ Err (Damaged damage) → LacksHeadOf file (old.reads file) damage

-- this file is the newest with this head, or neither counts
abbrev pub IsChoice : (FileName → List ℕ) → Option (FileName × Header) → Type 0
IsChoice files choice =
    MatchOption choice ((file : FileName) → Counts (files file) → ⊥) (λ c. IsNewest files c.0 c.1)

-- the heads were read, and the newest file is chosen, or a head lacks, or both have the same generation
pub record Chosen (old new : View) (result : Result (Option (FileName × Header)) PagesError) : Type 0 where
  pub asks : OnlyAsks old new
  pub choice : IfOk result (IsChoice old.reads)
  pub damaged : (damage : Damage) → result ≡ Err (Damaged damage)
      → LacksHead old.reads damage ⊎ AreTwins old.reads damage
