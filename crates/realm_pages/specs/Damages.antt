-- Which of the two files is the newest, and the fault that decides where there is none to be read.
use Rattle.std.specs.Prelude.{◌≡◌, ◌≢◌, ◌⊎◌, ℕ, ◌+◌, ◌-◌, ◌*◌, ◌<◌, List, length, min}
use Rattle.outside_world.specs.declared.world.FileName.{FileName}
use Rattle.outside_world.specs.declared.world.FileName.TheVariants.{A, B}
use Rattle.record_codec.specs.declared.header.Header.{Header}
use Rattle.page_codec.specs.Pages.{page_of, digest_kept, digest_found}
use Rattle.realm_pages.specs.Files.{Counts, HasHead, HoldsFirst, page_at}
use Rattle.realm_pages.specs.declared.damage.Damage.{Damage}
use Rattle.realm_pages.specs.declared.damage.Damage.TheVariants.{BadPage, Digest, Twins}

-- the file counts with this head
pub record CountsWith (file : List ℕ) (h : Header) : Type 0 where
  pub counts : Counts file
  pub head : HasHead file h

-- where the file counts it has a head
abbrev pub IsReadable : List ℕ → Type 0
IsReadable file = Counts file → (h : Header) × HasHead file h

-- This file is the newest: it counts with this head, and the other doesn't count or has a lesser generation.
pub record IsNewest (files : FileName → List ℕ) (file : FileName) (h : Header) : Type 0 where
  pub counts : CountsWith (files file) h
  pub older : (other : FileName) → other ≢ file → Counts (files other)
      → (old : Header) × HasHead (files other) old × (old.generation < h.generation)

-- a file that counts lacks a head; B is looked at where nothing is wrong with A
pub record LacksHead (files : FileName → List ℕ) (damage : Damage) : Type 0 where
  pub file : FileName
  pub is : damage ≡ BadPage file 0
  pub counts : Counts (files file)
  pub lacks : (h : Header) → HasHead (files file) h → ⊥
  pub before : file ≡ B → IsReadable (files A)

-- both files count with the same generation
pub record AreTwins (files : FileName → List ℕ) (damage : Damage) : Type 0 where
  pub a : Header
  pub b : Header
  pub a_counts : CountsWith (files A) a
  pub b_counts : CountsWith (files B) b
  pub same : a.generation ≡ b.generation
  pub is : damage ≡ Twins a.generation

-- how many bytes stand of a payload of this size in the page behind n pages: 4,054, and in the last one the
-- rest
abbrev pub part_size : ℕ → ℕ → ℕ
part_size size n = min 4054 (size - 4054 * n)

-- the digest that stands in page k isn't that of its bytes
pub record IsAltered (file : FileName) (k : ℕ) (page : List ℕ) (damage : Damage) : Type 0 where
  pub kept : List ℕ
  pub found : List ℕ
  pub kept_is : kept ≡ digest_kept page
  pub found_is : found ≡ digest_found page
  pub differ : kept ≢ found
  pub is : damage ≡ Digest file k kept found

-- the digests agree, and the page is none that belongs behind n pages
pub record IsStrange (file : FileName) (size n : ℕ) (page : List ℕ) (damage : Damage) : Type 0 where
  pub agree : digest_kept page ≡ digest_found page
  pub none : (part : List ℕ) → length part ≡ part_size size n → page ≡ page_of (n + 1) part → ⊥
  pub is : damage ≡ BadPage file (n + 1)

-- the page behind n pages isn't whole within the file, or it is altered, or strange
abbrev pub IsPageFault : FileName → ℕ → ℕ → List ℕ → Damage → Type 0
IsPageFault file size n page damage =
    ((length page < 4096) × (damage ≡ BadPage file (n + 1)))
    ⊎ ((length page ≡ 4096) × (IsAltered file (n + 1) page damage ⊎ IsStrange file size n page damage))

-- of the first n pages of a file one is at fault, and those before it hold the front of the payload
pub record HasPageFault (file : FileName) (whole : List ℕ) (size n : ℕ) (damage : Damage) : Type 0 where
  pub before : ℕ
  pub within : before < n
  pub bytes : List ℕ
  pub hold : HoldsFirst whole size before bytes
  pub fault : IsPageFault file size before (page_at (before + 1) whole) damage

-- a page of the newest file is at fault
pub record IsBroken (files : FileName → List ℕ) (damage : Damage) : Type 0 where
  pub file : FileName
  pub head : Header
  pub newest : IsNewest files file head
  pub fault : HasPageFault file (files file) head.length head.pages damage

-- The fault that decides: heads come first, then the two generations, then the pages of the newest file.
abbrev pub HasDamagedPages : Damage → (FileName → List ℕ) → Type 0
HasDamagedPages damage files = LacksHead files damage ⊎ (AreTwins files damage ⊎ IsBroken files damage)
