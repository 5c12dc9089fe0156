-- Files that count, and what they hold.
use Rattle.std.specs.Prelude.{◌≡◌, ℕ, ◌+◌, ◌*◌, ◌<◌, ◌≤◌, List, length, take, drop, min}
use Rattle.record_codec.specs.declared.header.Header.{Header}
use Rattle.record_codec.specs.Heads.{IsHeader, header_text}
use Rattle.page_codec.specs.Pages.{page_of}
use Rattle.realm_journal.specs.Gates.{IsWrittenAt, IsOpenAt, IsClosedAt}
use Rattle.realm_pages.specs.Generations.{Generation, page_count, header_of, gate_of, part_behind}

-- a file counts where its first gate is open and something stands behind it
pub record Counts (file : List ℕ) : Type 0 where
  pub has_more : 2 ≤ length file
  pub is_open : IsOpenAt 0 file

-- behind its gate the file has this head
pub record HasHead (file : List ℕ) (h : Header) : Type 0 where
  pub is_header : IsHeader h
  pub stands : IsWrittenAt 1 (header_text h) file

-- the 4,096 bytes of page k of a file, or fewer where the file ends before
abbrev pub page_at : ℕ → List ℕ → List ℕ
page_at k file = take 4096 (drop (4096 * k) file)

-- the first n pages of a file hold these bytes, the front of a payload of this size
pub record HoldsFirst (file : List ℕ) (size n : ℕ) (bytes : List ℕ) : Type 0 where
  pub fills : length bytes ≡ min (4054 * n) size
  pub pages : (k : ℕ) → k < n → page_at (k + 1) file ≡ page_of (k + 1) (part_behind k bytes)

-- the file counts and holds the generation whole
pub record Holds (file : List ℕ) (g : Generation) : Type 0 where
  pub counts : Counts file
  pub head : HasHead file (header_of g)
  pub pages : HoldsFirst file (length g.payload) (page_count (length g.payload)) g.payload

-- and no record: the gate of the first one is closed, within the file
pub record HoldsAlone (file : List ℕ) (g : Generation) : Type 0 where
  pub holds : Holds file g
  pub within : gate_of g < length file
  pub closed : IsClosedAt (gate_of g) file
