-- Generations: a payload with a number, and the bytes that hold it in a file.
use Rattle.std.specs.Prelude.{ℕ, zero, suc, ◌+◌, ◌*◌, List, [], ◌++◌, length, take, drop}
use Rattle.std.specs.Int.{div_ceil}
use Rattle.record_codec.specs.declared.header.Header.{Header}
use Rattle.record_codec.specs.Heads.{header_text}
use Rattle.page_codec.specs.Pages.{page_of}

-- a payload, the number of its generation, and the version of the format that it is written in
pub record Generation : Type 0 where
  pub version : ℕ
  pub number : ℕ
  pub payload : List ℕ

-- the fewest pages that hold so many bytes, of which a page holds 4,054
unfoldable pub page_count : ℕ → ℕ
page_count size = div_ceil size 4054

-- the head of a file that holds the generation
abbrev pub header_of : Generation → Header
header_of g = record {
  version = g.version;
  generation = g.number;
  pages = page_count (length g.payload);
  length = length g.payload;
}

-- the place of the first record's gate, behind so many pages
abbrev pub gate_behind : ℕ → ℕ
gate_behind pages = 4096 * (pages + 1)

-- the place of the first record's gate in a file that holds the generation
abbrev pub gate_of : Generation → ℕ
gate_of g = gate_behind (page_count (length g.payload))

-- what stands of a payload in the page behind n pages
abbrev pub part_behind : ℕ → List ℕ → List ℕ
part_behind n payload = take 4054 (drop (4054 * n) payload)

-- the first n pages of a payload
abbrev pub pages_of : ℕ → List ℕ → List ℕ
pages_of zero payload = []
pages_of (suc n) payload = pages_of n payload ++ page_of (n + 1) (part_behind n payload)

-- what stands in a file between the gate of the generation and that of the first record
abbrev pub generation_text : Generation → List ℕ
generation_text g = header_text (header_of g) ++ pages_of (page_count (length g.payload)) g.payload
