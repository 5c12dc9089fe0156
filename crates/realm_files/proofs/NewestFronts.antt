-- This file shows that the newest file is decided by what stands before the gate of its first record.
use Rattle.std.proofs.Common.{◌≡◌, ◌≢◌, ℕ, ◌+◌, ◌*◌, ◌<◌, ◌≤◌, suc, zero, List, length, take, drop, get_or}
use Rattle.std.proofs.Common.{refl, sym, ◌∙◌, ap, subst, arith, length-drop}
use Rattle.std.proofs.lemmas.List.{get_or-take, length-take}
use Rattle.outside_world.specs.declared.world.FileName.{FileName}
use Rattle.record_codec.specs.Heads.{header_text}
use Rattle.realm_pages.specs.Generations.{Generation, page_count, header_of, gate_of, part_behind}
use Rattle.realm_pages.specs.Files.{Counts, HasHead, HoldsFirst, Holds}
use Rattle.realm_pages.specs.Finding.{HoldsNewest}
use Rattle.realm_pages.proofs.HeadLength.{head_size}
use Rattle.realm_pages.proofs.Parts.{length_page, part_fills}
use Rattle.realm_files.specs.Stands.{Files}
use Rattle.realm_files.proofs.Fronts.{same_between, written_front}

-- the front of a file that counts makes another count
counts_front : (c d : List ℕ) (next : ℕ) → 2 ≤ next → take next d ≡ take next c → Counts c → Counts d
counts_front c d next reach front counts = record {
  has_more = omega (arith, ap length front, length-take next c, length-take next d, counts.has_more, reach);
  is_open = sym (get_or-take next d 0 0 (omega (arith, reach))) ∙ ap (λ l. get_or l 0 0) front
      ∙ get_or-take next c 0 0 (omega (arith, reach)) ∙ counts.is_open;
}

module _ (g : Generation) (c d : List ℕ) (next : ℕ) (behind : gate_of g ≤ next) (front : take next d ≡ take next c) where
  -- with that front another file holds the generation too,
  holds_front : Holds c g → Holds d g
  holds_front holds = record {
    counts = counts_front c d next (omega (arith, behind)) front holds.counts;
    head = record {
      is_header = holds.head.is_header;
      stands = written_front 1 (header_text (header_of g)) c d next (omega (arith, behind, head_size (header_of g))) front
          holds.head.stands;
    };
    pages = record {
      fills = holds.pages.fills;
      pages = λ k lt. same_between (4096 * (k + 1)) 4096 c d next (omega (arith, behind, lt)) front ∙ holds.pages.pages k lt;
    };
  }

-- and is the newest, where the other files are the same
pub newest_front : (g : Generation) (was files : Files) (file : FileName) (next : ℕ) → gate_of g ≤ next
    → ((f : FileName) → f ≢ file → files f ≡ was f) → take next (files file) ≡ take next (was file)
    → HoldsNewest was file g → HoldsNewest files file g
newest_front g was files file next behind others front newest =
    let holds = holds_front g (was file) (files file) next behind front newest.holds in
    record {
      newest = record {
        counts = record { counts = holds.counts; head = holds.head };
        older = λ other differ counts.
            let same = others other differ in
            let (old, head, lt) = newest.newest.older other differ (subst (λ l. Counts l) same counts) in
            (old, subst (λ l. HasHead l old) (sym same) head, lt);
      };
      holds = holds;
    }

-- a file that holds a generation reaches to the gate of its first record
last_page : (g : Generation) (file : List ℕ) (n : ℕ) → n ≡ page_count (length g.payload)
    → HoldsFirst file (length g.payload) (page_count (length g.payload)) g.payload → 4096 ≤ length file → 4096 * (n + 1) ≤ length file
last_page g file zero is pages long = omega (arith, long)
last_page g file (suc n) is pages long =
    let lt : n < page_count (length g.payload) = omega (arith, is) in
    let size = length_page (n + 1) (part_behind n g.payload) (part_fills g.payload n lt) in
    omega (arith, ap length (pages.pages n lt), size, length-take 4096 (drop (4096 * (n + 1)) file), length-drop (4096 * (n + 1)) file)

pub holds_reach : (g : Generation) (file : List ℕ) → Holds file g → gate_of g ≤ length file
holds_reach g file holds =
    let head = header_text (header_of g) in
    let long : 4096 ≤ length file =
    omega (arith, ap length holds.head.stands, head_size (header_of g), length-take (length head) (drop 1 file), length-drop 1 file) in
    last_page g file (page_count (length g.payload)) refl holds.pages long
