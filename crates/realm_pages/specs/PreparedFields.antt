-- What a generation stands for that is ready to be written.
use Rattle.std.specs.Prelude.{◌≡◌, ℕ, zero, suc, ◌+◌, ◌*◌, List, [], ◌++◌, take, drop}
use Rattle.record_codec.specs.Heads.{IsHeader}
use Rattle.realm_pages.specs.Generations.{Generation, header_of, generation_text}
use Rattle.realm_pages.specs.declared.prepared.PreparedPages.TheInside.{Inside}

-- what the first n pages of these bytes hold, each with the zeros behind it
abbrev pub held_in : ℕ → List ℕ → List ℕ
held_in zero pages = []
held_in (suc n) pages = held_in n pages ++ take 4054 (drop (4096 * n + 10) pages)

-- its version and number, and the payload that its pages hold
abbrev pub generation_of : Inside → Generation
generation_of p = record {
  version = p.head.version;
  number = p.head.generation;
  payload = take p.head.length (held_in p.head.pages (drop 4095 p.block));
}

-- which has a head, and the block is its text
pub record IsOfGeneration (p : Inside) : Type 0 where
  pub has_head : IsHeader (header_of (generation_of p))
  pub is_text : p.block ≡ generation_text (generation_of p)
