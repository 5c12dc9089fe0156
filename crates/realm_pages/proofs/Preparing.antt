-- This file shows which generation a text is that of.
use Rattle.std.proofs.Common.{◌≡◌, ℕ, ◌*◌, List, [], ◌++◌, length, take, drop, sym, ◌∙◌, ap, subst}
use Rattle.std.proofs.Math.Nat.{le_refl}
use Rattle.std.proofs.lemmas.List.{drop_at, append-nil}
use Rattle.record_codec.specs.declared.header.Header.{Header}
use Rattle.record_codec.specs.Heads.{IsHeader, header_text}
use Rattle.realm_pages.specs.Generations.{Generation, page_count, header_of, pages_of, generation_text}
use Rattle.realm_pages.specs.PreparedFields.{held_in, generation_of, IsOfGeneration}
use Rattle.realm_pages.specs.declared.prepared.PreparedPages.TheInside.{Inside}
use Rattle.realm_pages.proofs.HeadLength.{head_size}
use Rattle.realm_pages.proofs.Parts.{page_stands, held_is}

-- behind its head the text holds the payload
held_again : (g : Generation)
    → take (length g.payload) (held_in (page_count (length g.payload)) (drop 4095 (generation_text g))) ≡ g.payload
held_again g =
    let count = page_count (length g.payload) in
    let pages = pages_of count g.payload in
    let behind : drop 4095 (generation_text g) ≡ pages = drop_at (header_text (header_of g)) pages 4095 (head_size (header_of g)) in
    ap (λ l. take (length g.payload) (held_in count l)) behind
    ∙ held_is g.payload pages (λ k lt. ap (λ l. take 4096 (drop (4096 * k) l)) (sym (append-nil pages))
    ∙ page_stands g.payload count [] (le_refl count) k lt)

-- what is read from a head and a text
abbrev generation_by : Header → List ℕ → Generation
generation_by head text = record {
  version = head.version;
  number = head.generation;
  payload = take head.length (held_in head.pages (drop 4095 text));
}

-- a text that was made for a head
pub text_is : (g : Generation) {head : Header} {block : List ℕ}
    → block ≡ header_text head ++ pages_of (page_count (length g.payload)) g.payload → head ≡ header_of g → block ≡ generation_text g
text_is g block head = block ∙ ap (λ h. header_text h ++ pages_of (page_count (length g.payload)) g.payload) head

-- a head and a text are those of one generation
pub generation_is : (p : Inside) (g : Generation) → p.head ≡ header_of g → p.block ≡ generation_text g → generation_of p ≡ g
generation_is p g head text =
    ap (λ h. generation_by h p.block) head
    ∙ ap (λ t. generation_by (header_of g) t) text
    ∙ ap (λ (l : List ℕ). let it : Generation = record { version = g.version; number = g.number; payload = l } in it) (held_again g)

pub of_generation : (p : Inside) (g : Generation) → IsHeader (header_of g) → p.head ≡ header_of g → p.block ≡ generation_text g
    → IsOfGeneration p
of_generation p g has_head head text =
    let same = sym (generation_is p g head text) in
    record { has_head = subst (λ x. IsHeader (header_of x)) same has_head; is_text = text ∙ ap generation_text same }
