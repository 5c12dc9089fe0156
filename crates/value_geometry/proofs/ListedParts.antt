-- This file shows what the part at a place is, and that the links of one part more are gathered.
use Rattle.std.proofs.Common.{◌≡◌, ◌≢◌, ℕ, ◌+◌, ◌<◌, List, [], ◌∷◌, ◌++◌, length, get_or, take, Contains}
use Rattle.std.proofs.Common.{sym, ap, ◌∙◌, arith}
use Rattle.std.proofs.lemmas.List.{take_more, get_or-map, length-map, append-nil}
use Rattle.std.proofs.lemmas.List.Concat.{flat_map-append}
use Rattle.std.proofs.lemmas.List.Elements.{All-contains, All-more, All-weaker}
use Rattle.grid_base.specs.Point.{GridPoint}
use Rattle.grid_base.specs.Segment.{GridSegment}
use Rattle.grid_base.specs.Drawing.{Drawing}
use Rattle.grid_base.specs.declared.original.Original.{Original}
use Rattle.hook_chain.specs.StandingChains.{AllStand, IsChainFor}
use Rattle.hook_chain.specs.Ids.{IsChainOf, LacksId}
use Rattle.hook_chain.specs.Straight.{along}
use Rattle.value_geometry.specs.Links.{links, links_of, IsOnlyOne, AreLinksOf}
use Rattle.value_geometry.specs.Parts.{AreOriginals}

-- ---- the part at a place
first_of : {X : Type 0} (xs : List X) (i : ℕ) → i < length xs → X
first_of [] i within = absurd (omega arith)
first_of (x ∷ xs) i within = x

-- the original with the id that the chain is of is the only one with it
is_only_one : (d : Drawing) (id : ℕ) (chain : List GridPoint) → IsChainOf d id chain → AllStand d → (o : Original)
    → Contains d.originals o → o.id ≡ id → (o.chain ≡ chain) × IsOnlyOne d o
is_only_one d id chain is stand o there same =
    let leads : o.chain ≡ chain = All-contains (λ q. q.id ≡ id → q.chain ≡ chain) d.originals o is.only there same in (
      leads,
      record {
        valid = (All-contains (λ q. IsChainFor (along q) q.chain) d.originals o stand there).valid;
        only = All-weaker (λ q. q.id ≡ id → q.chain ≡ chain) (λ q. q.id ≡ o.id → q.chain ≡ o.chain)
            (λ q leads_too equal. leads_too (equal ∙ same) ∙ sym leads) d.originals is.only;
      },
    )

-- the links of the first parts and of one more
links_of_more : (parts : List Original) (i : ℕ) (o : Original) → i < length parts
    → links_of (take (i + 1) parts) ≡ links_of (take i parts) ++ links (get_or parts i o).chain
links_of_more parts i o within =
    let last = get_or parts i o in
    ap links_of (take_more parts i o within)
    ∙ flat_map-append (λ (q : Original). links q.chain) (take i parts) (last ∷ [])
    ∙ ap (λ xs. links_of (take i parts) ++ xs) (append-nil (links last.chain))

module _ (d : Drawing) (ids : List ℕ) (parts : List Original) (are : AreOriginals d ids parts) where
  pub as_many : length parts ≡ length ids
  as_many = sym (length-map parts (λ (o : Original). o.id)) ∙ ap length are.by_id

  -- the part at i has the id at i
  has_id : (i : ℕ) (o : Original) → i < length parts → (get_or parts i o).id ≡ get_or ids i 0
  has_id i o within = sym (get_or-map (λ (q : Original). q.id) parts i o 0 within) ∙ ap (λ ns. get_or ns i 0) are.by_id

  -- so it is in the drawing
  pub no_part : (i : ℕ) → i < length ids → LacksId d.originals (get_or ids i 0) → ⊥
  no_part i within lacks =
      let many = as_many in
      let inside : i < length parts = omega arith in
      let o = first_of parts i inside in
      All-contains (λ q. q.id ≢ get_or ids i 0) d.originals (get_or parts i o) lacks (are.there i o inside)
      (has_id i o inside)

  -- the links of one part more
  pub one_part : (i : ℕ) (chain : List GridPoint) (list new : List GridSegment) → i < length ids
      → IsChainOf d (get_or ids i 0) chain → AllStand d → AreLinksOf d (take i parts) list → new ≡ list ++ links chain
      → AreLinksOf d (take (i + 1) parts) new
  one_part i chain list new within is stand before added =
      let many = as_many in
      let inside : i < length parts = omega arith in
      let o = first_of parts i inside in
      let last = get_or parts i o in
      let one = is_only_one d (get_or ids i 0) chain is stand last (are.there i o inside) (has_id i o inside) in
      record {
        only_ones = All-more (IsOnlyOne d) parts i o inside before.only_ones one.1;
        exact = added ∙ ap (λ xs. xs ++ links chain) before.exact
            ∙ sym (links_of_more parts i o inside ∙ ap (λ c. links_of (take i parts) ++ links c) one.0);
      }
