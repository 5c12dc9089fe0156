-- This file shows which originals a list of ids names, and what their ends are.
use Rattle.std.proofs.Common.{◌≡◌, ◌≢◌, ℕ, ◌+◌, ◌-◌, ◌%◌, ◌<◌, List, [], ◌∷◌, ◌++◌, length, get_or, take, map, Contains}
use Rattle.std.proofs.Common.{refl, sym, ap, ap₂, subst, ◌∙◌, inl, inr, arith}
use Rattle.std.proofs.lemmas.Bool.{cases_lt}
use Rattle.std.proofs.lemmas.List.{take_more, get_or-map, length-map, same_lists, append_assoc, map-append}
use Rattle.std.proofs.lemmas.List.Concat.{flat_map-append}
use Rattle.std.proofs.lemmas.List.Elements.{All-contains, All-nil, All-push}
use Rattle.grid_base.specs.Border.{IsEvenBorder}
use Rattle.grid_base.specs.Point.{GridPoint, IsBefore}
use Rattle.grid_base.specs.Drawing.{Drawing}
use Rattle.grid_base.specs.declared.original.Original.{Original}
use Rattle.grid_base.proofs.Elements.{same_place}
use Rattle.hook_chain.specs.Chains.{RunsFrom}
use Rattle.hook_chain.specs.ValidChain.{ValidChain}
use Rattle.hook_chain.specs.StandingChains.{AllStand, IsChainFor}
use Rattle.hook_chain.specs.Ids.{IsAscending, IsChainOf, LacksId}
use Rattle.hook_chain.specs.Straight.{along}
use Rattle.chain_laws.proofs.Ends.{ends_by_leads}
use Rattle.value_geometry.specs.Parts.{AreOriginals, HasEvenOriginals}
use Rattle.state_check.specs.Pairs.{HasEnds, HasEndsOf, IsEvenList, ends_of, times}
use Rattle.state_check.proofs.Evenness.{times_among_ends}

abbrev with_parts : ℕ → GridPoint → GridPoint → List GridPoint → Original
with_parts id a b chain = record { id = id; a = a; b = b; chain = chain }

-- ---- an original by its id
-- the original of d whose chain has these points
pub record IsFound (d : Drawing) (id : ℕ) (points : List GridPoint) : Type 0 where
  pub original : Original
  pub there : Contains d.originals original
  pub id_is : original.id ≡ id
  pub leads : original.chain ≡ points
  pub valid : ValidChain (along original) points

pub found : (d : Drawing) (id : ℕ) (points : List GridPoint) → IsChainOf d id points → AllStand d → IsFound d id points
found d id points is stand =
    let (k, o, within, at, same) = is.there in
    let has : Contains d.originals o = (k, within, at) in
    let leads : o.chain ≡ points = All-contains (λ (q : Original). q.id ≡ id → q.chain ≡ points) d.originals o is.only has same in
    let valid = (All-contains (λ (q : Original). IsChainFor (along q) q.chain) d.originals o stand has).valid in
    record { original = o; there = has; id_is = same; leads = leads; valid = subst (ValidChain (along o)) leads valid }

-- the chain of an original leads from its lesser end to its greater
pub ends_of_chain : (d : Drawing) (id : ℕ) (points : List GridPoint) → IsChainOf d id points → AllStand d → (x y : GridPoint)
    → x ≡ get_or points 0 x → y ≡ get_or points (length points - 1) y → HasEnds d id x y
ends_of_chain d id points is stand x y at_first at_last =
    let one = found d id points is stand in
    let o = one.original in
    record {
      original = o;
      there = one.there;
      id_is = one.id_is;
      from = (ends_by_leads o.a o.b points x one.valid.leads).0 ∙ sym at_first;
      to = (ends_by_leads o.a o.b points y one.valid.leads).1 ∙ sym at_last;
      ordered = one.valid.ends;
    }

some_point : (a b : GridPoint) (chain : List GridPoint) → RunsFrom a b chain → 0 < length chain
some_point a b [] leads = absurd leads
some_point a b (v ∷ chain) leads = omega arith

-- so an original is made again from its chain
pub made_again : (d : Drawing) (id : ℕ) (points chain : List GridPoint) → IsChainOf d id points → AllStand d → (x y : GridPoint)
    → x ≡ get_or points 0 x → y ≡ get_or points (length points - 1) y → chain ≡ points
    → Contains d.originals (record { id = id; a = x; b = y; chain = chain })
made_again d id points chain is stand x y at_first at_last copy =
    let one = found d id points is stand in
    let o = one.original in
    let from = (ends_by_leads o.a o.b points x one.valid.leads).0 ∙ sym at_first in
    let to = (ends_by_leads o.a o.b points y one.valid.leads).1 ∙ sym at_last in
    let same : o ≡ record { id = id; a = x; b = y; chain = chain } =
    ap (λ (n : ℕ). with_parts n o.a o.b o.chain) one.id_is ∙ ap (λ (p : GridPoint). with_parts id p o.b o.chain) from
    ∙ ap (λ (p : GridPoint). with_parts id x p o.chain) to ∙ ap (λ (l : List GridPoint). with_parts id x y l) (one.leads ∙ sym copy) in
    subst (Contains d.originals) same one.there

-- ---- originals by a list of ids
-- there are as many as ids
as_many : (d : Drawing) (ids : List ℕ) (parts : List Original) → AreOriginals d ids parts → length parts ≡ length ids
as_many d ids parts are = sym (length-map parts (λ (o : Original). o.id)) ∙ ap (λ (l : List ℕ). length l) are.by_id

first_of : (xs : List Original) (i : ℕ) → i < length xs → Original
first_of [] i within = absurd (omega arith)
first_of (x ∷ xs) i within = x

-- and each id is that of an original
pub no_part : (d : Drawing) (ids : List ℕ) (parts : List Original) → AreOriginals d ids parts → (i : ℕ) → i < length ids
    → LacksId d.originals (get_or ids i 0) → ⊥
no_part d ids parts are i within lacks =
    let many = as_many d ids parts are in
    let inside : i < length parts = omega (arith, many, within) in
    let o = first_of parts i inside in
    let here = sym (get_or-map (λ (q : Original). q.id) parts i o 0 inside) ∙ ap (λ (l : List ℕ). get_or l i 0) are.by_id in
    All-contains (λ (q : Original). q.id ≢ get_or ids i 0) d.originals (get_or parts i o) lacks (are.there i o inside) here

pub no_ends : (d : Drawing) (list : List GridPoint) → list ≡ [] → HasEndsOf d [] list
no_ends d list is = record {
  parts = [];
  are = record { there = All-nil (Contains d.originals); by_id = refl };
  ordered = All-nil (λ (o : Original). IsBefore o.a o.b);
  ends = is;
}

-- one id more
pub one_more_id : (d : Drawing) (ids : List ℕ) (i : ℕ) (a b : GridPoint) (list more new : List GridPoint) → i < length ids
    → HasEnds d (get_or ids i 0) a b → HasEndsOf d (take i ids) list → more ≡ list ++ a ∷ [] → new ≡ more ++ b ∷ []
    → HasEndsOf d (take (i + 1) ids) new
one_more_id d ids i a b list more new within has was first second =
    let o = has.original in
    let ids_are : take i ids ++ o.id ∷ [] ≡ take (i + 1) ids =
    ap (λ (n : ℕ). take i ids ++ n ∷ []) has.id_is ∙ sym (take_more ids i 0 within) in
    record {
      parts = was.parts ++ o ∷ [];
      are = record {
        there = All-push (Contains d.originals) was.parts o was.are.there has.there;
        by_id = map-append (λ (q : Original). q.id) was.parts (o ∷ [])
            ∙ ap (λ (l : List ℕ). l ++ o.id ∷ []) was.are.by_id ∙ ids_are;
      };
      ordered = All-push (λ (q : Original). IsBefore q.a q.b) was.parts o was.ordered has.ordered;
      ends = second ∙ ap (λ (l : List GridPoint). l ++ b ∷ []) first ∙ append_assoc list (a ∷ []) (b ∷ [])
          ∙ ap₂ (λ (l : List GridPoint) (m : List GridPoint). l ++ m) was.ends
          (ap₂ (λ (p q : GridPoint). p ∷ q ∷ []) (sym has.from) (sym has.to))
          ∙ sym (flat_map-append ends_of was.parts (o ∷ []));
    }

-- ---- evenness
-- an original is the only one with its id
pub same_by_id : (os : List Original) → IsAscending os → (o q : Original) → Contains os o → Contains os q → o.id ≡ q.id → o ≡ q
same_by_id os rising o q (j, j_within, j_is) (k, k_within, k_is) same = elim (cases_lt j k) [
  | inl less ↦
      let below : (get_or os j o).id < (get_or os k o).id = rising j k o less k_within in
      let at_q = ap (λ (r : Original). r.id) (same_place os k o q k_within ∙ k_is) in
      let at_o = ap (λ (r : Original). r.id) j_is in
      absurd (omega (arith, below, at_q, at_o, same))
  | inr not_less ↦ elim (cases_lt k j) [
    | inl more ↦
        let below : (get_or os k o).id < (get_or os j o).id = rising k j o more j_within in
        let at_q = ap (λ (r : Original). r.id) (same_place os k o q k_within ∙ k_is) in
        let at_o = ap (λ (r : Original). r.id) j_is in
        absurd (omega (arith, below, at_q, at_o, same))
    | inr not_more ↦
        let here : j ≡ k = omega arith in
        sym j_is ∙ ap (λ (n : ℕ). get_or os n o) here ∙ same_place os k o q k_within ∙ k_is
  ]
]

-- so ids name one list of originals
same_parts : (d : Drawing) (ids : List ℕ) (ps qs : List Original) → IsAscending d.originals → AreOriginals d ids ps
    → AreOriginals d ids qs → ps ≡ qs
same_parts d ids ps qs rising are also =
    let as_ids = as_many d ids ps are in
    let also_ids = as_many d ids qs also in
    same_lists ps qs (as_ids ∙ sym also_ids) (λ i o within.
    let within_also : i < length qs = omega (arith, as_ids, also_ids, within) in
    let p = get_or ps i o in
    let q = get_or qs i o in
    let one = sym (get_or-map (λ (r : Original). r.id) ps i o 0 within) ∙ ap (λ (l : List ℕ). get_or l i 0) are.by_id in
    let other = sym (get_or-map (λ (r : Original). r.id) qs i o 0 within_also) ∙ ap (λ (l : List ℕ). get_or l i 0) also.by_id in
    same_by_id d.originals rising p q (are.there i o within) (also.there i o within_also) (one ∙ sym other))

-- originals whose ends are even are an even border, and the other way round
pub even_by_ends : (d : Drawing) (ids : List ℕ) (list : List GridPoint) → HasEndsOf d ids list → IsEvenList list
    → HasEvenOriginals d ids
even_by_ends d ids list has even = (
  has.parts,
  has.are,
  λ p. sym (ap (λ (n : ℕ). n % 2) (ap (times p) has.ends ∙ times_among_ends has.parts has.ordered p)) ∙ even p,
)

pub ends_are_even : (d : Drawing) (ids : List ℕ) (list : List GridPoint) → HasEndsOf d ids list → IsAscending d.originals
    → HasEvenOriginals d ids → IsEvenList list
ends_are_even d ids list has rising (parts, are, even) = λ p.
    let same = same_parts d ids parts has.parts rising are has.are in
    let border = subst (λ (l : List Original). IsEvenBorder (map along l)) same even in
    ap (λ (n : ℕ). n % 2) (ap (times p) has.ends ∙ times_among_ends has.parts has.ordered p) ∙ border p
