-- This file shows that a drawing with one chain more, or without one, is kept where its registry follows.
use Rattle.std.proofs.Common.{◌≡◌, ◌≢◌, ℕ, ◌<◌, List, [], ◌∷◌, ◌++◌, get_or, All, false, not, ◌==◌, cond}
use Rattle.std.proofs.Common.{sym, ap, ◌∙◌, subst, inl, inr, arith}
use Rattle.std.specs.List.{filter}
use Rattle.std.proofs.lemmas.Bool.Decides.{nat_tests}
use Rattle.std.proofs.lemmas.List.{get_or_default, append-nil}
use Rattle.std.proofs.lemmas.List.Elements.{All-push, All-filter, filter-append}
use Rattle.std.proofs.lemmas.List.Kept.{AllPairs-filter}
use Rattle.std.proofs.lemmas.List.Quantifiers.{all_pairs_push}
use Rattle.grid_base.specs.Point.{GridPoint}
use Rattle.grid_base.specs.Segment.{GridSegment}
use Rattle.grid_base.specs.Drawing.{HasLink}
use Rattle.grid_base.specs.declared.original.Original.{Original}
use Rattle.grid_base.proofs.Elements.{Contains-nil}
use Rattle.hook_chain.specs.ValidChain.{ValidChain}
use Rattle.component_registry.specs.Registry.{Holdings, IsSound}
use Rattle.realm_drawing.specs.declared.shares.Share.{Share}
use Rattle.hook_chain.specs.Ids.{LacksId, IsChainOf}
use Rattle.hook_chain.specs.StandingChains.{HasValidChain}
use Rattle.realm_drawing.specs.Kept.{IsInOrder}
use Rattle.realm_drawing.specs.Shares.{share_of, Held, HasMore, ListsAlso, IsOfChain}
use Rattle.realm_drawing.specs.Leaving.{LosesShares}
use Rattle.chain_laws.proofs.Elements.{Any-head, Any-single, Any-append_cases}
use Rattle.chain_laws.proofs.Elements.{Any-append_left, Any-append_right, All-of_some}
use Rattle.chain_laws.proofs.Filters.{Any-passes, other_id, none_to_remove}

-- ---- one chain more
-- the original with this chain
abbrev pub with_id : ℕ → GridSegment → List GridPoint → Original
with_id id s chain = record { id = id; a = s.a; b = s.b; chain = chain }

-- it has the piece t, and the id x
abbrev HasShare : GridSegment → ℕ → Original → Type 0
HasShare t x o = (o.id ≡ x) × HasLink o.chain t

-- no original has its id yet, so no share of it is held
pub shares_are_new : (points : List GridPoint) (originals : List Original) (r : Holdings) → IsInOrder points originals r
    → (id : ℕ) (chain : List GridPoint) (shares : List Share) → All (λ o. o.id < id) originals
    → ListsAlso [] shares (IsOfChain id chain) → All (λ y. ¬ Held r y) shares
shares_are_new points originals r kept id chain shares below lists = λ k d within held.
    let y = get_or shares k d in
    elim ((lists y).0 (k, within, get_or_default shares k y d within)) [
      | inl none ↦ Contains-nil y none
      | inr of_chain ↦
          let some = ((kept.owners y.piece y.id).0 held).1 in
          All-of_some (λ o. o.id < id) (HasShare y.piece y.id) ⊥ (never y of_chain.has_id) originals below some
    ]
  where
    never : (y : Share) → y.id ≡ id → (o : Original) → o.id < id → HasShare y.piece y.id o → ⊥
    never y same o before has = omega (arith, has.0)

-- with its shares the registry has the owners again
pub kept_with_chain : (points : List GridPoint) (originals : List Original) (old new : Holdings)
    → IsInOrder points originals old → (id : ℕ) (s : GridSegment) (chain : List GridPoint) (shares : List Share)
    → All (λ o. o.id < id) originals → ValidChain s chain → ListsAlso [] shares (IsOfChain id chain)
    → HasMore old new shares → IsSound new
    → IsInOrder points (originals ++ with_id id s chain ∷ []) new
kept_with_chain points originals old new kept id s chain shares below valid lists more sound =
    let o = with_id id s chain in
    record {
      points_ascend = kept.points_ascend;
      ids_rise = all_pairs_push (λ p q. p.id < q.id) originals o kept.ids_rise below;
      all_valid = All-push HasValidChain originals o kept.all_valid valid;
      sound = sound;
      owners = λ t x. (
        λ owns. elim ((more t x).0 owns) [
          | inl had ↦
              let before = (kept.owners t x).0 had in
              (before.0, Any-append_left (HasShare t x) originals (o ∷ []) before.1)
          | inr listed ↦ elim ((lists (share_of t x)).0 listed) [
            | inl none ↦ absurd (Contains-nil (share_of t x) none)
            | inr of_chain ↦
                let last = Any-head (HasShare t x) o [] (sym of_chain.has_id, of_chain.link) in
                (of_chain.ordered, Any-append_right (HasShare t x) originals (o ∷ []) last)
          ]
        ],
        λ (ordered, some). (more t x).1 (elim (Any-append_cases (HasShare t x) originals (o ∷ []) some) [
          | inl before ↦ inl ((kept.owners t x).1 (ordered, before))
          | inr last ↦
              let has = Any-single (HasShare t x) o last in
              inr ((lists (share_of t x)).1 (inr (record { has_id = sym has.0; link = has.1; ordered = ordered })))
        ]),
      );
    }

-- ---- one chain less
-- an original that comes last and goes again leaves those that there were
pub put_and_taken : (originals mid new : List Original) (o : Original) → All (λ p. p.id < o.id) originals
    → mid ≡ originals ++ o ∷ [] → new ≡ filter (λ p. not (p.id == o.id)) mid → new ≡ originals
put_and_taken originals mid new o below put taken =
    let stays = λ (p : Original). not (p.id == o.id) in
    let gone : stays o ≡ false = grind (arith, nat_tests) in
    let lacks : LacksId originals o.id = λ k d within. omega (arith, below k d within) in
    taken ∙ ap (filter stays) put ∙ filter-append stays originals (o ∷ [])
    ∙ ap (λ left. left ++ filter stays (o ∷ [])) (none_to_remove originals o.id lacks)
    ∙ ap (λ b. originals ++ cond b (o ∷ []) []) gone ∙ append-nil originals

-- an original that is left had no share that was lost, since the one that goes was alone with its id
pub kept_without : (points : List GridPoint) (originals : List Original) (old new : Holdings) → IsInOrder points originals old
    → (id : ℕ) (chain : List GridPoint) → IsChainOf (record { points = points; originals = originals }) id chain
    → LosesShares old new (IsOfChain id chain) → IsSound new
    → IsInOrder points (filter (λ o. not (o.id == id)) originals) new
kept_without points originals old new kept id chain found loses sound =
    let stays = λ (o : Original). not (o.id == id) in
    record {
      points_ascend = kept.points_ascend;
      ids_rise = AllPairs-filter (λ p q. p.id < q.id) stays originals kept.ids_rise;
      all_valid = All-filter stays HasValidChain originals kept.all_valid;
      sound = sound;
      owners = λ t x. (
        λ owns.
            let (had, not_lost) = (loses (share_of t x)).0 owns in
            let (ordered, (k, o, within, is, (has_id, link))) = (kept.owners t x).0 had in
            let other : o.id ≢ id = λ same.
            let only = subst (λ q. q.id ≡ id → q.chain ≡ chain) is (found.only k o within) same in
            let there = subst (λ c. HasLink c t) only link in
            not_lost (record { has_id = sym has_id ∙ same; link = there; ordered = ordered }) in
            let passes = (other_id o.id id).1 other in
            (ordered, (Any-passes stays (HasShare t x) originals).1 (k, o, within, is, (passes, (has_id, link)))),
        λ (ordered, some).
            let (k, o, within, is, (passes, (has_id, link))) = (Any-passes stays (HasShare t x) originals).0 some in
            let had = (kept.owners t x).1 (ordered, (k, o, within, is, (has_id, link))) in
            (loses (share_of t x)).1 (had, λ of_chain. (other_id o.id id).0 passes (has_id ∙ of_chain.has_id)),
      );
    }
