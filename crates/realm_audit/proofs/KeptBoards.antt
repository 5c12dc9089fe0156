-- This file shows that a board stays as it is to be, whatever comes or goes.
use Rattle.std.proofs.Common.{◌≡◌, ◌⊎◌, ◌↔◌, ◌==◌, not, ℕ, ◌<◌, List, [], ◌∷◌, ◌++◌, Contains, All, AllPairs, map, get_or}
use Rattle.std.proofs.Common.{IsPermutation, refl, sym, ap, subst, inl, inr, arith}
use Rattle.std.specs.List.{filter, dedup}
use Rattle.std.proofs.lemmas.List.{length-map, get_or-map}
use Rattle.std.proofs.lemmas.List.Elements.{All-push, All-filter, All-nil, All-map, Contains-append_left, Contains-push}
use Rattle.std.proofs.lemmas.List.Kept.{AllPairs-filter}
use Rattle.std.proofs.lemmas.List.Sorted.{Contains-permutation}
use Rattle.std.proofs.lemmas.List.Quantifiers.{all_pairs_push}
use Rattle.grid_base.specs.Point.{GridPoint, IsBefore}
use Rattle.grid_base.specs.Segment.{GridSegment}
use Rattle.grid_base.specs.Drawing.{Drawing, IsPiece, HasViolation}
use Rattle.grid_base.specs.declared.original.Original.{Original}
use Rattle.grid_base.proofs.Elements.{Contains-nil}
use Rattle.grid_base.proofs.Orders.{is_segment, segments_stay}
use Rattle.hook_chain.specs.ValidChain.{ValidChain}
use Rattle.hook_chain.specs.Ids.{IsAscending, LacksId, IsChainAmong}
use Rattle.hook_chain.specs.StandingChains.{HasValidChain, AllValid}
use Rattle.hook_chain.specs.Straight.{along}
use Rattle.realm_audit.specs.Shelves.{HasShare}
use Rattle.realm_audit.specs.ShareChanges.{HasMore, HasFewer, IsLinkOf, ListsAlso}
use Rattle.realm_audit.specs.Kept.{drawing_of, HasSharesOf, AreCovered, IsInOrder}
use Rattle.chain_laws.specs.Redraws.{IsPathFor}
use Rattle.realm_audit.specs.Redraws.{redraw_by, redrawn_original_by}
use Rattle.chain_laws.specs.declared.redrawing.Redrawing.{Redrawing}
use Rattle.realm_audit.specs.declared.shares.Share.{Share}
use Rattle.chain_laws.proofs.Elements.{Any-nil}
use Rattle.chain_laws.proofs.Filters.{none_to_remove}
use Rattle.realm_audit.proofs.SharedPieces.{shared_piece}
use Rattle.realm_audit.proofs.KeptShares.{with_id, shares_with, shares_without, shares_redrawn}
use Rattle.realm_audit.proofs.Coverings.{covered_with_pieces, covered_with_points, covered_by_none}

-- ---- at first
pub kept_empty : (points : List GridPoint) (originals : List Original) (shares : List Share) (pieces : List GridSegment)
    (fresh : List GridPoint) → points ≡ [] → originals ≡ [] → shares ≡ [] → pieces ≡ [] → fresh ≡ []
    → IsInOrder points originals shares pieces fresh
kept_empty points originals shares pieces fresh no_points no_originals no_shares no_pieces no_fresh =
    rw (no_points, no_originals, no_shares, no_pieces, no_fresh) nothing
  where
    nothing : IsInOrder [] [] [] [] []
    nothing = record {
      points_ascend = λ i j d before within. absurd (omega (arith, within));
      ids_rise = λ i j d before within. absurd (omega (arith, within));
      all_valid = All-nil HasValidChain;
      shares_are = λ s x. (
        λ has. absurd (Contains-nil _ has),
        λ (ordered, some). absurd (Any-nil _ some),
      );
      covered = record {
        by_point = λ p t explicit piece inside. absurd (Contains-nil p explicit);
        by_piece = λ t u piece_t piece_u clash. absurd (Any-nil _ piece_t.1);
      };
    }

-- ---- points
pub kept_with_point : (old new : List GridPoint) (originals : List Original) (shares : List Share)
    (pieces : List GridSegment) (fresh later : List GridPoint) (p : GridPoint)
    → AllPairs IsBefore new → ((q : GridPoint) → Contains new q ↔ ((q ≡ p) ⊎ Contains old q)) → later ≡ fresh ++ p ∷ []
    → IsInOrder old originals shares pieces fresh → IsInOrder new originals shares pieces later
kept_with_point old new originals shares pieces fresh later p ascend members is kept = record {
  points_ascend = ascend;
  ids_rise = kept.ids_rise;
  all_valid = kept.all_valid;
  shares_are = kept.shares_are;
  covered = subst (λ (l : List GridPoint). AreCovered (drawing_of new originals) pieces l) (sym is)
      (covered_with_points old new originals pieces fresh (fresh ++ p ∷ [])
      (λ q has. Contains-append_left fresh (p ∷ []) q has)
      (λ q has. elim ((members q).0 has) [
        | inl same ↦ inr (subst (Contains (fresh ++ p ∷ [])) (sym same) (Contains-push fresh p))
        | inr had ↦ inl had
      ]) kept.covered);
}

pub kept_without_point : (old new : List GridPoint) (originals : List Original) (shares : List Share)
    (pieces : List GridSegment) (fresh : List GridPoint) (p : GridPoint)
    → AllPairs IsBefore new → ((q : GridPoint) → Contains new q ↔ (Contains old q × (q ≡ p → ⊥)))
    → IsInOrder old originals shares pieces fresh → IsInOrder new originals shares pieces fresh
kept_without_point old new originals shares pieces fresh p ascend members kept = record {
  points_ascend = ascend;
  ids_rise = kept.ids_rise;
  all_valid = kept.all_valid;
  shares_are = kept.shares_are;
  covered = covered_with_points old new originals pieces fresh fresh (λ q has. has)
      (λ q has. inl ((members q).0 has).0) kept.covered;
}

-- ---- originals
-- a piece that is there afterwards was there, or is a link of the path
more_pieces : (points : List GridPoint) (old new : List Original) (before after : List Share) (pieces later : List GridSegment)
    (path : List GridPoint) → HasSharesOf old before → HasSharesOf new after
    → ((s : GridSegment) (x : ℕ) → HasShare after s x → HasShare before s x ⊎ IsLinkOf path s)
    → ListsAlso pieces later (IsLinkOf path)
    → (s : GridSegment) → IsPiece (drawing_of points new) s → IsPiece (drawing_of points old) s ⊎ Contains later s
more_pieces points old new before after pieces later path are_old are_new from lists s piece =
    let (x, has) = (shared_piece points new after are_new s).1 piece in
    elim (from s x has) [
      | inl had ↦ inl ((shared_piece points old before are_old s).0 (x, had))
      | inr link ↦ inr ((lists s).1 (inr link))
    ]

kept_with_chain : (points : List GridPoint) (originals : List Original) (old new : List Share)
    (pieces later : List GridSegment) (fresh : List GridPoint) (id : ℕ) (line : GridSegment) (chain : List GridPoint)
    → All (λ o. o.id < id) originals → ValidChain line chain
    → HasMore old new (λ s x. IsLinkOf chain s × (x ≡ id)) → ListsAlso pieces later (IsLinkOf chain)
    → IsInOrder points originals old pieces fresh
    → IsInOrder points (originals ++ with_id id line chain ∷ []) new later fresh
kept_with_chain points originals old new pieces later fresh id line chain below valid more lists kept =
    let o = with_id id line chain in
    let are = shares_with originals old new id line chain kept.shares_are more in
    record {
      points_ascend = kept.points_ascend;
      ids_rise = all_pairs_push (λ p q. p.id < q.id) originals o kept.ids_rise below;
      all_valid = All-push HasValidChain originals o kept.all_valid valid;
      shares_are = are;
      covered = covered_with_pieces (drawing_of points originals) (drawing_of points (originals ++ o ∷ [])) pieces later fresh
          refl (λ s has. (lists s).1 (inl has))
          (more_pieces points originals (originals ++ o ∷ []) old new pieces later chain kept.shares_are are
          (λ s x has. elim ((more s x).0 has) [ inl had ↦ inl had | inr link ↦ inr link.0 ]) lists)
          kept.covered;
    }

-- the same, with the chain as the links of two lists that are read from it
pub kept_with_original : (points : List GridPoint) (originals : List Original) (old new : List Share)
    (pieces later : List GridSegment) (fresh : List GridPoint) (id : ℕ) (line : GridSegment)
    (chain shared listed : List GridPoint) → shared ≡ chain → listed ≡ chain
    → All (λ o. o.id < id) originals → ValidChain line chain
    → HasMore old new (λ s x. IsLinkOf shared s × (x ≡ id)) → ListsAlso pieces later (IsLinkOf listed)
    → IsInOrder points originals old pieces fresh
    → IsInOrder points (originals ++ with_id id line chain ∷ []) new later fresh
kept_with_original points originals old new pieces later fresh id line chain shared listed is_shared is_listed below valid
    more lists =
    kept_with_chain points originals old new pieces later fresh id line chain below valid
    (subst (λ (l : List GridPoint). HasMore old new (λ s x. IsLinkOf l s × (x ≡ id))) is_shared more)
    (subst (λ (l : List GridPoint). ListsAlso pieces later (IsLinkOf l)) is_listed lists)

-- where some go and none comes
fewer_pieces : (points : List GridPoint) (old new : List Original) (before after : List Share) (pieces : List GridSegment)
    → HasSharesOf old before → HasSharesOf new after
    → ((s : GridSegment) (x : ℕ) → HasShare after s x → HasShare before s x)
    → (s : GridSegment) → IsPiece (drawing_of points new) s → IsPiece (drawing_of points old) s ⊎ Contains pieces s
fewer_pieces points old new before after pieces are_old are_new from s piece =
    let (x, has) = (shared_piece points new after are_new s).1 piece in
    inl ((shared_piece points old before are_old s).0 (x, from s x has))

pub kept_without_original : (points : List GridPoint) (originals : List Original) (old new : List Share)
    (pieces : List GridSegment) (fresh : List GridPoint) (id : ℕ) (chain : List GridPoint)
    → IsChainAmong originals id chain → HasFewer old new (λ s x. IsLinkOf chain s × (x ≡ id))
    → IsInOrder points originals old pieces fresh
    → IsInOrder points (filter (λ o. not (o.id == id)) originals) new pieces fresh
kept_without_original points originals old new pieces fresh id chain found fewer kept =
    let stays = λ (o : Original). not (o.id == id) in
    let are = shares_without originals old new id chain kept.shares_are found fewer in
    record {
      points_ascend = kept.points_ascend;
      ids_rise = AllPairs-filter (λ p q. p.id < q.id) stays originals kept.ids_rise;
      all_valid = All-filter stays HasValidChain originals kept.all_valid;
      shares_are = are;
      covered = covered_with_pieces (drawing_of points originals) (drawing_of points (filter stays originals)) pieces pieces fresh
          refl (λ s has. has)
          (fewer_pieces points originals (filter stays originals) old new pieces kept.shares_are are
          (λ s x has. ((fewer s x).0 has).0))
          kept.covered;
    }

-- an id that none has
pub kept_without_none : (points : List GridPoint) (originals : List Original) (shares : List Share)
    (pieces : List GridSegment) (fresh : List GridPoint) (id : ℕ) → LacksId originals id
    → IsInOrder points originals shares pieces fresh
    → IsInOrder points (filter (λ o. not (o.id == id)) originals) shares pieces fresh
kept_without_none points originals shares pieces fresh id lacks kept =
    subst (λ (l : List Original). IsInOrder points l shares pieces fresh) (sym (none_to_remove originals id lacks)) kept

-- ---- a path
-- a path that may stand for its piece keeps all chains valid
redraw_keeps : (r : Redrawing) (d : Drawing) → IsPathFor r → AllValid d → AllValid (redraw_by r d)
redraw_keeps r d path valid = All-map HasValidChain (redrawn_original_by r) d.originals
    (λ k o within. path.keeps (along (get_or d.originals k o)) (get_or d.originals k o).chain (valid k o within))

ids_stay : (r : Redrawing) (originals : List Original) → IsAscending originals → IsAscending (map (redrawn_original_by r) originals)
ids_stay r originals rise = λ i j d before within.
    let f = redrawn_original_by r in
    let len = length-map originals f in
    let in_j = subst (λ n. j < n) len within in
    let at_i = ap (λ (o : Original). o.id) (get_or-map f originals i d d (omega (arith, before, in_j))) in
    let at_j = ap (λ (o : Original). o.id) (get_or-map f originals j d d in_j) in
    omega (arith, at_i, at_j, rise i j d before in_j)

kept_with_path : (points : List GridPoint) (originals : List Original) (old mid new : List Share)
    (pieces later : List GridSegment) (fresh : List GridPoint) (r : Redrawing) (owners : List ℕ)
    → IsPathFor r → ((x : ℕ) → Contains owners x ↔ HasShare old r.piece x)
    → HasFewer old mid (λ s x. (s ≡ r.piece) × Contains owners x)
    → HasMore mid new (λ s x. IsLinkOf r.path s × Contains owners x)
    → ListsAlso pieces later (IsLinkOf r.path)
    → IsInOrder points originals old pieces fresh
    → IsInOrder points (map (redrawn_original_by r) originals) new later fresh
kept_with_path points originals old mid new pieces later fresh r owners path owned fewer more lists kept =
    let are = shares_redrawn originals old mid new r owners kept.shares_are path owned fewer more in
    let after = map (redrawn_original_by r) originals in
    record {
      points_ascend = kept.points_ascend;
      ids_rise = ids_stay r originals kept.ids_rise;
      all_valid = redraw_keeps r (drawing_of points originals) path kept.all_valid;
      shares_are = are;
      covered = covered_with_pieces (drawing_of points originals) (drawing_of points after) pieces later fresh refl
          (λ s has. (lists s).1 (inl has))
          (more_pieces points originals after old new pieces later r.path kept.shares_are are
          (λ s x has. elim ((more s x).0 has) [
            | inl between ↦ inl ((fewer s x).0 between).0
            | inr link ↦ inr link.0
          ]) lists)
          kept.covered;
    }

-- the same, with the owners and the path as lists that are read from them
pub kept_redrawn : (points : List GridPoint) (originals : List Original) (old mid new : List Share)
    (pieces later : List GridSegment) (fresh : List GridPoint) (r : Redrawing) (owners losing gaining : List ℕ)
    (shared listed : List GridPoint) → losing ≡ owners → gaining ≡ owners → shared ≡ r.path → listed ≡ r.path
    → IsPathFor r → ((x : ℕ) → Contains owners x ↔ HasShare old r.piece x)
    → HasFewer old mid (λ s x. (s ≡ r.piece) × Contains losing x)
    → HasMore mid new (λ s x. IsLinkOf shared s × Contains gaining x)
    → ListsAlso pieces later (IsLinkOf listed)
    → IsInOrder points originals old pieces fresh
    → IsInOrder points (map (redrawn_original_by r) originals) new later fresh
kept_redrawn points originals old mid new pieces later fresh r owners losing gaining shared listed is_losing is_gaining
    is_shared is_listed path owned fewer more lists =
    let by_owners = subst (λ (ids : List ℕ). HasMore mid new (λ s x. IsLinkOf shared s × Contains ids x)) is_gaining more in
    kept_with_path points originals old mid new pieces later fresh r owners path owned
    (subst (λ (ids : List ℕ). HasFewer old mid (λ s x. (s ≡ r.piece) × Contains ids x)) is_losing fewer)
    (subst (λ (l : List GridPoint). HasMore mid new (λ s x. IsLinkOf l s × Contains owners x)) is_shared by_owners)
    (subst (λ (l : List GridPoint). ListsAlso pieces later (IsLinkOf l)) is_listed lists)

-- ---- what is fresh, each once
pub kept_each_once : (points : List GridPoint) (originals : List Original) (shares : List Share)
    (pieces sorted : List GridSegment) (fresh : List GridPoint) → IsPermutation pieces sorted
    → IsInOrder points originals shares pieces fresh → IsInOrder points originals shares (dedup is_segment sorted) fresh
kept_each_once points originals shares pieces sorted fresh moved kept = record {
  points_ascend = kept.points_ascend;
  ids_rise = kept.ids_rise;
  all_valid = kept.all_valid;
  shares_are = kept.shares_are;
  covered = covered_with_pieces (drawing_of points originals) (drawing_of points originals) pieces (dedup is_segment sorted) fresh
      refl (λ s has. (segments_stay sorted s).1 (Contains-permutation pieces sorted s moved has)) (λ s piece. inl piece)
      kept.covered;
}

-- ---- no violation
pub kept_settled : (points : List GridPoint) (originals : List Original) (shares : List Share)
    (pieces none : List GridSegment) (fresh no_points : List GridPoint) → none ≡ [] → no_points ≡ []
    → (HasViolation (drawing_of points originals) → ⊥) → IsInOrder points originals shares pieces fresh
    → IsInOrder points originals shares none no_points
kept_settled points originals shares pieces none fresh no_points is_none is_no settled kept = record {
  points_ascend = kept.points_ascend;
  ids_rise = kept.ids_rise;
  all_valid = kept.all_valid;
  shares_are = kept.shares_are;
  covered = rw (is_none, is_no) (covered_by_none (drawing_of points originals) settled);
}
