-- This file shows how lists of shares and of pieces change along the links of a path, and along owners.
use Rattle.std.proofs.Common.{◌≡◌, ◌⊎◌, ◌↔◌, ℕ, ◌+◌, ◌-◌, ◌<◌, ◌≤◌, List, [], ◌∷◌, ◌++◌, length, get_or, take, Contains}
use Rattle.std.proofs.Common.{Some, sym, subst, inl, inr, take_all}
use Rattle.std.specs.Option.{IsNone}
use Rattle.std.proofs.lemmas.List.Elements.{Contains-append_left, Contains-push, Contains-push_cases}
use Rattle.grid_base.specs.Point.{GridPoint, IsBefore}
use Rattle.grid_base.specs.Segment.{GridSegment, segment_of}
use Rattle.grid_base.specs.Drawing.{HasLink}
use Rattle.grid_base.proofs.Elements.{Contains-nil}
use Rattle.realm_audit.specs.Shelves.{HasShare}
use Rattle.realm_audit.specs.ShareChanges.{HasMore, HasFewer, IsLinkOf, ListsAlso}
use Rattle.hook_chain.specs.Chains.{IsBetween}
use Rattle.realm_audit.specs.declared.shares.Share.{Share}
use Rattle.chain_laws.proofs.PathLinks.{link_more, made_between, no_link_at_first}
use Rattle.realm_audit.proofs.OwnerIds.{Contains-next}

-- ---- one change after another
pub more_none : (r : List Share) (P : GridSegment → ℕ → Type 0) → ((s : GridSegment) (x : ℕ) → P s x → ⊥) → HasMore r r P
more_none r P none s x = (λ has. inl has, λ either. elim either [ inl has ↦ has | inr p ↦ absurd (none s x p) ])

pub more_same : (r t : List Share) (P Q : GridSegment → ℕ → Type 0) → ((s : GridSegment) (x : ℕ) → P s x ↔ Q s x)
    → HasMore r t P → HasMore r t Q
more_same r t P Q same more s x = (
  λ has. elim ((more s x).0 has) [ inl had ↦ inl had | inr p ↦ inr ((same s x).0 p) ],
  λ either. (more s x).1 (elim either [ inl had ↦ inl had | inr q ↦ inr ((same s x).1 q) ]),
)

pub more_both : (r m t : List Share) (P Q R : GridSegment → ℕ → Type 0)
    → ((s : GridSegment) (x : ℕ) → R s x ↔ (P s x ⊎ Q s x)) → HasMore r m P → HasMore m t Q → HasMore r t R
more_both r m t P Q R either first second s x = (
  λ has. elim ((second s x).0 has) [
    | inl between ↦ elim ((first s x).0 between) [ inl had ↦ inl had | inr p ↦ inr ((either s x).1 (inl p)) ]
    | inr q ↦ inr ((either s x).1 (inr q))
  ],
  λ some. (second s x).1 (elim some [
    | inl had ↦ inl ((first s x).1 (inl had))
    | inr r ↦ elim ((either s x).0 r) [ inl p ↦ inl ((first s x).1 (inr p)) | inr q ↦ inr q ]
  ]),
)

pub fewer_none : (r : List Share) (P : GridSegment → ℕ → Type 0) → ((s : GridSegment) (x : ℕ) → P s x → ⊥) → HasFewer r r P
fewer_none r P none s x = (λ has. (has, none s x), λ both. both.0)

pub fewer_same : (r t : List Share) (P Q : GridSegment → ℕ → Type 0) → ((s : GridSegment) (x : ℕ) → P s x ↔ Q s x)
    → HasFewer r t P → HasFewer r t Q
fewer_same r t P Q same fewer s x = (
  λ has. let (had, stays) = (fewer s x).0 has in (had, λ q. stays ((same s x).1 q)),
  λ (had, stays). (fewer s x).1 (had, λ p. stays ((same s x).0 p)),
)

pub fewer_both : (r m t : List Share) (P Q R : GridSegment → ℕ → Type 0)
    → ((s : GridSegment) (x : ℕ) → R s x ↔ (P s x ⊎ Q s x)) → HasFewer r m P → HasFewer m t Q → HasFewer r t R
fewer_both r m t P Q R either first second s x = (
  λ has.
      let (between, not_q) = (second s x).0 has in
      let (had, not_p) = (first s x).0 between in
      (had, λ both. elim ((either s x).0 both) [ inl p ↦ not_p p | inr q ↦ not_q q ]),
  λ (had, stays). (second s x).1 (
    (first s x).1 (had, λ p. stays ((either s x).1 (inl p))),
    λ q. stays ((either s x).1 (inr q)),
  ),
)

-- ---- pieces
pub lists_none : (l : List GridSegment) (P : GridSegment → Type 0) → ((s : GridSegment) → P s → ⊥) → ListsAlso l l P
lists_none l P none s = (λ has. inl has, λ either. elim either [ inl has ↦ has | inr p ↦ absurd (none s p) ])

pub lists_same : (l m : List GridSegment) (P Q : GridSegment → Type 0) → ((s : GridSegment) → P s ↔ Q s)
    → ListsAlso l m P → ListsAlso l m Q
lists_same l m P Q same lists s = (
  λ has. elim ((lists s).0 has) [ inl had ↦ inl had | inr p ↦ inr ((same s).0 p) ],
  λ either. (lists s).1 (elim either [ inl had ↦ inl had | inr q ↦ inr ((same s).1 q) ]),
)

pub lists_both : (l m n : List GridSegment) (P Q R : GridSegment → Type 0) → ((s : GridSegment) → R s ↔ (P s ⊎ Q s))
    → ListsAlso l m P → ListsAlso m n Q → ListsAlso l n R
lists_both l m n P Q R either first second s = (
  λ has. elim ((second s).0 has) [
    | inl between ↦ elim ((first s).0 between) [ inl had ↦ inl had | inr p ↦ inr ((either s).1 (inl p)) ]
    | inr q ↦ inr ((either s).1 (inr q))
  ],
  λ some. (second s).1 (elim some [
    | inl had ↦ inl ((first s).1 (inl had))
    | inr r ↦ elim ((either s).0 r) [ inl p ↦ inl ((first s).1 (inr p)) | inr q ↦ inr q ]
  ]),
)

-- the piece that is pushed is the segment between the points
pub lists_between : (old new : List GridSegment) (piece : GridSegment) (v w : GridPoint) → (IsNone (Some piece) ↔ (v ≡ w))
    → piece ≡ segment_of v w → new ≡ old ++ piece ∷ [] → ListsAlso old new (λ s. IsBetween s v w)
lists_between old new piece v w none is pushed s =
    let made = made_between piece s v w none is in
    rw pushed (
      λ has. elim (Contains-push_cases old piece s has) [
        | inl had ↦ inl had
        | inr here ↦ inr (made.1 (sym here))
      ],
      λ either. elim either [
        | inl had ↦ Contains-append_left old (piece ∷ []) s had
        | inr between ↦ subst (Contains (old ++ piece ∷ [])) (sym (made.0 between)) (Contains-push old piece)
      ],
    )

-- ---- links
-- s is one of the first links of the path, its lesser end first
abbrev pub IsAmong : List GridPoint → ℕ → GridSegment → Type 0
IsAmong path i s = HasLink (take i path) s × IsBefore s.a s.b

-- none is
pub none_among : (path : List GridPoint) (s : GridSegment) → IsAmong path 1 s → ⊥
none_among path s among = no_link_at_first path s among.0

-- the first links and one more
pub next_among : (path : List GridPoint) (i : ℕ) (v w : GridPoint) (s : GridSegment) → 1 ≤ i → i < length path
    → v ≡ get_or path (i - 1) v → w ≡ get_or path i w
    → IsAmong path (i + 1) s ↔ (IsAmong path i s ⊎ IsBetween s v w)
next_among path i v w s some within is_v is_w =
    let more = link_more path i v w s some within is_v is_w in (
      λ (link, ordered). elim (more.0 link) [ inl before ↦ inl (before, ordered) | inr here ↦ inr (here, ordered) ],
      λ either. elim either [
        | inl (before, ordered) ↦ (more.1 (inl before), ordered)
        | inr (here, ordered) ↦ (more.1 (inr here), ordered)
      ],
    )

-- the same beside another fact
pub next_among_with : (A : Type 0) (path : List GridPoint) (i : ℕ) (v w : GridPoint) (s : GridSegment) → 1 ≤ i
    → i < length path → v ≡ get_or path (i - 1) v → w ≡ get_or path i w
    → (IsAmong path (i + 1) s × A) ↔ ((IsAmong path i s × A) ⊎ (IsBetween s v w × A))
next_among_with A path i v w s some within is_v is_w =
    let next = next_among path i v w s some within is_v is_w in (
      λ (among, a). elim (next.0 among) [ inl before ↦ inl (before, a) | inr here ↦ inr (here, a) ],
      λ either. elim either [
        | inl (before, a) ↦ (next.1 (inl before), a)
        | inr (here, a) ↦ (next.1 (inr here), a)
      ],
    )

-- all of them
pub all_among : (path : List GridPoint) (i : ℕ) (s : GridSegment) → length path ≤ i → IsAmong path i s ↔ IsLinkOf path s
all_among path i s past = rw (take_all i path past) (λ among. among, λ link. link)

pub all_among_with : (A : Type 0) (path : List GridPoint) (i : ℕ) (s : GridSegment) → length path ≤ i
    → (IsAmong path i s × A) ↔ (IsLinkOf path s × A)
all_among_with A path i s past = rw (take_all i path past) (λ both. both, λ both. both)

-- the share of the piece between two points comes
pub more_between : (old new : List Share) (piece : GridSegment) (v w : GridPoint) (id : ℕ)
    → (IsNone (Some piece) ↔ (v ≡ w)) → piece ≡ segment_of v w
    → ((s : GridSegment) (x : ℕ) → HasShare new s x ↔ (((s ≡ piece) × (x ≡ id)) ⊎ HasShare old s x))
    → HasMore old new (λ s x. IsBetween s v w × (x ≡ id))
more_between old new piece v w id none is put s x =
    let made = made_between piece s v w none is in (
      λ has. elim ((put s x).0 has) [
        | inl (here, same) ↦ inr (made.1 here, same)
        | inr had ↦ inl had
      ],
      λ either. (put s x).1 (elim either [
        | inl had ↦ inr had
        | inr (between, same) ↦ inl (made.0 between, same)
      ]),
    )

-- or goes
pub fewer_between : (old new : List Share) (piece : GridSegment) (v w : GridPoint) (id : ℕ)
    → (IsNone (Some piece) ↔ (v ≡ w)) → piece ≡ segment_of v w
    → ((s : GridSegment) (x : ℕ) → HasShare new s x ↔ (HasShare old s x × ((s ≡ piece) × (x ≡ id) → ⊥)))
    → HasFewer old new (λ s x. IsBetween s v w × (x ≡ id))
fewer_between old new piece v w id none is took s x =
    let made = made_between piece s v w none is in (
      λ has. let (had, other) = (took s x).0 has in (had, λ (between, same). other (made.0 between, same)),
      λ (had, other). (took s x).1 (had, λ (here, same). other (made.1 here, same)),
    )

-- ---- owners
-- the first owners and one more
pub next_owner : (A : Type 0) (ids : List ℕ) (i id x : ℕ) → i < length ids → id ≡ get_or ids i id
    → (A × Contains (take (i + 1) ids) x) ↔ ((A × Contains (take i ids) x) ⊎ (A × (x ≡ id)))
next_owner A ids i id x within is =
    let next = Contains-next ids i id within is x in (
      λ (a, has). elim (next.0 has) [ inl before ↦ inl (a, before) | inr here ↦ inr (a, here) ],
      λ either. elim either [
        | inl (a, before) ↦ (a, next.1 (inl before))
        | inr (a, here) ↦ (a, next.1 (inr here))
      ],
    )

pub no_owner : (A : Type 0) (ids : List ℕ) (x : ℕ) → A × Contains (take 0 ids) x → ⊥
no_owner A ids x (a, has) = Contains-nil x has

pub all_owners : (A : Type 0) (ids : List ℕ) (i x : ℕ) → length ids ≤ i
    → (A × Contains (take i ids) x) ↔ (A × Contains ids x)
all_owners A ids i x past = rw (take_all i ids past) (λ both. both, λ both. both)
