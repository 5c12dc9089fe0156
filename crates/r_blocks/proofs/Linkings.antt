-- This file shows that segments with a common end are linked up, one end after another.
use Rattle.std.proofs.Common.{◌≡◌, ◌≢◌, ◌⊎◌, ℕ, ◌+◌, ◌<◌, ◌≤◌, false, List, [], ◌∷◌, ◌++◌, length, get_or, Contains}
use Rattle.std.proofs.Common.{Ordering, Less, Equal, Greater, Some, None, refl, sym, ap, subst, ◌∙◌, inl, inr, ⊎_elim, arith}
use Rattle.std.specs.Ordering.{is_eq}
use Rattle.std.specs.BTreeMap as tree
use Rattle.std.proofs.lemmas.Option.{same_Some, none-some}
use Rattle.std.proofs.lemmas.List.Elements.{All-contains, Contains-append_left, Contains-push, Contains-push_cases, Contains-get_or}
use Rattle.grid_base.specs.Point.{GridPoint, point_cmp}
use Rattle.grid_base.specs.Segment.{GridSegment, IsEnd}
use Rattle.grid_base.proofs.Orders.{point_cmp-Equal}
use Rattle.grid_base.proofs.Ends.{same_or_not}
use Rattle.linked_parts.specs.Parts.{Links, AreLinked}
use Rattle.linked_parts.proofs.LinkedNumbers.{linked_here, linked_by, linked_both, linked_back, linked_more}
use Rattle.grid_base.proofs.Elements.{same_place}
use Rattle.r_blocks.proofs.Placed.{up_to}
use Rattle.r_blocks.specs.Blocks.{ShareAnEnd}
use Rattle.r_blocks.specs.Ends.{Firsts, first_at, EndsThere, IsReached, EndLinked, IsShared, AreLinkedUp}

-- ---- one end
-- a search for p passes over other points
passed : (p q : GridPoint) → q ≢ p → is_eq (point_cmp p q) ≡ false
passed p q other = by_order (point_cmp p q) refl
  where
    by_order : (o : Ordering) → point_cmp p q ≡ o → is_eq o ≡ false
    by_order Less e = refl
    by_order Equal e = absurd (other (sym ((point_cmp-Equal p q).0 e)))
    by_order Greater e = refl

-- the segment isn't the first that ends at p
pub linked_again : (firsts : Firsts) (links more : Links) (p : GridPoint) (k first : ℕ) → first_at firsts p ≡ Some first
    → more ≡ links ++ (first, k) ∷ [] → EndLinked firsts links firsts more p k
linked_again firsts links more p k first there is = record {
  kept = λ q m at. at;
  only = λ q m at. inl at;
  more_links = λ l was. subst (λ ls. Contains ls l) (sym is) (Contains-append_left links ((first, k) ∷ []) l was);
  only_links = λ l now. ⊎_elim (λ was. inl was)
      (λ this. inr (there ∙ ap (λ x. Some x.0) this, sym (ap (λ x. x.1) this)))
      (Contains-push_cases links (first, k) l (subst (λ ls. Contains ls l) is now));
  reached = (first, there, linked_by more first k (inl (subst (λ ls. Contains ls (first, k)) (sym is) (Contains-push links (first, k)))));
}

-- it is the first
pub linked_first : (firsts after : Firsts) (links : Links) (p : GridPoint) (k : ℕ) → first_at firsts p ≡ None
    → tree.Updates point_cmp firsts after p (Some k) → EndLinked firsts links after links p k
linked_first firsts after links p k none updates = record {
  kept = λ q m at. ⊎_elim
      (λ same. absurd (none-some m (sym none ∙ ap (first_at firsts) (sym same) ∙ at)))
      (λ other. updates.2 q (passed p q other) ∙ at)
      (same_or_not q p);
  only = λ q m at. ⊎_elim
      (λ same. inr (same, sym (same_Some k m (sym updates.1 ∙ ap (first_at after) (sym same) ∙ at))))
      (λ other. inl (sym (updates.2 q (passed p q other)) ∙ at))
      (same_or_not q p);
  more_links = λ l was. was;
  only_links = λ l was. inl was;
  reached = (k, updates.1, linked_here links k);
}

-- ---- one end more
still_reached : (firsts after : Firsts) (links more : Links) (p : GridPoint) (k : ℕ) → EndLinked firsts links after more p k
    → (q : GridPoint) (i : ℕ) → IsReached firsts links q i → IsReached after more q i
still_reached firsts after links more p k step q i (m, at, way) =
    (m, step.kept q m at, linked_more links more step.more_links m i way)

pub linked_up_more : (list : List GridSegment) (n : ℕ) (firsts after : Firsts) (links more : Links) (Done : GridPoint → ℕ → Type 0)
    (p : GridPoint) (k : ℕ) → AreLinkedUp list n firsts links Done → k < n → EndsThere list p k
    → EndLinked firsts links after more p k → AreLinkedUp list n after more (λ q i. Done q i ⊎ ((q ≡ p) × (i ≡ k)))
linked_up_more list n firsts after links more Done p k were below here step = record {
  numbers = λ q m at. ⊎_elim
      (λ was. were.numbers q m was)
      (λ new. (
        subst (λ i. i < n) (sym new.1) below,
        λ d. subst (λ v. IsEnd v (get_or list m d)) (sym new.0) (subst (λ i. IsEnd p (get_or list i d)) (sym new.1) (here d)),
      ))
      (step.only q m at);
  shared = λ j d within. link_shared (get_or more j d) (step.only_links (get_or more j d) (Contains-get_or more j d within));
  reached = λ q i done. ⊎_elim
      (λ was. still_reached firsts after links more p k step q i (were.reached q i was))
      (λ new. subst (λ v. IsReached after more v i) (sym new.0) (subst (λ m. IsReached after more p m) (sym new.1) step.reached))
      done;
}
  where
    link_shared : (l : ℕ × ℕ) → Contains links l ⊎ ((first_at firsts p ≡ Some l.0) × (l.1 ≡ k)) → IsShared list n l
    link_shared l (inl was) = All-contains (IsShared list n) links l were.shared was
    link_shared l (inr new) =
        let first = were.numbers p l.0 new.0 in record {
          first_below = first.0;
          second_below = subst (λ i. i < n) (sym new.1) below;
          share = λ d. (p, first.1 d, subst (λ i. IsEnd p (get_or list i d)) (sym new.1) (here d));
        }

-- more segments, and less to be reached
pub linked_up_wider : (list : List GridSegment) (n m : ℕ) (firsts : Firsts) (links : Links) (Done Fewer : GridPoint → ℕ → Type 0)
    → AreLinkedUp list n firsts links Done → n ≤ m → ((q : GridPoint) (i : ℕ) → Fewer q i → Done q i)
    → AreLinkedUp list m firsts links Fewer
linked_up_wider list n m firsts links Done Fewer were wider fewer = record {
  numbers = λ p i at.
      let was = were.numbers p i at in (omega (arith, was.0, wider), was.1);
  shared = λ j d within.
      let was = were.shared j d within in record {
        first_below = omega (arith, was.first_below, wider);
        second_below = omega (arith, was.second_below, wider);
        share = was.share;
      };
  reached = λ q i done. were.reached q i (fewer q i done);
}

-- ---- all ends of the first n segments
abbrev pub IsDone : List GridSegment → ℕ → GridPoint → ℕ → Type 0
IsDone list n p k = (k < n) × EndsThere list p k

-- both ends of one segment more
pub segment_linked : (list : List GridSegment) (k : ℕ) (s : GridSegment) (firsts between after : Firsts) (links mid more : Links)
    → s ≡ get_or list k s → k < length list → AreLinkedUp list k firsts links (IsDone list k)
    → EndLinked firsts links between mid s.a k → EndLinked between mid after more s.b k
    → AreLinkedUp list (k + 1) after more (IsDone list (k + 1))
segment_linked list k s firsts between after links mid more here within were first second =
    linked_up_wider list (k + 1) (k + 1) after more _ (IsDone list (k + 1))
    (linked_up_more list (k + 1) between after mid more _ s.b k
    (linked_up_more list (k + 1) firsts between links mid (IsDone list k) s.a k
    (linked_up_wider list k (k + 1) firsts links (IsDone list k) (IsDone list k) were (omega arith) (λ q i done. done))
    (omega arith) (λ d. inl (ap (λ t. t.a) (is d))) first)
    (omega arith) (λ d. inr (ap (λ t. t.b) (is d))) second)
    (omega arith) done
  where
    is : (d : GridSegment) → s ≡ get_or list k d
    is d = here ∙ same_place list k s d within

    last : (q : GridPoint) (i : ℕ) → i ≡ k → EndsThere list q i → ((q ≡ s.a) × (i ≡ k)) ⊎ ((q ≡ s.b) × (i ≡ k))
    last q i this there = ⊎_elim
        (λ (a : q ≡ s.a). inl (a, this))
        (λ (b : q ≡ s.b). inr (b, this))
        (subst (IsEnd q) (ap (λ m. get_or list m s) this ∙ sym here) (there s))

    done : (q : GridPoint) (i : ℕ) → IsDone list (k + 1) q i
        → (IsDone list k q i ⊎ ((q ≡ s.a) × (i ≡ k))) ⊎ ((q ≡ s.b) × (i ≡ k))
    done q i (below, there) = ⊎_elim
        (λ earlier. inl (inl (earlier, there)))
        (λ this. ⊎_elim (λ a. inl (inr a)) (λ b. inr b) (last q i this there))
        (up_to k i below)

-- segments with a common end are linked
pub shared_linked : (list : List GridSegment) (firsts : Firsts) (links : Links)
    → AreLinkedUp list (length list) firsts links (IsDone list (length list))
    → (i j : ℕ) (d : GridSegment) → i < length list → j < length list → ShareAnEnd (get_or list i d) (get_or list j d)
    → AreLinked links i j
shared_linked list firsts links were i j d i_below j_below (v, first, second) =
    let (m, m_at, m_way) = were.reached v i (i_below, λ e. subst (IsEnd v) (same_place list i d e i_below) first) in
    let (n, n_at, n_way) = were.reached v j (j_below, λ e. subst (IsEnd v) (same_place list j d e j_below) second) in
    let same : m ≡ n = same_Some m n (sym m_at ∙ n_at) in
    linked_both links i m j (linked_back links m i m_way) (subst (λ k. AreLinked links k j) (sym same) n_way)
