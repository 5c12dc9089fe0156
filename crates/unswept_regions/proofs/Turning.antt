-- This file shows that a test of points which fails for good once it fails turns on the links of a chain as on the straight
-- way from the first vertex to the last.
use Rattle.std.proofs.Common.{◌≡◌, Bool, true, false, not, ◌&&◌, List, [], ◌∷◌, refl, sym, ap, ◌∙◌}
use Rattle.std.proofs.lemmas.Bool.{true≢false}
use Rattle.grid_base.specs.Point.{GridPoint}
use Rattle.grid_base.specs.Segment.{GridSegment}
use Rattle.hook_chain.specs.Chains.{AllLinks}
use Rattle.hook_chain.proofs.Exchange.{way}
use Rattle.side_parity.specs.Middle.{differ}
use Rattle.side_parity.proofs.Regions.{odd_count}
use Rattle.side_parity.proofs.Parities.{differ-assoc, differ-false, differ-self, differ-swap}

-- ---- chains by their first vertex and the others
-- the links, each from its first vertex to its second
abbrev pub links_from : GridPoint → List GridPoint → List GridSegment
links_from v [] = []
links_from v (w ∷ chain) = way v w ∷ links_from w chain

-- the last vertex
abbrev pub last_from : GridPoint → List GridPoint → GridPoint
last_from v [] = v
last_from v (w ∷ chain) = last_from w chain

-- the straight way from the first vertex to the last
abbrev pub straight_from : GridPoint → List GridPoint → GridSegment
straight_from v chain = way v (last_from v chain)

-- ---- tests between two vertices
-- the first passes, the second doesn't, and the link has s
abbrev pub crosses_with : (GridPoint → Bool) → (GridSegment → Bool) → GridSegment → Bool
crosses_with key s t = key t.a && (not (key t.b) && s t)

-- where the test passes it passed before
abbrev pub IsKeptBack : (GridPoint → Bool) → GridPoint → GridPoint → Type 0
IsKeptBack key v w = key w ≡ true → key v ≡ true

-- where the test turns from v to w, the way has s exactly where f says so
abbrev pub TurnsAs : (GridPoint → Bool) → (GridSegment → Bool) → Bool → GridPoint → GridPoint → Type 0
TurnsAs key s f v w = key v ≡ true → key w ≡ false → s (way v w) ≡ f

-- once the test fails it fails for good, and where it turns on a link, the link has s exactly where f says so
pub record IsTurning (key : GridPoint → Bool) (s : GridSegment → Bool) (f : Bool) (v w : GridPoint) : Type 0 where
  pub back : IsKeptBack key v w
  pub turn : TurnsAs key s f v w

key_back : (key : GridPoint → Bool) (s : GridSegment → Bool) (f : Bool) (v : GridPoint) (chain : List GridPoint)
    → AllLinks (IsTurning key s f) (v ∷ chain) → key (last_from v chain) ≡ true → key v ≡ true
key_back key s f v [] h e = e
key_back key s f v (w ∷ chain) h e = h.0.back (key_back key s f w chain h.1 e)

joined : (v w e s f : Bool) → (w ≡ true → v ≡ true) → (e ≡ true → w ≡ true) → (v ≡ true → w ≡ false → s ≡ f)
    → differ (v && (not w && s)) (w && (not e && f)) ≡ (v && (not e && f))
joined true true e s f h k g = refl
joined true false true s f h k g = absurd (true≢false (sym (k refl)))
joined true false false s f h k g = differ-false s ∙ g refl refl
joined false true e s f h k g = absurd (true≢false (sym (h refl)))
joined false false e s f h k g = refl

pub not_both : (v f : Bool) → (v && (not v && f)) ≡ false
not_both false f = refl
not_both true f = refl

-- the links at which it turns with s are odd in number exactly where it turns from the first vertex to the last, and f says so
turns_once : (key : GridPoint → Bool) (s : GridSegment → Bool) (f : Bool) (v : GridPoint) (chain : List GridPoint)
    → AllLinks (IsTurning key s f) (v ∷ chain)
    → odd_count (crosses_with key s) (links_from v chain) ≡ (key v && (not (key (last_from v chain)) && f))
turns_once key s f v [] h = sym (not_both (key v) f)
turns_once key s f v (w ∷ chain) h =
    ap (differ (crosses_with key s (way v w))) (turns_once key s f w chain h.1)
    ∙ joined (key v) (key w) (key (last_from w chain)) (s (way v w)) f h.0.back (key_back key s f w chain h.1) h.0.turn

agree : (v e s f : Bool) → (v ≡ true → e ≡ false → s ≡ f) → (v && (not e && f)) ≡ (v && (not e && s))
agree false e s f h = refl
agree true true s f h = refl
agree true false s f h = sym (h refl refl)

-- where the straight way turns it has s as the links have it
pub as_straight : (key : GridPoint → Bool) (s : GridSegment → Bool) (f : Bool) (v : GridPoint) (chain : List GridPoint)
    → AllLinks (IsTurning key s f) (v ∷ chain) → TurnsAs key s f v (last_from v chain)
    → odd_count (crosses_with key s) (links_from v chain) ≡ crosses_with key s (straight_from v chain)
as_straight key s f v chain h straight =
    turns_once key s f v chain h ∙ agree (key v) (key (last_from v chain)) (s (straight_from v chain)) f straight

-- ---- what changes along the chain
-- it changes as from the first vertex to the last
telescoped : (u : GridPoint → Bool) (v : GridPoint) (chain : List GridPoint)
    → odd_count (λ t. differ (u t.a) (u t.b)) (links_from v chain) ≡ differ (u v) (u (last_from v chain))
telescoped u v [] = sym (differ-self (u v))
telescoped u v (w ∷ chain) =
    ap (differ (differ (u v) (u w))) (telescoped u w chain) ∙ middle_out (u v) (u w) (u (last_from w chain))
  where
    middle_out : (a b c : Bool) → differ (differ a b) (differ b c) ≡ differ a c
    middle_out false b c = sym (differ-assoc b b c) ∙ ap (λ x. differ x c) (differ-self b)
    middle_out true false c = refl
    middle_out true true false = refl
    middle_out true true true = refl

-- on the way from v to w the two tests differ as u does between its ends
abbrev pub DifferAs : (GridSegment → Bool) → (GridSegment → Bool) → (GridPoint → Bool) → GridPoint → GridPoint → Type 0
DifferAs f g u v w = differ (f (way v w)) (g (way v w)) ≡ differ (u v) (u w)

sum_of : (f g : GridSegment → Bool) (u : GridPoint → Bool) (v : GridPoint) (chain : List GridPoint)
    → AllLinks (DifferAs f g u) (v ∷ chain)
    → differ (odd_count f (links_from v chain)) (odd_count g (links_from v chain))
    ≡ odd_count (λ t. differ (u t.a) (u t.b)) (links_from v chain)
sum_of f g u v [] h = refl
sum_of f g u v (w ∷ chain) h =
    differ-swap (f (way v w)) (odd_count f (links_from w chain)) (g (way v w)) (odd_count g (links_from w chain))
    ∙ (λ i. differ (h.0 i) (sum_of f g u w chain h.1 i))

-- what two tests differ by cancels in one part of a sum
cancelled : (a b c d e : Bool) → differ a b ≡ e → differ c d ≡ e → b ≡ d → a ≡ c
cancelled true true true true e h k l = refl
cancelled true true true false e h k l = cc
cancelled true true false d e h k l = cc
cancelled true false true d e h k l = refl
cancelled true false false d e h k l = cc
cancelled false true true d e h k l = cc
cancelled false true false d e h k l = refl
cancelled false false true d e h k l = cc
cancelled false false false d e h k l = refl

-- where one of two such tests counts along the chain as on the straight way, so does the other
pub by_other_test : (f g : GridSegment → Bool) (u : GridPoint → Bool) (v : GridPoint) (chain : List GridPoint)
    → AllLinks (DifferAs f g u) (v ∷ chain) → DifferAs f g u v (last_from v chain)
    → odd_count g (links_from v chain) ≡ g (straight_from v chain)
    → odd_count f (links_from v chain) ≡ f (straight_from v chain)
by_other_test f g u v chain links straight same =
    cancelled _ _ _ _ _ (sum_of f g u v chain links ∙ telescoped u v chain) straight same
