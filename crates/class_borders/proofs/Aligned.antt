-- This file shows that a cycle along links of which as many end as begin at each point goes with all of them, or against all.
use Rattle.std.proofs.Common.{◌≡◌, ◌⊎◌, ℕ, ◌<◌, List, [], ◌∷◌, ◌++◌, Contains, sym, ap, subst, ◌∙◌, arith, inl, inr}
use Rattle.grid_base.specs.Point.{GridPoint, is_point}
use Rattle.grid_base.proofs.Orders.{is_point-same, is_point-itself}
use Rattle.grid_base.proofs.Elements.{Contains-here, Contains-later, Contains-cases, Contains-nil}
use Rattle.r_cycles.specs.Cycles.{Link, link, links, round}
use Rattle.r_cycles.proofs.Counts.{count_by-some, count_by-found}
use Rattle.r_cycles.proofs.Trails.{AreApart, apart-head, apart-tail, apart-push}
use Rattle.class_borders.specs.ClassLinks.{departures, arrivals}
use Rattle.class_borders.specs.ClassBorders.{back}

-- ---- one link from each vertex, and one to it
pub from_in : (c : List GridPoint) (e : GridPoint) (l : Link) → Contains (links (c ++ e ∷ [])) l → Contains c l.from
from_in [] e l m = absurd (Contains-nil l m)
from_in (a ∷ []) e l m = elim (Contains-cases (link a e) [] l m) [
  | inl same ↦ subst (λ (k : Link). Contains (a ∷ []) k.from) same (Contains-here a [])
  | inr none ↦ absurd (Contains-nil l none)
]
from_in (a ∷ b ∷ c) e l m = elim (Contains-cases (link a b) (links ((b ∷ c) ++ e ∷ [])) l m) [
  | inl same ↦ subst (λ (k : Link). Contains (a ∷ b ∷ c) k.from) same (Contains-here a (b ∷ c))
  | inr later ↦ Contains-later a (b ∷ c) l.from (from_in (b ∷ c) e l later)
]

from_once : (c : List GridPoint) (e : GridPoint) (l m : Link) → AreApart c → Contains (links (c ++ e ∷ [])) l
    → Contains (links (c ++ e ∷ [])) m → l.from ≡ m.from → l ≡ m
from_once [] e l m apart h k f = absurd (Contains-nil l h)
from_once (a ∷ []) e l m apart h k f = elim (Contains-cases (link a e) [] l h) [
  | inl same ↦ elim (Contains-cases (link a e) [] m k) [
    | inl again ↦ sym same ∙ again
    | inr none ↦ absurd (Contains-nil m none)
  ]
  | inr none ↦ absurd (Contains-nil l none)
]
from_once (a ∷ b ∷ c) e l m apart h k f = elim (Contains-cases (link a b) (links ((b ∷ c) ++ e ∷ [])) l h) [
  | inl same ↦ elim (Contains-cases (link a b) (links ((b ∷ c) ++ e ∷ [])) m k) [
    | inl again ↦ sym same ∙ again
    | inr later ↦ absurd (apart-head a (b ∷ c) apart (subst (Contains (b ∷ c)) (sym f ∙ sym (ap (λ (x : Link). x.from) same))
        (from_in (b ∷ c) e m later)))
  ]
  | inr sooner ↦ elim (Contains-cases (link a b) (links ((b ∷ c) ++ e ∷ [])) m k) [
    | inl again ↦ absurd (apart-head a (b ∷ c) apart (subst (Contains (b ∷ c)) (f ∙ sym (ap (λ (x : Link). x.from) again))
        (from_in (b ∷ c) e l sooner)))
    | inr later ↦ from_once (b ∷ c) e l m (apart-tail a (b ∷ c) apart) sooner later f
  ]
]

to_in : (v : GridPoint) (c : List GridPoint) (l : Link) → Contains (links (v ∷ c)) l → Contains c l.to
to_in v [] l m = absurd (Contains-nil l m)
to_in v (a ∷ c) l m = elim (Contains-cases (link v a) (links (a ∷ c)) l m) [
  | inl same ↦ subst (λ (k : Link). Contains (a ∷ c) k.to) same (Contains-here a c)
  | inr later ↦ Contains-later a c l.to (to_in a c l later)
]

to_once : (v : GridPoint) (c : List GridPoint) (l m : Link) → AreApart c → Contains (links (v ∷ c)) l → Contains (links (v ∷ c)) m
    → l.to ≡ m.to → l ≡ m
to_once v [] l m apart h k f = absurd (Contains-nil l h)
to_once v (a ∷ c) l m apart h k f = elim (Contains-cases (link v a) (links (a ∷ c)) l h) [
  | inl same ↦ elim (Contains-cases (link v a) (links (a ∷ c)) m k) [
    | inl again ↦ sym same ∙ again
    | inr later ↦ absurd (apart-head a c apart (subst (Contains c) (sym f ∙ sym (ap (λ (x : Link). x.to) same)) (to_in a c m later)))
  ]
  | inr sooner ↦ elim (Contains-cases (link v a) (links (a ∷ c)) m k) [
    | inl again ↦ absurd (apart-head a c apart (subst (Contains c) (f ∙ sym (ap (λ (x : Link). x.to) again)) (to_in a c l sooner)))
    | inr later ↦ to_once a c l m (apart-tail a c apart) sooner later f
  ]
]

pub round_from : (c : List GridPoint) (l m : Link) → AreApart c → Contains (links (round c)) l → Contains (links (round c)) m
    → l.from ≡ m.from → l ≡ m
round_from [] l m apart h k f = absurd (Contains-nil l h)
round_from (v ∷ c) l m apart h k f = from_once (v ∷ c) v l m apart h k f

round_to : (c : List GridPoint) (l m : Link) → AreApart c → Contains (links (round c)) l → Contains (links (round c)) m → l.to ≡ m.to
    → l ≡ m
round_to [] l m apart h k f = absurd (Contains-nil l h)
round_to (v ∷ c) l m apart h k f =
    to_once v (c ++ v ∷ []) l m (apart-push c v (apart-tail v c apart) (apart-head v c apart)) h k f

-- ---- links along a cycle
pub record AreAlong (L : List Link) (c : List GridPoint) : Type 0 where
  pub apart : AreApart c
  pub turn : (v : GridPoint) → departures v L ≡ arrivals v L
  pub one_way : (l : Link) → Contains L l → Contains L (back l) → ⊥
  pub on_cycle : (l : Link) → Contains L l → Contains (links (round c)) l ⊎ Contains (links (round c)) (back l)

some_by : (m n : ℕ) → m ≡ n → 0 < m → 0 < n
some_by m n e h = omega (arith, e, h)

-- where the link to v goes with them, so does the one from v
with_next : (L : List Link) (c : List GridPoint) (u v w : GridPoint) → AreAlong L c → Contains (links (round c)) (link u v)
    → Contains (links (round c)) (link v w) → Contains L (link u v) → Contains L (link v w)
with_next L c u v w h before after there =
    let come = count_by-some (λ l. is_point v l.to) L (link u v) there (is_point-itself v) in
    let go = count_by-found (λ l. is_point v l.from) L (some_by (arrivals v L) (departures v L) (sym (h.turn v)) come) in
    let from_v = is_point-same v go.0.from go.2 in
    elim (h.on_cycle go.0 go.1) [
      | inl along ↦ subst (Contains L) (round_from c go.0 (link v w) h.apart along after (sym from_v)) go.1
      | inr against ↦
          let is = round_to c (back go.0) (link u v) h.apart against before (sym from_v) in
          absurd (h.one_way (link u v) there (subst (Contains L) (ap back is) go.1))
    ]

-- where it goes against them, so does the one from v
against_next : (L : List Link) (c : List GridPoint) (u v w : GridPoint) → AreAlong L c → Contains (links (round c)) (link u v)
    → Contains (links (round c)) (link v w) → Contains L (link v u) → Contains L (link w v)
against_next L c u v w h before after there =
    let go = count_by-some (λ l. is_point v l.from) L (link v u) there (is_point-itself v) in
    let come = count_by-found (λ l. is_point v l.to) L (some_by (departures v L) (arrivals v L) (h.turn v) go) in
    let to_v = is_point-same v come.0.to come.2 in
    elim (h.on_cycle come.0 come.1) [
      | inl along ↦
          let is = round_to c come.0 (link u v) h.apart along before (sym to_v) in
          absurd (h.one_way (link v u) there (subst (Contains L) is come.1))
      | inr against ↦ subst (Contains L) (ap back (round_from c (back come.0) (link v w) h.apart against after (sym to_v))) come.1
    ]

-- ---- all links of the way
all_with : (L : List Link) (c : List GridPoint) (v w : GridPoint) (way : List GridPoint) → AreAlong L c
    → ((l : Link) → Contains (links (v ∷ w ∷ way)) l → Contains (links (round c)) l) → Contains L (link v w)
    → (l : Link) → Contains (links (v ∷ w ∷ way)) l → Contains L l
all_with L c v w [] h part there l m = elim (Contains-cases (link v w) [] l m) [
  | inl same ↦ subst (Contains L) same there
  | inr none ↦ absurd (Contains-nil l none)
]
all_with L c v w (x ∷ way) h part there l m = elim (Contains-cases (link v w) (links (w ∷ x ∷ way)) l m) [
  | inl same ↦ subst (Contains L) same there
  | inr later ↦ all_with L c w x way h (λ k in_rest. part k (Contains-later (link v w) (links (w ∷ x ∷ way)) k in_rest))
      (with_next L c v w x h (part (link v w) (Contains-here (link v w) (links (w ∷ x ∷ way))))
      (part (link w x) (Contains-later (link v w) (links (w ∷ x ∷ way)) (link w x) (Contains-here (link w x) (links (x ∷ way))))) there)
      l later
]

all_against : (L : List Link) (c : List GridPoint) (v w : GridPoint) (way : List GridPoint) → AreAlong L c
    → ((l : Link) → Contains (links (v ∷ w ∷ way)) l → Contains (links (round c)) l) → Contains L (link w v)
    → (l : Link) → Contains (links (v ∷ w ∷ way)) l → Contains L (back l)
all_against L c v w [] h part there l m = elim (Contains-cases (link v w) [] l m) [
  | inl same ↦ subst (λ (k : Link). Contains L (back k)) same there
  | inr none ↦ absurd (Contains-nil l none)
]
all_against L c v w (x ∷ way) h part there l m = elim (Contains-cases (link v w) (links (w ∷ x ∷ way)) l m) [
  | inl same ↦ subst (λ (k : Link). Contains L (back k)) same there
  | inr later ↦ all_against L c w x way h (λ k in_rest. part k (Contains-later (link v w) (links (w ∷ x ∷ way)) k in_rest))
      (against_next L c v w x h (part (link v w) (Contains-here (link v w) (links (w ∷ x ∷ way))))
      (part (link w x) (Contains-later (link v w) (links (w ∷ x ∷ way)) (link w x) (Contains-here (link w x) (links (x ∷ way))))) there)
      l later
]

-- the cycle goes with all links, and has them all, or against all
pub data GoesWith (L : List Link) (c : List GridPoint) : Type 0 where
  With : ((l : Link) → Contains (links (round c)) l → Contains L l) → ((l : Link) → Contains L l → Contains (links (round c)) l)
      → GoesWith L c
  Against : ((l : Link) → Contains (links (round c)) l → Contains L (back l))
      → ((l : Link) → Contains L l → Contains (links (round c)) (back l)) → GoesWith L c

has_with : (L : List Link) (c : List GridPoint) → AreAlong L c → ((l : Link) → Contains (links (round c)) l → Contains L l)
    → (l : Link) → Contains L l → Contains (links (round c)) l
has_with L c h all l there = elim (h.on_cycle l there) [
  | inl along ↦ along
  | inr against ↦ absurd (h.one_way l there (all (back l) against))
]

has_against : (L : List Link) (c : List GridPoint) → AreAlong L c → ((l : Link) → Contains (links (round c)) l → Contains L (back l))
    → (l : Link) → Contains L l → Contains (links (round c)) (back l)
has_against L c h all l there = elim (h.on_cycle l there) [
  | inl along ↦ absurd (h.one_way l there (all l along))
  | inr against ↦ against
]

-- by the first link
pub goes_along : (L : List Link) (v w : GridPoint) (c : List GridPoint) → AreAlong L (v ∷ w ∷ c)
    → Contains L (link v w) ⊎ Contains L (link w v) → GoesWith L (v ∷ w ∷ c)
goes_along L v w c h (inl there) =
    let all = all_with L (v ∷ w ∷ c) v w (c ++ v ∷ []) h (λ l m. m) there in With all (has_with L (v ∷ w ∷ c) h all)
goes_along L v w c h (inr there) =
    let all = all_against L (v ∷ w ∷ c) v w (c ++ v ∷ []) h (λ l m. m) there in Against all (has_against L (v ∷ w ∷ c) h all)
