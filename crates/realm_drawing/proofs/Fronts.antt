-- This file shows that a path without its last point is a part of it, there and back.
use Rattle.std.proofs.Common.{◌≡◌, ℕ, ◌<◌, ◌≤◌, ◌-◌, zero, suc, List, [], ◌∷◌, length, take, drop, take_all}
use Rattle.std.proofs.Common.{reverse, refl, sym, ap, ◌∙◌, arith}
use Rattle.std.proofs.lemmas.List.{reverse-append}
use Rattle.grid_base.specs.Point.{GridPoint}
use Rattle.hook_chain.specs.Chains.{RunsFrom}
use Rattle.hook_chain.specs.Redrawing.{front}
use Rattle.hook_chain.proofs.Paths.{front_pushed}

-- all points but one, from the beginning
pub front-take : (path : List GridPoint) (n : ℕ) → length path ≡ suc n → front path ≡ take n path
front-take [] n all = absurd (omega arith)
front-take (p ∷ []) zero all = refl
front-take (p ∷ []) (suc n) all = absurd (omega arith)
front-take (p ∷ q ∷ path) zero all = absurd (omega arith)
front-take (p ∷ q ∷ path) (suc n) all = ap (λ (rest : List GridPoint). p ∷ rest) (front-take (q ∷ path) n (omega arith))

-- a path that leads somewhere has a point
pub some_point : (a b : GridPoint) (path : List GridPoint) → RunsFrom a b path → 0 < length path
some_point a b [] leads = absurd leads
some_point a b (p ∷ path) leads = omega arith

-- its first point is the last on the way back
pub front-reverse : (a b : GridPoint) (path : List GridPoint) → RunsFrom a b path
    → front (reverse path) ≡ reverse (take (length path - 1) (drop 1 path))
front-reverse a b [] leads = absurd leads
front-reverse a b (p ∷ path) leads =
    let all : length path ≤ length (p ∷ path) - 1 = omega arith in
    ap front (reverse-append (p ∷ []) path)
    ∙ front_pushed (reverse path) p
    ∙ ap reverse (sym (take_all (length (p ∷ path) - 1) path all))
