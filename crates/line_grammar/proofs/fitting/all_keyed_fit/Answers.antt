use Rattle.std.proofs.Common.{◌≡◌, ℕ, ◌+◌, ◌<◌, List, [], ◌∷◌, ◌++◌, length, take, get_or, sym, ap, subst, ◌∙◌, arith, IsTrue}
use Rattle.std.specs.List.{AllByRecursion}
use Rattle.std.proofs.lemmas.List.{take_more}
use Rattle.line_grammar.specs.Fitting.{IsKeyed}
use Rattle.line_grammar.proofs.ListTexts.{all_push}
use Rattle.line_grammar.proofs.fitting.all_keyed_fit.Goals as goal

-- one more that fits
more_fit : (xs : List (List ℕ × ℕ)) (i : ℕ) (x : List ℕ × ℕ) → i < length xs → x ≡ get_or xs i x → AllByRecursion IsKeyed (take i xs)
    → IsKeyed x → AllByRecursion IsKeyed (take (i + 1) xs)
more_fit xs i x within is so_far here =
    subst (AllByRecursion IsKeyed) (sym (take_more xs i x within ∙ ap (λ (y : List ℕ × ℕ). take i xs ++ y ∷ []) (sym is)))
    (all_push IsKeyed (take i xs) x so_far here)

-- the name and its key join those before them
pub loop-keyed-preserved : goal.loop-keyed-preserved
loop-keyed-preserved c =
    let here : IsTrue c.key_fits.result = grind (arith, c.if-not-key_fits.false) in
    more_fit c.args.names.now c.loop-keyed.keyed-index c.keyed-item.result c.loop-keyed-test.true c.keyed-item.is
    c.loop-keyed.invariant (c.key_fits.ensures.0 here)
